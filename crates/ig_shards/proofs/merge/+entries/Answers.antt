use Rattle.std.proofs.Common.{◌≡◌, ◌<◌, ◌+◌, ◌/◌, ℕ, List, [], ◌∷◌, length, take, drop, IfOk, ap, ap₂, sym, subst, subst₂, ◌∙◌, arith}
use Rattle.std.proofs.lemmas.List.{nil_from_length}
use Rattle.std.specs.FinMap as finite
use Rattle.ig_caches.specs.LentRows.{lent_rows}
use Rattle.ig_caches.specs.Rows.{Rows}
use Rattle.ig_shards.specs.Spread.{either, union}
use Rattle.ig_shards.specs.Merges.{AreApart, ArePlacedFrom}
use Rattle.ig_shards.proofs.MergeLemmas.{no_entries, placed_take, placed_drop, union_halves, halves_apart, one_shard, only_one}
use Rattle.ig_shards.proofs.merge.+entries.Goals as goal

pub entries-requires-in_default : goal.entries-requires-in_default
entries-requires-in_default t c =
    let all : List Rows = c.args.shards.now in
    let count : ℕ = c.requires.0 in
    let next : ℕ = c.requires.1 in
    let less : length c.split_at.result.0.now < t = omega (arith, c.decreases, c.split_at.ensures.front_len, c.in_default.len_at_least) in
    (less, (count, next, subst (ArePlacedFrom count next) (sym c.split_at.ensures.front) (placed_take count next (length all / 2) all c.requires.2)))

pub entries-requires-in_default-2 : goal.entries-requires-in_default-2
entries-requires-in_default-2 t c =
    let all : List Rows = c.args.shards.now in
    let count : ℕ = c.requires.0 in
    let next : ℕ = c.requires.1 in
    let less : length c.split_at.result.1.now < t = omega (arith, c.decreases, c.split_at.ensures.back_len, c.in_default.len_at_least) in
    (less, (count, next + length all / 2, subst (ArePlacedFrom count (next + length all / 2)) (sym c.split_at.ensures.back) (placed_drop count next (length all / 2) all c.requires.2)))

pub returns-in-empty-clause-rows : goal.returns-in-empty-clause-rows
returns-in-empty-clause-rows t c =
    let none : c.args.shards.now ≡ [] = nil_from_length c.args.shards.now (omega (arith, c.in-empty.len_below)) in
    ap lent_rows c.new.ensures.items ∙ sym (ap (λ (l : List Rows). finite.entries (union l)) none ∙ no_entries)

pub returns-in-len1-clause-rows : goal.returns-in-len1-clause-rows
returns-in-len1-clause-rows t c =
    let rows : Rows = c.rows-item.result in
    let one : c.args.shards.now ≡ rows ∷ [] = only_one c.args.shards.now rows rows (omega (arith, c.in-len1.len_at_least)) (omega (arith, c.in-len1.len_below)) c.rows-item.is in
    subst (λ (r : Rows). IfOk c.entries.result (λ found. lent_rows found.items ≡ finite.entries r)) (sym (ap union one ∙ one_shard rows)) c.entries.ensures.rows

pub returns-in_ok-right-in_default-clause-rows : goal.returns-in_ok-right-in_default-clause-rows
returns-in_ok-right-in_default-clause-rows t c =
    let all : List Rows = c.args.shards.now in
    let mid : ℕ = length all / 2 in
    let left : List Rows = c.split_at.result.0.now in
    let right : List Rows = c.split_at.result.1.now in
    let front : left ≡ take mid all = c.split_at.ensures.front in
    let back : right ≡ drop mid all = c.split_at.ensures.back in
    let long : length (take mid all) ≡ mid = ap length (sym front) ∙ c.split_at.ensures.front_len in
    let apart : AreApart (union left) (union right) =
    subst₂ (λ (l r : List Rows). AreApart (union l) (union r)) (sym front) (sym back) (halves_apart c.requires.0 c.requires.1 mid all long c.requires.2) in
    let whole : either (union left) (union right) ≡ union all = ap₂ (λ (l r : List Rows). either (union l) (union r)) front back ∙ union_halves mid all in
    subst (λ (r : Rows). IfOk c.merged.result (λ rows. lent_rows rows.items ≡ finite.entries r)) whole
    (c.merged.ensures.rows (union left) (union right) (ap lent_rows c.as_slice.ensures.value ∙ c.in_ok-left-in_default.ensures.rows)
    (ap lent_rows c.as_slice-in_default.ensures.value ∙ c.in_ok-right-in_default.ensures.rows) apart)
