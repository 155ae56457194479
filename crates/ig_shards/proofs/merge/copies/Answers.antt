use Rattle.std.proofs.Common.{◌≡◌, ◌≤◌, ◌+◌, ℕ, List, [], ◌∷◌, ◌++◌, length, take, drop, map, All, ap, sym, subst, ◌∙◌, arith, rules}
use Rattle.std.proofs.lemmas.List.{take_all, map_push}
use Rattle.ig_caches.specs.declared.call.Pair.{Pair}
use Rattle.ig_caches.specs.LentRows.{lent_row, lent_rows, HasKey}
use Rattle.ig_caches.proofs.ItemLemmas.{split_at, taken_at}
use Rattle.ig_shards.proofs.MergeLemmas.{Lent, all_at}
use Rattle.ig_shards.proofs.merge.copies.Goals as goal

abbrev row_of_entry : List ℕ × Pair → Pair
row_of_entry e = e.1

pub copy_row-requires : goal.copy_row-requires
copy_row-requires c =
    let es : List Lent = c.as_slice-entry-items.result.now in
    let i : ℕ = c.loop-entry.entry-index in
    let entry : Lent = c.entry-item.result in
    let keys : All HasKey es = subst (All HasKey) (sym c.as_slice-entry-items.ensures.value) c.in_ok-entries.ensures.keys in
    all_at HasKey es (drop (i + 1) es) i entry (split_at es i entry c.loop-entry-test.true c.entry-item.is) keys

pub loop-entry-init : goal.loop-entry-init
loop-entry-init c = search rules

pub loop-entry-preserved : goal.loop-entry-preserved
loop-entry-preserved c =
    let es : List Lent = c.as_slice-entry-items.result.now in
    let i : ℕ = c.loop-entry.entry-index in
    let entry : Lent = c.entry-item.result in
    let before : List Lent = take i es in
    let next : take (i + 1) es ≡ before ++ entry ∷ [] = taken_at es i entry c.loop-entry-test.true c.entry-item.is in
    let rows : map row_of_entry (lent_rows (take (i + 1) es)) ≡ map row_of_entry (lent_rows before) ++ (lent_row entry).1 ∷ [] =
    ap (map row_of_entry) (ap lent_rows next ∙ map_push lent_row before entry) ∙ map_push row_of_entry (lent_rows before) (lent_row entry) in
    c.in_ok-push.ensures.items ∙ ap (λ (l : List Pair). l ++ c.in_ok-copy_row.field-0 ∷ []) c.loop-entry.invariant
    ∙ ap (λ (r : Pair). map row_of_entry (lent_rows before) ++ r ∷ []) c.in_ok-copy_row.ensures ∙ sym rows

pub returns : goal.returns
returns c =
    let es : List Lent = c.as_slice-entry-items.result.now in
    let done : length es ≤ c.loop-entry.entry-index = omega (arith, c.loop-entry-test.false) in
    c.new.ensures ∙ c.loop-entry.invariant ∙ ap (λ (l : List Lent). map row_of_entry (lent_rows l)) (take_all c.loop-entry.entry-index es done ∙ c.as_slice-entry-items.ensures.value)
    ∙ ap (map row_of_entry) c.in_ok-entries.ensures.rows
