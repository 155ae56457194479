use Rattle.std.proofs.Common.{◌≡◌, ◌<◌, ◌≤◌, ◌+◌, ℕ, Bool, true, false, List, [], ◌∷◌, cond, None, length, drop, get_or, ap, sym, subst, subst₂, ◌∙◌, arith}
use Rattle.std.proofs.Math.ListN.{drop_of_length-le}
use Rattle.std.proofs.lemmas.List.{get_or_default}
use Rattle.std.specs.FinMap as finite
use Rattle.ig_value.specs.Canon.{Canon}
use Rattle.ig_caches.specs.declared.call.Pair.{Pair}
use Rattle.ig_caches.specs.Rows.{Rows, without_row}
use Rattle.ig_caches.proofs.ItemLemmas.{split_at}
use Rattle.ig_shards.specs.Marks.{IsMarked}
use Rattle.ig_shards.proofs.MarkLemmas.{released, marked_there, all_released}
use Rattle.ig_shards.proofs.spread_rows.SpreadRows.release.Goals as goal

pub loop-at-preserved : goal.loop-at-preserved
loop-at-preserved c = λ old marked fresh.
    let i : ℕ = c.loop-at.at in
    let mark : Bool = get_or c.args.marks.now i false in
    let pair : Pair = get_or c.args.pairs.now i c.index-pairs-at.result in
    let later : List Bool = drop (i + 1) c.args.marks.now in
    let others : List Pair = drop (i + 1) c.args.pairs.now in
    let now : Rows = c.loop-at.self.1 in
    let within : i < length c.args.pairs.now = omega (arith, c.requires, c.loop-at-test.true) in
    let at_mark : drop i c.args.marks.now ≡ mark ∷ later = split_at c.args.marks.now i mark c.loop-at-test.true (get_or_default c.args.marks.now i false mark c.loop-at-test.true) in
    let at_pair : drop i c.args.pairs.now ≡ pair ∷ others = split_at c.args.pairs.now i pair within (ap (get_or c.args.pairs.now i) c.index-pairs-at.is) in
    let it = c.loop-at.invariant old marked fresh in
    let none : mark ≡ true → finite.get old (Canon pair.key) ≡ None = λ on. fresh (Canon pair.key) (marked_there i c.args.marks.now later c.args.pairs.now others pair (at_mark ∙ ap (λ (m : Bool). m ∷ later) on) at_pair) in
    let left : IsMarked old (cond mark (without_row now pair.key) now) later others =
    released old now mark later pair others none (subst₂ (λ (ms : List Bool) (ps : List Pair). IsMarked old now ms ps) at_mark at_pair it.1) in
    let new : Rows = c.release_one.new.self.1 in
    let is : new ≡ cond mark (without_row now pair.key) now = ap (λ (v : ℕ × Rows). v.1) c.release_one.ensures in
    (ap (λ (v : ℕ × Rows). v.0) c.release_one.ensures ∙ it.0, subst (λ (r : Rows). IsMarked old r later others) (sym is) left)

pub returns : goal.returns
returns c = λ old marked fresh.
    let it = c.loop-at.invariant old marked fresh in
    let done : length c.args.marks.now ≤ c.loop-at.at = omega (arith, c.loop-at-test.false) in
    let none : drop c.loop-at.at c.args.marks.now ≡ [] = drop_of_length-le c.args.marks.now done in
    let rows : c.loop-at.self.1 ≡ old =
    all_released old c.loop-at.self.1 (drop c.loop-at.at c.args.pairs.now) (subst (λ (ms : List Bool). IsMarked old c.loop-at.self.1 ms (drop c.loop-at.at c.args.pairs.now)) none it.1) in
    λ k. (it.0 k, rows k)
