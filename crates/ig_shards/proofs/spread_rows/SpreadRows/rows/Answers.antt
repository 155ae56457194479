use Rattle.std.proofs.Common.{◌≡◌, ◌&&◌, ◌||◌, ◌+◌, ℕ, Bool, List, [], ◌∷◌, ◌++◌, None, Option, is_some, cond, take, append-nil, ap, sym, ◌∙◌}
use Rattle.std.specs.FinMap as finite
use Rattle.ig_value.specs.declared.value.Value.{Value}
use Rattle.ig_value.specs.Canon.{Canon}
use Rattle.ig_caches.specs.declared.call.Pair.{Pair}
use Rattle.ig_caches.specs.RowEntries.{is_among}
use Rattle.ig_caches.specs.Rows.{Rows, row_of, has_row, rows_of}
use Rattle.ig_caches.proofs.ItemLemmas.{taken_at}
use Rattle.ig_caches.proofs.RowEntryLemmas.{ties}
use Rattle.ig_caches.proofs.MentionLemmas.{is_mentioned, listed, rows_met, forms_met}
use Rattle.ig_shards.proofs.spread_rows.SpreadRows.rows.Goals.{in-Some+in_ok-push, in_default}
use Rattle.ig_shards.proofs.spread_rows.SpreadRows.rows.Goals as goal

pub loop-key-preserved : goal.loop-key-preserved
loop-key-preserved c =
    let rows : Rows = c.args.self.now.1 in
    let key : Value = c.key-item.result in
    let keys : List Value = take c.loop-key.key-index c.args.keys.now in
    let next : take (c.loop-key.key-index + 1) c.args.keys.now ≡ keys ++ key ∷ [] = taken_at c.args.keys.now c.loop-key.key-index key c.loop-key-test.true c.key-item.is in
    let old : List ℕ → Bool = is_among (λ k. k.items) c.loop-key.met.keys in
    let new : List ℕ → Bool = is_among (λ k. k.items) c.new_row.new.met.keys in
    let same = c.loop-key.invariant.same in
    let row : c.in_ok-row.field-0 ≡ cond (old (Canon key)) None (row_of rows key) = c.in_ok-row.ensures.row ∙ ap (λ (r : ℕ × Rows). cond (old (Canon key)) None (row_of r.1 key)) same in
    let step : (q : List ℕ) → new q ≡ (old q || (ties q (Canon key) && is_some (row_of rows key))) = λ q. c.in_ok-row.ensures.met q ∙ ap (λ (r : ℕ × Rows). old q || (ties q (Canon key) && has_row r.1 key)) same in
    let more : c.loop-key.rows.items ++ listed c.in_ok-row.field-0 ≡ rows_of rows (take (c.loop-key.key-index + 1) c.args.keys.now) =
    rows_met rows keys key c.loop-key.rows.items (old (Canon key)) c.in_ok-row.field-0 c.loop-key.invariant.rows (c.loop-key.invariant.met (Canon key)) row ∙ ap (rows_of rows) (sym next) in
    record {
      same = c.new_row.ensures.same ∙ same;
      rows = elim c.match-branch-2.branch [
        | in-Some+in_ok-push w ↦
            ap (λ v. v.items) w.rows-is ∙ w.in_ok-push.ensures.items ∙ ap (λ (o : Option Pair). c.loop-key.rows.items ++ listed o) (sym w.in-Some.is) ∙ more
        | in_default w ↦
            ap (λ v. v.items) w.rows-is ∙ sym (append-nil c.loop-key.rows.items) ∙ ap (λ (o : Option Pair). c.loop-key.rows.items ++ listed o) (sym w.in_default.is) ∙ more
      ];
      met = λ q. forms_met rows keys key old new step c.loop-key.invariant.met q ∙ ap (λ (ks : List Value). is_some (finite.get rows q) && is_mentioned ks q) (sym next);
    }
