use Rattle.std.proofs.Common.{◌≡◌, ◌∙◌, ◌++◌, ◌∷◌, [], ℕ, All, List, map, ap, sym, subst, rules}
use Rattle.std.proofs.lemmas.List.{append_assoc, map_push}
use Rattle.std.proofs.lemmas.List.Elements.{All-head, All-tail, All-push}
use Rattle.ig_value.specs.Spells.{Spells}
use Rattle.ig_caches.specs.declared.call.Pair.{Pair}
use Rattle.ig_caches.specs.RowEntries.{key_of, row_under, row_entry}
use Rattle.ig_caches.specs.LentRows.{lent_row, lent_rows, HasKey}
use Rattle.ig_caches.proofs.RowEntryLemmas.{sorted_entries}
use Rattle.ig_caches.proofs.FormLemmas.{IsSpelled, keys_spelled}
use Rattle.ig_caches.proofs.table.entries.Goals as goal

pub loop-form-init : goal.loop-form-init
loop-form-init c =
    let same : c.into_iter-form-iterator.result ≡ c.args.rows.now.entries = c.into_iter-form-iterator.ensures.into_iter_gives ∙ c.iter-form-items.ensures.rest in
    record {
      rows = search rules;
      spelled = subst (All (IsSpelled (λ k. k.items))) (sym same) (keys_spelled (λ k. k.items) c.requires.0 c.args.rows.now.entries c.args.rows.now.entries c.requires.1 c.iter-form-items.ensures.found);
      keys = search rules;
    }

pub loop-form-preserved : goal.loop-form-preserved
loop-form-preserved c =
    let row : ◌≡◌ {A = List ℕ × Pair} (lent_row (c.as_slice.result, c.in-Some.value)) (row_entry (λ k. k.items) (c.in-Some.form.now, c.in-Some.value.now)) =
    ap (λ (l : List ℕ). (l, row_under l c.in-Some.value.now)) c.as_slice.ensures.value in
    let left : List (List ℕ × Pair) = map (row_entry (λ k. k.items)) c.next.new.self in
    let first : Spells c.in-Some.form.now.items (key_of c.in-Some.form.now.items) =
    All-head (IsSpelled (λ k. k.items)) (c.in-Some.form.now, c.in-Some.value.now) c.next.new.self (subst (All (IsSpelled (λ k. k.items))) c.in-Some.ensures.steps c.loop-form.invariant.spelled) in
    let spelled : HasKey (c.as_slice.result, c.in-Some.value) = subst (λ (l : List ℕ). Spells l (key_of l)) (sym c.as_slice.ensures.value) first in
    record {
      rows = ap (λ l. lent_rows l ++ left) c.in_ok-push.ensures.items ∙ ap (λ (l : List (List ℕ × Pair)). l ++ left) (map_push lent_row c.loop-form.entries.items (c.as_slice.result, c.in-Some.value))
          ∙ append_assoc (lent_rows c.loop-form.entries.items) (lent_row (c.as_slice.result, c.in-Some.value) ∷ []) left
          ∙ ap (λ (r : List ℕ × Pair). lent_rows c.loop-form.entries.items ++ r ∷ left) row
          ∙ ap (λ es. lent_rows c.loop-form.entries.items ++ map (row_entry (λ k. k.items)) es) (sym c.in-Some.ensures.steps) ∙ c.loop-form.invariant.rows;
      spelled = All-tail (IsSpelled (λ k. k.items)) (c.in-Some.form.now, c.in-Some.value.now) c.next.new.self (subst (All (IsSpelled (λ k. k.items))) c.in-Some.ensures.steps c.loop-form.invariant.spelled);
      keys = subst (All HasKey) (sym c.in_ok-push.ensures.items)
          (All-push HasKey c.loop-form.entries.items (c.as_slice.result, c.in-Some.value) c.loop-form.invariant.keys spelled);
    }

pub returns-clause-rows : goal.returns-clause-rows
returns-clause-rows c = search rules ∙ sym (sorted_entries (λ k. k.items) c.args.rows.now.entries c.len.ensures.ordered)
