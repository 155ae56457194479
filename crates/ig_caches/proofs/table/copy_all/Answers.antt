use Rattle.std.proofs.Common.{◌≡◌, ◌∙◌, ◌++◌, ◌∷◌, [], ℕ, All, List, map, ap, sym, subst, rules}
use Rattle.std.proofs.lemmas.List.{append_assoc}
use Rattle.std.proofs.lemmas.List.Elements.{All-head, All-tail}
use Rattle.ig_value.specs.Spells.{Spells}
use Rattle.ig_caches.specs.declared.call.Pair.{Pair}
use Rattle.ig_caches.specs.RowEntries.{key_of, row_under}
use Rattle.ig_caches.proofs.RowEntryLemmas.{row_in, all_entries}
use Rattle.ig_caches.proofs.FormLemmas.{IsSpelled, keys_spelled}
use Rattle.ig_caches.proofs.table.copy_all.Goals as goal

pub loop-form-init : goal.loop-form-init
loop-form-init c =
    let same : c.into_iter-form-iterator.result ≡ c.args.rows.now.entries = c.into_iter-form-iterator.ensures.into_iter_gives ∙ c.iter-form-items.ensures.rest in
    record {
      rows = search rules;
      spelled = subst (All (IsSpelled (λ k. k.items))) (sym same) (keys_spelled (λ k. k.items) c.requires.0 c.args.rows.now.entries c.args.rows.now.entries c.requires.1 c.iter-form-items.ensures.found);
    }

pub loop-form-preserved : goal.loop-form-preserved
loop-form-preserved c =
    let row : c.in_ok-copy_row.field-0 ≡ row_under c.in-Some.form.now.items c.in-Some.value.now =
    c.in_ok-copy_row.ensures ∙ ap (λ (l : List ℕ). row_under l c.in-Some.value.now) c.as_slice.ensures.value in
    let left : List Pair = map (row_in (λ k. k.items)) c.next.new.self in
    record {
      rows = ap (λ (l : List Pair). l ++ left) c.in_ok-push.ensures.items ∙ append_assoc c.loop-form.copies.items (c.in_ok-copy_row.field-0 ∷ []) left
          ∙ ap (λ (r : Pair). c.loop-form.copies.items ++ r ∷ left) row ∙ ap (λ es. c.loop-form.copies.items ++ map (row_in (λ k. k.items)) es) (sym c.in-Some.ensures.steps) ∙ c.loop-form.invariant.rows;
      spelled = All-tail (IsSpelled (λ k. k.items)) (c.in-Some.form.now, c.in-Some.value.now) c.next.new.self (subst (All (IsSpelled (λ k. k.items))) c.in-Some.ensures.steps c.loop-form.invariant.spelled);
    }

pub copy_row-requires : goal.copy_row-requires
copy_row-requires c =
    let first : Spells c.in-Some.form.now.items (key_of c.in-Some.form.now.items) =
    All-head (IsSpelled (λ k. k.items)) (c.in-Some.form.now, c.in-Some.value.now) c.next.new.self (subst (All (IsSpelled (λ k. k.items))) c.in-Some.ensures.steps c.loop-form.invariant.spelled) in
    subst (λ (l : List ℕ). Spells l (key_of l)) (sym c.as_slice.ensures.value) first

pub returns : goal.returns
returns c = search rules ∙ sym (all_entries (λ k. k.items) c.args.rows.now.entries c.len.ensures.ordered)
