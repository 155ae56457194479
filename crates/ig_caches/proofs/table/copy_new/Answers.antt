use Rattle.std.proofs.Common.{◌≡◌, true, false, Some, is_some, option_map, ap, sym, ◌∙◌, ◌||◌, rules}
use Rattle.std.proofs.lemmas.Bool.{cond-false}
use Rattle.std.specs.FinMap as finite
use Rattle.ig_value.specs.declared.value.Value.{Value}
use Rattle.ig_caches.specs.declared.call.Pair.{Pair}
use Rattle.ig_caches.specs.RowEntries.{row_under, rows_of_entries, is_among}
use Rattle.ig_caches.proofs.RowEntryLemmas.{ties, get_entry, has_entry}
use Rattle.ig_caches.proofs.FormLemmas.{from_not, none_met, row_met, none_either, among_insert}
use Rattle.ig_caches.proofs.table.copy_new.Goals as goal

pub returns-in_default-clause-row : goal.returns-in_default-clause-row
returns-in_default-clause-row c =
    none_either (is_among (λ k. k.items) c.args.met.now.keys c.args.form.now) (finite.get (rows_of_entries (λ k. k.items) c.args.rows.now.entries) c.args.form.now)
    (get_entry (λ k. k.items) c.args.rows.now.entries c.args.form.now ∙ ap (option_map (row_under c.args.form.now)) (sym c.in_default.ensures.value))

pub returns-in_default-clause-met : goal.returns-in_default-clause-met
returns-in_default-clause-met c = λ q.
    none_met (is_among (λ k. k.items) c.args.met.now.keys q) (ties q c.args.form.now) (is_some (finite.get (rows_of_entries (λ k. k.items) c.args.rows.now.entries) c.args.form.now))
    (has_entry (λ k. k.items) c.args.rows.now.entries c.args.form.now ∙ ap is_some (sym c.in_default.ensures.value))

pub returns-then-not-branch-clause-met : goal.returns-then-not-branch-clause-met
returns-then-not-branch-clause-met c = λ q.
    ap (λ ks. is_among (λ k. k.items) ks q) c.in_ok-insert.ensures.keys ∙ among_insert (λ k. k.items) c.args.met.now.keys c.in_ok-from_slice.field-0 q
    ∙ ap (λ l. is_among (λ k. k.items) c.args.met.now.keys q || ties q l) c.in_ok-from_slice.ensures.items
    ∙ row_met (is_among (λ k. k.items) c.args.met.now.keys q) (ties q c.args.form.now) (is_some (finite.get (rows_of_entries (λ k. k.items) c.args.rows.now.entries) c.args.form.now))
    (has_entry (λ k. k.items) c.args.rows.now.entries c.args.form.now ∙ ap is_some (sym c.in-Some.ensures.value))

pub returns-clause-row : goal.returns-clause-row
returns-clause-row c =
    let added : true ≡ c.in_ok-insert.field-0 = search rules in
    let new : is_among (λ k. k.items) c.args.met.now.keys c.args.form.now ≡ false =
    ap (is_among (λ k. k.items) c.args.met.now.keys) (sym c.in_ok-from_slice.ensures.items) ∙ from_not (is_among (λ k. k.items) c.args.met.now.keys c.in_ok-from_slice.field-0.items) (added ∙ c.in_ok-insert.ensures.added) in
    let with_key : Value → Pair = λ k. record { key = k; value = c.in-Some.value.now } in
    let row : c.in_ok-with_copy.field-0 ≡ row_under c.args.form.now c.in-Some.value.now = c.in_ok-with_copy.ensures ∙ ap with_key (c.in_ok-copy.ensures ∙ sym c.requires) in
    ap Some row
    ∙ sym (cond-false (is_among (λ k. k.items) c.args.met.now.keys c.args.form.now) _ _ new
    ∙ get_entry (λ k. k.items) c.args.rows.now.entries c.args.form.now ∙ ap (option_map (row_under c.args.form.now)) (sym c.in-Some.ensures.value))

pub returns-clause-met : goal.returns-clause-met
returns-clause-met c = λ q.
    ap (λ ks. is_among (λ k. k.items) ks q) c.in_ok-insert.ensures.keys ∙ among_insert (λ k. k.items) c.args.met.now.keys c.in_ok-from_slice.field-0 q
    ∙ ap (λ l. is_among (λ k. k.items) c.args.met.now.keys q || ties q l) c.in_ok-from_slice.ensures.items
    ∙ row_met (is_among (λ k. k.items) c.args.met.now.keys q) (ties q c.args.form.now) (is_some (finite.get (rows_of_entries (λ k. k.items) c.args.rows.now.entries) c.args.form.now))
    (has_entry (λ k. k.items) c.args.rows.now.entries c.args.form.now ∙ ap is_some (sym c.in-Some.ensures.value))
