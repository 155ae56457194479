use Rattle.std.proofs.Common.{◌≡◌, ap, sym, ◌∙◌, Some, option_map}
use Rattle.std.specs.FinMap as finite
use Rattle.ig_caches.specs.RowEntries.{row_under, rows_of_entries, IsKept}
use Rattle.ig_caches.specs.Effect.{is_wanted}
use Rattle.ig_caches.proofs.RowEntryLemmas.{get_entry, get_value}
use Rattle.ig_caches.proofs.SameLemmas.{same_tree}
use Rattle.ig_caches.proofs.table.has_value.Goals as goal

pub returns-in-Some : goal.returns-in-Some
returns-in-Some c = λ most kept.
    let stands : finite.get (rows_of_entries (λ k. k.items) c.args.rows.now.entries) c.args.form.now ≡ Some (row_under c.args.form.now c.in-Some.value.now) =
    get_entry (λ k. k.items) c.args.rows.now.entries c.args.form.now ∙ ap (option_map (row_under c.args.form.now)) (sym c.in-Some.ensures.value) in
    let it : IsKept most c.args.form.now (row_under c.args.form.now c.in-Some.value.now) = kept c.args.form.now (row_under c.args.form.now c.in-Some.value.now) stands in
    same_tree c.one_form.ensures.apart c.same.result c.in-Some.value.now c.args.wanted.now it.fits c.requires.fits c.requires.sendable c.same.ensures
    ∙ ap (is_wanted c.args.wanted.now) (c.in-Some.ensures.value ∙ sym (get_value (λ k. k.items) c.args.rows.now.entries c.args.form.now))

pub returns-in-None : goal.returns-in-None
returns-in-None c = λ most kept.
    ap (is_wanted c.args.wanted.now) (c.in-None.ensures.value ∙ sym (get_value (λ k. k.items) c.args.rows.now.entries c.args.form.now))
