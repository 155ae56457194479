use Rattle.std.proofs.Common.{Some, ap, sym, ◌∙◌}
use Rattle.std.specs.FinMap as finite
use Rattle.ig_caches.specs.RowEntries.{row_under, rows_of_entries}
use Rattle.ig_caches.proofs.RowEntryLemmas.{get_value, rows_set}
use Rattle.ig_caches.proofs.table.replace.Goals as goal

pub returns-in-Some-clause-before : goal.returns-in-Some-clause-before
returns-in-Some-clause-before c =
    get_value (λ k. k.items) c.args.rows.now.entries c.args.form.now ∙ sym c.in-Some.ensures.value ∙ ap Some (sym c.replace.ensures.value)

pub returns-in-Some-clause-ok : goal.returns-in-Some-clause-ok
returns-in-Some-clause-ok c =
    rows_set (λ k. k.items) c.args.rows.now.entries (c.get_mut.follows.lender c.replace.new.dest).entries c.args.form.now c.replace.new.dest c.in-Some.standing.now
    (sym c.in-Some.ensures.value) (c.get_mut.follows.holds c.replace.new.dest).0
    ∙ ap (λ v. finite.insert (rows_of_entries (λ k. k.items) c.args.rows.now.entries) c.args.form.now (row_under c.args.form.now v)) c.replace.ensures.after

pub returns-in-None-clause-absent : goal.returns-in-None-clause-absent
returns-in-None-clause-absent c = get_value (λ k. k.items) c.args.rows.now.entries c.args.form.now ∙ sym c.in-None.ensures.value
