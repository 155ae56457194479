use Rattle.std.proofs.Common.{◌≡◌, Some, ap, sym, ◌∙◌, subst, option_map}
use Rattle.std.specs.BTreeMap.{insert_entry}
use Rattle.std.specs.FinMap as finite
use Rattle.ig_caches.specs.declared.call.Pair.{Pair}
use Rattle.ig_caches.specs.RowEntries.{row_under, rows_of_entries}
use Rattle.ig_caches.proofs.RowEntryLemmas.{get_value, get_spelled, order, rows_set, rows_inserted}
use Rattle.ig_caches.proofs.table.put.Goals as goal

pub returns-in-Some-clause-before : goal.returns-in-Some-clause-before
returns-in-Some-clause-before c =
    ap Some c.replace.ensures.value ∙ c.in-Some.ensures.value ∙ sym (get_value (λ k. k.items) c.args.rows.now.entries c.args.form.now)

pub returns-in-Some-clause-ok : goal.returns-in-Some-clause-ok
returns-in-Some-clause-ok c =
    rows_set (λ k. k.items) c.args.rows.now.entries (c.get_mut.follows.lender c.replace.new.dest).entries c.args.form.now c.replace.new.dest c.in-Some.standing.now
    (sym c.in-Some.ensures.value) (c.get_mut.follows.holds c.replace.new.dest).0
    ∙ ap (λ v. finite.insert (rows_of_entries (λ k. k.items) c.args.rows.now.entries) c.args.form.now (row_under c.args.form.now v)) c.replace.ensures.after

pub returns-in-Ok-insert-clause-before : goal.returns-in-Ok-insert-clause-before
returns-in-Ok-insert-clause-before c =
    subst (λ m. c.in-Ok-insert.before ≡ option_map (λ (row : Pair). row.value) (finite.get (rows_of_entries (λ k. k.items) m.entries) c.args.form.now)) c.get_mut.follows.holds-at-none
    (get_spelled (λ k. k.items) (c.get_mut.follows.lender-at-none).entries c.in-Ok.key c.args.form.now c.in-Ok-insert.before c.in-Ok.ensures.items c.in-Ok-insert.ensures.old)

pub returns-in-Ok-insert-clause-ok : goal.returns-in-Ok-insert-clause-ok
returns-in-Ok-insert-clause-ok c =
    rows_inserted (λ k. k.items) c.args.rows.now.entries c.insert.new.self.entries c.in-Ok.key c.args.form.now c.args.value c.in-Ok.ensures.items
    (subst (λ m. c.insert.new.self.entries ≡ insert_entry (order (λ k. k.items)) m.entries c.in-Ok.key c.args.value) c.get_mut.follows.holds-at-none c.in-Ok-insert.ensures.entries)
