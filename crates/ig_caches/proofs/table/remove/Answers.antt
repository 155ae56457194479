use Rattle.std.proofs.Common.{sym, ◌∙◌}
use Rattle.ig_caches.proofs.RowEntryLemmas.{get_value, rows_removed}
use Rattle.ig_caches.proofs.table.remove.Goals as goal

pub returns-clause-before : goal.returns-clause-before
returns-clause-before c = c.remove.ensures.value ∙ sym (get_value (λ k. k.items) c.args.rows.now.entries c.args.form.now)

pub returns-clause-removed : goal.returns-clause-removed
returns-clause-removed c = rows_removed (λ k. k.items) c.args.rows.now.entries c.remove.new.self.entries c.args.form.now c.remove.ensures.updates.1 c.remove.ensures.entries
