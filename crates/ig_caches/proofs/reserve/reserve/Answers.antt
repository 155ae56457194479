use Rattle.std.proofs.Common.{sym, ◌∙◌}
use Rattle.ig_value.specs.declared.value.Value.TheVariants.{Null}
use Rattle.ig_caches.specs.RowEntries.{rows_of_entries}
use Rattle.ig_caches.proofs.RowEntryLemmas.{rows_inserted}
use Rattle.ig_caches.proofs.ReserveLemmas.{reserved-new}
use Rattle.ig_caches.proofs.reserve.reserve.Goals as goal

pub returns-clause-ok : goal.returns-clause-ok
returns-clause-ok c =
    rows_inserted (λ k. k.items) c.args.rows.now.entries c.insert.new.self.entries c.in_ok-key.key c.args.form.now Null c.in_ok-key.ensures.items c.in_ok-insert.ensures.entries
    ∙ sym (reserved-new (rows_of_entries (λ k. k.items) c.args.rows.now.entries) c.args.form.now (sym c.if-contains.ensures))
