use Rattle.std.proofs.Common.{sym, ◌∙◌}
use Rattle.ig_caches.proofs.RowEntryLemmas.{has_entry}
use Rattle.ig_caches.proofs.table.contains.Goals as goal

pub returns : goal.returns
returns c = c.contains_key.ensures ∙ sym (has_entry (λ k. k.items) c.args.rows.now.entries c.args.form.now)
