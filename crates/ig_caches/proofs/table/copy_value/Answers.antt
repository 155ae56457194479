use Rattle.std.proofs.Common.{Some, ap, sym, ◌∙◌}
use Rattle.ig_caches.proofs.RowEntryLemmas.{get_value}
use Rattle.ig_caches.proofs.table.copy_value.Goals as goal

pub returns-in_ok-copy-in-Some : goal.returns-in_ok-copy-in-Some
returns-in_ok-copy-in-Some c =
    ap Some c.in_ok-copy-in-Some.ensures ∙ c.in-Some.ensures.value ∙ sym (get_value (λ k. k.items) c.args.rows.now.entries c.args.form.now)

pub returns-in-None : goal.returns-in-None
returns-in-None c = c.in-None.ensures.value ∙ sym (get_value (λ k. k.items) c.args.rows.now.entries c.args.form.now)
