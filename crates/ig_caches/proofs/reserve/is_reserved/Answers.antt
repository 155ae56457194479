use Rattle.std.proofs.Common.{ap, sym, ◌∙◌, option_map}
use Rattle.ig_caches.specs.Reserved.{is_null, is_reserved}
use Rattle.ig_caches.specs.RowEntries.{row_under}
use Rattle.ig_caches.proofs.RowEntryLemmas.{get_entry}
use Rattle.ig_caches.proofs.ReserveLemmas.{not_null}
use Rattle.ig_caches.proofs.reserve.is_reserved.Goals as goal

pub returns-in-Null : goal.returns-in-Null
returns-in-Null c =
    sym (ap is_reserved (get_entry (λ k. k.items) c.args.rows.now.entries c.args.form.now ∙ ap (option_map (row_under c.args.form.now)) (sym c.in-Some.ensures.value))
    ∙ ap is_null c.in-Null.is)

pub returns-in_default : goal.returns-in_default
returns-in_default c =
    sym (ap is_reserved (get_entry (λ k. k.items) c.args.rows.now.entries c.args.form.now ∙ ap (option_map (row_under c.args.form.now)) (sym c.in-Some.ensures.value))
    ∙ not_null c.in-Some.value.now c.in_default.not-Null)

pub returns-in-None : goal.returns-in-None
returns-in-None c =
    sym (ap is_reserved (get_entry (λ k. k.items) c.args.rows.now.entries c.args.form.now ∙ ap (option_map (row_under c.args.form.now)) (sym c.in-None.ensures.value)))
