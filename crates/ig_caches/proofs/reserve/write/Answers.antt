use Rattle.std.proofs.Common.{refl}
use Rattle.ig_caches.specs.RowEntries.{rows_of_entries}
use Rattle.ig_caches.proofs.RowLemmas.{row_put}
use Rattle.ig_caches.proofs.reserve.write.Goals as goal

pub returns-in-Ok : goal.returns-in-Ok
returns-in-Ok c =
    row_put c.one_reader.ensures.spelled c.one_form.ensures.spells (rows_of_entries (λ k. k.items) c.args.rows.now.entries) (rows_of_entries (λ k. k.items) c.args.rows.now.entries)
    (rows_of_entries (λ k. k.items) c.replace.new.rows.entries) _ c.args.row c.requires.item c.spell_short-len.ensures.bytes refl c.in-Ok.ensures.ok
