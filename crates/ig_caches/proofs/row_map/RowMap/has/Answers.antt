use Rattle.std.proofs.Common.{ap, sym, is_some, rules}
use Rattle.ig_value.specs.Canon.{Canon}
use Rattle.ig_caches.specs.RowEntries.{rows_of_entries}
use Rattle.ig_caches.proofs.RowLemmas.{missing_of}
use Rattle.ig_caches.proofs.row_map.RowMap.has.Goals as goal

pub returns-in_default-clause-answer : goal.returns-in_default-clause-answer
returns-in_default-clause-answer c = sym (ap is_some (missing_of c.self.inside.room.len (rows_of_entries (λ k. k.items) c.self.inside.rows.entries) c.args.self.now (Canon c.args.key.now) c.self.invariant (search rules) c.self.view_is))
