use Rattle.std.proofs.Common.{ap, sym, option_map, rules}
use Rattle.ig_value.specs.Canon.{Canon}
use Rattle.ig_caches.specs.declared.call.Pair.{Pair}
use Rattle.ig_caches.specs.RowEntries.{rows_of_entries}
use Rattle.ig_caches.proofs.RowLemmas.{missing_of}
use Rattle.ig_caches.proofs.row_map.RowMap.value.Goals as goal

pub returns-in_default-clause-value : goal.returns-in_default-clause-value
returns-in_default-clause-value c = sym (ap (option_map (λ (row : Pair). row.value)) (missing_of c.self.inside.room.len (rows_of_entries (λ k. k.items) c.self.inside.rows.entries) c.args.self.now (Canon c.args.key.now) c.self.invariant (search rules) c.self.view_is))
