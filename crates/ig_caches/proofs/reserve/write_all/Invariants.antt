use Rattle.std.proofs.Common.{◌≡◌, ◌++◌}
use Rattle.ig_caches.specs.Rows.{with_rows}
use Rattle.ig_caches.specs.RowEntries.{rows_of_entries}
use Rattle.ig_caches.proofs.reserve.write_all.Given as goal

-- the pairs so far are put
abbrev pub invariant-loop-pair : goal.invariant-loop-pair
invariant-loop-pair l = record {
  rows : rows_of_entries (λ k. k.items) l.rows.entries ≡ with_rows (rows_of_entries (λ k. k.items) l.fn.rows.entries) l.yielded;
  items : l.yielded ++ l.pair-iterator.rest.items ≡ l.fn.pairs.items;
}
