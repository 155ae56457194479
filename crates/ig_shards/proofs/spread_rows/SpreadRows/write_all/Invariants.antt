use Rattle.std.proofs.Common.{◌≡◌, ◌++◌}
use Rattle.ig_caches.specs.Rows.{with_rows}
use Rattle.ig_shards.proofs.spread_rows.SpreadRows.write_all.Given as goal

-- the pairs so far are put
abbrev pub invariant-loop-pair : goal.invariant-loop-pair
invariant-loop-pair l = record {
  rows : l.self ≡ (l.fn.self.0, with_rows l.fn.self.1 l.yielded);
  items : l.yielded ++ l.pair-iterator.rest.items ≡ l.fn.pairs.items;
}
