use Rattle.std.proofs.Common.{◌≡◌, take}
use Rattle.ig_caches.specs.Rows.{without_rows}
use Rattle.ig_shards.proofs.spread_rows.SpreadRows.remove_all.Given as goal

-- the rows of the keys so far are removed
abbrev pub invariant-loop-key : goal.invariant-loop-key
invariant-loop-key l = l.self ≡ (l.fn.self.0, without_rows l.fn.self.1 (take l.key-index l.keys))
