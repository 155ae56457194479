use Rattle.std.proofs.Common.{◌≡◌, drop}
use Rattle.ig_caches.specs.Rows.{Rows}
use Rattle.ig_shards.specs.Marks.{IsMarked, AreNew}
use Rattle.ig_shards.proofs.spread_rows.SpreadRows.release.Given as goal

-- the marked keys so far have no rows any more
abbrev pub invariant-loop-at : goal.invariant-loop-at
invariant-loop-at l = (old : Rows) → IsMarked old l.fn.self.1 l.marks l.pairs → AreNew old l.marks l.pairs → (l.self.0 ≡ l.fn.self.0) × IsMarked old l.self.1 (drop l.at l.marks) (drop l.at l.pairs)
