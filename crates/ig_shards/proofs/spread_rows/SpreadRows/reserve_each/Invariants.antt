use Rattle.std.proofs.Common.{◌≡◌, length, take}
use Rattle.ig_shards.specs.Marks.{IsMarked, AreNew, HasRows}
use Rattle.ig_shards.proofs.spread_rows.SpreadRows.reserve_each.Given as goal

-- the keys so far have rows, and those that had none are marked
abbrev pub invariant-loop-pair : goal.invariant-loop-pair
invariant-loop-pair l = record {
  shards : l.self.0 ≡ l.fn.self.0;
  count : length l.marks.items ≡ l.pair-index;
  marked : IsMarked l.fn.self.1 l.self.1 l.marks.items l.pairs;
  new : AreNew l.fn.self.1 l.marks.items l.pairs;
  stand : HasRows l.self.1 (take l.pair-index l.pairs);
}
