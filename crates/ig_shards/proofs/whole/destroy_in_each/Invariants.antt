use Rattle.std.proofs.Common.{◌≡◌, ◌++◌, take, drop, map}
use Rattle.ig_shards.specs.PartView.{parts_of}
use Rattle.ig_shards.specs.RowsOfParts.{destroyed_in}
use Rattle.ig_shards.proofs.whole.destroy_in_each.Given as goal

-- the cache is destroyed in the shards so far
abbrev pub invariant-loop-part : goal.invariant-loop-part
invariant-loop-part l =
    parts_of l.parts ≡ map (destroyed_in l.cache) (take l.part-index (parts_of l.fn.parts)) ++ drop l.part-index (parts_of l.fn.parts)
