use Rattle.std.proofs.Common.{◌≡◌, ◌+◌, ◌*◌, take, map}
use Rattle.ig_value.specs.Limits.{Depth, greatest, pair_depth}
use Rattle.ig_value.proofs.+depth.Given as goal

abbrev pub invariant-depth::greatest_depth-loop-value : goal.invariant-depth::greatest_depth-loop-value
invariant-depth::greatest_depth-loop-value l = l.greatest ≡ greatest (map Depth (take l.value-index l.values))

abbrev pub invariant-depth::greatest_pair_depth-loop-pair : goal.invariant-depth::greatest_pair_depth-loop-pair
invariant-depth::greatest_pair_depth-loop-pair l = l.greatest ≡ greatest (map pair_depth (take l.pair-index l.pairs))

abbrev pub decreases-value::Value::depth : goal.decreases-value::Value::depth
decreases-value::Value::depth l = 2 * Depth l.self.now

abbrev pub decreases-depth::greatest_depth : goal.decreases-depth::greatest_depth
decreases-depth::greatest_depth l = 2 * greatest (map Depth l.values.now) + 1

abbrev pub decreases-depth::greatest_pair_depth : goal.decreases-depth::greatest_pair_depth
decreases-depth::greatest_pair_depth l = 2 * greatest (map pair_depth l.pairs.now) + 1
