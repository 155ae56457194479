use Rattle.std.proofs.Common.{◌≡◌, ◌≤◌, take}
use Rattle.ig_parts.specs.Owner.{part_count}
use Rattle.ig_parts.proofs.owners.part_count.Given as goal

abbrev pub invariant-loop-node : goal.invariant-loop-node
invariant-loop-node l = record {
  exact : l.count ≡ part_count (take l.node-index l.nodes);
  few : l.count ≤ 65536;
}
