use Rattle.std.proofs.Common.{◌≡◌, ℕ, ◌<◌, take, get_or, Option}
use Rattle.ig_base.specs.declared.NodeId.{NodeId}
use Rattle.ig_parts.specs.Owner.{part_count, node_of_part}
use Rattle.ig_parts.proofs.tables.add_owners.Given as goal

abbrev pub invariant-loop-node : goal.invariant-loop-node
invariant-loop-node l = (k : ℕ) (d : Option NodeId) → k < part_count l.nodes → get_or l.table k d ≡ node_of_part (take l.node-index l.nodes) k
