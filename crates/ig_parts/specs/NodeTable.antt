-- The node of each partition, by number.
use Rattle.std.specs.Prelude.{ℤ, Bool, true, false, List, length, map, Option, None, Some, slice_get}
use Rattle.ig_base.specs.declared.NodeId.{NodeId}
use Rattle.ig_parts.specs.declared.map.NodeParts.{NodeParts}
use Rattle.ig_parts.specs.Partition.{partition_of, below}
use Rattle.ig_parts.specs.Owner.{part_count, node_of_part}

-- for each partition the first node that lists it
unfoldable pub node_table : List NodeParts → List (Option NodeId)
node_table nodes = map (node_of_part nodes) (below (part_count nodes))

-- an owner that is known stays, and else the node is the owner of what it lists
abbrev pub owner_beside : Option NodeId → Bool → NodeId → Option NodeId
owner_beside (Some owner) lists node = Some owner
owner_beside None true node = Some node
owner_beside None false node = None

abbrev pub stated : Option (Option NodeId) → Option NodeId
stated None = None
stated (Some owner) = owner

-- the node of a hash by such a table
unfoldable pub node_by_table : List (Option NodeId) → ℤ → Option NodeId
node_by_table table hash = stated (slice_get table (partition_of hash (length table)))
