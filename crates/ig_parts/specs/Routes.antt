-- A partition map with the node of each partition beside it.
use Rattle.std.specs.Prelude.{◌≡◌, List, map, Option}
use Rattle.ig_base.specs.declared.NodeId.{NodeId}
use Rattle.ig_parts.specs.declared.map.Group.{Group}
use Rattle.ig_parts.specs.declared.map.PartMap.{PartMap}
use Rattle.ig_parts.specs.Owner.{HasParts}
use Rattle.ig_parts.specs.NodeTable.{node_table}

-- the table of each group
abbrev pub tables_of : List Group → List (List (Option NodeId))
tables_of groups = map (λ g. node_table g.nodes) groups

-- the tables are those of the map's groups
pub record AreTablesOf (m : PartMap) (tables : List (List (Option NodeId))) : Type 0 where
  pub parts : HasParts m
  pub each : tables ≡ tables_of m.groups
