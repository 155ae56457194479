-- Laws of maps and owners, over plain data.
use Rattle.std.specs.Prelude.{◌≡◌, ◌↔◌, ℕ, ◌%◌, ◌<◌, ℤ, List, [], ◌∷◌, ◌++◌, Contains, true, Some, IsTrue}
use Rattle.std.specs.List.{list_all}
use Rattle.std.specs.Option.{option_map_or}
use Rattle.ig_base.specs.declared.Topology.{Topology}
use Rattle.ig_value.specs.declared.Value.{Value}
use Rattle.ig_parts.specs.declared.map.PartMap.{PartMap}
use Rattle.ig_parts.specs.Partition.{partition_of}
use Rattle.ig_parts.specs.Owner.{routed_hash, lists_part, Owner}
use Rattle.ig_parts.specs.Newest.{is_newer, newer_map, Newest}
use Rattle.ig_parts.specs.ServedMap.{node_id, served_node, served_map}

-- in the map that a server answers each key that has a hash has an owner: the node whose number is
-- the key's partition modulo the number of nodes
abbrev pub KeysHaveOwners : Type 0
KeysHaveOwners =
    (told : Topology) (nodes parts : ℕ) (caches : List ℤ) (pairs : List (ℤ × ℤ)) (cache : ℤ)
    (key : Value) (hash : ℤ) → 0 < nodes → 0 < parts → Contains caches cache →
    routed_hash pairs key ≡ Some hash →
    Owner (served_map told nodes parts caches pairs) cache key ≡
    Some (node_id (partition_of hash parts % nodes))

-- that node lists the partition, and no other node does
abbrev pub PartsHaveOneNode : Type 0
PartsHaveOneNode =
    (nodes parts part number : ℕ) → part < parts →
    IsTrue (lists_part part (served_node nodes parts number)) ↔ (number ≡ part % nodes)

-- without an offer there is no newest map; a further offer is the newest where it is newer than the
-- newest so far
abbrev pub NewestGrows : Type 0
NewestGrows =
    (maps : List PartMap) (m : PartMap) →
    Newest (maps ++ m ∷ []) ≡
    Some (option_map_or (λ old. newer_map old m) (Newest maps) m)

-- a map is newer than all others exactly where it is newer than the newest of them, if there is one
abbrev pub NewerThanAll : Type 0
NewerThanAll =
    (maps : List PartMap) (m : PartMap) →
    list_all (λ other. is_newer m.told other.told) maps ≡
    option_map_or (λ newest. is_newer m.told newest.told) (Newest maps) true
