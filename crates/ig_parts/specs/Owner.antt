-- The node that a key of a cache lies on, by a partition map.
use Rattle.std.specs.Prelude.{ℕ, suc, ℤ, pos, ◌≤ℤ◌, All, Bool, ◌&&◌, max, List, [], ◌∷◌, find, position, slice_get, flat_map, Option, None, Some, option_map, option_and_then, unsigned_abs}
use Rattle.std.specs.List.{list_any}
use Rattle.std.specs.Ordering.{int_eq}
use Rattle.ig_base.specs.declared.NodeId.{NodeId}
use Rattle.ig_value.specs.declared.Record.{Record}
use Rattle.ig_value.specs.declared.Shape.{Shape}
use Rattle.ig_value.specs.declared.Shape.TheVariants.{Named, Compact}
use Rattle.ig_value.specs.declared.Value.{Value, out-Value}
use Rattle.ig_value.specs.declared.Value.TheOpen.{Value-F}
use Rattle.ig_parts.specs.declared.map.NodeParts.{NodeParts}
use Rattle.ig_parts.specs.declared.map.CacheKeys.{CacheKeys}
use Rattle.ig_parts.specs.declared.map.Group.{Group}
use Rattle.ig_parts.specs.declared.map.PartMap.{PartMap}
use Rattle.ig_parts.specs.Partition.{partition_of}
use Rattle.ig_parts.specs.KeyHash.{KeyHash}

-- ---- the value that is hashed

-- the affinity field of a type: that of the first pair with the type
abbrev pub affinity_field : List (ℤ × ℤ) → ℤ → Option ℤ
affinity_field pairs type = option_map (λ p. p.1) (find (λ p. int_eq p.0 type) pairs)

-- the place of the first such identifier
unfoldable pub place_of_id : List ℤ → ℤ → Option ℕ
place_of_id ids id = position (λ named. int_eq named id) ids

-- the first field with the identifier, in a shape that names its fields
abbrev pub field_of : Shape → List Value → ℤ → Option Value
field_of (Named ids) fields id = option_and_then (slice_get fields) (place_of_id ids id)
field_of (Compact schema) fields id = None

-- the value that is hashed for an object: its affinity field, or itself where its type has none
abbrev pub hashed_in : Value → Record Value → Option ℤ → Option Value
hashed_in key o None = Some key
hashed_in key o (Some id) = field_of o.shape o.fields id

abbrev pub hashed_by_kind : List (ℤ × ℤ) → Value → Value-F Value → Option Value
hashed_by_kind pairs key (Value-F.Object o) = hashed_in key o (affinity_field pairs o.type_id)
hashed_by_kind pairs key _ = Some key

-- the value that is hashed for a key, where these pairs of a type and its affinity field hold: the
-- key, or for an object of a type in the pairs its affinity field, if it names one
unfoldable pub hashed_value : List (ℤ × ℤ) → Value → Option Value
hashed_value pairs key = hashed_by_kind pairs key (out-Value key)

-- the hash of that value, if there is one
abbrev pub routed_hash : List (ℤ × ℤ) → Value → Option ℤ
routed_hash pairs key = option_and_then KeyHash (hashed_value pairs key)

-- ---- the node of a hash

-- all partitions that the nodes list
abbrev pub listed_parts : List NodeParts → List ℤ
listed_parts nodes = flat_map (λ n. n.parts) nodes

-- one more than the greatest of these partitions, or 0 without any
abbrev pub count_from : List ℤ → ℕ
count_from [] = 0
count_from (p ∷ ps) = max (suc (unsigned_abs p)) (count_from ps)

-- the number of partitions: one more than the greatest that the nodes list
abbrev pub part_count : List NodeParts → ℕ
part_count nodes = count_from (listed_parts nodes)

-- the node lists the partition
abbrev pub lists_part : ℕ → NodeParts → Bool
lists_part part n = list_any (int_eq (pos part)) n.parts

-- the first node that lists the partition
abbrev pub node_of_part : List NodeParts → ℕ → Option NodeId
node_of_part nodes part = option_map (λ n. n.node) (find (lists_part part) nodes)

-- the node of a hash
unfoldable pub node_of_hash : List NodeParts → ℤ → Option NodeId
node_of_hash nodes hash = node_of_part nodes (partition_of hash (part_count nodes))

-- ---- the owner

-- where a group lists the cache
abbrev pub is_of : ℤ → CacheKeys → Bool
is_of cache c = int_eq c.cache cache

-- the group is applicable and lists the cache
abbrev pub routes : ℤ → Group → Bool
routes cache g = g.applicable && list_any (is_of cache) g.caches

-- the owner by the nodes of a group and the cache's listing in it
abbrev pub owner_by : List NodeParts → CacheKeys → Value → Option NodeId
owner_by nodes listing key = option_and_then (node_of_hash nodes) (routed_hash listing.pairs key)

-- the owner in a group, by the first listing of the cache in it
abbrev pub owner_in : Group → ℤ → Value → Option NodeId
owner_in g cache key = option_and_then (λ listing. owner_by g.nodes listing key) (find (is_of cache) g.caches)

-- the owner of a key of a cache: by the first applicable group that lists the cache
unfoldable pub Owner : PartMap → ℤ → Value → Option NodeId
Owner map cache key = option_and_then (λ g. owner_in g cache key) (find (routes cache) map.groups)

-- a partition is a number from 0 to 65,535
abbrev pub IsPart : ℤ → Type 0
IsPart p = (pos 0 ≤ℤ p) × (p ≤ℤ pos 65535)

-- each partition that the nodes list is one
abbrev pub HaveParts : List NodeParts → Type 0
HaveParts nodes = All (λ n. All IsPart n.parts) nodes

-- each partition that the map lists is one
abbrev pub HasParts : PartMap → Type 0
HasParts map = All (λ g. HaveParts g.nodes) map.groups
