-- The partition map that a server of several nodes answers.
use Rattle.std.specs.Prelude.{◌==◌, ◌+◌, ◌%◌, ℕ, ℤ, pos, true, not, List, [], ◌∷◌, map, filter}
use Rattle.std.specs.Ordering.{int_eq}
use Rattle.ig_base.specs.declared.NodeId.{NodeId}
use Rattle.ig_base.specs.declared.Topology.{Topology}
use Rattle.ig_parts.specs.Partition.{below}
use Rattle.ig_parts.specs.declared.map.NodeParts.{NodeParts}
use Rattle.ig_parts.specs.declared.map.CacheKeys.{CacheKeys}
use Rattle.ig_parts.specs.declared.map.Group.{Group}
use Rattle.ig_parts.specs.declared.map.PartMap.{PartMap}

-- the identifier of the node with this number, from 0 on
abbrev pub node_id : ℕ → NodeId
node_id k = record { most = 0; least = k + 1 }

-- the partitions that lie on the node with this number: p lies on node p mod N, for N nodes
unfoldable pub parts_on : ℕ → ℕ → ℕ → List ℤ
parts_on nodes parts k = map pos (filter (λ p. p % nodes == k) (below parts))

abbrev pub served_node : ℕ → ℕ → ℕ → NodeParts
served_node nodes parts k = record { node = node_id k; parts = parts_on nodes parts k }

-- the nodes whose numbers are below k, in order
unfoldable pub nodes_below : ℕ → ℕ → ℕ → List NodeParts
nodes_below nodes parts k = map (served_node nodes parts) (below k)

-- all nodes, in order
abbrev pub served_nodes : ℕ → ℕ → List NodeParts
served_nodes nodes parts = nodes_below nodes parts nodes

-- each number once, in the order of its first mention
abbrev pub first_mentions : List ℤ → List ℤ
first_mentions [] = []
first_mentions (x ∷ xs) = x ∷ filter (λ y. not (int_eq x y)) (first_mentions xs)

abbrev pub listing_with : List (ℤ × ℤ) → ℤ → CacheKeys
listing_with pairs cache = record { cache = cache; pairs = pairs }

-- the listing of each cache, all with the same pairs
abbrev pub served_caches : List ℤ → List (ℤ × ℤ) → List CacheKeys
served_caches caches pairs = map (listing_with pairs) (first_mentions caches)

-- one applicable group, or none where no cache was asked for
abbrev pub served_groups : ℕ → ℕ → List ℤ → List (ℤ × ℤ) → List Group
served_groups nodes parts [] pairs = []
served_groups nodes parts (c ∷ cs) pairs = record {
  applicable = true;
  caches = served_caches (c ∷ cs) pairs;
  nodes = served_nodes nodes parts;
} ∷ []

-- the map that a server of this many nodes and partitions answers to one who asks for these caches,
-- where these are the pairs of a type and its affinity field
unfoldable pub served_map : Topology → ℕ → ℕ → List ℤ → List (ℤ × ℤ) → PartMap
served_map told nodes parts caches pairs = record { told = told; groups = served_groups nodes parts caches pairs }
