-- The message that asks for partition maps, and its result.
use Rattle.std.proofs.Common.{inl, inr}
use Rattle.std.specs.Prelude.{◌≡◌, ℕ, ℤ, Bool, true, false, IsFalse, All, List, [], map, Option, None, Some}
use Rattle.ig_value.specs.Part.{i32, i64}
use Rattle.ig_wire.specs.declared.Operation.{Operation}
use Rattle.ig_wire.specs.declared.Operation.TheVariants as operation
use Rattle.ig_fields.specs.Format.{Format, scalar, within, node, both, choice, listed, Fields}
use Rattle.ig_fields.specs.FieldBytes.{FitsFields}
use Rattle.ig_fields.specs.Ask.{Ask, served_ask, AskForm, form_body, ResultForm, Filled, filled_bytes}
use Rattle.ig_parts.specs.declared.map.NodeParts.{NodeParts}
use Rattle.ig_parts.specs.declared.map.CacheKeys.{CacheKeys}
use Rattle.ig_parts.specs.declared.map.Group.{Group}
use Rattle.ig_parts.specs.declared.map.PartMap.{PartMap}

-- ---- the request

-- a list of Int32: the identifiers of caches
abbrev pub parts_ask : Format
parts_ask = listed (scalar i32)

-- what the fields ask: the map of these caches; every request is served
abbrev pub parts_row : Ask (List ℤ)
parts_row = served_ask parts_ask (λ caches. caches)

-- the one operation, as a table
abbrev pub ask_of : Operation → Option (Ask (List ℤ))
ask_of operation.PartitionMaps = Some parts_row
ask_of _ = None

-- the request as it is written
abbrev pub parts_form : List ℤ → AskForm
parts_form caches = record {
  operation = operation.PartitionMaps;
  filled = record { format = parts_ask; fields = caches };
}

-- the body of its frame
abbrev pub ask_body : ℤ → List ℤ → List ℕ
ask_body id caches = form_body id (parts_form caches)

-- ---- the result

-- an Int32, which is a cache, and a list of pairs of two Int32: a type, and its affinity field
abbrev pub listing : Format
listing = both (scalar i32) (listed (both (scalar i32) (scalar i32)))

-- a node, and a list of its partitions, each an Int32 from 0 to 65,535
abbrev pub node_parts : Format
node_parts = both node (listed (within 65535))

-- byte 0 and a list of Int32, which are caches; or byte 1, caches with their pairs, and nodes with
-- their partitions
abbrev pub group : Format
group = choice (listed (scalar i32)) (both (listed listing) (listed node_parts))

-- an Int64, which is the version, an Int32, which is the minor version, and groups
abbrev pub parts_result : Format
parts_result = both (both (scalar i64) (scalar i32)) (listed group)

-- ---- what the result shows

abbrev pub listing_of : Fields listing → CacheKeys
listing_of x = record { cache = x.0; pairs = x.1 }

-- a cache without pairs
abbrev pub lone_cache : ℤ → CacheKeys
lone_cache cache = record { cache = cache; pairs = [] }

abbrev pub node_parts_of : Fields node_parts → NodeParts
node_parts_of x = record { node = x.0; parts = x.1 }

-- byte 1 says that the group is applicable
abbrev pub group_of : Fields group → Group
group_of (inl caches) = record { applicable = false; caches = map lone_cache caches; nodes = [] }
group_of (inr x) = record {
  applicable = true;
  caches = map listing_of x.0;
  nodes = map node_parts_of x.1;
}

abbrev pub map_of : Fields parts_result → PartMap
map_of x = record { told = record { version = x.0.0; minor = x.0.1 }; groups = map group_of x.1 }

-- the result's fields, and the map that they show
abbrev pub map_form : ResultForm PartMap
map_form = record { format = parts_result; shown = map_of }

-- ---- how a map is written

abbrev pub listing_fields : CacheKeys → Fields listing
listing_fields c = (c.cache, c.pairs)

abbrev pub cache_of : CacheKeys → ℤ
cache_of c = c.cache

abbrev pub node_fields : NodeParts → Fields node_parts
node_fields n = (n.node, n.parts)

-- of a group that isn't applicable the caches alone are written
abbrev pub group_fields_by : Bool → Group → Fields group
group_fields_by false g = inl (map cache_of g.caches)
group_fields_by true g = inr (map listing_fields g.caches, map node_fields g.nodes)

abbrev pub group_fields : Group → Fields group
group_fields g = group_fields_by g.applicable g

abbrev pub map_fields : PartMap → Fields parts_result
map_fields m = ((m.told.version, m.told.minor), map group_fields m.groups)

abbrev pub map_filled : PartMap → Filled
map_filled m = record { format = parts_result; fields = map_fields m }

-- the bytes of a map
abbrev pub map_bytes : PartMap → List ℕ
map_bytes m = filled_bytes (map_filled m)

-- ---- which maps have bytes of their own

-- it has pairs and nodes only if it is applicable
abbrev pub IsWritten : Group → Type 0
IsWritten g = IsFalse g.applicable → All (λ (c : CacheKeys). c.pairs ≡ []) g.caches × (g.nodes ≡ [])

-- The map is the one that its bytes spell: its numbers are in their ranges, partitions from 0 to
-- 65,535, each list has less than 2^31 items, and all of each group is written.
pub record FitsMap (m : PartMap) : Type 0 where
  pub fields : FitsFields parts_result (map_fields m)
  pub groups : All IsWritten m.groups
