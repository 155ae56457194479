-- The fields of the result as the program reads and writes them: these are the reading and the
-- bytes of their formats.
use Rattle.std.proofs.Common.{inl, inr, refl, ap, ◌∙◌}
use Rattle.std.specs.Prelude.{◌≡◌, ℕ, ℤ, Bool, true, false, List, [], ◌∷◌, ◌++◌, map, Ok, Err}
use Rattle.ig_base.specs.declared.NodeId.{NodeId}
use Rattle.ig_value.specs.declared.Code.TheVariants as code
use Rattle.ig_value.specs.Part.{i32, i64}
use Rattle.ig_value.specs.Reading.{scalar_at}
use Rattle.ig_value.specs.Spells.{scalar_bytes}
use Rattle.ig_value.specs.Table.{byte_of}
use Rattle.ig_value.specs.Canon.{uuid_bytes}
use Rattle.ig_wire.specs.Fields.{Field, placed, node_of}
use Rattle.ig_fields.specs.declared.Either.{Either}
use Rattle.ig_fields.specs.declared.Either.TheVariants.{First, Second}
use Rattle.ig_fields.specs.Format.{Fields}
use Rattle.ig_fields.specs.SpellsFields.{is_within}
use Rattle.ig_fields.specs.ReadingFields.{mapped_of, tested_of, both_of, choice_of, listed_of, int_field, fields_of}
use Rattle.ig_fields.specs.FieldBytes.{listed_bytes, both_bytes, fields_bytes}
use Rattle.ig_fields.specs.Views.{ReadsAs, WritesAs, same, mapped_same, both_view, both_as, either_of, either_view, choice_as, listed_as, listed_written}
use Rattle.ig_parts.specs.declared.map.NodeParts.{NodeParts}
use Rattle.ig_parts.specs.declared.map.CacheKeys.{CacheKeys}
use Rattle.ig_parts.specs.declared.map.Group.{Group}
use Rattle.ig_parts.specs.declared.map.PartMap.{PartMap}
use Rattle.ig_parts.specs.PartsMessages.{listing, node_parts, group, parts_result, listing_of, lone_cache, node_parts_of, group_of, map_of, listing_fields, cache_of, node_fields, group_fields_by, group_fields, map_fields}

-- ---- caches and nodes

abbrev pub lone_reading : List ℕ → Field CacheKeys
lone_reading s = mapped_of lone_cache (int_field s)

abbrev pub listing_reading : List ℕ → Field CacheKeys
listing_reading s = mapped_of listing_of (both_of int_field (listed_of (both_of int_field int_field)) s)

abbrev pub node_reading : List ℕ → Field NodeParts
node_reading s = mapped_of node_parts_of (both_of node_of (listed_of (tested_of int_field (is_within 65535))) s)

abbrev pub lone_bytes : CacheKeys → List ℕ
lone_bytes c = scalar_bytes i32 c.cache

abbrev pub listing_bytes : CacheKeys → List ℕ
listing_bytes c = scalar_bytes i32 c.cache ++ listed_bytes (both_bytes (scalar_bytes i32) (scalar_bytes i32)) c.pairs

abbrev node_id_bytes : NodeId → List ℕ
node_id_bytes n = byte_of code.Uuid ∷ uuid_bytes n

abbrev pub node_parts_bytes : NodeParts → List ℕ
node_parts_bytes n = node_id_bytes n.node ++ listed_bytes (scalar_bytes i32) n.parts

-- ---- groups

-- a group that isn't applicable has caches alone, and another one has nodes too
abbrev pub group_from : Either (List CacheKeys) (List CacheKeys × List NodeParts) → Group
group_from (First caches) = record { applicable = false; caches = caches; nodes = [] }
group_from (Second x) = record { applicable = true; caches = x.0; nodes = x.1 }

abbrev lone_caches_reading : List ℕ → Field (List CacheKeys)
lone_caches_reading = listed_of lone_reading

abbrev listings_reading : List ℕ → Field (List CacheKeys × List NodeParts)
listings_reading = both_of (listed_of listing_reading) (listed_of node_reading)

abbrev sides_reading : List ℕ → Field (Either (List CacheKeys) (List CacheKeys × List NodeParts))
sides_reading s = mapped_of either_of (choice_of lone_caches_reading listings_reading s)

abbrev pub group_reading : List ℕ → Field Group
group_reading s = mapped_of group_from (sides_reading s)

abbrev sides_view : Fields group → Either (List CacheKeys) (List CacheKeys × List NodeParts)
sides_view = either_view (map lone_cache) (both_view (map listing_of) (map node_parts_of))

sides_as : ReadsAs sides_view sides_reading (fields_of group)
sides_as =
    choice_as (map lone_cache) (both_view (map listing_of) (map node_parts_of)) lone_caches_reading (listed_of int_field) listings_reading (both_of (listed_of (fields_of listing)) (listed_of (fields_of node_parts)))
    (listed_as lone_cache lone_reading int_field (λ s. refl))
    (both_as (map listing_of) (map node_parts_of) (listed_of node_reading) (listed_of (fields_of node_parts)) (listed_of listing_reading) (listed_of (fields_of listing))
    (listed_as listing_of listing_reading (fields_of listing) (λ s. refl)) (listed_as node_parts_of node_reading (fields_of node_parts) (λ s. refl)))

group_from_sides : (r : Field (Fields group)) → mapped_of group_from (mapped_of sides_view r) ≡ mapped_of group_of r
group_from_sides (Ok (inl caches, rest)) = refl
group_from_sides (Ok (inr x, rest)) = refl
group_from_sides (Err left) = refl

pub group_as : ReadsAs group_of group_reading (fields_of group)
group_as s = ap (mapped_of group_from) (sides_as s) ∙ group_from_sides (fields_of group s)

abbrev pub group_bytes_by : Bool → Group → List ℕ
group_bytes_by false g = 0 ∷ listed_bytes lone_bytes g.caches
group_bytes_by true g = 1 ∷ (listed_bytes listing_bytes g.caches ++ listed_bytes node_parts_bytes g.nodes)

abbrev pub group_bytes : Group → List ℕ
group_bytes g = group_bytes_by g.applicable g

lone_written : WritesAs (map cache_of) (listed_bytes lone_bytes) (listed_bytes (scalar_bytes i32))
lone_written = listed_written cache_of lone_bytes (scalar_bytes i32) (λ c. refl)

listings_written : WritesAs (map listing_fields) (listed_bytes listing_bytes) (listed_bytes (fields_bytes listing))
listings_written = listed_written listing_fields listing_bytes (fields_bytes listing) (λ c. refl)

nodes_written : WritesAs (map node_fields) (listed_bytes node_parts_bytes) (listed_bytes (fields_bytes node_parts))
nodes_written = listed_written node_fields node_parts_bytes (fields_bytes node_parts) (λ n. refl)

group_written_by : (applicable : Bool) (g : Group) → group_bytes_by applicable g ≡ fields_bytes group (group_fields_by applicable g)
group_written_by false g = ap (λ (l : List ℕ). 0 ∷ l) (lone_written g.caches)
group_written_by true g = rw (listings_written g.caches, nodes_written g.nodes) refl

pub group_written : WritesAs group_fields group_bytes (fields_bytes group)
group_written g = group_written_by g.applicable g

-- ---- maps

abbrev pub map_from : (ℤ × ℤ) × List Group → PartMap
map_from x = record { told = record { version = x.0.0; minor = x.0.1 }; groups = x.1 }

abbrev told_reading : List ℕ → Field (ℤ × ℤ)
told_reading = both_of (λ s. placed (scalar_at i64 s)) int_field

abbrev pub map_reading : List ℕ → Field PartMap
map_reading s = mapped_of map_from (both_of told_reading (listed_of group_reading) s)

map_from_fields : (r : Field (Fields parts_result)) → mapped_of map_from (mapped_of (both_view same (map group_of)) r) ≡ mapped_of map_of r
map_from_fields (Ok x) = refl
map_from_fields (Err left) = refl

pub map_as : ReadsAs map_of map_reading (fields_of parts_result)
map_as s =
    ap (mapped_of map_from) (both_as same (map group_of) (listed_of group_reading) (listed_of (fields_of group)) told_reading told_reading
    (λ t. mapped_same (told_reading t)) (listed_as group_of group_reading (fields_of group) group_as) s)
    ∙ map_from_fields (fields_of parts_result s)

-- the bytes of a map as the program puts them
abbrev pub put_bytes : PartMap → List ℕ
put_bytes m = scalar_bytes i64 m.told.version ++ scalar_bytes i32 m.told.minor ++ listed_bytes group_bytes m.groups

pub map_written : WritesAs map_fields put_bytes (fields_bytes parts_result)
map_written m = ap (λ (l : List ℕ). (scalar_bytes i64 m.told.version ++ scalar_bytes i32 m.told.minor) ++ l) (listed_written group_fields group_bytes (fields_bytes group) group_written m.groups)
