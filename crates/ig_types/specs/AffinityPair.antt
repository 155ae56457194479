-- Pairs of a type and the field that its affinity key names.
use Rattle.std.specs.Prelude.{◌≡◌, ℕ, ℤ, List, Option, Some, Contains, find, filter_map, option_map, option_and_then}
use Rattle.std.specs.Ordering.{int_cmp}
use Rattle.std.specs.declared.cmp.Ordering.{Ordering}
use Rattle.std.specs.FinMap as map
use Rattle.ig_types.specs.declared.meta.TypeMeta.{TypeMeta}
use Rattle.ig_types.specs.declared.meta.FieldMeta.{FieldMeta}
use Rattle.ig_types.specs.Join.{same_name}
use Rattle.ig_types.specs.Registered.{Registered}

-- the registry has a type with the first identifier, and the affinity key of the type is the name of its
-- field with the second identifier
pub record IsAffinityPair (r : Registered) (type_id field_id : ℤ) : Type 0 where
  pub type : TypeMeta
  pub found : map.get r.types type_id ≡ Some type
  pub field : FieldMeta
  pub of_type : Contains type.fields field
  pub named : type.affinity ≡ Some field.name
  pub its_id : field.id ≡ field_id

-- the field with the name
abbrev pub field_named : List FieldMeta → List ℕ → Option FieldMeta
field_named fields name = find (λ f. same_name f.name name) fields

-- the identifier of the type and that of the field that its affinity key names, if it names one
abbrev pub affinity_pair : TypeMeta → Option (ℤ × ℤ)
affinity_pair t =
    option_and_then (λ key. option_map (λ f. (t.type_id, f.id)) (field_named t.fields key)) t.affinity

-- pairs are ordered by their type identifiers
abbrev pub by_type : ℤ × ℤ → ℤ × ℤ → Ordering
by_type p q = int_cmp p.0 q.0

-- the affinity pairs of all types, by ascending type identifier
abbrev pub affinity_pairs_of : Registered → List (ℤ × ℤ)
affinity_pairs_of r = filter_map affinity_pair (map.values r.types)
