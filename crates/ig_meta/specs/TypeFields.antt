-- Descriptions of types as the fields of messages.
use Rattle.std.proofs.Common.{inl, inr}
use Rattle.std.specs.Prelude.{ℕ, ℤ, Bool, true, false, List, [], map}
use Rattle.std.specs.Ordering.{nat_cmp, int_cmp}
use Rattle.std.specs.Cmp.Lexicographic.{slice_cmp}
use Rattle.std.specs.declared.cmp.Ordering.{Ordering}
use Rattle.ig_value.specs.Part.{i32}
use Rattle.ig_types.specs.declared.FieldMeta.{FieldMeta}
use Rattle.ig_types.specs.declared.Literal.{Literal}
use Rattle.ig_types.specs.declared.SchemaMeta.{SchemaMeta}
use Rattle.ig_types.specs.declared.TypeMeta.{TypeMeta}
use Rattle.ig_fields.specs.Format.{Format, nothing, string, nullable_string, scalar, both, choice, listed, distinct, name, identifier, Fields}
use Rattle.ig_meta.specs.KeyOrder.{in_key_order}

-- ---- the format

-- fields: the name of each, an Int32 for the kind of its values, and one for its identifier; no name is
-- repeated
abbrev pub fields_format : Format
fields_format = distinct name (both (scalar i32) (scalar i32))

-- literals: the name of each, and an Int32 for its ordinal; no name is repeated
abbrev pub literals_format : Format
literals_format = distinct name (scalar i32)

-- schemas: an Int32 for the identifier of each, and a list of the identifiers of its fields; no
-- identifier of a schema is repeated
abbrev pub schemas_format : Format
schemas_format = distinct identifier (listed (scalar i32))

-- byte 0, or byte 1 and the literals of an enum
abbrev pub enum_format : Format
enum_format = choice nothing literals_format

-- an Int32 for the identifier, the name, the name of the affinity key or null, the fields, whether it is an
-- enum, and the schemas
abbrev pub type_format : Format
type_format = both (both (scalar i32) (both string nullable_string)) (both fields_format (both enum_format schemas_format))

-- ---- what the fields hold

-- names are ordered by their bytes
abbrev pub name_order : List ℕ → List ℕ → Ordering
name_order = slice_cmp nat_cmp

abbrev pub field_of : List ℕ × (ℤ × ℤ) → FieldMeta
field_of x = record { name = x.0; kind = x.1.0; id = x.1.1 }

abbrev pub literal_of : List ℕ × ℤ → Literal
literal_of x = record { name = x.0; ordinal = x.1 }

abbrev pub schema_of : ℤ × List ℤ → SchemaMeta
schema_of x = record { id = x.0; ids = x.1 }

-- whatever the order of reading, the members of a description are in the order of their keys
abbrev pub fields_in_order : List (List ℕ × (ℤ × ℤ)) → List FieldMeta
fields_in_order xs = map field_of (in_key_order name_order xs)

abbrev pub literals_in_order : List (List ℕ × ℤ) → List Literal
literals_in_order xs = map literal_of (in_key_order name_order xs)

abbrev pub schemas_in_order : List (ℤ × List ℤ) → List SchemaMeta
schemas_in_order xs = map schema_of (in_key_order int_cmp xs)

abbrev pub is_enum_of : Fields enum_format → Bool
is_enum_of (inl x) = false
is_enum_of (inr xs) = true

abbrev pub literals_of : Fields enum_format → List Literal
literals_of (inl x) = []
literals_of (inr xs) = literals_in_order xs

-- the description that the fields hold
abbrev pub type_of_fields : Fields type_format → TypeMeta
type_of_fields x = record {
  type_id = x.0.0;
  name = x.0.1.0;
  affinity = x.0.1.1;
  is_enum = is_enum_of x.1.1.0;
  fields = fields_in_order x.1.0;
  literals = literals_of x.1.1.0;
  schemas = schemas_in_order x.1.1.1;
}

-- ---- how a description is written

abbrev pub field_parts : FieldMeta → List ℕ × (ℤ × ℤ)
field_parts f = (f.name, (f.kind, f.id))

abbrev pub literal_parts : Literal → List ℕ × ℤ
literal_parts l = (l.name, l.ordinal)

abbrev pub schema_parts : SchemaMeta → ℤ × List ℤ
schema_parts s = (s.id, s.ids)

-- of a type that isn't an enum no literals are written
abbrev pub enum_fields : Bool → List Literal → Fields enum_format
enum_fields false literals = inl tt
enum_fields true literals = inr (map literal_parts literals)

-- its members in their order
abbrev pub fields_of_type : TypeMeta → Fields type_format
fields_of_type t =
    ((t.type_id, (t.name, t.affinity)), (map field_parts t.fields, (enum_fields t.is_enum t.literals, map schema_parts t.schemas)))
