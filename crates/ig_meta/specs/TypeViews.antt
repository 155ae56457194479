-- Descriptions as the program reads and writes them: these are the reading and the bytes of their
-- format.
use Rattle.std.proofs.Common.{inl, inr, refl, sym, ap, ◌∙◌}
use Rattle.std.specs.Prelude.{◌≡◌, ℕ, ℤ, Bool, true, false, List, [], ◌∷◌, ◌++◌, map, Option, None, Some, Ok, Err}
use Rattle.std.specs.Ordering.{int_cmp}
use Rattle.std.specs.Cmp.Lexicographic.{texts_ties}
use Rattle.std.specs.declared.cmp.Ordering.{Ordering}
use Rattle.ig_value.specs.Part.{i32}
use Rattle.ig_value.specs.Spells.{scalar_bytes}
use Rattle.ig_wire.specs.Fields.{Field, string, nullable_string, string_of, nullable_string_of}
use Rattle.ig_types.specs.declared.FieldMeta.{FieldMeta}
use Rattle.ig_types.specs.declared.Literal.{Literal}
use Rattle.ig_types.specs.declared.SchemaMeta.{SchemaMeta}
use Rattle.ig_types.specs.declared.TypeMeta.{TypeMeta}
use Rattle.ig_fields.specs.declared.Either.{Either}
use Rattle.ig_fields.specs.declared.Either.TheVariants.{First, Second}
use Rattle.ig_fields.specs.Format.{name, identifier, nothing, scalar, both, listed, Fields}
use Rattle.ig_fields.specs.ReadingFields.{mapped_of, both_of, choice_of, listed_of, int_field, fields_of}
use Rattle.ig_fields.specs.FieldBytes.{listed_bytes, both_bytes, key_bytes, fields_bytes}
use Rattle.ig_fields.specs.Views.{ReadsAs, WritesAs, same, mapped_same, both_view, both_as, either_of, either_view, choice_as, listed_written}
use Rattle.ig_meta.specs.KeyOrder.{in_key_order}
use Rattle.ig_meta.specs.TypeFields.{fields_format, literals_format, schemas_format, enum_format, type_format, name_order, field_of, literal_of, schema_of, field_parts, literal_parts, schema_parts, enum_fields, type_of_fields, fields_of_type}
use Rattle.ig_meta.specs.MemberViews.{members_view, members_reading, members_as, field_bytes, literal_bytes, schema_bytes}

-- ---- reading

abbrev pub is_enum_in : Either (Unit {0}) (List Literal) → Bool
is_enum_in (First x) = false
is_enum_in (Second xs) = true

abbrev pub literals_in : Either (Unit {0}) (List Literal) → List Literal
literals_in (First x) = []
literals_in (Second xs) = xs

abbrev pub PartsRead : Type 0
PartsRead = (ℤ × (List ℕ × Option (List ℕ))) × (List FieldMeta × (Either (Unit {0}) (List Literal) × List SchemaMeta))

-- the description of these parts
abbrev pub type_from : PartsRead → TypeMeta
type_from x = record {
  type_id = x.0.0;
  name = x.0.1.0;
  affinity = x.0.1.1;
  is_enum = is_enum_in x.1.1.0;
  fields = x.1.0;
  literals = literals_in x.1.1.0;
  schemas = x.1.1.1;
}

abbrev fields_reading : List ℕ → Field (List FieldMeta)
fields_reading = members_reading name_order string_of (both_of int_field int_field) field_of

abbrev literals_reading : List ℕ → Field (List Literal)
literals_reading = members_reading name_order string_of int_field literal_of

abbrev schemas_reading : List ℕ → Field (List SchemaMeta)
schemas_reading = members_reading int_cmp int_field (listed_of int_field) schema_of

abbrev enum_reading : List ℕ → Field (Either (Unit {0}) (List Literal))
enum_reading s = mapped_of either_of (choice_of (λ t. Ok (tt, t)) literals_reading s)

abbrev head_reading : List ℕ → Field (ℤ × (List ℕ × Option (List ℕ)))
head_reading = both_of int_field (both_of string_of nullable_string_of)

abbrev parts_reading : List ℕ → Field PartsRead
parts_reading = both_of head_reading (both_of fields_reading (both_of enum_reading schemas_reading))

abbrev pub type_reading : List ℕ → Field TypeMeta
type_reading s = mapped_of type_from (parts_reading s)

abbrev fields_view : Fields fields_format → List FieldMeta
fields_view = members_view name_order same same field_of

abbrev literals_view : Fields literals_format → List Literal
literals_view = members_view name_order same same literal_of

abbrev schemas_view : Fields schemas_format → List SchemaMeta
schemas_view = members_view int_cmp same same schema_of

abbrev enum_view : Fields enum_format → Either (Unit {0}) (List Literal)
enum_view = either_view same literals_view

abbrev parts_view : Fields type_format → PartsRead
parts_view = both_view same (both_view fields_view (both_view enum_view schemas_view))

fields_as : ReadsAs fields_view fields_reading (fields_of fields_format)
fields_as =
    members_as name_order name (both (scalar i32) (scalar i32)) same same field_of string_of (both_of int_field int_field) (λ s. mapped_same (string_of s)) (λ x y. sym (texts_ties x y))
    (λ s. mapped_same (both_of int_field int_field s))

literals_as : ReadsAs literals_view literals_reading (fields_of literals_format)
literals_as = members_as name_order name (scalar i32) same same literal_of string_of int_field (λ s. mapped_same (string_of s)) (λ x y. sym (texts_ties x y)) (λ s. mapped_same (int_field s))

schemas_as : ReadsAs schemas_view schemas_reading (fields_of schemas_format)
schemas_as =
    members_as int_cmp identifier (listed (scalar i32)) same same schema_of int_field (listed_of int_field) (λ s. mapped_same (int_field s)) (λ x y. refl)
    (λ s. mapped_same (listed_of int_field s))

enum_as : ReadsAs enum_view enum_reading (fields_of enum_format)
enum_as = choice_as same literals_view (λ s. Ok (tt, s)) (fields_of nothing) literals_reading (fields_of literals_format) (λ s. refl) literals_as

parts_as : ReadsAs parts_view parts_reading (fields_of type_format)
parts_as =
    both_as same (both_view fields_view (both_view enum_view schemas_view)) (both_of fields_reading (both_of enum_reading schemas_reading)) (both_of (fields_of fields_format) (both_of (fields_of enum_format) (fields_of schemas_format))) head_reading head_reading
    (λ s. mapped_same (head_reading s))
    (both_as fields_view (both_view enum_view schemas_view) (both_of enum_reading schemas_reading) (both_of (fields_of enum_format) (fields_of schemas_format)) fields_reading (fields_of fields_format) fields_as
    (both_as enum_view schemas_view schemas_reading (fields_of schemas_format) enum_reading (fields_of enum_format) enum_as schemas_as))

-- ---- the parts that the fields hold are those of the description that they hold

map_same : {X Y : Type 0} (xs : List (X × Y)) → map (both_view same same) xs ≡ xs
map_same [] = refl
map_same (x ∷ xs) = ap (λ (l : List _). x ∷ l) (map_same xs)

view_same : {K B M : Type 0} (compare : K → K → Ordering) (made : K × B → M) (xs : List (K × B)) → members_view compare same same made xs ≡ map made (in_key_order compare xs)
view_same {K} {B} compare made xs = ap (λ (l : List (K × B)). map made (in_key_order compare l)) (map_same xs)

type_from_view : (x : Fields type_format) → type_from (parts_view x) ≡ type_of_fields x
type_from_view (head, (fields, ((inl x), schemas))) = rw (view_same name_order field_of fields, view_same int_cmp schema_of schemas) refl
type_from_view (head, (fields, ((inr xs), schemas))) = rw (view_same name_order field_of fields, view_same name_order literal_of xs, view_same int_cmp schema_of schemas) refl

type_from_fields : (r : Field (Fields type_format)) → mapped_of type_from (mapped_of parts_view r) ≡ mapped_of type_of_fields r
type_from_fields (Ok x) = ap (λ (t : TypeMeta). Ok (t, x.1)) (type_from_view x.0)
type_from_fields (Err left) = refl

pub type_as : ReadsAs type_of_fields type_reading (fields_of type_format)
type_as s = ap (mapped_of type_from) (parts_as s) ∙ type_from_fields (fields_of type_format s)

-- the description, if there is one
abbrev pub type_in : Either (Unit {0}) TypeMeta → Option TypeMeta
type_in (First x) = None
type_in (Second t) = Some t

-- ---- bytes

abbrev pub enum_bytes : Bool → List Literal → List ℕ
enum_bytes false literals = 0 ∷ []
enum_bytes true literals = 1 ∷ listed_bytes literal_bytes literals

abbrev head_bytes : TypeMeta → List ℕ
head_bytes t = scalar_bytes i32 t.type_id ++ (string t.name ++ nullable_string t.affinity)

-- the bytes of a description as the program puts them
abbrev pub type_bytes : TypeMeta → List ℕ
type_bytes t = head_bytes t ++ (listed_bytes field_bytes t.fields ++ (enum_bytes t.is_enum t.literals ++ listed_bytes schema_bytes t.schemas))

fields_written : WritesAs (map field_parts) (listed_bytes field_bytes) (fields_bytes fields_format)
fields_written = listed_written field_parts field_bytes (both_bytes (key_bytes name) (fields_bytes (both (scalar i32) (scalar i32)))) (λ f. refl)

literals_written : WritesAs (map literal_parts) (listed_bytes literal_bytes) (fields_bytes literals_format)
literals_written = listed_written literal_parts literal_bytes (both_bytes (key_bytes name) (fields_bytes (scalar i32))) (λ l. refl)

schemas_written : WritesAs (map schema_parts) (listed_bytes schema_bytes) (fields_bytes schemas_format)
schemas_written = listed_written schema_parts schema_bytes (both_bytes (key_bytes identifier) (fields_bytes (listed (scalar i32)))) (λ s. refl)

enum_written : (is_enum : Bool) (literals : List Literal) → enum_bytes is_enum literals ≡ fields_bytes enum_format (enum_fields is_enum literals)
enum_written false literals = refl
enum_written true literals = ap (λ (l : List ℕ). 1 ∷ l) (literals_written literals)

pub type_written : WritesAs fields_of_type type_bytes (fields_bytes type_format)
type_written t = rw (fields_written t.fields, enum_written t.is_enum t.literals, schemas_written t.schemas) refl
