-- The text of a description of a type.
use Rattle.std.specs.Prelude.{ℕ, ℤ, Bool, true, false, not, ◌&&◌, ◌||◌, List, [], ◌∷◌, ◌++◌, length, drop, codes, Option, Ok, Err, if◌then◌else◌}
use Rattle.std.specs.declared.cmp.Ordering.{Ordering}
use Rattle.std.specs.declared.cmp.Ordering.TheVariants.{Less}
use Rattle.ig_value.specs.Part.{i32}
use Rattle.ig_types.specs.declared.meta.FieldMeta.{FieldMeta}
use Rattle.ig_types.specs.declared.meta.Literal.{Literal}
use Rattle.ig_types.specs.declared.meta.SchemaMeta.{SchemaMeta}
use Rattle.ig_types.specs.declared.meta.TypeMeta.{TypeMeta}
use Rattle.ig_types.specs.IsInOrder.{by_field, by_literal, by_schema}
use Rattle.ig_text.specs.ReadText.{Read, ◌>>=◌, mapped_read, checked_read, mark_at, begins_with, joined_at, scalar_at, quoted_at, optional_at, items_at}
use Rattle.ig_text.specs.TextOf.{optional_text}
use Rattle.ig_text.specs.Tokens.{colon, equals, open_bracket, close_bracket, open_brace, close_brace, scalar_text, quoted, items_text}

abbrev pub slash : ℕ
slash = 47

-- ---- texts

-- a field: its name, its kind and its identifier
abbrev pub field_text : FieldMeta → List ℕ
field_text f = quoted f.name ++ equals ∷ (scalar_text i32 f.kind ++ slash ∷ scalar_text i32 f.id)

abbrev pub literal_text : Literal → List ℕ
literal_text l = quoted l.name ++ equals ∷ scalar_text i32 l.ordinal

-- a schema: its identifier, and those of its fields
abbrev pub schema_text : SchemaMeta → List ℕ
schema_text s = scalar_text i32 s.id ++ equals ∷ open_bracket ∷ items_text close_bracket (scalar_text i32) s.ids

-- whether a type is an enum
abbrev pub enum_text : Bool → List ℕ
enum_text false = codes "0"
enum_text true = codes "1"

abbrev pub braced : {A : Type 0} → (A → List ℕ) → List A → List ℕ
braced text xs = open_brace ∷ items_text close_brace text xs

-- what stands before the lists
abbrev pub head_text : TypeMeta → List ℕ
head_text m = scalar_text i32 m.type_id ++ colon ∷ (quoted m.name ++ colon ∷ (optional_text quoted m.affinity ++ colon ∷ enum_text m.is_enum))

abbrev pub lists_text : TypeMeta → List ℕ
lists_text m = braced field_text m.fields ++ (braced literal_text m.literals ++ braced schema_text m.schemas)

abbrev pub description_text : TypeMeta → List ℕ
description_text m = codes "type:" ++ (head_text m ++ lists_text m)

-- ---- reading

abbrev pub field_at : List ℕ → Read FieldMeta
field_at s = mapped_read (λ x. record { name = x.0; kind = x.1.0; id = x.1.1 }) (joined_at quoted_at equals (joined_at (scalar_at i32) slash (scalar_at i32)) s)

abbrev pub literal_at : List ℕ → Read Literal
literal_at s = mapped_read (λ x. record { name = x.0; ordinal = x.1 }) (joined_at quoted_at equals (scalar_at i32) s)

abbrev pub ids_at : List ℕ → Read (List ℤ)
ids_at s = mark_at open_bracket s >>= λ m. items_at (scalar_at i32) close_bracket m.1

abbrev pub schema_at : List ℕ → Read SchemaMeta
schema_at s = mapped_read (λ x. record { id = x.0; ids = x.1 }) (joined_at (scalar_at i32) equals ids_at s)

abbrev pub enum_at : List ℕ → Read Bool
enum_at s = if begins_with (codes "0") s then Ok (false, drop 1 s) else if begins_with (codes "1") s then Ok (true, drop 1 s) else Err (length s)

abbrev pub braced_at : {A : Type 0} → (List ℕ → Read A) → List ℕ → Read (List A)
braced_at one s = mark_at open_brace s >>= λ m. items_at one close_brace m.1

-- two parts, one after the other
abbrev pub adjacent_at : {A B : Type 0} → (List ℕ → Read A) → (List ℕ → Read B) → List ℕ → Read (A × B)
adjacent_at first second s = do
  x ← first s
  y ← second x.1
  Ok ((x.0, y.0), y.1)

-- the three lists
abbrev pub Lists : Type 0
Lists = List FieldMeta × (List Literal × List SchemaMeta)

abbrev pub lists_at : List ℕ → Read Lists
lists_at s = adjacent_at (braced_at field_at) (adjacent_at (braced_at literal_at) (braced_at schema_at)) s

-- the identifier, the name, the affinity key, and whether the type is an enum
abbrev pub Head : Type 0
Head = ℤ × (List ℕ × (Option (List ℕ) × Bool))

abbrev pub head_at : List ℕ → Read Head
head_at s = joined_at (scalar_at i32) colon (joined_at quoted_at colon (joined_at (optional_at quoted_at) colon enum_at)) s

abbrev pub description_of : Head × Lists → TypeMeta
description_of x =
    record { type_id = x.0.0; name = x.0.1.0; affinity = x.0.1.1.0; is_enum = x.0.1.1.1; fields = x.1.0; literals = x.1.1.0; schemas = x.1.1.1 }

-- what follows a word
abbrev pub after_word : {A : Type 0} → List ℕ → (List ℕ → Read A) → List ℕ → Read A
after_word word one s = if begins_with word s then one (drop (length word) s) else Err (length s)

abbrev pub whole_at : List ℕ → Read TypeMeta
whole_at s = mapped_read description_of (after_word (codes "type:") (adjacent_at head_at lists_at) s)

-- ---- order

abbrev pub is_less : Ordering → Bool
is_less Less = true
is_less _ = false

-- each item is less than the next
abbrev pub ascends : {A : Type 0} → (A → A → Ordering) → List A → Bool
ascends by [] = true
ascends by (x ∷ []) = true
ascends by (x ∷ y ∷ xs) = is_less (by x y) && ascends by (y ∷ xs)

abbrev pub is_none : {A : Type 0} → List A → Bool
is_none [] = true
is_none (x ∷ xs) = false

abbrev pub is_in_order : TypeMeta → Bool
is_in_order m = ascends by_field m.fields && (ascends by_literal m.literals && (ascends by_schema m.schemas && (m.is_enum || is_none m.literals)))

abbrev pub description_at : List ℕ → Read TypeMeta
description_at s = checked_read is_in_order (length s) (whole_at s)
