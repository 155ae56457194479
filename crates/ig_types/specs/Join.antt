-- The join of two descriptions of one type, and their clash, as functions.
use Rattle.std.specs.Prelude.{◌≡◌, ℕ, Bool, true, false, ◌&&◌, nat_eq, if◌then◌else◌, Option, Some, None, List, Result, Ok, Err, option_map}
use Rattle.std.specs.Ordering.{int_eq}
use Rattle.std.specs.Option.{option_or}
use Rattle.std.specs.Cmp.Lexicographic.{pointwise}
use Rattle.ig_types.specs.declared.meta.FieldMeta.{FieldMeta}
use Rattle.ig_types.specs.declared.meta.Literal.{Literal}
use Rattle.ig_types.specs.declared.meta.SchemaMeta.{SchemaMeta}
use Rattle.ig_types.specs.declared.meta.TypeMeta.{TypeMeta}
use Rattle.ig_types.specs.declared.clash.Clash.{Clash}
use Rattle.ig_types.specs.declared.clash.Clash.TheVariants as clash
use Rattle.ig_types.specs.declared.clash.JoinFault.{JoinFault}
use Rattle.ig_types.specs.declared.clash.JoinFault.TheVariants as fault
use Rattle.ig_types.specs.IsInOrder.{by_field, by_literal, by_schema}
use Rattle.ig_types.specs.Members.{with_members, first_differing_pair}

-- tests whether two names are equal
abbrev pub same_name : List ℕ → List ℕ → Bool
same_name = pointwise nat_eq

-- tests whether two fields have equal names, kinds and identifiers
abbrev pub same_field : FieldMeta → FieldMeta → Bool
same_field x y = same_name x.name y.name && int_eq x.kind y.kind && int_eq x.id y.id

-- tests whether two literals have equal names and ordinals
abbrev pub same_literal : Literal → Literal → Bool
same_literal x y = same_name x.name y.name && int_eq x.ordinal y.ordinal

-- tests whether two schemas have equal identifiers and lists of fields
abbrev pub same_schema : SchemaMeta → SchemaMeta → Bool
same_schema x y = int_eq x.id y.id && pointwise int_eq x.ids y.ids

-- two names clash if they differ
abbrev pub name_clash : List ℕ → List ℕ → Option Clash
name_clash m n = if same_name m n then None else Some (clash.Name m n)

-- two affinity keys clash if both are there and differ
abbrev pub affinity_clash : Option (List ℕ) → Option (List ℕ) → Option Clash
affinity_clash (Some m) (Some n) = if same_name m n then None else Some (clash.Affinity m n)
affinity_clash _ _ = None

-- two enum flags clash if they differ
abbrev pub flag_clash : Bool → Bool → Option Clash
flag_clash true false = Some (clash.EnumFlag true false)
flag_clash false true = Some (clash.EnumFlag false true)
flag_clash _ _ = None

-- two lists of fields clash at the first name that has two kinds or identifiers
abbrev pub field_clash : List FieldMeta → List FieldMeta → Option Clash
field_clash xs ys =
    option_map (λ p. clash.Field p.0 p.1) (first_differing_pair by_field same_field xs ys)

-- two lists of literals clash at the first name that has two ordinals
abbrev pub literal_clash : List Literal → List Literal → Option Clash
literal_clash xs ys =
    option_map (λ p. clash.Literal p.0 p.1) (first_differing_pair by_literal same_literal xs ys)

-- two lists of schemas clash at the lowest identifier that has two lists of fields
abbrev pub schema_clash : List SchemaMeta → List SchemaMeta → Option Clash
schema_clash xs ys =
    option_map (λ p. clash.Schema p.0 p.1) (first_differing_pair by_schema same_schema xs ys)

-- the first clash of two descriptions, in the order name, affinity key, enum flag, fields, literals,
-- schemas
unfoldable pub clash_of : TypeMeta → TypeMeta → Option Clash
clash_of a b =
    option_or (name_clash a.name b.name)
    (option_or (affinity_clash a.affinity b.affinity)
    (option_or (flag_clash a.is_enum b.is_enum)
    (option_or (field_clash a.fields b.fields)
    (option_or (literal_clash a.literals b.literals)
    (schema_clash a.schemas b.schemas)))))

-- the description that says what two descriptions say together, if they don't clash
unfoldable pub joined : TypeMeta → TypeMeta → TypeMeta
joined a b = record {
  type_id = a.type_id;
  name = a.name;
  affinity = option_or a.affinity b.affinity;
  is_enum = a.is_enum;
  fields = with_members by_field a.fields b.fields;
  literals = with_members by_literal a.literals b.literals;
  schemas = with_members by_schema a.schemas b.schemas;
}

-- without a clash the result is the value, and otherwise it is the clash; a call may also run out of
-- memory
abbrev pub IsOutcome : {V : Type 0} → Result V JoinFault → Option Clash → V → Type 0
IsOutcome (Ok v) c w = (c ≡ None) × (v ≡ w)
IsOutcome (Err (fault.Clash d)) c w = c ≡ Some d
IsOutcome (Err fault.NoMemory) c w = Unit {0}
