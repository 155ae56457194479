-- When two descriptions of one type clash, and which of their differences a refusal names.
use Rattle.std.specs.Prelude.{◌≡◌, ◌≢◌, ℕ, List, Some}
use Rattle.ig_types.specs.declared.meta.TypeMeta.{TypeMeta}
use Rattle.ig_types.specs.declared.clash.Clash.{Clash}
use Rattle.ig_types.specs.declared.clash.Clash.TheVariants.{Name, Affinity, EnumFlag, Field, Literal, Schema}
use Rattle.ig_types.specs.declared.clash.JoinFault.{JoinFault}
use Rattle.ig_types.specs.declared.clash.JoinFault.TheVariants as fault
use Rattle.ig_types.specs.IsInOrder.{by_field, by_literal, by_schema}
use Rattle.ig_types.specs.Members.{Agree, DifferFirst}

-- if both have an affinity key, the keys are equal
abbrev pub AffinitiesAgree : TypeMeta → TypeMeta → Type 0
AffinitiesAgree a b = (m n : List ℕ) → a.affinity ≡ Some m → b.affinity ≡ Some n → m ≡ n

-- the names and enum flags are equal, and the affinity keys agree
pub record HeadsAgree (a b : TypeMeta) : Type 0 where
  pub name : a.name ≡ b.name
  pub affinity : AffinitiesAgree a b
  pub is_enum : a.is_enum ≡ b.is_enum

-- a and b don't clash: beside what HeadsAgree says, no field name has two kinds or identifiers, no literal
-- name two ordinals, and no schema identifier two lists of fields
pub record AgreeOnAll (a b : TypeMeta) : Type 0 where
  pub heads : HeadsAgree a b
  pub fields : Agree by_field a.fields b.fields
  pub literals : Agree by_literal a.literals b.literals
  pub schemas : Agree by_schema a.schemas b.schemas

-- the clash is the first difference of a and b, in the order name, affinity key, enum flag, fields, literals,
-- schemas, and in a list the one with the lowest key. It holds what a says and what b says
abbrev pub IsFirstClash : TypeMeta → TypeMeta → Clash → Type 0
IsFirstClash a b (Name m n) = (m ≡ a.name) × (n ≡ b.name) × (m ≢ n)
IsFirstClash a b (Affinity m n) =
    (a.name ≡ b.name) × (a.affinity ≡ Some m) × (b.affinity ≡ Some n) × (m ≢ n)
IsFirstClash a b (EnumFlag m n) =
    (a.name ≡ b.name) × AffinitiesAgree a b × (m ≡ a.is_enum) × (n ≡ b.is_enum) × (m ≢ n)
IsFirstClash a b (Field x y) = HeadsAgree a b × DifferFirst by_field a.fields b.fields x y
IsFirstClash a b (Literal x y) =
    HeadsAgree a b × Agree by_field a.fields b.fields
    × DifferFirst by_literal a.literals b.literals x y
IsFirstClash a b (Schema x y) =
    HeadsAgree a b × Agree by_field a.fields b.fields × Agree by_literal a.literals b.literals
    × DifferFirst by_schema a.schemas b.schemas x y

-- if the fault is a clash, P holds of that clash
abbrev pub IfClash : JoinFault → (Clash → Type 0) → Type 0
IfClash (fault.Clash c) P = P c
IfClash fault.NoMemory P = Unit {0}
