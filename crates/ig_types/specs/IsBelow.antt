-- When one description of a type says no more than another, and the least description above two.
use Rattle.std.specs.Prelude.{◌≡◌, Some, List, Contains, IfSome}
use Rattle.ig_types.specs.declared.meta.TypeMeta.{TypeMeta}

-- each element of xs is an element of ys
abbrev pub IsWithin : {X : Type 0} → List X → List X → Type 0
IsWithin {X} xs ys = (x : X) → Contains xs x → Contains ys x

-- b says everything that a says: the identifiers, names and enum flags are equal, b has the affinity key of
-- a if a has one, and each field, literal and schema of a is one of b
pub record IsBelow (a b : TypeMeta) : Type 0 where
  pub type_id : a.type_id ≡ b.type_id
  pub name : a.name ≡ b.name
  pub affinity : IfSome a.affinity (λ key. b.affinity ≡ Some key)
  pub is_enum : a.is_enum ≡ b.is_enum
  pub fields : IsWithin a.fields b.fields
  pub literals : IsWithin a.literals b.literals
  pub schemas : IsWithin a.schemas b.schemas

-- m is the least upper bound of a and b
pub record IsLeastAbove (a b m : TypeMeta) : Type 0 where
  pub first : IsBelow a m
  pub second : IsBelow b m
  pub least : (u : TypeMeta) → IsBelow a u → IsBelow b u → IsBelow m u
