-- What a registry holds, and what a put and a new name leave in it.
use Rattle.std.specs.Prelude.{◌≡◌, ◌≢◌, ℕ, ℤ, Bool, true, List, Option, Some, MatchOption, Contains, option_and_then}
use Rattle.std.specs.Option.{option_map_or}
use Rattle.std.specs.Ordering.{nat_cmp, int_cmp, ordering_then}
use Rattle.std.specs.declared.cmp.Ordering.{Ordering}
use Rattle.std.specs.FinMap as map
use Rattle.std.specs.FinMap.{FinMap}
use Rattle.ig_types.specs.declared.meta.TypeMeta.{TypeMeta}
use Rattle.ig_types.specs.declared.clash.Clash.{Clash}
use Rattle.ig_types.specs.IsInOrder.{IsInOrder}
use Rattle.ig_types.specs.IsBelow.{IsBelow}
use Rattle.ig_types.specs.Clash.{IsFirstClash}
use Rattle.ig_types.specs.Join.{same_name, clash_of, joined}

-- a name belongs to a platform and a type identifier, which are compared in this order
abbrev pub by_place : ℕ × ℤ → ℕ × ℤ → Ordering
by_place p q = ordering_then (nat_cmp p.0 q.0) (int_cmp p.1 q.1)

-- a registry maps type identifiers to descriptions, and platforms with type identifiers to names
pub record Registered : Type 0 where
  pub types : FinMap int_cmp TypeMeta
  pub names : FinMap by_place (List ℕ)

-- the registry without types and names
abbrev pub empty_registry : Registered
empty_registry = record { types = map.empty; names = map.empty }

-- each description is in order and has the identifier that it is registered under
abbrev pub IsWellFormed : Registered → Type 0
IsWellFormed r = (id : ℤ) (t : TypeMeta) → map.get r.types id ≡ Some t → (t.type_id ≡ id) × IsInOrder t

-- ---- types
-- the clash of the description that is registered under the identifier of m, if there is one, with m
abbrev pub put_clash : Registered → TypeMeta → Option Clash
put_clash r m = option_and_then (λ t. clash_of t m) (map.get r.types m.type_id)

-- a put of m registers the join of what is registered under its identifier and m, or m where nothing is
abbrev pub type_after_put : Registered → TypeMeta → TypeMeta
type_after_put r m = option_map_or (λ t. joined t m) (map.get r.types m.type_id) m

-- a put of m changes what is registered under its identifier, and nothing else
abbrev pub registry_after_put : Registered → TypeMeta → Registered
registry_after_put r m = record r { types = map.insert r.types m.type_id (type_after_put r m) }

-- c is the first clash of the description that is registered under the identifier of m with m
pub record IsPutClash (r : Registered) (m : TypeMeta) (c : Clash) : Type 0 where
  pub registered : TypeMeta
  pub found : map.get r.types m.type_id ≡ Some registered
  pub first : IsFirstClash registered m c

-- t is the least upper bound of the descriptions with the identifier among ms
pub record IsJoinOf (t : TypeMeta) (id : ℤ) (ms : List TypeMeta) : Type 0 where
  pub above : (m : TypeMeta) → Contains ms m → m.type_id ≡ id → IsBelow m t
  pub least :
      (u : TypeMeta) → ((m : TypeMeta) → Contains ms m → m.type_id ≡ id → IsBelow m u) → IsBelow t u

-- none of the descriptions has the identifier
abbrev pub HasNoneOf : ℤ → List TypeMeta → Type 0
HasNoneOf id ms = (m : TypeMeta) → Contains ms m → m.type_id ≢ id

-- for each identifier the registry holds the join of its descriptions among ms, or nothing without any
abbrev pub HoldsJoinsOf : Registered → List TypeMeta → Type 0
HoldsJoinsOf r ms = (id : ℤ) → MatchOption (map.get r.types id) (HasNoneOf id ms) (λ t. IsJoinOf t id ms)

-- ---- names
-- tests that no other name is registered for the platform and the type identifier
abbrev pub admits_name : Registered → ℕ × ℤ → List ℕ → Bool
admits_name r place name = option_map_or (λ n. same_name n name) (map.get r.names place) true

-- a name is registered where there is none yet, and a registered name never changes
abbrev pub registry_after_name : Registered → ℕ × ℤ → List ℕ → Registered
registry_after_name r place name =
    option_map_or (λ _. r) (map.get r.names place) (record r { names = map.insert r.names place name })
