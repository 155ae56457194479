-- Lists of members (fields, literals or schemas), in which each member has a key. `rank` compares two
-- members by their keys alone, and `same` tests whether two members are equal.
use Rattle.std.specs.Prelude.{◌≡◌, ◌≢◌, Bool, not, ◌&&◌, Option, None, List, [], ◌∷◌, Contains, find, option_map}
use Rattle.std.specs.Option.{option_or}
use Rattle.std.specs.Ordering.{is_eq, match_ordering}
use Rattle.std.specs.declared.cmp.Ordering.{Ordering}
use Rattle.std.specs.declared.cmp.Ordering.TheVariants.{Less, Equal}

-- a member of xs and a member of ys with the same key are equal
abbrev pub Agree : {X : Type 0} → (X → X → Ordering) → List X → List X → Type 0
Agree {X} rank xs ys = (x y : X) → Contains xs x → Contains ys y → rank x y ≡ Equal → x ≡ y

-- x of xs and y of ys have the same key and are not equal
pub record Differ {X : Type 0} (rank : X → X → Ordering) (xs ys : List X) (x y : X) : Type 0 where
  pub of_first : Contains xs x
  pub of_second : Contains ys y
  pub one_key : rank x y ≡ Equal
  pub apart : x ≢ y

-- x and y differ, and no two members with a lower key do
pub record DifferFirst {X : Type 0} (rank : X → X → Ordering) (xs ys : List X) (x y : X) : Type 0 where
  pub differ : Differ rank xs ys x y
  pub none_before : (v w : X) → Differ rank xs ys v w → rank v x ≢ Less

-- the list with y inserted in the order of the keys, or the same list if it has a member with this key
abbrev pub with_member : {X : Type 0} → (X → X → Ordering) → X → List X → List X
with_member rank y [] = y ∷ []
with_member rank y (x ∷ xs) = match_ordering (rank y x) (y ∷ x ∷ xs) (x ∷ xs) (x ∷ with_member rank y xs)

-- the members of both lists, in the order of the keys; for a key of both lists the member of the first
abbrev pub with_members : {X : Type 0} → (X → X → Ordering) → List X → List X → List X
with_members rank xs [] = xs
with_members rank xs (y ∷ ys) = with_member rank y (with_members rank xs ys)

-- the member of ys that has the key of x and is not equal to x
abbrev pub differing_member : {X : Type 0} → (X → X → Ordering) → (X → X → Bool) → X → List X → Option X
differing_member rank same x ys = find (λ y. is_eq (rank x y) && not (same x y)) ys

-- the first member of xs that differs from a member of ys with the same key, and that member of ys
abbrev pub first_differing_pair :
    {X : Type 0} → (X → X → Ordering) → (X → X → Bool) → List X → List X → Option (X × X)
first_differing_pair rank same [] ys = None
first_differing_pair rank same (x ∷ xs) ys =
    option_or (option_map (λ y. (x, y)) (differing_member rank same x ys)) (first_differing_pair rank same xs ys)
