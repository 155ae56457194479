-- Strictly sorted lists: their first element and their tail, what they contain, and the test that a list is sorted.
use Rattle.std.proofs.Common.{◌≡◌, true, zero, suc, ◌⊎◌, List, [], ◌∷◌, refl, sym, ap, subst, ◌∙◌, inl, inr, arith, Contains}
use Rattle.std.specs.List.{AllByRecursion}
use Rattle.std.specs.List.Sorted.{IsStrictlySortedBy}
use Rattle.std.specs.Ordering.{ordering_reverse, is_lt}
use Rattle.std.specs.Cmp.{IsTotalOrder}
use Rattle.std.specs.declared.cmp.Ordering.{Ordering}
use Rattle.std.specs.declared.cmp.Ordering.TheVariants.{Less, Equal, Greater}

-- ---- membership, by the first element and the tail
pub contains_nil : {X : Type 0} (z : X) → Contains [] z → ⊥
contains_nil z (k, lt, e) = omega arith

pub contains_first : {X : Type 0} (x : X) (xs : List X) → Contains (x ∷ xs) x
contains_first x xs = (zero, omega arith, refl)

pub contains_later : {X : Type 0} (x : X) (xs : List X) (z : X) → Contains xs z → Contains (x ∷ xs) z
contains_later x xs z (k, lt, e) = (suc k, omega (arith, lt), e)

pub contains_cases : {X : Type 0} (x : X) (xs : List X) (z : X) → Contains (x ∷ xs) z → (z ≡ x) ⊎ Contains xs z
contains_cases x xs z (zero, lt, e) = inl (sym e)
contains_cases x xs z (suc k, lt, e) = inr (k, omega (arith, lt), e)

-- ---- facts that hold of each element
pub each_weaker : {X : Type 0} (P Q : X → Type 0) → ((x : X) → P x → Q x) → (xs : List X) → AllByRecursion P xs → AllByRecursion Q xs
each_weaker P Q weaker [] all = tt
each_weaker P Q weaker (x ∷ xs) all = (weaker x all.0, each_weaker P Q weaker xs all.1)

pub each_at : {X : Type 0} (P : X → Type 0) (xs : List X) (z : X) → AllByRecursion P xs → Contains xs z → P z
each_at P [] z all is_in = absurd (contains_nil z is_in)
each_at P (x ∷ xs) z all is_in = elim (contains_cases x xs z is_in) [
  | inl e ↦ subst P (sym e) all.0
  | inr later ↦ each_at P xs z all.1 later
]

-- ---- an order and the lists that are sorted by it
module _ {X : Type 0} (rank : X → X → Ordering) where
  -- x is less than each of ys
  abbrev pub Before : X → List X → Type 0
  Before x ys = AllByRecursion (λ y. rank x y ≡ Less) ys

  pub sorted_first : (x : X) (xs : List X) → IsStrictlySortedBy rank (x ∷ xs) → Before x xs
  unfolding IsStrictlySortedBy
  sorted_first x xs sorted = sorted.0

  pub sorted_later : (x : X) (xs : List X) → IsStrictlySortedBy rank (x ∷ xs) → IsStrictlySortedBy rank xs
  unfolding IsStrictlySortedBy
  sorted_later x xs sorted = sorted.1

  pub sorted_nil : IsStrictlySortedBy rank []
  unfolding IsStrictlySortedBy
  sorted_nil = tt

  pub sorted_cons : (x : X) (xs : List X) → Before x xs → IsStrictlySortedBy rank xs → IsStrictlySortedBy rank (x ∷ xs)
  unfolding IsStrictlySortedBy
  sorted_cons x xs before sorted = (before, sorted)

-- the order with its arguments swapped
pub more_from_less : {X : Type 0} (rank : X → X → Ordering) → IsTotalOrder rank → (x y : X) → rank x y ≡ Less → rank y x ≡ Greater
more_from_less rank o x y less = o.antisymm y x ∙ ap ordering_reverse less

pub less_from_more : {X : Type 0} (rank : X → X → Ordering) → IsTotalOrder rank → (x y : X) → rank x y ≡ Greater → rank y x ≡ Less
less_from_more rank o x y more = o.antisymm y x ∙ ap ordering_reverse more

-- if x is less than y, it is less than all that y is less than
pub before_all : {X : Type 0} (rank : X → X → Ordering) → IsTotalOrder rank → (x y : X) (ys : List X) → rank x y ≡ Less → Before rank y ys → Before rank x ys
before_all rank o x y ys less = each_weaker (λ z. rank y z ≡ Less) (λ z. rank x z ≡ Less) (λ z. o.trans x y z less) ys

-- if x ties with y, it is less than all that y is less than
pub tied_before_all : {X : Type 0} (rank : X → X → Ordering) → IsTotalOrder rank → (x y : X) (ys : List X) → rank x y ≡ Equal → Before rank y ys → Before rank x ys
tied_before_all rank o x y ys tied = each_weaker (λ z. rank y z ≡ Less) (λ z. rank x z ≡ Less) (λ z less. o.congr x y z tied ∙ less) ys

-- a sorted list stays sorted with a smaller element in front
pub sorted_more : {X : Type 0} (rank : X → X → Ordering) → IsTotalOrder rank → (x y : X) (ys : List X) → rank x y ≡ Less → IsStrictlySortedBy rank (y ∷ ys) → IsStrictlySortedBy rank (x ∷ y ∷ ys)
sorted_more rank o x y ys less sorted = sorted_cons rank x (y ∷ ys) (less, before_all rank o x y ys less (sorted_first rank y ys sorted)) sorted

-- ---- the loop invariant of the test: the last element seen and the rest are sorted exactly where the whole list is
pub record Ascends {X : Type 0} (rank : X → X → Ordering) (last : X) (rest all : List X) : Type 0 where
  pub there : IsStrictlySortedBy rank (last ∷ rest) → IsStrictlySortedBy rank all
  pub back : IsStrictlySortedBy rank all → IsStrictlySortedBy rank (last ∷ rest)

module _ {X : Type 0} (rank : X → X → Ordering) (o : IsTotalOrder rank) where
  pub ascends_from : (x : X) (xs all : List X) → all ≡ x ∷ xs → Ascends rank x xs all
  ascends_from x xs all is = record { there = subst (IsStrictlySortedBy rank) (sym is); back = subst (IsStrictlySortedBy rank) is }

  pub ascends_on : (x y : X) (xs ys all : List X) → Ascends rank x xs all → xs ≡ y ∷ ys → rank x y ≡ Less → Ascends rank y ys all
  ascends_on x y xs ys all walk is less = record {
    there = λ sorted. walk.there (subst (λ zs. IsStrictlySortedBy rank (x ∷ zs)) (sym is) (sorted_more rank o x y ys less sorted));
    back = λ sorted. sorted_later rank x (y ∷ ys) (subst (λ zs. IsStrictlySortedBy rank (x ∷ zs)) is (walk.back sorted));
  }

  pub ascends_end : (x : X) (xs all : List X) → Ascends rank x xs all → xs ≡ [] → IsStrictlySortedBy rank all
  ascends_end x xs all walk none = walk.there (subst (λ zs. IsStrictlySortedBy rank (x ∷ zs)) (sym none) (sorted_cons rank x [] tt (sorted_nil rank)))

  pub ascends_not : (x y : X) (xs ys all : List X) → Ascends rank x xs all → xs ≡ y ∷ ys → (rank x y ≡ Less → ⊥) → IsStrictlySortedBy rank all → ⊥
  ascends_not x y xs ys all walk is not sorted = not (sorted_first rank x (y ∷ ys) (subst (λ zs. IsStrictlySortedBy rank (x ∷ zs)) is (walk.back sorted))).0

pub less_from_test : (r : Ordering) → true ≡ is_lt r → r ≡ Less
less_from_test Less e = refl
less_from_test Equal e = absurd (cc)
less_from_test Greater e = absurd (cc)
