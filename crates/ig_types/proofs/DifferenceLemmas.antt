-- The first differing pair of two lists is where they differ first, and without one they agree.
use Rattle.std.proofs.Common.{◌≡◌, ◌≢◌, ◌⊎◌, Bool, true, false, Decides, cond, not, ◌&&◌, List, [], ◌∷◌, Option, Some, None, Contains, find, option_map, refl, sym, ap, subst, ◌∙◌, inl, inr}
use Rattle.std.specs.List.Sorted.{IsStrictlySortedBy}
use Rattle.std.specs.Option.{option_or}
use Rattle.std.specs.Ordering.{is_eq}
use Rattle.std.specs.Cmp.{IsTotalOrder}
use Rattle.std.specs.declared.cmp.Ordering.{Ordering}
use Rattle.std.specs.declared.cmp.Ordering.TheVariants.{Less, Equal, Greater}
use Rattle.std.proofs.lemmas.Cmp.{tied_itself}
use Rattle.ig_types.specs.Members.{Agree, Differ, DifferFirst, differing_member, first_differing_pair}
use Rattle.ig_types.proofs.AscendingLemmas.{contains_nil, contains_first, contains_later, contains_cases, each_at, sorted_first, sorted_later, more_from_less}

-- ---- options
pub none_both : {A : Type 0} (p q : Option A) → option_or p q ≡ None → (p ≡ None) × (q ≡ None)
none_both None q e = (refl, e)
none_both (Some x) q e = absurd (cc)

pub some_either : {A : Type 0} (p q : Option A) (x : A) → option_or p q ≡ Some x → (p ≡ Some x) ⊎ ((p ≡ None) × (q ≡ Some x))
some_either None q x e = inr (refl, e)
some_either (Some y) q x e = inl e

pub none_under : {A B : Type 0} (f : A → B) (p : Option A) → option_map f p ≡ None → p ≡ None
none_under f None e = refl
none_under f (Some x) e = absurd (cc)

pub some_under : {A B : Type 0} (f : A → B) (p : Option A) (y : B) → option_map f p ≡ Some y → (x : A) × (p ≡ Some x) × (f x ≡ y)
some_under f None y e = absurd (cc)
some_under f (Some x) y e = (x, refl, cc)

-- ---- a search through a list
pub find_none : {X : Type 0} (p : X → Bool) (ys : List X) (y : X) → find p ys ≡ None → Contains ys y → p y ≡ false
find_none p [] y none is_in = absurd (contains_nil y is_in)
find_none p (z ∷ zs) y none is_in =
    elim (p z) as (λ b. p z ≡ b → cond b (Some z) (find p zs) ≡ None → p y ≡ false) [
      | true ↦ λ e n. absurd (cc)
      | false ↦ λ e n. elim (contains_cases z zs y is_in) [ inl is ↦ ap p is ∙ e | inr later ↦ find_none p zs y n later ]
    ] refl none

pub find_some : {X : Type 0} (p : X → Bool) (ys : List X) (y : X) → find p ys ≡ Some y → Contains ys y × (p y ≡ true)
find_some p [] y found = absurd (cc)
find_some p (z ∷ zs) y found =
    elim (p z) as (λ b. p z ≡ b → cond b (Some z) (find p zs) ≡ Some y → Contains (z ∷ zs) y × (p y ≡ true)) [
      | true ↦ λ e f. let is : z ≡ y = cc in (subst (Contains (z ∷ zs)) is (contains_first z zs), sym (ap p is) ∙ e)
      | false ↦ λ e f. let later = find_some p zs y f in (contains_later z zs y later.0, later.1)
    ] refl found

module _ {X : Type 0} (rank : X → X → Ordering) (same : X → X → Bool) (exact : (x y : X) → Decides (same x y) (x ≡ y)) where
  -- without a differing member, members with the same key are equal
  none_differs : (x : X) (ys : List X) → differing_member rank same x ys ≡ None → (y : X) → Contains ys y → rank x y ≡ Equal → x ≡ y
  none_differs x ys none y is_in tied =
      let no : (is_eq (rank x y) && not (same x y)) ≡ false = find_none (λ z. is_eq (rank x z) && not (same x z)) ys y none is_in in
      (exact x y).0 (is_same (same x y) (rw tied at no))
    where
      is_same : (b : Bool) → not b ≡ false → b ≡ true
      is_same true e = refl
      is_same false e = absurd (cc)

  pub agree_from_none : (xs ys : List X) → first_differing_pair rank same xs ys ≡ None → Agree rank xs ys
  agree_from_none [] ys none x y x_in y_in tied = absurd (contains_nil x x_in)
  agree_from_none (x ∷ xs) ys none u y u_in y_in tied =
      let both = none_both (option_map (λ z. (x, z)) (differing_member rank same x ys)) (first_differing_pair rank same xs ys) none in
      elim (contains_cases x xs u u_in) [
        | inl is ↦ is ∙ none_differs x ys (none_under (λ z. (x, z)) (differing_member rank same x ys) both.0) y y_in (sym (ap (λ z. rank z y) is) ∙ tied)
        | inr later ↦ agree_from_none xs ys both.1 u y later y_in tied
      ]

  differing_differs : (x y : X) (ys : List X) → differing_member rank same x ys ≡ Some y → Contains ys y × (rank x y ≡ Equal) × (x ≢ y)
  differing_differs x y ys found =
      let it = find_some (λ z. is_eq (rank x z) && not (same x z)) ys y found in
      (it.0, tied (rank x y) (same x y) it.1, λ e. apart (rank x y) (same x y) it.1 ((exact x y).1 e))
    where
      tied : (r : Ordering) (b : Bool) → is_eq r && not b ≡ true → r ≡ Equal
      tied Less b e = absurd (cc)
      tied Equal b e = refl
      tied Greater b e = absurd (cc)

      apart : (r : Ordering) (b : Bool) → is_eq r && not b ≡ true → b ≡ true → ⊥
      apart Less b e is = cc
      apart Equal true e is = cc
      apart Equal false e is = cc
      apart Greater b e is = cc

  module _ (o : IsTotalOrder rank) where
    -- no two members differ under a lower key than that of the first member
    first_stays_first : (x y : X) (xs ys : List X) → IsStrictlySortedBy rank (x ∷ xs) → (v w : X) → Differ rank (x ∷ xs) ys v w → rank v x ≢ Less
    first_stays_first x y xs ys sorted v w differ less = elim (contains_cases x xs v differ.of_first) [
      | inl is ↦ let tied : rank x x ≡ Equal = tied_itself o x in cc
      | inr later ↦
          let more : rank v x ≡ Greater = more_from_less rank o x v (each_at (λ z. rank x z ≡ Less) xs v (sorted_first rank x xs sorted) later) in
          cc
    ]

    pub differ_from_some : (xs ys : List X) → IsStrictlySortedBy rank xs → (p : X × X) → first_differing_pair rank same xs ys ≡ Some p → DifferFirst rank xs ys p.0 p.1
    differ_from_some [] ys sorted p found = absurd (cc)
    differ_from_some (x ∷ xs) ys sorted p found =
        elim (differing_member rank same x ys) as (λ r. differing_member rank same x ys ≡ r → option_or (option_map (λ z. (x, z)) r) (first_differing_pair rank same xs ys) ≡ Some p → DifferFirst rank (x ∷ xs) ys p.0 p.1) [
          | None ↦ λ is f. later is (differ_from_some xs ys (sorted_later rank x xs sorted) p f)
          | Some y ↦ λ is f. let here : ◌≡◌ {A = X × X} (x, y) p = cc in subst (λ (q : X × X). DifferFirst rank (x ∷ xs) ys q.0 q.1) here (now y is)
        ] refl found
      where
        now : (y : X) → differing_member rank same x ys ≡ Some y → DifferFirst rank (x ∷ xs) ys x y
        now y is =
            let it = differing_differs x y ys is in
            record {
              differ = record { of_first = contains_first x xs; of_second = it.0; one_key = it.1; apart = it.2 };
              none_before = first_stays_first x y xs ys sorted;
            }

        later : differing_member rank same x ys ≡ None → DifferFirst rank xs ys p.0 p.1 → DifferFirst rank (x ∷ xs) ys p.0 p.1
        later none first = record {
          differ = record { of_first = contains_later x xs p.0 first.differ.of_first; of_second = first.differ.of_second; one_key = first.differ.one_key; apart = first.differ.apart };
          none_before = λ v w differ. elim (contains_cases x xs v differ.of_first) [
            | inl is ↦ λ less. differ.apart (is ∙ none_differs x ys none w differ.of_second (sym (ap (λ z. rank z w) is) ∙ differ.one_key))
            | inr of_xs ↦ first.none_before v w (record { of_first = of_xs; of_second = differ.of_second; one_key = differ.one_key; apart = differ.apart })
          ];
        }

-- lists that agree have no first difference
pub agree_apart : {X : Type 0} (rank : X → X → Ordering) (xs ys : List X) (x y : X) → Agree rank xs ys → DifferFirst rank xs ys x y → ⊥
agree_apart rank xs ys x y agree first = first.differ.apart (agree x y first.differ.of_first first.differ.of_second first.differ.one_key)
