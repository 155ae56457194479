-- The merged list of two lists of members: what it contains, that it is sorted, and that it is the only such list.
use Rattle.std.proofs.Common.{◌≡◌, ◌⊎◌, List, [], ◌∷◌, Contains, refl, sym, subst, ◌∙◌, inl, inr}
use Rattle.std.specs.List.Sorted.{IsStrictlySortedBy}
use Rattle.std.specs.Ordering.{match_ordering}
use Rattle.std.specs.Cmp.{IsTotalOrder}
use Rattle.std.specs.declared.cmp.Ordering.{Ordering}
use Rattle.std.specs.declared.cmp.Ordering.TheVariants.{Less, Equal, Greater}
use Rattle.std.proofs.lemmas.Cmp.{tied_itself, tied_back}
use Rattle.ig_types.specs.IsBelow.{IsWithin}
use Rattle.ig_types.specs.Members.{Agree, with_member, with_members}
use Rattle.ig_types.proofs.AscendingLemmas.{contains_nil, contains_first, contains_later, contains_cases, each_at, sorted_first, sorted_later, sorted_nil, sorted_cons, before_all, more_from_less, less_from_more}
use Rattle.ig_types.proofs.MergeLemmas.{each_with_member}

module _ {X : Type 0} (rank : X → X → Ordering) where
  -- ---- what the merged list contains
  from_with_member : (y : X) (zs : List X) (w : X) → Contains (with_member rank y zs) w → (w ≡ y) ⊎ Contains zs w
  from_with_member y [] w is_in = contains_cases y [] w is_in
  from_with_member y (z ∷ zs) w is_in =
      elim (rank y z) as (λ r. Contains (match_ordering r (y ∷ z ∷ zs) (z ∷ zs) (z ∷ with_member rank y zs)) w → (w ≡ y) ⊎ Contains (z ∷ zs) w) [
        | Less ↦ λ h. contains_cases y (z ∷ zs) w h
        | Equal ↦ λ h. inr h
        | Greater ↦ λ h. elim (contains_cases z (with_member rank y zs) w h) [
          | inl e ↦ inr (subst (Contains (z ∷ zs)) (sym e) (contains_first z zs))
          | inr later ↦ elim (from_with_member y zs w later) [ inl e ↦ inl e | inr of_zs ↦ inr (contains_later z zs w of_zs) ]
        ]
      ] is_in

  pub from_with_members : (xs ys : List X) (w : X) → Contains (with_members rank xs ys) w → Contains xs w ⊎ Contains ys w
  from_with_members xs [] w is_in = inl is_in
  from_with_members xs (y ∷ ys) w is_in = elim (from_with_member y (with_members rank xs ys) w is_in) [
    | inl e ↦ inr (subst (Contains (y ∷ ys)) (sym e) (contains_first y ys))
    | inr later ↦ elim (from_with_members xs ys w later) [ inl of_xs ↦ inl of_xs | inr of_ys ↦ inr (contains_later y ys w of_ys) ]
  ]

  old_in_with_member : (y : X) (zs : List X) (w : X) → Contains zs w → Contains (with_member rank y zs) w
  old_in_with_member y [] w is_in = absurd (contains_nil w is_in)
  old_in_with_member y (z ∷ zs) w is_in =
      elim (rank y z) as (λ r. Contains (match_ordering r (y ∷ z ∷ zs) (z ∷ zs) (z ∷ with_member rank y zs)) w) [
        | Less ↦ contains_later y (z ∷ zs) w is_in
        | Equal ↦ is_in
        | Greater ↦ elim (contains_cases z zs w is_in) [
          | inl e ↦ subst (Contains (z ∷ with_member rank y zs)) (sym e) (contains_first z (with_member rank y zs))
          | inr later ↦ contains_later z (with_member rank y zs) w (old_in_with_member y zs w later)
        ]
      ]

  -- each member of the first list is in the merged list
  pub first_within : (xs ys : List X) → IsWithin xs (with_members rank xs ys)
  first_within xs [] w is_in = is_in
  first_within xs (y ∷ ys) w is_in = old_in_with_member y (with_members rank xs ys) w (first_within xs ys w is_in)

  new_in_with_member : (y : X) (zs : List X) → ((w : X) → Contains zs w → rank y w ≡ Equal → w ≡ y) → Contains (with_member rank y zs) y
  new_in_with_member y [] one = contains_first y []
  new_in_with_member y (z ∷ zs) one =
      elim (rank y z) as (λ r. rank y z ≡ r → Contains (match_ordering r (y ∷ z ∷ zs) (z ∷ zs) (z ∷ with_member rank y zs)) y) [
        | Less ↦ λ e. contains_first y (z ∷ zs)
        | Equal ↦ λ e. subst (Contains (z ∷ zs)) (one z (contains_first z zs) e) (contains_first z zs)
        | Greater ↦ λ e. contains_later z (with_member rank y zs) y (new_in_with_member y zs (λ w later. one w (contains_later z zs w later)))
      ] refl

  -- a list that has the members of both lists has those of the merged list
  pub both_within : (xs ys zs : List X) → IsWithin xs zs → IsWithin ys zs → IsWithin (with_members rank xs ys) zs
  both_within xs ys zs first second w is_in = elim (from_with_members xs ys w is_in) [ inl of_xs ↦ first w of_xs | inr of_ys ↦ second w of_ys ]

module _ {X : Type 0} (rank : X → X → Ordering) (o : IsTotalOrder rank) where
  -- where the two agree, each member of the second list is in the merged list
  pub second_within : (xs ys : List X) → Agree rank xs ys → IsStrictlySortedBy rank ys → IsWithin ys (with_members rank xs ys)
  second_within xs [] agree sorted w is_in = absurd (contains_nil w is_in)
  second_within xs (y ∷ ys) agree sorted w is_in = elim (contains_cases y ys w is_in) [
    | inl e ↦ subst (Contains (with_members rank xs (y ∷ ys))) (sym e) (new_in_with_member rank y (with_members rank xs ys) one)
    | inr later ↦ old_in_with_member rank y (with_members rank xs ys) w (second_within xs ys (λ v u of_xs of_ys. agree v u of_xs (contains_later y ys u of_ys)) (sorted_later rank y ys sorted) w later)
  ]
    where
      one : (v : X) → Contains (with_members rank xs ys) v → rank y v ≡ Equal → v ≡ y
      one v is_in tied = elim (from_with_members rank xs ys v is_in) [
        | inl of_xs ↦ agree v y of_xs (contains_first y ys) (tied_back o y v tied)
        | inr of_ys ↦ let less : rank y v ≡ Less = each_at (λ z. rank y z ≡ Less) ys v (sorted_first rank y ys sorted) of_ys in cc
      ]

  sorted_with_member : (y : X) (zs : List X) → IsStrictlySortedBy rank zs → IsStrictlySortedBy rank (with_member rank y zs)
  sorted_with_member y [] sorted = sorted_cons rank y [] tt (sorted_nil rank)
  sorted_with_member y (z ∷ zs) sorted =
      elim (rank y z) as (λ r. rank y z ≡ r → IsStrictlySortedBy rank (match_ordering r (y ∷ z ∷ zs) (z ∷ zs) (z ∷ with_member rank y zs))) [
        | Less ↦ λ e. sorted_cons rank y (z ∷ zs) (e, before_all rank o y z zs e (sorted_first rank z zs sorted)) sorted
        | Equal ↦ λ e. sorted
        | Greater ↦ λ e.
            sorted_cons rank z (with_member rank y zs)
            (each_with_member rank (λ w. rank z w ≡ Less) y zs (less_from_more rank o y z e) (sorted_first rank z zs sorted))
            (sorted_with_member y zs (sorted_later rank z zs sorted))
      ] refl

  pub sorted_with_members : (xs ys : List X) → IsStrictlySortedBy rank xs → IsStrictlySortedBy rank (with_members rank xs ys)
  sorted_with_members xs [] sorted = sorted
  sorted_with_members xs (y ∷ ys) sorted = sorted_with_member y (with_members rank xs ys) (sorted_with_members xs ys sorted)

  -- ---- two sorted lists with the same members are equal
  -- a sorted list has at most one member with a key
  pub one_of_key : (zs : List X) → IsStrictlySortedBy rank zs → (x y : X) → Contains zs x → Contains zs y → rank x y ≡ Equal → x ≡ y
  one_of_key [] sorted x y x_in y_in tied = absurd (contains_nil x x_in)
  one_of_key (z ∷ zs) sorted x y x_in y_in tied = elim (contains_cases z zs x x_in) [
    | inl x_is ↦ elim (contains_cases z zs y y_in) [
      | inl y_is ↦ x_is ∙ sym y_is
      | inr y_later ↦ let less : rank z y ≡ Less = each_at (λ w. rank z w ≡ Less) zs y (sorted_first rank z zs sorted) y_later in cc
    ]
    | inr x_later ↦ elim (contains_cases z zs y y_in) [
      | inl y_is ↦
          let less : rank z x ≡ Less = each_at (λ w. rank z w ≡ Less) zs x (sorted_first rank z zs sorted) x_later in
          let back : rank y x ≡ Equal = tied_back o x y tied in
          cc
      | inr y_later ↦ one_of_key zs (sorted_later rank z zs sorted) x y x_later y_later tied
    ]
  ]

  -- so lists whose members it has agree
  pub agree_within : (xs ys zs : List X) → IsStrictlySortedBy rank zs → IsWithin xs zs → IsWithin ys zs → Agree rank xs ys
  agree_within xs ys zs sorted first second x y x_in y_in tied = one_of_key zs sorted x y (first x x_in) (second y y_in) tied

  same_first : (x y : X) (xs ys : List X) → IsStrictlySortedBy rank (x ∷ xs) → IsStrictlySortedBy rank (y ∷ ys) → Contains (y ∷ ys) x → Contains (x ∷ xs) y → x ≡ y
  same_first x y xs ys first second x_in y_in = elim (contains_cases y ys x x_in) [
    | inl e ↦ e
    | inr x_later ↦ elim (contains_cases x xs y y_in) [
      | inl e ↦ sym e
      | inr y_later ↦
          let y_less : rank y x ≡ Less = each_at (λ w. rank y w ≡ Less) ys x (sorted_first rank y ys second) x_later in
          let x_less : rank x y ≡ Less = each_at (λ w. rank x w ≡ Less) xs y (sorted_first rank x xs first) y_later in
          let more : rank x y ≡ Greater = more_from_less rank o y x y_less in
          cc
    ]
  ]

  later_within : (x y : X) (xs ys : List X) → x ≡ y → IsStrictlySortedBy rank (x ∷ xs) → IsWithin (x ∷ xs) (y ∷ ys) → IsWithin xs ys
  later_within x y xs ys e sorted within z z_in = elim (contains_cases y ys z (within z (contains_later x xs z z_in))) [
    | inl is ↦
        let less : rank x z ≡ Less = each_at (λ w. rank x w ≡ Less) xs z (sorted_first rank x xs sorted) z_in in
        let tied : rank x x ≡ Equal = tied_itself o x in
        let same : z ≡ x = is ∙ sym e in
        cc
    | inr later ↦ later
  ]

  pub same_from_within : (xs ys : List X) → IsStrictlySortedBy rank xs → IsStrictlySortedBy rank ys → IsWithin xs ys → IsWithin ys xs → xs ≡ ys
  same_from_within [] [] first second there back = refl
  same_from_within [] (y ∷ ys) first second there back = absurd (contains_nil y (back y (contains_first y ys)))
  same_from_within (x ∷ xs) [] first second there back = absurd (contains_nil x (there x (contains_first x xs)))
  same_from_within (x ∷ xs) (y ∷ ys) first second there back =
      let e : x ≡ y = same_first x y xs ys first second (there x (contains_first x xs)) (back y (contains_first y ys)) in
      let es : xs ≡ ys = same_from_within xs ys (sorted_later rank x xs first) (sorted_later rank y ys second) (later_within x y xs ys e first there) (later_within y x ys xs (sym e) second back) in
      λ i. e i ∷ es i
