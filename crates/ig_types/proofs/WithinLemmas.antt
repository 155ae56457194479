-- The loop invariant of the test that one list is within another, and that each step keeps it.
use Rattle.std.proofs.Common.{◌≡◌, ◌↔◌, false, List, [], ◌∷◌, Contains, IsTrue, inl, inr, sym, subst, ◌∙◌}
use Rattle.std.specs.List.Sorted.{IsStrictlySortedBy}
use Rattle.std.specs.Cmp.{IsTotalOrder}
use Rattle.std.specs.declared.cmp.Ordering.{Ordering}
use Rattle.std.specs.declared.cmp.Ordering.TheVariants.{Less, Equal, Greater}
use Rattle.std.proofs.lemmas.Cmp.{tied_itself, tied_back}
use Rattle.ig_types.specs.IsBelow.{IsWithin}
use Rattle.ig_types.proofs.AscendingLemmas.{Before, contains_nil, contains_first, contains_later, contains_cases, each_at, sorted_first, sorted_later, before_all, less_from_more}

-- the invariant: what is left of xs is within what is left of ys exactly where all of xs is within all of ys
pub record IsAlike {X : Type 0} (rank : X → X → Ordering) (xs ys all_xs all_ys : List X) : Type 0 where
  pub there : IsWithin xs ys → IsWithin all_xs all_ys
  pub back : IsWithin all_xs all_ys → IsWithin xs ys
  pub first : IsStrictlySortedBy rank xs
  pub second : IsStrictlySortedBy rank ys

module _ {X : Type 0} (rank : X → X → Ordering) (o : IsTotalOrder rank) where
  -- what is less than all of a list isn't in it
  not_in : (x : X) (ys : List X) → Before rank x ys → Contains ys x → ⊥
  not_in x ys before is_in =
      let less : rank x x ≡ Less = each_at (λ y. rank x y ≡ Less) ys x before is_in in
      let tied : rank x x ≡ Equal = tied_itself o x in
      cc

  -- a member of ys that is less than all of xs can be skipped
  pub skipped : (x y : X) (xs ys : List X) → IsStrictlySortedBy rank (x ∷ xs) → rank x y ≡ Greater → IsWithin (x ∷ xs) (y ∷ ys) → IsWithin (x ∷ xs) ys
  skipped x y xs ys sorted more within z z_in = elim (contains_cases y ys z (within z z_in)) [
    | inl e ↦
        let less : rank y x ≡ Less = less_from_more rank o x y more in
        absurd (not_in y (x ∷ xs) (less, before_all rank o y x xs less (sorted_first rank x xs sorted)) (subst (Contains (x ∷ xs)) e z_in))
    | inr later ↦ later
  ]

  -- a first member that both have can be dropped from both
  pub matched : (x : X) (xs ys : List X) → IsStrictlySortedBy rank (x ∷ xs) → IsWithin (x ∷ xs) (x ∷ ys) → IsWithin xs ys
  matched x xs ys sorted within z z_in = elim (contains_cases x ys z (within z (contains_later x xs z z_in))) [
    | inl e ↦ absurd (not_in x xs (sorted_first rank x xs sorted) (subst (Contains xs) e z_in))
    | inr later ↦ later
  ]

  module _ (xs ys all_xs all_ys next_xs next_ys : List X) (x y : X) (alike : IsAlike rank xs ys all_xs all_ys) (is_xs : xs ≡ x ∷ next_xs) (is_ys : ys ≡ y ∷ next_ys) where
    first : IsStrictlySortedBy rank (x ∷ next_xs)
    first = subst (IsStrictlySortedBy rank) is_xs alike.first

    second : IsStrictlySortedBy rank (y ∷ next_ys)
    second = subst (IsStrictlySortedBy rank) is_ys alike.second

    here : IsWithin all_xs all_ys → IsWithin (x ∷ next_xs) (y ∷ next_ys)
    here within = subst (λ zs. IsWithin zs (y ∷ next_ys)) is_xs (subst (IsWithin xs) is_ys (alike.back within))

    there : IsWithin (x ∷ next_xs) (y ∷ next_ys) → IsWithin all_xs all_ys
    there within = alike.there (subst (λ zs. IsWithin zs ys) (sym is_xs) (subst (IsWithin (x ∷ next_xs)) (sym is_ys) within))

    pub after_skip : Greater ≡ rank x y → IsAlike rank xs next_ys all_xs all_ys
    after_skip more = record {
      there = λ within. there (λ z z_in. contains_later y next_ys z (subst (λ zs. IsWithin zs next_ys) is_xs within z z_in));
      back = λ within. subst (λ zs. IsWithin zs next_ys) (sym is_xs) (skipped x y next_xs next_ys first (sym more) (here within));
      first = alike.first;
      second = sorted_later rank y next_ys second;
    }

    pub after_match : x ≡ y → IsAlike rank next_xs next_ys all_xs all_ys
    after_match one = record {
      there = λ within. there (λ z z_in. elim (contains_cases x next_xs z z_in) [
        | inl e ↦ subst (Contains (y ∷ next_ys)) (sym (e ∙ one)) (contains_first y next_ys)
        | inr later ↦ contains_later y next_ys z (within z later)
      ]);
      back = λ within. matched x next_xs next_ys first (subst (λ w. IsWithin (x ∷ next_xs) (w ∷ next_ys)) (sym one) (here within));
      first = sorted_later rank x next_xs first;
      second = sorted_later rank y next_ys second;
    }

    -- ys doesn't have the first member of xs
    pub missing_before : Less ≡ rank x y → IsWithin all_xs all_ys → ⊥
    missing_before less within =
        not_in x (y ∷ next_ys) (sym less, before_all rank o x y next_ys (sym less) (sorted_first rank y next_ys second)) (here within x (contains_first x next_xs))

    pub missing_tied : Equal ≡ rank x y → (x ≡ y → ⊥) → IsWithin all_xs all_ys → ⊥
    missing_tied tied apart within = elim (contains_cases y next_ys x (here within x (contains_first x next_xs))) [
      | inl e ↦ apart e
      | inr later ↦
          let less : rank y x ≡ Less = each_at (λ z. rank y z ≡ Less) next_ys x (sorted_first rank y next_ys second) later in
          let back : rank y x ≡ Equal = tied_back o x y (sym tied) in
          cc
    ]

  pub within_nil : (xs ys all_xs all_ys : List X) → IsAlike rank xs ys all_xs all_ys → xs ≡ [] → IsWithin all_xs all_ys
  within_nil xs ys all_xs all_ys alike none = alike.there (λ z z_in. absurd (contains_nil z (subst (λ zs. Contains zs z) none z_in)))

  pub missing_end : (xs ys all_xs all_ys next_xs : List X) (x : X) → IsAlike rank xs ys all_xs all_ys → xs ≡ x ∷ next_xs → ys ≡ [] → IsWithin all_xs all_ys → ⊥
  missing_end xs ys all_xs all_ys next_xs x alike is_xs none within =
      contains_nil x (subst (λ zs. Contains zs x) none (alike.back within x (subst (λ zs. Contains zs x) (sym is_xs) (contains_first x next_xs))))

-- the answer no is right if P does not hold
pub refused : {P : Type 0} → (P → ⊥) → IsTrue false ↔ P
refused not = (λ e. absurd (cc), λ p. absurd (not p))
