-- The loop invariant of a merge, and that each step keeps it.
use Rattle.std.proofs.Common.{◌≡◌, Bool, true, false, cond, not, ◌&&◌, List, [], ◌∷◌, Some, None, option_map, ◌++◌, refl, sym, ap, subst, ◌∙◌, append_assoc, length}
use Rattle.std.specs.List.{AllByRecursion}
use Rattle.std.specs.List.Sorted.{IsStrictlySortedBy}
use Rattle.std.specs.Option.{option_or}
use Rattle.std.specs.Ordering.{is_eq, match_ordering}
use Rattle.std.specs.Cmp.{IsTotalOrder}
use Rattle.std.specs.declared.cmp.Ordering.{Ordering}
use Rattle.std.specs.declared.cmp.Ordering.TheVariants.{Less, Equal, Greater}
use Rattle.std.proofs.lemmas.Cmp.{tied_back}
use Rattle.std.proofs.lemmas.List.{nil_from_length}
use Rattle.ig_types.specs.Members.{with_member, with_members, differing_member, first_differing_pair}
use Rattle.ig_types.proofs.AscendingLemmas.{Before, sorted_first, sorted_later, before_all, tied_before_all, more_from_less, less_from_more}

module _ {X : Type 0} (rank : X → X → Ordering) where
  -- a member that is less than all is inserted in front
  pub with_member_front : (y : X) (zs : List X) → Before rank y zs → with_member rank y zs ≡ y ∷ zs
  with_member_front y [] before = refl
  with_member_front y (z ∷ zs) before = ap (λ o. match_ordering o (y ∷ z ∷ zs) (z ∷ zs) (z ∷ with_member rank y zs)) before.0

  -- a fact that holds of each member of two lists holds of each member of the merged list
  pub each_with_member : (P : X → Type 0) (y : X) (zs : List X) → P y → AllByRecursion P zs → AllByRecursion P (with_member rank y zs)
  each_with_member P y [] at_y all = (at_y, tt)
  each_with_member P y (z ∷ zs) at_y all =
      elim (rank y z) as (λ o. AllByRecursion P (match_ordering o (y ∷ z ∷ zs) (z ∷ zs) (z ∷ with_member rank y zs))) [
        | Less ↦ (at_y, all)
        | Equal ↦ all
        | Greater ↦ (all.0, each_with_member P y zs at_y all.1)
      ]

  pub each_with_members : (P : X → Type 0) (xs ys : List X) → AllByRecursion P xs → AllByRecursion P ys → AllByRecursion P (with_members rank xs ys)
  each_with_members P xs [] all_xs all_ys = all_xs
  each_with_members P xs (y ∷ ys) all_xs all_ys = each_with_member P y (with_members rank xs ys) all_ys.0 (each_with_members P xs ys all_xs all_ys.1)

  -- the empty list merged with a sorted list is the sorted list
  pub with_members_nil : (ys : List X) → IsStrictlySortedBy rank ys → with_members rank [] ys ≡ ys
  with_members_nil [] sorted = refl
  with_members_nil (y ∷ ys) sorted =
      ap (with_member rank y) (with_members_nil ys (sorted_later rank y ys sorted)) ∙ with_member_front y ys (sorted_first rank y ys sorted)

  module _ (same : X → X → Bool) where
    -- no member that is greater than x differs from it under its key
    pub none_differs_after : (x : X) (ys : List X) → Before rank x ys → differing_member rank same x ys ≡ None
    none_differs_after x [] before = refl
    none_differs_after x (y ∷ ys) before =
        ap (λ o. cond (is_eq o && not (same x y)) (Some y) (differing_member rank same x ys)) before.0 ∙ none_differs_after x ys before.1

    -- a member that is less than all of xs differs from none of them under a key
    pub none_differ_before : (y : X) (ys xs : List X) → AllByRecursion (λ x. rank x y ≡ Greater) xs → first_differing_pair rank same xs (y ∷ ys) ≡ first_differing_pair rank same xs ys
    none_differ_before y ys [] after = refl
    none_differ_before y ys (x ∷ xs) after =
        ap (λ o. option_or (option_map (λ z. (x, z)) (cond (is_eq o && not (same x y)) (Some y) (differing_member rank same x ys))) (first_differing_pair rank same xs (y ∷ ys))) after.0
        ∙ ap (option_or (option_map (λ z. (x, z)) (differing_member rank same x ys))) (none_differ_before y ys xs after.1)

    pub none_differ_nil : (xs : List X) → first_differing_pair rank same xs [] ≡ None
    none_differ_nil [] = refl
    none_differ_nil (x ∷ xs) = none_differ_nil xs

    -- two first members with the same key that are not equal are the first differing pair
    pub differ_now : (x y : X) (xs ys : List X) → rank x y ≡ Equal → same x y ≡ false → first_differing_pair rank same (x ∷ xs) (y ∷ ys) ≡ Some (x, y)
    differ_now x y xs ys tied apart =
        ap (λ o. option_or (option_map (λ z. (x, z)) (cond (is_eq o && not (same x y)) (Some y) (differing_member rank same x ys))) (first_differing_pair rank same xs (y ∷ ys))) tied
        ∙ ap (λ b. option_or (option_map (λ z. (x, z)) (cond (not b) (Some y) (differing_member rank same x ys))) (first_differing_pair rank same xs (y ∷ ys))) apart

-- the invariant: what is merged already, followed by the merge of what is left, is the merge of the whole lists
pub record IsLeft {X : Type 0} (rank : X → X → Ordering) (same : X → X → Bool) (done xs ys all_xs all_ys : List X) : Type 0 where
  pub merged : done ++ with_members rank xs ys ≡ with_members rank all_xs all_ys
  pub differing : first_differing_pair rank same xs ys ≡ first_differing_pair rank same all_xs all_ys
  pub first : IsStrictlySortedBy rank xs
  pub second : IsStrictlySortedBy rank ys

module _ {X : Type 0} (rank : X → X → Ordering) (same : X → X → Bool) (o : IsTotalOrder rank) where
  -- a first member that is less than all of the second list comes first in the merged list
  with_members_front : (x : X) (xs ys : List X) → Before rank x ys → with_members rank (x ∷ xs) ys ≡ x ∷ with_members rank xs ys
  with_members_front x xs [] before = refl
  with_members_front x xs (y ∷ ys) before =
      ap (with_member rank y) (with_members_front x xs ys before.1)
      ∙ ap (λ r. match_ordering r (y ∷ x ∷ with_members rank xs ys) (x ∷ with_members rank xs ys) (x ∷ with_member rank y (with_members rank xs ys))) (more_from_less rank o x y before.0)

  after_all : (y : X) (xs : List X) → Before rank y xs → AllByRecursion (λ x. rank x y ≡ Greater) xs
  after_all y [] before = tt
  after_all y (x ∷ xs) before = (more_from_less rank o y x before.0, after_all y xs before.1)

  -- one member moves from what is left to what is merged
  moved : (done xs ys next_xs next_ys all_xs all_ys : List X) (front : X) → IsLeft rank same done xs ys all_xs all_ys
      → with_members rank xs ys ≡ front ∷ with_members rank next_xs next_ys → first_differing_pair rank same xs ys ≡ first_differing_pair rank same next_xs next_ys
      → IsStrictlySortedBy rank next_xs → IsStrictlySortedBy rank next_ys → IsLeft rank same (done ++ front ∷ []) next_xs next_ys all_xs all_ys
  moved done xs ys next_xs next_ys all_xs all_ys front left merged differing first second = record {
    merged = append_assoc done (front ∷ []) (with_members rank next_xs next_ys) ∙ sym (ap (λ zs. done ++ zs) merged) ∙ left.merged;
    differing = sym differing ∙ left.differing;
    first = first;
    second = second;
  }

  module _ (done xs ys all_xs all_ys : List X) (x y : X) (left : IsLeft rank same done (x ∷ xs) (y ∷ ys) all_xs all_ys) where
    x_first : Before rank x xs
    x_first = sorted_first rank x xs left.first

    y_first : Before rank y ys
    y_first = sorted_first rank y ys left.second

    -- the first member of the first list is the lowest that is left
    pub next_first : rank x y ≡ Less → IsLeft rank same (done ++ x ∷ []) xs (y ∷ ys) all_xs all_ys
    next_first less =
        let before : Before rank x (y ∷ ys) = (less, before_all rank o x y ys less y_first) in
        moved done (x ∷ xs) (y ∷ ys) xs (y ∷ ys) all_xs all_ys x left
        (with_members_front x xs (y ∷ ys) before)
        (ap (λ r. option_or (option_map (λ z. (x, z)) r) (first_differing_pair rank same xs (y ∷ ys))) (none_differs_after rank same x (y ∷ ys) before))
        (sorted_later rank x xs left.first) left.second

    -- the first member of the second list is the lowest that is left
    pub next_second : rank x y ≡ Greater → IsLeft rank same (done ++ y ∷ []) (x ∷ xs) ys all_xs all_ys
    next_second more =
        let less : rank y x ≡ Less = less_from_more rank o x y more in
        let before : Before rank y (x ∷ xs) = (less, before_all rank o y x xs less x_first) in
        moved done (x ∷ xs) (y ∷ ys) (x ∷ xs) ys all_xs all_ys y left
        (with_member_front rank y (with_members rank (x ∷ xs) ys) (each_with_members rank (λ z. rank y z ≡ Less) (x ∷ xs) ys before y_first))
        (none_differ_before rank same y ys (x ∷ xs) (after_all y (x ∷ xs) before))
        left.first (sorted_later rank y ys left.second)

    -- both lists have the lowest member that is left
    pub next_both : rank x y ≡ Equal → same x y ≡ true → IsLeft rank same (done ++ x ∷ []) xs ys all_xs all_ys
    next_both tied is_same =
        let back : rank y x ≡ Equal = tied_back o x y tied in
        let x_before : Before rank x ys = tied_before_all rank o x y ys tied y_first in
        let y_before : Before rank y xs = tied_before_all rank o y x xs back x_first in
        moved done (x ∷ xs) (y ∷ ys) xs ys all_xs all_ys x left
        (ap (with_member rank y) (with_members_front x xs ys x_before)
        ∙ ap (λ r. match_ordering r (y ∷ x ∷ with_members rank xs ys) (x ∷ with_members rank xs ys) (x ∷ with_member rank y (with_members rank xs ys))) back)
        (ap (λ r. option_or (option_map (λ z. (x, z)) (cond (is_eq r && not (same x y)) (Some y) (differing_member rank same x ys))) (first_differing_pair rank same xs (y ∷ ys))) tied
        ∙ ap (λ b. option_or (option_map (λ z. (x, z)) (cond (not b) (Some y) (differing_member rank same x ys))) (first_differing_pair rank same xs (y ∷ ys))) is_same
        ∙ ap (λ r. option_or (option_map (λ z. (x, z)) r) (first_differing_pair rank same xs (y ∷ ys))) (none_differs_after rank same x ys x_before)
        ∙ none_differ_before rank same y ys xs (after_all y xs y_before))
        (sorted_later rank x xs left.first) (sorted_later rank y ys left.second)

    -- the two first members have the same key and are not equal
    pub differ_next : rank x y ≡ Equal → same x y ≡ false → first_differing_pair rank same all_xs all_ys ≡ Some (x, y)
    differ_next tied apart = sym left.differing ∙ differ_now rank same x y xs ys tied apart

  -- the same for the lists of the program, where copy is the member that it appended to done
  module _ (done xs ys all_xs all_ys next_done next_xs next_ys : List X) (x y copy : X) (left : IsLeft rank same done xs ys all_xs all_ys)
      (is_xs : xs ≡ x ∷ next_xs) (is_ys : ys ≡ y ∷ next_ys) where
    here : IsLeft rank same done (x ∷ next_xs) (y ∷ next_ys) all_xs all_ys
    here = subst (λ zs. IsLeft rank same done (x ∷ next_xs) zs all_xs all_ys) is_ys (subst (λ zs. IsLeft rank same done zs ys all_xs all_ys) is_xs left)

    appended : (front : X) (zs ws : List X) → copy ≡ front → next_done ≡ done ++ copy ∷ [] → IsLeft rank same (done ++ front ∷ []) zs ws all_xs all_ys → IsLeft rank same next_done zs ws all_xs all_ys
    appended front zs ws is_copy is_done = subst (λ ds. IsLeft rank same ds zs ws all_xs all_ys) (sym (is_done ∙ ap (λ v. done ++ v ∷ []) is_copy))

    pub after_first : copy ≡ x → next_done ≡ done ++ copy ∷ [] → Less ≡ rank x y → IsLeft rank same next_done next_xs ys all_xs all_ys
    after_first is_copy is_done less =
        appended x next_xs ys is_copy is_done
        (subst (λ zs. IsLeft rank same (done ++ x ∷ []) next_xs zs all_xs all_ys) (sym is_ys) (next_first done next_xs next_ys all_xs all_ys x y here (sym less)))

    pub after_second : copy ≡ y → next_done ≡ done ++ copy ∷ [] → Greater ≡ rank x y → IsLeft rank same next_done xs next_ys all_xs all_ys
    after_second is_copy is_done more =
        appended y xs next_ys is_copy is_done
        (subst (λ zs. IsLeft rank same (done ++ y ∷ []) zs next_ys all_xs all_ys) (sym is_xs) (next_second done next_xs next_ys all_xs all_ys x y here (sym more)))

    pub after_both : copy ≡ x → next_done ≡ done ++ copy ∷ [] → Equal ≡ rank x y → same x y ≡ true → IsLeft rank same next_done next_xs next_ys all_xs all_ys
    after_both is_copy is_done tied is_same = appended x next_xs next_ys is_copy is_done (next_both done next_xs next_ys all_xs all_ys x y here (sym tied) is_same)

  -- one list is empty, and copies of the other are appended
  module _ {C : Type 0} (clash : X × X → C) (done xs ys all_xs all_ys members : List X) (left : IsLeft rank same done xs ys all_xs all_ys) where
    pub first_done : length xs ≡ 0 → members ≡ done ++ ys
        → (option_map clash (first_differing_pair rank same all_xs all_ys) ≡ None) × (members ≡ with_members rank all_xs all_ys)
    first_done none is_members =
        let at_end : IsLeft rank same done [] ys all_xs all_ys = subst (λ zs. IsLeft rank same done zs ys all_xs all_ys) (nil_from_length xs none) left in
        (ap (option_map clash) (sym at_end.differing), is_members ∙ sym (ap (λ zs. done ++ zs) (with_members_nil rank ys left.second)) ∙ at_end.merged)

    pub second_done : length ys ≡ 0 → members ≡ done ++ xs
        → (option_map clash (first_differing_pair rank same all_xs all_ys) ≡ None) × (members ≡ with_members rank all_xs all_ys)
    second_done none is_members =
        let at_end : IsLeft rank same done xs [] all_xs all_ys = subst (λ zs. IsLeft rank same done xs zs all_xs all_ys) (nil_from_length ys none) left in
        (ap (option_map clash) (sym at_end.differing ∙ none_differ_nil rank same xs), is_members ∙ at_end.merged)
