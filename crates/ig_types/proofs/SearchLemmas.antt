-- A binary search among sorted fields finds what a scan finds.
use Rattle.std.proofs.Common.{◌≡◌, ℕ, zero, suc, ◌+◌, ◌<◌, true, false, cond, List, [], ◌∷◌, length, get_or, Some, None, Result, Ok, Err, MatchResult, Bool, inl, inr, refl, sym, ap, ◌∙◌, arith, add-one}
use Rattle.std.specs.List.Sorted.{IsStrictlySortedBy, IsSortedBy, IsSearchInRange, IsBinarySearchResult}
use Rattle.std.specs.Ordering.{nat_cmp, is_lt}
use Rattle.std.specs.Cmp.Lexicographic.{slice_cmp}
use Rattle.std.specs.declared.cmp.Ordering.{Ordering}
use Rattle.std.specs.declared.cmp.Ordering.TheVariants.{Less, Equal, Greater}
use Rattle.std.proofs.lemmas.Bool.{cases_lt}
use Rattle.std.proofs.lemmas.Cmp.{nat_list_cmp_total, tied_itself}
use Rattle.std.proofs.lemmas.List.Elements.{Contains-get_or}
use Rattle.std.proofs.lemmas.List.Sorted.{searchable_from_sorted}
use Rattle.std.proofs.lemmas.Map.Lookups.{exact_bytes}
use Rattle.ig_types.specs.declared.meta.FieldMeta.{FieldMeta}
use Rattle.ig_types.specs.IsInOrder.{by_field}
use Rattle.ig_types.specs.Join.{same_name}
use Rattle.ig_types.specs.MemberLaws.{by_field_total}
use Rattle.ig_types.proofs.NameLemmas.{same_name_exact}
use Rattle.ig_types.specs.AffinityPair.{field_named}
use Rattle.ig_types.proofs.AscendingLemmas.{each_at, sorted_first, sorted_later, more_from_less}

-- the order of a field and a name
abbrev against : List ℕ → FieldMeta → Ordering
against key f = slice_cmp nat_cmp f.name key

-- a field ties with a name exactly where it has this name
tied_name : (f : FieldMeta) (key : List ℕ) → against key f ≡ Equal → same_name f.name key ≡ true
tied_name f key tied = (same_name_exact f.name key).1 (exact_bytes f.name key tied)

apart_name : (f : FieldMeta) (key : List ℕ) → (against key f ≡ Equal → ⊥) → same_name f.name key ≡ false
apart_name f key apart = no (same_name f.name key) refl
  where
    no : (b : Bool) → same_name f.name key ≡ b → b ≡ false
    no false e = refl
    no true e =
        let one : f.name ≡ key = (same_name_exact f.name key).0 e in
        absurd (apart (ap (slice_cmp nat_cmp f.name) (sym one) ∙ tied_itself nat_list_cmp_total f.name))

-- each field is less than the next
ascending : (fields : List FieldMeta) → IsStrictlySortedBy by_field fields → (k : ℕ) (d : FieldMeta) → k + 1 < length fields → by_field (get_or fields k d) (get_or fields (k + 1) d) ≡ Less
ascending [] sorted k d lt = absurd (omega arith)
ascending (f ∷ fs) sorted zero d lt = each_at (λ x. by_field f x ≡ Less) fs (get_or fs 0 d) (sorted_first by_field f fs sorted) (Contains-get_or fs 0 d (omega arith))
ascending (f ∷ fs) sorted (suc k) d lt = rw add-one (rw add-one at (ascending fs (sorted_later by_field f fs sorted) k d (omega arith)))

searchable : (fields : List FieldMeta) → IsStrictlySortedBy by_field fields → IsSortedBy (λ a b. is_lt (by_field a b)) fields
searchable fields sorted k d low lt =
    ap is_lt (more_from_less by_field by_field_total (get_or fields k d) (get_or fields (k + 1) d) (ascending fields sorted k d lt))

-- the field at an index that ties with the name is what a scan finds
at_place : (fields : List FieldMeta) (key : List ℕ) → IsStrictlySortedBy by_field fields → (i : ℕ) (d : FieldMeta) → i < length fields → against key (get_or fields i d) ≡ Equal → field_named fields key ≡ Some (get_or fields i d)
at_place [] key sorted i d lt tied = absurd (omega arith)
at_place (f ∷ fs) key sorted zero d lt tied = ap (λ b. cond b (Some f) (field_named fs key)) (tied_name f key tied)
at_place (f ∷ fs) key sorted (suc i) d lt tied =
    let less : by_field f (get_or fs i d) ≡ Less = each_at (λ x. by_field f x ≡ Less) fs (get_or fs i d) (sorted_first by_field f fs sorted) (Contains-get_or fs i d (omega arith)) in
    let one : (get_or fs i d).name ≡ key = exact_bytes (get_or fs i d).name key tied in
    let before : against key f ≡ Less = ap (slice_cmp nat_cmp f.name) (sym one) ∙ less in
    ap (λ b. cond b (Some f) (field_named fs key)) (apart_name f key (λ e. cc))
    ∙ at_place fs key (sorted_later by_field f fs sorted) i d (omega arith) tied

-- where no field ties with the name, a scan finds nothing
nowhere : (fields : List FieldMeta) (key : List ℕ) → ((k : ℕ) (d : FieldMeta) → k < length fields → against key (get_or fields k d) ≡ Equal → ⊥) → field_named fields key ≡ None
nowhere [] key none = refl
nowhere (f ∷ fs) key none =
    ap (λ b. cond b (Some f) (field_named fs key)) (apart_name f key (none 0 f (omega arith)))
    ∙ nowhere fs key (λ k d lt. none (suc k) d (omega arith))

pub searched_field : (fields : List FieldMeta) (key : List ℕ) → IsStrictlySortedBy by_field fields → (r : Result ℕ ℕ) → IsSearchInRange r (length fields)
    → IsBinarySearchResult (λ (f : FieldMeta). slice_cmp nat_cmp f.name key) fields r
    → MatchResult r (λ i. (d : FieldMeta) → field_named fields key ≡ Some (get_or fields i d)) (λ _. field_named fields key ≡ None)
searched_field fields key sorted (Ok i) within tied = λ d. at_place fields key sorted i d within (tied d)
searched_field fields key sorted (Err i) within parted =
    let parts = parted (searchable_from_sorted nat_list_cmp_total (λ (f : FieldMeta). f.name) fields key (searchable fields sorted)) in
    nowhere fields key (λ k d lt tied. elim (cases_lt k i) [
      | inl before ↦ let less : against key (get_or fields k d) ≡ Less = parts.0 k d (omega arith) before in cc
      | inr after ↦ let more : against key (get_or fields k d) ≡ Greater = parts.1 k d after lt in cc
    ])
