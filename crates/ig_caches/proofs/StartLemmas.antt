-- Names with which caches start, one by one.
use Rattle.std.proofs.Common.{◌≡◌, ◌≤◌, ◌<◌, ◌+◌, ◌++◌, ℕ, zero, suc, ℤ, pos, true, false, List, [], ◌∷◌, map, length, None, Some, refl, sym, ap, ◌∙◌, inl, inr, arith}
use Rattle.std.proofs.lemmas.Bool.{cases_Bool, cond-true, cond-false}
use Rattle.std.proofs.lemmas.Bool.Decides.{Decides-int_eq}
use Rattle.std.proofs.lemmas.List.{map-append, length_push}
use Rattle.std.proofs.lemmas.Option.{slice_get_within}
use Rattle.std.proofs.Math.Nat.{eq-or-lt_of_le}
use Rattle.std.specs.List.{slice_get}
use Rattle.std.specs.Ordering.{int_eq}
use Rattle.ig_types.specs.Registered.{empty_registry}
use Rattle.ig_caches.specs.declared.fault.StartFault.{StartFault}
use Rattle.ig_caches.specs.declared.fault.StartFault.TheVariants as fault
use Rattle.ig_caches.specs.AddsName.{with_cache, IsNameFault}
use Rattle.ig_caches.specs.PlainCaches.{Cache, id_of, has_id, cache_of, fresh_cache, fresh_caches}
use Rattle.ig_caches.specs.Effect.{max_caches}
use Rattle.ig_caches.specs.Starts.{IsEmptyAt, IsTakenAt, IsNowhere, IsStartFault}

-- ---- the name at an index
seam : (before rest : List (List ℕ)) (name : List ℕ) → slice_get (before ++ name ∷ rest) (length before) ≡ Some name
seam [] rest name = refl
seam (first ∷ before) rest name = seam before rest name

in_more : (xs ys : List (List ℕ)) (k : ℕ) (x : List ℕ) → slice_get xs k ≡ Some x → slice_get (xs ++ ys) k ≡ Some x
in_more [] ys k x is = absurd (cc)
in_more (y ∷ xs) ys zero x is = is
in_more (y ∷ xs) ys (suc k) x is = in_more xs ys k x is

in_left : (xs ys : List (List ℕ)) (k : ℕ) (x : List ℕ) → k < length xs → slice_get (xs ++ ys) k ≡ Some x → slice_get xs k ≡ Some x
in_left [] ys k x less is = absurd (omega arith)
in_left (y ∷ xs) ys zero x less is = is
in_left (y ∷ xs) ys (suc k) x less is = in_left xs ys k x (omega arith) is

-- ---- the caches of names
-- an identifier of no cache is that of no name
no_name_later : (first : List ℕ) (names : List (List ℕ)) (id : ℤ) (other : List ℕ) → has_id id (fresh_cache first) ≡ false → id_of other ≡ id → ((j : ℕ) → slice_get names j ≡ Some other → ⊥)
    → (j : ℕ) → slice_get (first ∷ names) j ≡ Some other → ⊥
no_name_later first names id other apart one later zero is =
    let same : first ≡ other = cc in
    let yes : int_eq id (id_of first) ≡ true = (Decides-int_eq id (id_of first)).1 (sym (ap id_of same ∙ one)) in
    let never : true ≡ false = sym yes ∙ apart in
    cc
no_name_later first names id other apart one later (suc j) is = later j is

no_name : (names : List (List ℕ)) (id : ℤ) → cache_of (map fresh_cache names) id ≡ None → (other : List ℕ) → id_of other ≡ id → (j : ℕ) → slice_get names j ≡ Some other → ⊥
no_name [] id none other one = λ j is. cc
no_name (first ∷ names) id none other one = elim (cases_Bool (has_id id (fresh_cache first))) [
  | inl here ↦ let some : Some (fresh_cache first) ≡ None = sym (cond-true (has_id id (fresh_cache first)) _ _ here) ∙ none in λ j is. cc
  | inr apart ↦
      no_name_later first names id other apart one
      (no_name names id (sym (cond-false (has_id id (fresh_cache first)) _ _ apart) ∙ none) other one)
]

-- the name of a cache
record IsNameWith (names : List (List ℕ)) (id : ℤ) : Type 0 where
  at : ℕ
  other : List ℕ
  there : slice_get names at ≡ Some other
  one_id : id_of other ≡ id

name_with : (names : List (List ℕ)) (id : ℤ) (cache : Cache) → cache_of (map fresh_cache names) id ≡ Some cache → IsNameWith names id
name_with [] id cache is = absurd (cc)
name_with (first ∷ names) id cache is = elim (cases_Bool (has_id id (fresh_cache first))) [
  | inl here ↦ record { at = 0; other = first; there = refl; one_id = sym ((Decides-int_eq id (id_of first)).0 here) }
  | inr later ↦
      let it : IsNameWith names id = name_with names id cache (sym (cond-false (has_id id (fresh_cache first)) _ _ later) ∙ is) in
      record { at = suc it.at; other = it.other; there = it.there; one_id = it.one_id }
]

count_fresh : (names : List (List ℕ)) → length (map fresh_cache names) ≡ length names
count_fresh [] = refl
count_fresh (name ∷ names) = ap (λ n. suc n) (count_fresh names)

-- ---- one more name
pub fresh_push : (names : List (List ℕ)) (name : List ℕ) → with_cache (fresh_caches names) name ≡ fresh_caches (names ++ name ∷ [])
fresh_push names name = λ i. record { caches = (sym (map-append fresh_cache names (name ∷ []))) i; registry = empty_registry; minor = pos 0 }

pub distinct_push : (names : List (List ℕ)) (name : List ℕ) → IsNowhere (IsTakenAt names) → cache_of (fresh_caches names).caches (id_of name) ≡ None → IsNowhere (IsTakenAt (names ++ name ∷ []))
distinct_push names name distinct free = λ k taken.
    let within : k < length names + 1 = omega (arith, length_push names name, slice_get_within (names ++ name ∷ []) k taken.name taken.here) in
    let less : taken.earlier < k = taken.is_earlier in
    let before : slice_get names taken.earlier ≡ Some taken.other = in_left names (name ∷ []) taken.earlier taken.other (omega arith) taken.there in
    elim (eq-or-lt_of_le {n = k} {m = length names} (omega (arith, within))) [
      | inl last ↦
          let here : Some name ≡ Some taken.name = sym (seam names [] name) ∙ ap (slice_get (names ++ name ∷ [])) (sym last) ∙ taken.here in
          let same : name ≡ taken.name = cc in
          no_name names (id_of name) free taken.other (taken.one_id ∙ ap id_of (sym same)) taken.earlier before
      | inr inside ↦ distinct k (record {
        name = taken.name;
        here = in_left names (name ∷ []) k taken.name inside taken.here;
        earlier = taken.earlier;
        is_earlier = taken.is_earlier;
        other = taken.other;
        there = before;
        one_id = taken.one_id;
      })
    ]

-- a name that can't be added is the first whose identifier is taken, or there is no memory
pub name_fault : (names before rest : List (List ℕ)) (name : List ℕ) (f : StartFault) → before ++ name ∷ rest ≡ names → length names ≤ max_caches → IsNowhere (IsEmptyAt names)
    → IsNowhere (IsTakenAt before) → IsNameFault (fresh_caches before).caches name f → IsStartFault names f
name_fault names before rest name fault.NoMemory whole few no_empty distinct it = tt
name_fault names before rest name fault.TooMany whole few no_empty distinct it = absurd it
name_fault names before rest name (fault.Empty at) whole few no_empty distinct it = absurd it
name_fault names before rest name (fault.Taken at) whole few no_empty distinct it =
    let is_at : at ≡ length before = it.0 ∙ count_fresh before in
    let same : IsNameWith before (id_of name) = name_with before (id_of name) it.1 it.2 in
    let less : same.at < length before = slice_get_within before same.at same.other same.there in
    let here : IsTakenAt names at = record {
      name = name;
      here = ap (λ ns. slice_get ns at) (sym whole) ∙ ap (slice_get (before ++ name ∷ rest)) is_at ∙ seam before rest name;
      earlier = same.at;
      is_earlier = omega arith;
      other = same.other;
      there = ap (λ ns. slice_get ns same.at) (sym whole) ∙ in_more before (name ∷ rest) same.at same.other same.there;
      one_id = same.one_id;
    } in (
      few,
      no_empty,
      record {
        here = here;
        none_before = λ k below taken.
            let inside : k < length before = omega arith in
            let first : taken.earlier < k = taken.is_earlier in
            distinct k (record {
              name = taken.name;
              here = in_left before (name ∷ rest) k taken.name inside (ap (λ ns. slice_get ns k) whole ∙ taken.here);
              earlier = taken.earlier;
              is_earlier = taken.is_earlier;
              other = taken.other;
              there = in_left before (name ∷ rest) taken.earlier taken.other (omega arith) (ap (λ ns. slice_get ns taken.earlier) whole ∙ taken.there);
              one_id = taken.one_id;
            });
      },
    )
