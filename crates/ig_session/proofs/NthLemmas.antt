-- The place of a call that is out, and the calls without it.
use Rattle.std.proofs.Common.{None, Some, ◌≡◌, ℕ, suc, ◌+◌, ◌<◌, ◌≤◌, Bool, true, false, if◌then◌else◌, Option, List, [], ◌∷◌, ◌++◌, length, take, drop, refl, sym, ap, ◌∙◌, subst, arith, inl, inr, eqb-true}
use Rattle.std.specs.Prelude.{◌==◌, slice_index_or}
use Rattle.std.specs.List.{position_from}
use Rattle.std.proofs.lemmas.Iterator.Adapters.{position_from-zero}
use Rattle.std.proofs.lemmas.Bool.{cases_Bool, cond-true, cond-false}
use Rattle.ig_session.specs.declared.awaited.Awaited.{Awaited}
use Rattle.ig_session.specs.Awaiting.{has_nth, awaited_at, without_nth, place_of_nth}

-- what stands at a place, and what is left without it
record IsPlace (nth : ℕ) (out : List Awaited) (at : ℕ) : Type 0 where
  within : at < length out
  found : (d : Awaited) → awaited_at out nth ≡ Some (slice_index_or out at d)
  left : without_nth out nth ≡ take at out ++ drop (suc at) out

found_first : (nth : ℕ) (a : Awaited) (out : List Awaited) → has_nth nth a ≡ true → awaited_at (a ∷ out) nth ≡ Some a
found_first nth a out h = cond-true (has_nth nth a) (Some a) (awaited_at out nth) h

found_later : (nth : ℕ) (a : Awaited) (out : List Awaited) → has_nth nth a ≡ false → awaited_at (a ∷ out) nth ≡ awaited_at out nth
found_later nth a out h = cond-false (has_nth nth a) (Some a) (awaited_at out nth) h

here : (nth : ℕ) (a : Awaited) (out : List Awaited) → has_nth nth a ≡ true → IsPlace nth (a ∷ out) 0
here nth a out h = record {
  within = omega arith;
  found = λ d. found_first nth a out h;
  left = cond-true (has_nth nth a) out (a ∷ without_nth out nth) h;
}

later : (nth : ℕ) (a : Awaited) (out : List Awaited) (at : ℕ) → has_nth nth a ≡ false → IsPlace nth out at → IsPlace nth (a ∷ out) (suc at)
later nth a out at h p = record {
  within = let lt : at < length out = p.within in omega (arith, lt);
  found = λ d. found_later nth a out h ∙ p.found d;
  left = cond-false (has_nth nth a) out (a ∷ without_nth out nth) h ∙ ap (λ (l : List Awaited). a ∷ l) p.left;
}

place_from : (nth : ℕ) (out : List Awaited) (from n : ℕ) → position_from (has_nth nth) from out ≡ Some n → (at : ℕ) × (n ≡ from + at) × IsPlace nth out at
place_from nth [] from n e = absurd cc
place_from nth (a ∷ out) from n e = elim (cases_Bool (has_nth nth a)) [
  | inl h ↦
      let same : Some from ≡ Some n = sym (cond-true (has_nth nth a) (Some from) (position_from (has_nth nth) (from + 1) out) h) ∙ e in
      (0, first same, here nth a out h)
  | inr h ↦
      let p : (at : ℕ) × (n ≡ from + 1 + at) × IsPlace nth out at =
      place_from nth out (from + 1) n (sym (cond-false (has_nth nth a) (Some from) (position_from (has_nth nth) (from + 1) out) h) ∙ e) in
      (suc p.0, omega (arith, p.1), later nth a out p.0 h p.2)
] where
  first : {a b : ℕ} → Some a ≡ Some b → b ≡ a + 0
  first {a} {b} h = let same : a ≡ b = cc in omega (arith, same)

none_from : (nth : ℕ) (out : List Awaited) (from : ℕ) → position_from (has_nth nth) from out ≡ None → awaited_at out nth ≡ None
none_from nth [] from e = refl
none_from nth (a ∷ out) from e = elim (cases_Bool (has_nth nth a)) [
  | inl h ↦ absurd (clash (sym (cond-true (has_nth nth a) (Some from) (position_from (has_nth nth) (from + 1) out) h) ∙ e))
  | inr h ↦ found_later nth a out h ∙ none_from nth out (from + 1) (sym (cond-false (has_nth nth a) (Some from) (position_from (has_nth nth) (from + 1) out) h) ∙ e)
] where
  clash : {a : ℕ} → Some a ≡ None → ⊥
  clash h = cc

pub record IsPlaceOf (nth : ℕ) (out : List Awaited) (at : ℕ) : Type 0 where
  pub within : at < length out
  pub found : (d : Awaited) → awaited_at out nth ≡ Some (slice_index_or out at d)
  pub left : without_nth out nth ≡ take at out ++ drop (at + 1) out

pub nth_place : (nth : ℕ) (out : List Awaited) (at : ℕ) → place_of_nth out nth ≡ Some at → IsPlaceOf nth out at
unfolding place_of_nth
nth_place nth out at e =
    let p = place_from nth out 0 at (sym (position_from-zero (has_nth nth) out) ∙ e) in
    let same : p.0 ≡ at = omega (arith, p.1) in
    let next : suc p.0 ≡ at + 1 = omega (arith, p.1) in
    record {
      within = subst (λ (n : ℕ). n < length out) same p.2.within;
      found = λ d. subst (λ (n : ℕ). awaited_at out nth ≡ Some (slice_index_or out n d)) same (p.2.found d);
      left = p.2.left ∙ ap (λ (n : ℕ). take n out ++ drop (suc p.0) out) same ∙ ap (λ (n : ℕ). take at out ++ drop n out) next;
    }

pub nth_none : (nth : ℕ) (out : List Awaited) → place_of_nth out nth ≡ None → awaited_at out nth ≡ None
unfolding place_of_nth
nth_none nth out e = none_from nth out 0 (sym (position_from-zero (has_nth nth) out) ∙ e)

-- the call that is found has the number
pub found_nth : (nth : ℕ) (out : List Awaited) (awaited : Awaited) → awaited_at out nth ≡ Some awaited → awaited.nth ≡ nth
found_nth nth [] awaited e = absurd cc
found_nth nth (a ∷ out) awaited e = elim (cases_Bool (has_nth nth a)) [
  | inl h ↦ let same : Some a ≡ Some awaited = sym (found_first nth a out h) ∙ e in
      let is : a ≡ awaited = cc in ap (λ (x : Awaited). x.nth) (sym is) ∙ eqb-true a.nth nth h
  | inr h ↦ found_nth nth out awaited (sym (found_later nth a out h) ∙ e)
]

-- one call fewer is out
pub without_fewer : (nth : ℕ) (out : List Awaited) (awaited : Awaited) → awaited_at out nth ≡ Some awaited → length (without_nth out nth) < length out
without_fewer nth [] awaited e = absurd cc
without_fewer nth (a ∷ out) awaited e = elim (cases_Bool (has_nth nth a)) [
  | inl h ↦ omega (arith, ap length (cond-true (has_nth nth a) out (a ∷ without_nth out nth) h))
  | inr h ↦
      let less : length (without_nth out nth) < length out = without_fewer nth out awaited (sym (found_later nth a out h) ∙ e) in
      omega (arith, less, ap length (cond-false (has_nth nth a) out (a ∷ without_nth out nth) h))
]
