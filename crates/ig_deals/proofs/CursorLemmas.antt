-- Finding cursors by their numbers.
use Rattle.std.proofs.Common.{None, Some, ◌≡◌, ℕ, suc, ◌<◌, ◌≤◌, ℤ, pos, Bool, true, false, if◌then◌else◌, List, [], ◌∷◌, ◌++◌, length, Option, refl, sym, ap, ◌∙◌, subst, arith, inl, inr}
use Rattle.std.specs.Ordering.{int_eq}
use Rattle.std.proofs.lemmas.Bool.{cases_Bool, cond-true, cond-false}
use Rattle.std.proofs.lemmas.Bool.Decides.{Decides-int_eq}
use Rattle.std.proofs.lemmas.Int.{ints}
use Rattle.ig_deals.specs.Desk.{Cursor, has_number, cursor_at, without}

-- ---- the first one that has the number

pub head-true : (k : ℤ) (c : Cursor) (cs : List Cursor) → has_number k c ≡ true → cursor_at (c ∷ cs) k ≡ Some c
head-true k c cs e = cond-true (has_number k c) (Some c) (cursor_at cs k) e

pub head-false : (k : ℤ) (c : Cursor) (cs : List Cursor) → has_number k c ≡ false → cursor_at (c ∷ cs) k ≡ cursor_at cs k
head-false k c cs e = cond-false (has_number k c) (Some c) (cursor_at cs k) e

some_none : (c : Cursor) → Some c ≡ None → ⊥
some_none c h = cc

pub some_same : (c d : Cursor) → Some c ≡ Some d → c ≡ d
some_same c d h = cc

pub found-append : (k : ℤ) (xs ys : List Cursor) → cursor_at ys k ≡ None → cursor_at (xs ++ ys) k ≡ cursor_at xs k
found-append k [] ys e = e
found-append k (x ∷ xs) ys e = ap (λ (o : Option Cursor). if has_number k x then Some x else o) (found-append k xs ys e)

pub found-after : (k : ℤ) (xs ys : List Cursor) → cursor_at xs k ≡ None → cursor_at (xs ++ ys) k ≡ cursor_at ys k
found-after k [] ys e = refl
found-after k (x ∷ xs) ys e = elim (cases_Bool (has_number k x)) [
  | inl h ↦ absurd (some_none x (sym (head-true k x xs h) ∙ e))
  | inr h ↦ head-false k x (xs ++ ys) h ∙ found-after k xs ys (sym (head-false k x xs h) ∙ e)
]

pub found_has : (k : ℤ) (cs : List Cursor) (c : Cursor) → cursor_at cs k ≡ Some c → has_number k c ≡ true
found_has k [] c e = cc
found_has k (x ∷ xs) c e = elim (cases_Bool (has_number k x)) [
  | inl h ↦ subst (λ (d : Cursor). has_number k d ≡ true) (some_same x c (sym (head-true k x xs h) ∙ e)) h
  | inr h ↦ found_has k xs c (sym (head-false k x xs h) ∙ e)
]

-- a cursor with another number
pub alone_none : (k : ℤ) (c : Cursor) → has_number k c ≡ false → cursor_at (c ∷ []) k ≡ None
alone_none k c e = head-false k c [] e

-- another number than one that a cursor has
pub other_number : (j k : ℤ) (c : Cursor) → int_eq j k ≡ false → has_number j c ≡ true → has_number k c ≡ false
other_number j k c other has = subst (λ (i : ℤ). int_eq i k ≡ false) (sym ((Decides-int_eq (pos c.number) j).0 has)) other

not_equal : (n m : ℕ) (b : Bool) → int_eq (pos n) (pos m) ≡ b → m < n → b ≡ false
not_equal n m true e lt = let same : pos n ≡ pos m = (Decides-int_eq (pos n) (pos m)).0 e in absurd (omega (arith, ints, same, lt))
not_equal n m false e lt = refl

-- a later number isn't an earlier one
pub later_number : (n m : ℕ) → m < n → int_eq (pos n) (pos m) ≡ false
later_number n m lt = not_equal n m (int_eq (pos n) (pos m)) refl lt

not_equal_to : (n m : ℕ) (b : Bool) → int_eq (pos n) (pos m) ≡ b → n < m → b ≡ false
not_equal_to n m true e lt = let same : pos n ≡ pos m = (Decides-int_eq (pos n) (pos m)).0 e in absurd (omega (arith, ints, same, lt))
not_equal_to n m false e lt = refl

-- an earlier number isn't a later one
pub earlier_number : (n m : ℕ) → n < m → int_eq (pos n) (pos m) ≡ false
earlier_number n m lt = not_equal_to n m (int_eq (pos n) (pos m)) refl lt

pub open_other : (b : Bool) (k : ℤ) (cursor : Cursor) → cursor_at (cursor ∷ []) k ≡ None → cursor_at (if b then cursor ∷ [] else []) k ≡ None
open_other true k cursor e = e
open_other false k cursor e = refl

-- ---- cursors without one

-- the cursors from one on, which goes if the test passes
abbrev choice : Bool → Cursor → List Cursor → List Cursor
choice b x rest = if b then rest else x ∷ rest

pub without_none : (k : ℤ) (cs : List Cursor) → cursor_at (without cs k) k ≡ None
without_none k [] = refl
without_none k (x ∷ xs) = elim (cases_Bool (has_number k x)) [
  | inl h ↦ ap (λ (b : Bool). cursor_at (choice b x (without xs k)) k) h ∙ without_none k xs
  | inr h ↦ ap (λ (b : Bool). cursor_at (choice b x (without xs k)) k) h ∙ head-false k x (without xs k) h ∙ without_none k xs
]

-- those with other numbers stay
pub without_other : (j k : ℤ) (cs : List Cursor) → int_eq j k ≡ false → cursor_at (without cs j) k ≡ cursor_at cs k
without_other j k [] other = refl
without_other j k (x ∷ xs) other = elim (cases_Bool (has_number j x)) [
  | inl h ↦
      ap (λ (b : Bool). cursor_at (choice b x (without xs j)) k) h ∙ without_other j k xs other
      ∙ sym (head-false k x xs (other_number j k x other h))
  | inr h ↦
      ap (λ (b : Bool). cursor_at (choice b x (without xs j)) k) h
      ∙ ap (λ (o : Option Cursor). if has_number k x then Some x else o) (without_other j k xs other)
]

choice_few : (b : Bool) (x : Cursor) (rest : List Cursor) (n : ℕ) → length rest ≤ n → length (choice b x rest) ≤ suc n
choice_few true x rest n le = omega (arith, le)
choice_few false x rest n le = omega (arith, le)

pub without_few : (k : ℤ) (cs : List Cursor) → length (without cs k) ≤ length cs
without_few k [] = omega arith
without_few k (x ∷ xs) = choice_few (has_number k x) x (without xs k) (length xs) (without_few k xs)

-- one goes where there is one
pub without_fewer : (k : ℤ) (cs : List Cursor) (c : Cursor) → cursor_at cs k ≡ Some c → length (without cs k) < length cs
without_fewer k [] c e = cc
without_fewer k (x ∷ xs) c e = elim (cases_Bool (has_number k x)) [
  | inl h ↦
      let less : length (without xs k) ≤ length xs = without_few k xs in
      subst (λ (b : Bool). length (choice b x (without xs k)) < suc (length xs)) (sym h) (omega (arith, less))
  | inr h ↦
      let less : length (without xs k) < length xs = without_fewer k xs c (sym (head-false k x xs h) ∙ e) in
      subst (λ (b : Bool). length (choice b x (without xs k)) < suc (length xs)) (sym h) (omega (arith, less))
]
