-- The place of an open cursor, and the cursors without it.
use Rattle.std.proofs.Common.{None, Some, ◌≡◌, ℕ, suc, ◌+◌, ◌<◌, ℤ, pos, Bool, true, false, if◌then◌else◌, List, [], ◌∷◌, ◌++◌, length, take, drop, refl, sym, ap, ◌∙◌, subst, arith, inl, inr}
use Rattle.std.specs.Prelude.{slice_index_or, slice_set, option_map}
use Rattle.std.specs.List.{position_from}
use Rattle.std.proofs.lemmas.Iterator.Adapters.{position_from-zero}
use Rattle.std.proofs.lemmas.List.{length-set, take_all, take-append-le, get_or-set_same, take-set, drop-set-lt}
use Rattle.std.specs.Ordering.{int_eq}
use Rattle.std.proofs.lemmas.Bool.{cases_Bool, cond-true, cond-false}
use Rattle.std.proofs.lemmas.Bool.Decides.{Decides-int_eq}
use Rattle.ig_caches.specs.declared.request.Page.{Page}
use Rattle.ig_deals.specs.Desk.{Cursor, has_number, page_shown, after_page, paged, cursor_at, without, AreApart, place_of_number}
use Rattle.ig_deals.proofs.CursorLemmas.{head-true, head-false, found-append, alone_none, without_none, without_other}

-- ---- cursors of which none has the number

head_other : (k : ℤ) (x : Cursor) (xs : List Cursor) → cursor_at (x ∷ xs) k ≡ None → (has_number k x ≡ false) × (cursor_at xs k ≡ None)
head_other k x xs e = elim (cases_Bool (has_number k x)) [
  | inl h ↦ absurd (clash (sym (head-true k x xs h) ∙ e))
  | inr h ↦ (h, sym (head-false k x xs h) ∙ e)
] where
  clash : {c : Cursor} → Some c ≡ None → ⊥
  clash h = cc

pub without_absent : (k : ℤ) (cs : List Cursor) → cursor_at cs k ≡ None → without cs k ≡ cs
without_absent k [] e = refl
without_absent k (x ∷ xs) e =
    let other : (has_number k x ≡ false) × (cursor_at xs k ≡ None) = head_other k x xs e in
    cond-false (has_number k x) (without xs k) (x ∷ without xs k) other.0 ∙ ap (λ (l : List Cursor). x ∷ l) (without_absent k xs other.1)

-- ---- the place of the first one with the number

-- what stands at a place, and what is left without it
record IsPlace (k : ℤ) (cs : List Cursor) (at : ℕ) : Type 0 where
  within : at < length cs
  found : (d : Cursor) → cursor_at cs k ≡ Some (slice_index_or cs at d)
  left : AreApart cs → without cs k ≡ take at cs ++ drop (suc at) cs

here : (k : ℤ) (x : Cursor) (xs : List Cursor) → has_number k x ≡ true → IsPlace k (x ∷ xs) 0
here k x xs h = record {
  within = omega arith;
  found = λ d. head-true k x xs h;
  left = λ is. cond-true (has_number k x) (without xs k) (x ∷ without xs k) h
      ∙ without_absent k xs (subst (λ (i : ℤ). cursor_at xs i ≡ None) ((Decides-int_eq (pos x.number) k).0 h) is.0);
}

later : (k : ℤ) (x : Cursor) (xs : List Cursor) (at : ℕ) → has_number k x ≡ false → IsPlace k xs at → IsPlace k (x ∷ xs) (suc at)
later k x xs at h p = record {
  within = let lt : at < length xs = p.within in omega (arith, lt);
  found = λ d. head-false k x xs h ∙ p.found d;
  left = λ is. cond-false (has_number k x) (without xs k) (x ∷ without xs k) h ∙ ap (λ (l : List Cursor). x ∷ l) (p.left is.1);
}

place_from : (k : ℤ) (cs : List Cursor) (from n : ℕ) → position_from (has_number k) from cs ≡ Some n → (at : ℕ) × (n ≡ from + at) × IsPlace k cs at
place_from k [] from n e = cc
place_from k (x ∷ xs) from n e = elim (cases_Bool (has_number k x)) [
  | inl h ↦
      let same : Some from ≡ Some n = sym (cond-true (has_number k x) (Some from) (position_from (has_number k) (from + 1) xs) h) ∙ e in
      (0, first same, here k x xs h)
  | inr h ↦
      let p : (at : ℕ) × (n ≡ from + 1 + at) × IsPlace k xs at =
      place_from k xs (from + 1) n (sym (cond-false (has_number k x) (Some from) (position_from (has_number k) (from + 1) xs) h) ∙ e) in
      (suc p.0, omega (arith, p.1), later k x xs p.0 h p.2)
] where
  first : {a b : ℕ} → Some a ≡ Some b → b ≡ a + 0
  first {a} {b} h = let same : a ≡ b = cc in omega (arith, same)

none_from : (k : ℤ) (cs : List Cursor) (from : ℕ) → position_from (has_number k) from cs ≡ None → cursor_at cs k ≡ None
none_from k [] from e = refl
none_from k (x ∷ xs) from e = elim (cases_Bool (has_number k x)) [
  | inl h ↦ absurd (clash (sym (cond-true (has_number k x) (Some from) (position_from (has_number k) (from + 1) xs) h) ∙ e))
  | inr h ↦ head-false k x xs h ∙ none_from k xs (from + 1) (sym (cond-false (has_number k x) (Some from) (position_from (has_number k) (from + 1) xs) h) ∙ e)
] where
  clash : {a : ℕ} → Some a ≡ None → ⊥
  clash h = cc

pub place_within : (k : ℤ) (cs : List Cursor) (at : ℕ) → place_of_number cs k ≡ Some at → at < length cs
unfolding place_of_number
place_within k cs at e = let p = place_from k cs 0 at (sym (position_from-zero (has_number k) cs) ∙ e) in let same : p.0 ≡ at = omega (arith, p.1) in subst (λ (n : ℕ). n < length cs) same p.2.within

pub place_found : (k : ℤ) (cs : List Cursor) (at : ℕ) → place_of_number cs k ≡ Some at → (d : Cursor) → cursor_at cs k ≡ Some (slice_index_or cs at d)
unfolding place_of_number
place_found k cs at e d = let p = place_from k cs 0 at (sym (position_from-zero (has_number k) cs) ∙ e) in let same : p.0 ≡ at = omega (arith, p.1) in subst (λ (n : ℕ). cursor_at cs k ≡ Some (slice_index_or cs n d)) same (p.2.found d)

pub place_left : (k : ℤ) (cs : List Cursor) (at : ℕ) → place_of_number cs k ≡ Some at → AreApart cs → without cs k ≡ take at cs ++ drop (at + 1) cs
unfolding place_of_number
place_left k cs at e is = let p = place_from k cs 0 at (sym (position_from-zero (has_number k) cs) ∙ e) in
    let next : suc p.0 ≡ at + 1 = omega (arith, p.1) in
    let same : p.0 ≡ at = omega (arith, p.1) in
    p.2.left is ∙ ap (λ (n : ℕ). take n cs ++ drop (suc p.0) cs) same ∙ ap (λ (n : ℕ). take at cs ++ drop n cs) next

pub place_none : (k : ℤ) (cs : List Cursor) → place_of_number cs k ≡ None → cursor_at cs k ≡ None
unfolding place_of_number
place_none k cs e = none_from k cs 0 (sym (position_from-zero (has_number k) cs) ∙ e)

pub place_same : (k : ℤ) (cs : List Cursor) → place_of_number cs k ≡ None → without cs k ≡ cs
place_same k cs e = without_absent k cs (place_none k cs e)

-- ---- a page taken out of the cursor at the place

-- the cursors after a loan of them, in a vector of n
abbrev pub lent_back : ℕ → List Cursor → List Cursor → List Cursor
lent_back n new cs = take n (new ++ drop (length new) cs)

pub page_lent : (cs lent new : List Cursor) (n at : ℕ) → lent ≡ cs → length cs ≡ n
    → ((d : Cursor) → new ≡ slice_set lent at (after_page (slice_index_or lent at d)))
    → (d : Cursor) → lent_back n new cs ≡ slice_set cs at (after_page (slice_index_or cs at d))
page_lent cs lent new n at lent_is long new_is d =
    let after : Cursor = after_page (slice_index_or cs at d) in
    let is : new ≡ slice_set cs at after =
    new_is d ∙ ap (λ (l : List Cursor). slice_set l at (after_page (slice_index_or l at d))) lent_is in
    let same : length new ≡ n = ap length is ∙ length-set cs at after ∙ long in
    take-append-le n new (drop (length new) cs) (omega (arith, same)) ∙ take_all n new (omega (arith, same)) ∙ is

-- the page, and the cursor after it
pub page_taken : (k : ℤ) (cs new : List Cursor) (at : ℕ) (page : Page) (left : Cursor) → place_of_number cs k ≡ Some at
    → ((d : Cursor) → page ≡ page_shown None (slice_index_or cs at d))
    → ((d : Cursor) → new ≡ slice_set cs at (after_page (slice_index_or cs at d)))
    → left ≡ slice_index_or new at left
    → Some (page, left) ≡ option_map paged (cursor_at cs k)
page_taken k cs new at page left place page_is new_is left_is =
    let here : Cursor = slice_index_or cs at left in
    let after : left ≡ after_page here =
    left_is ∙ ap (λ (l : List Cursor). slice_index_or l at left) (new_is left)
    ∙ get_or-set_same cs at (after_page here) left (place_within k cs at place) in
    ap (λ (p : Page). Some (p, left)) (page_is left) ∙ ap (λ (c : Cursor). Some (page_shown None here, c)) after
    ∙ sym (ap (option_map paged) (place_found k cs at place left))

-- the other cursors
pub page_left : (k : ℤ) (cs new : List Cursor) (at : ℕ) (left : Cursor) → place_of_number cs k ≡ Some at → AreApart cs
    → ((d : Cursor) → new ≡ slice_set cs at (after_page (slice_index_or cs at d)))
    → take at new ++ drop (at + 1) new ≡ without cs k
page_left k cs new at left place apart new_is =
    let after : Cursor = after_page (slice_index_or cs at left) in
    ap (λ (l : List Cursor). take at l ++ drop (at + 1) l) (new_is left)
    ∙ ap (λ (l : List Cursor). l ++ drop (at + 1) (slice_set cs at after)) (take-set cs at after)
    ∙ ap (λ (l : List Cursor). take at cs ++ l) (drop-set-lt (at + 1) cs at after (omega arith))
    ∙ sym (place_left k cs at place apart)

-- ---- no two have one number

flipped : (a b : ℤ) → int_eq a b ≡ false → int_eq b a ≡ false
flipped a b e = elim (cases_Bool (int_eq b a)) [
  | inl h ↦ absurd (clash (sym ((Decides-int_eq a b).1 (sym ((Decides-int_eq b a).0 h))) ∙ e))
  | inr h ↦ h
] where
  clash : true ≡ false → ⊥
  clash h = cc

pub apart-append : (cs : List Cursor) (c : Cursor) → AreApart cs → cursor_at cs (pos c.number) ≡ None → AreApart (cs ++ c ∷ [])
apart-append [] c is e = (refl, tt)
apart-append (x ∷ xs) c is e =
    let other : (has_number (pos c.number) x ≡ false) × (cursor_at xs (pos c.number) ≡ None) = head_other (pos c.number) x xs e in (
      found-append (pos x.number) xs (c ∷ []) (alone_none (pos x.number) c (flipped (pos x.number) (pos c.number) other.0)) ∙ is.0,
      apart-append xs c is.1 other.1,
    )

still_none : (j k : ℤ) (cs : List Cursor) → cursor_at cs j ≡ None → cursor_at (without cs k) j ≡ None
still_none j k cs e = elim (cases_Bool (int_eq k j)) [
  | inl h ↦ subst (λ (i : ℤ). cursor_at (without cs k) i ≡ None) ((Decides-int_eq k j).0 h) (without_none k cs)
  | inr h ↦ without_other k j cs h ∙ e
]

apart-choice : (b : Bool) (x : Cursor) (rest : List Cursor) → AreApart rest → cursor_at rest (pos x.number) ≡ None → AreApart (if b then rest else x ∷ rest)
apart-choice true x rest is e = is
apart-choice false x rest is e = (e, is)

pub apart-without : (k : ℤ) (cs : List Cursor) → AreApart cs → AreApart (without cs k)
apart-without k [] is = tt
apart-without k (x ∷ xs) is = apart-choice (has_number k x) x (without xs k) (apart-without k xs is.1) (still_none (pos x.number) k xs is.0)
