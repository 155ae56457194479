-- Beginnings of a list, the entries under a number, and numbers that all differ.
use Rattle.std.proofs.Common.{◌≡◌, ◌≢◌, ◌⊎◌, ℕ, suc, zero, ◌≤◌, eqb, Bool, false, cond, List, [], ◌∷◌, ◌++◌, map, length, refl, sym, ap, ◌∙◌, subst, inl, inr, ⊎_elim, arith, append_assoc, length-append, eq-eqb, ne_eqb}
use Rattle.std.specs.List.{All, Contains, IsDistinct, AllByRecursion}
use Rattle.std.specs.Prelude.{nat_eq}
use Rattle.std.proofs.lemmas.List.Elements.{filter-append, All-cons, All-nil, All-contains, All-contains_itself, Contains-append_left, Contains-append_cases}
use mathlib.Core.List.{IsPrefix, append-nil}
use Rattle.ig_base.specs.declared.entry.Entry.{Entry}
use Rattle.ig_turn.specs.History.{entries_of, entry}

module _ {T : Type 0} where
  pub prefix_refl : (xs : List T) → IsPrefix xs xs
  prefix_refl xs = ([], append-nil xs)

  pub prefix_more : (xs ys zs : List T) → IsPrefix xs ys → IsPrefix xs (ys ++ zs)
  prefix_more xs ys zs p = (p.0 ++ zs, sym (append_assoc xs p.0 zs) ∙ ap (λ (l : List T). l ++ zs) p.1)

  pub prefix_trans : (xs ys zs : List T) → IsPrefix xs ys → IsPrefix ys zs → IsPrefix xs zs
  prefix_trans xs ys zs p q = subst (IsPrefix xs) q.1 (prefix_more xs ys q.0 p)

  pub prefix_length : (xs ys : List T) → IsPrefix xs ys → length xs ≤ length ys
  prefix_length xs ys p = omega (arith, length-append xs p.0, ap length p.1)

  prefix_tail : (x y : T) (xs ys : List T) → IsPrefix (x ∷ xs) (y ∷ ys) → (x ≡ y) × IsPrefix xs ys
  prefix_tail x y xs ys p = (cc (p.1), (p.0, cc (p.1)))

  -- of two beginnings of one list, the shorter begins the longer
  pub prefix_both : (xs ys zs : List T) → IsPrefix xs zs → IsPrefix ys zs → length ys ≤ length xs → IsPrefix ys xs
  prefix_both xs [] zs p q h = (xs, refl)
  prefix_both [] (y ∷ ys) zs p q h = absurd (omega arith)
  prefix_both (x ∷ xs) (y ∷ ys) [] p q h = cc (p.1)
  prefix_both (x ∷ xs) (y ∷ ys) (z ∷ zs) p q h = let a = prefix_tail x z xs zs p in let b = prefix_tail y z ys zs q in let r = prefix_both xs ys zs a.1 b.1 (omega arith) in
      (r.0, λ i. (b.0 ∙ sym a.0) i ∷ r.1 i)

  pub prefix_whole : (xs ys : List T) → IsPrefix xs ys → length ys ≤ length xs → xs ≡ ys
  prefix_whole xs ys p h = let r = prefix_both xs ys ys p (prefix_refl ys) h in
      let none : (t : List T) → length (xs ++ t) ≡ length ys → t ≡ [] = λ t. elim t as (λ t. length (xs ++ t) ≡ length ys → t ≡ []) [ [] ↦ λ _. refl | (u ∷ us) ↦ λ e. absurd (omega (arith, length-append xs (u ∷ us))) ] in
      sym (append-nil xs) ∙ (ap (λ (t : List T). xs ++ t) (sym (none p.0 (ap length p.1))) ∙ p.1)

  pub each_append : (P : T → Type 0) (xs ys : List T) → AllByRecursion P xs → AllByRecursion P ys → AllByRecursion P (xs ++ ys)
  each_append P [] ys p q = q
  each_append P (x ∷ xs) ys p q = (p.0, each_append P xs ys p.1 q)

  pub each_weaker : (P Q : T → Type 0) → ((x : T) → P x → Q x) → (xs : List T) → AllByRecursion P xs → AllByRecursion Q xs
  each_weaker P Q f [] p = tt
  each_weaker P Q f (x ∷ xs) p = (f x p.0, each_weaker P Q f xs p.1)

  pub each_both : (P Q R : T → Type 0) → ((x : T) → P x → Q x → R x) → (xs : List T) → AllByRecursion P xs → AllByRecursion Q xs → AllByRecursion R xs
  each_both P Q R f [] p q = tt
  each_both P Q R f (x ∷ xs) p q = (f x p.0 q.0, each_both P Q R f xs p.1 q.1)

  pub all_from_each : (P : T → Type 0) (xs : List T) → AllByRecursion P xs → All P xs
  all_from_each P [] p = All-nil P
  all_from_each P (x ∷ xs) p = All-cons P x xs p.0 (all_from_each P xs p.1)

  pub each_from_all : (P : T → Type 0) (xs : List T) → All P xs → AllByRecursion P xs
  each_from_all P [] p = tt
  each_from_all P (x ∷ xs) p = (p 0 x (omega arith), each_from_all P xs (λ k d h. p (suc k) d (omega arith)))

  -- each element of a prefix is in the list
  pub prefix_inside : (xs ys : List T) → IsPrefix xs ys → AllByRecursion (Contains ys) xs
  prefix_inside xs ys p = each_weaker _ _ (λ x c. subst (λ (l : List T). Contains l x) p.1 (Contains-append_left xs p.0 x c)) xs (each_from_all (Contains xs) xs (All-contains_itself xs))

  -- each number of the list is that of an element, of which P holds
  pub each_has : (P : T → Type 0) (f : T → ℕ) (xs : List T) (n : ℕ) → AllByRecursion P xs → Contains (map f xs) n → (x : T) × P x × (f x ≡ n)
  each_has P f [] n p c = absurd (omega (arith, c.1))
  each_has P f (x ∷ xs) n p (zero, h, e) = (x, p.0, e)
  each_has P f (x ∷ xs) n p (suc k, h, e) = each_has P f xs n p.1 (k, omega arith, e)

module _ {T : Type 0} where
  pub contains_none : (x : T) → Contains [] x → ⊥
  contains_none x c = absurd (omega (arith, c.1))

  pub contains_first : (xs : List T) (x y : T) → y ≡ x → Contains (y ∷ xs) x
  contains_first xs x y e = (0, omega arith, e)

  pub contains_later : (xs : List T) (x y : T) → Contains xs x → Contains (y ∷ xs) x
  contains_later xs x y c = (suc c.0, omega (arith, c.1), c.2)

  pub contains_cases : (xs : List T) (x y : T) → Contains (y ∷ xs) x → (y ≡ x) ⊎ Contains xs x
  contains_cases xs x y (zero, h, e) = inl e
  contains_cases xs x y (suc k, h, e) = inr (k, omega arith, e)

  pub each_in : (P : T → Type 0) (xs : List T) (x : T) → AllByRecursion P xs → Contains xs x → P x
  each_in P xs x p c = All-contains P xs x (all_from_each P xs p) c

unlike : (m : ℕ) (ms : List ℕ) → (Contains ms m → ⊥) → AllByRecursion (λ y. nat_eq m y ≡ false) ms
unlike m [] f = tt
unlike m (n ∷ ms) f = (ne_eqb m n (λ e. f (contains_first ms m n (sym e))), unlike m ms (λ h. f (contains_later ms m n h)))

alike : (m : ℕ) (ms : List ℕ) → AllByRecursion (λ y. nat_eq m y ≡ false) ms → Contains ms m → ⊥
alike m ms f c = let differs : nat_eq m m ≡ false = each_in (λ y. nat_eq m y ≡ false) ms m f c in cc (differs, eq-eqb m m refl)

pub distinct_cons : (m : ℕ) (ms : List ℕ) → (Contains ms m → ⊥) → IsDistinct nat_eq ms → IsDistinct nat_eq (m ∷ ms)
unfolding IsDistinct
distinct_cons m ms f d = (unlike m ms f, d)

pub distinct_first : (m : ℕ) (ms : List ℕ) → IsDistinct nat_eq (m ∷ ms) → Contains ms m → ⊥
unfolding IsDistinct
distinct_first m ms d c = alike m ms d.0 c

pub distinct_later : (m : ℕ) (ms : List ℕ) → IsDistinct nat_eq (m ∷ ms) → IsDistinct nat_eq ms
unfolding IsDistinct
distinct_later m ms d = d.1

pub distinct_none : IsDistinct nat_eq []
unfolding IsDistinct
distinct_none = tt

pub distinct_one : (m : ℕ) → IsDistinct nat_eq (m ∷ [])
distinct_one m = distinct_cons m [] (contains_none m) distinct_none

pub distinct_append : (ms ns : List ℕ) → IsDistinct nat_eq ms → IsDistinct nat_eq ns → ((n : ℕ) → Contains ms n → Contains ns n → ⊥) → IsDistinct nat_eq (ms ++ ns)
distinct_append [] ns a b f = b
distinct_append (m ∷ ms) ns a b f = distinct_cons m (ms ++ ns)
    (λ h. ⊎_elim (λ t. distinct_first m ms a t) (λ t. f m (contains_first ms m m refl) t) (Contains-append_cases ms ns m h))
    (distinct_append ms ns (distinct_later m ms a) b (λ n h. f n (contains_later ms n m h)))

module _ {A G : Type 0} where
  pub entries_of-append : (n : ℕ) (xs ys : List (Entry A G)) → entries_of n (xs ++ ys) ≡ entries_of n xs ++ entries_of n ys
  entries_of-append n xs ys = filter-append (λ (e : Entry A G). eqb e.seat n) xs ys

  pub entries_of-other : (n : ℕ) (xs : List (Entry A G)) (m : ℕ) (ask : A) (got : G) → m ≢ n → entries_of n (xs ++ entry m ask got ∷ []) ≡ entries_of n xs
  entries_of-other n xs m ask got ne = entries_of-append n xs (entry m ask got ∷ [])
      ∙ (ap (λ (b : Bool). entries_of n xs ++ cond b (entry m ask got ∷ []) []) (ne_eqb m n ne) ∙ append-nil (entries_of n xs))

  pub entries_of-same : (n : ℕ) (xs : List (Entry A G)) (ask : A) (got : G) → entries_of n (xs ++ entry n ask got ∷ []) ≡ entries_of n xs ++ entry n ask got ∷ []
  entries_of-same n xs ask got = entries_of-append n xs (entry n ask got ∷ [])
      ∙ ap (λ (b : Bool). entries_of n xs ++ cond b (entry n ask got ∷ []) []) (eq-eqb n n refl)

  pub entries_of_prefix : (n : ℕ) (xs ys : List (Entry A G)) → IsPrefix xs ys → IsPrefix (entries_of n xs) (entries_of n ys)
  entries_of_prefix n xs ys p = (entries_of n p.0, sym (entries_of-append n xs p.0) ∙ ap (entries_of n) p.1)

  -- what a list and a longer one have under a number, each list between them has
  pub entries_of_between : (n : ℕ) (xs ys zs ms : List (Entry A G)) → IsPrefix xs ys → IsPrefix ys zs → entries_of n xs ≡ ms → entries_of n zs ≡ ms → entries_of n ys ≡ ms
  entries_of_between n xs ys zs ms p q e f = let a = prefix_length (entries_of n ys) (entries_of n zs) (entries_of_prefix n ys zs q) in
      sym (prefix_whole (entries_of n xs) (entries_of n ys) (entries_of_prefix n xs ys p) (omega (arith, ap length e, ap length f))) ∙ e

  pub entries_of_none : (n : ℕ) (xs zs : List (Entry A G)) → IsPrefix xs zs → entries_of n zs ≡ [] → entries_of n xs ≡ []
  entries_of_none n xs zs p e = let a = prefix_length (entries_of n xs) (entries_of n zs) (entries_of_prefix n xs zs p) in
      prefix_whole (entries_of n xs) [] (subst (IsPrefix (entries_of n xs)) e (entries_of_prefix n xs zs p)) (omega arith)

  -- an entry's number has an entry under it
  pub entries_of_some : (xs : List (Entry A G)) → AllByRecursion (λ e. entries_of e.seat xs ≡ [] → ⊥) xs
  entries_of_some xs = later [] xs
    where
      later : (before xs : List (Entry A G)) → AllByRecursion (λ e. entries_of e.seat (before ++ xs) ≡ [] → ⊥) xs
      later before [] = tt
      later before (x ∷ xs) = (
        λ e. let here : entries_of x.seat (x ∷ xs) ≡ x ∷ entries_of x.seat xs = ap (λ (b : Bool). cond b (x ∷ entries_of x.seat xs) (entries_of x.seat xs)) (eq-eqb x.seat x.seat refl) in
            let all : entries_of x.seat before ++ (x ∷ entries_of x.seat xs) ≡ [] = ap (λ (l : List (Entry A G)). entries_of x.seat before ++ l) (sym here) ∙ (sym (entries_of-append x.seat before (x ∷ xs)) ∙ e) in
            absurd (omega (arith, length-append (entries_of x.seat before) (x ∷ entries_of x.seat xs), ap length all)),
        subst (λ (l : List (Entry A G)). AllByRecursion (λ e. entries_of e.seat l ≡ [] → ⊥) xs) (append_assoc before (x ∷ []) xs) (later (before ++ x ∷ []) xs),
      )
