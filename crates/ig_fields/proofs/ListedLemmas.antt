-- Lists of fields are read as they are spelled.
use Rattle.std.proofs.Common.{◌≡◌, ℕ, zero, suc, ◌<◌, ◌^◌, ℤ, pos, negsuc, Bool, true, false, not, List, [], ◌∷◌, ◌++◌, length, Ok, refl, sym, ap, subst, ◌∙◌, arith, append_assoc}
use Rattle.std.specs.Prelude.{IsTrue}
use Rattle.std.specs.Int.{w32}
use Rattle.std.specs.List.{AllByRecursion, IsDistinct}
use Rattle.std.proofs.lemmas.Bool.{and_from, and_parts, false≢true}
use Rattle.ig_base.specs.Numbers.{LE}
use Rattle.ig_value.specs.Part.{i32}
use Rattle.ig_value.specs.Spells.{IsScalar, IsBoth, IsMany}
use Rattle.ig_value.specs.Stops.{StopsScalar}
use Rattle.ig_value.specs.Reading.{scalar_at}
use Rattle.ig_value.proofs.ScalarLemmas.{scalar_agrees}
use Rattle.ig_wire.specs.Fields.{StopsThen, Field, ◌>>=◌}
use Rattle.ig_wire.proofs.AgreeLemmas.{IsRead, IsThen, placed_read, then_read, IsMade, made_read, same_read, nothing_read}
use Rattle.ig_fields.specs.SpellsFields.{IsTested, IsListed, keys_of}
use Rattle.ig_fields.specs.StopsFields.{StopsNumber, StopsTested, IsCount, is_natural, StopsCount, StopsEach, StopsListed, is_new, StopsEachNew, StopsDistinct}
use Rattle.ig_fields.specs.ReadingFields.{int_field, natural, tested_of, count_field, each_of, listed_of, each_new_of, distinct_of}
use Rattle.ig_fields.proofs.FieldLemmas.{tested_read}

-- ---- counts

pub int_read : IsRead (IsScalar i32) (StopsNumber i32) int_field
int_read = placed_read (IsScalar i32) (StopsScalar i32) (scalar_at i32) (scalar_agrees i32)

count_forth : (s : List ℕ) (n : ℕ) → IsMade (IsTested (IsScalar i32) is_natural) natural s n → IsCount s n
count_forth s n h = at h.part h.right.0 h.right.1 h.is where
  at : (z : ℤ) → IsScalar i32 s z → IsTrue (is_natural z) → n ≡ natural z → IsCount s n
  at (pos k) right t e = subst (IsCount s) (sym e) (right.0.sfits, right.1)
  at (negsuc k) right t e = absurd (false≢true t)

count_back : (s : List ℕ) (n : ℕ) → IsCount s n → IsMade (IsTested (IsScalar i32) is_natural) natural s n
count_back s n h = record { part = pos n; right = ((record { sfits = h.0 }, h.1), refl); is = refl }

pub count_read : IsRead IsCount StopsCount count_field
count_read =
    same_read (IsMade (IsTested (IsScalar i32) is_natural) natural) IsCount StopsCount count_field count_forth count_back
    (made_read (IsTested (IsScalar i32) is_natural) StopsCount (tested_of int_field is_natural) natural (tested_read (IsScalar i32) (StopsNumber i32) int_field is_natural int_read))

-- ---- as many items as a count says

module _ {A : Type 0} (P : List ℕ → A → Type 0) (W : List ℕ → ℕ → Type 0) (R : List ℕ → Field A) where
  abbrev Empty : List ℕ → List A → Type 0
  Empty s xs = (s ≡ []) × (xs ≡ [])

  none_forth : (s : List ℕ) (xs : List A) → Empty s xs → IsMany P 0 s xs
  none_forth s xs h = subst (IsMany P 0 s) (sym h.1) (h.0, refl)

  none_back : (s : List ℕ) (xs : List A) → IsMany P 0 s xs → Empty s xs
  none_back s [] h = (h.0, refl)
  none_back s (x ∷ xs) h = absurd (omega (arith, h.1))

  abbrev Longer : ℕ → A → List ℕ → List A → Type 0
  Longer n x = IsMade (IsMany P n) (λ xs. x ∷ xs)

  more_forth : (n : ℕ) (s : List ℕ) (ys : List A) → IsThen P (Longer n) s ys → IsMany P (suc n) s ys
  more_forth n s ys h =
      let m = h.next in
      let all : IsMany P (suc n) s (h.first ∷ m.part) = (record { prefix = h.prefix; suffix = h.suffix; whole = h.whole; first = h.right; second = m.right.0 }, ap suc m.right.1) in
      subst (IsMany P (suc n) s) (sym m.is) all

  more_back : (n : ℕ) (s : List ℕ) (ys : List A) → IsMany P (suc n) s ys → IsThen P (Longer n) s ys
  more_back n s [] h = absurd (omega (arith, h.1))
  more_back n s (x ∷ xs) h =
      let m = h.0 in
      record { first = x; prefix = m.prefix; suffix = m.suffix; whole = m.whole; right = m.first; next = record { part = xs; right = (m.second, omega (arith, h.1)); is = refl } }

  pub each_read : IsRead P W R → (n : ℕ) → IsRead (IsMany P n) (StopsEach P W n) (each_of R n)
  each_read p zero = same_read Empty (IsMany P 0) (λ s at. ⊥) (each_of R 0) none_forth none_back (nothing_read [])
  each_read p (suc n) =
      same_read (IsThen P (Longer n)) (IsMany P (suc n)) (StopsEach P W (suc n)) (each_of R (suc n)) (more_forth n) (more_back n)
      (then_read P W R (Longer n) (λ x. StopsEach P W n) (λ x s. each_of R n s >>= λ xs. Ok (x ∷ xs.0, xs.1)) p
      (λ x. made_read (IsMany P n) (StopsEach P W n) (each_of R n) (λ xs. x ∷ xs) (each_read p n)))

-- ---- a count and the items

module _ {A : Type 0} (P : List ℕ → A → Type 0) where
  pub listed_forth : (s : List ℕ) (xs : List A) → IsThen IsCount (IsMany P) s xs → IsListed P s xs
  listed_forth s xs h = record {
    suffix = h.suffix;
    few = subst (λ (n : ℕ). n < 2 ^ 31) (sym h.next.1) h.right.0;
    whole = h.whole ∙ ap (λ (l : List ℕ). l ++ h.suffix) (h.right.1 ∙ ap (λ (n : ℕ). LE w32 (pos n)) (sym h.next.1));
    each = h.next.0;
  }

  pub listed_back : (s : List ℕ) (xs : List A) → IsListed P s xs → IsThen IsCount (IsMany P) s xs
  listed_back s xs h = record { first = length xs; prefix = LE w32 (pos (length xs)); suffix = h.suffix; whole = h.whole; right = (h.few, refl); next = (h.each, refl) }

module _ {A : Type 0} (P : List ℕ → A → Type 0) (W : List ℕ → ℕ → Type 0) (R : List ℕ → Field A) where
  pub listed_read : IsRead P W R → IsRead (IsListed P) (StopsListed P W) (listed_of R)
  listed_read p =
      same_read (IsThen IsCount (IsMany P)) (IsListed P) (StopsListed P W) (listed_of R) (listed_forth P) (listed_back P)
      (then_read IsCount StopsCount count_field (IsMany P) (λ n. StopsEach P W n) (each_of R) count_read (each_read P W R p))

-- ---- keys of which no two are equal

all_of : {A : Type 0} {F G : A → Type 0} → ((x : A) → F x → G x) → (xs : List A) → AllByRecursion F xs → AllByRecursion G xs
all_of f [] h = tt
all_of f (x ∷ xs) h = (f x h.0, all_of f xs h.1)

all_both : {A : Type 0} {F G H : A → Type 0} → ((x : A) → F x → G x → H x) → (xs : List A) → AllByRecursion F xs → AllByRecursion G xs → AllByRecursion H xs
all_both f [] h k = tt
all_both f (x ∷ xs) h k = (f x h.0 k.0, all_both f xs h.1 k.1)

module _ {A : Type 0} (same : A → A → Bool) where
  -- each is none of those before it, the earlier ones among them
  abbrev pub AreNew : List A → List A → Type 0
  AreNew earlier [] = Unit {0}
  AreNew earlier (x ∷ xs) = IsTrue (is_new same earlier x) × AreNew (x ∷ earlier) xs

  differs : (x y : A) → not (same x y) ≡ true → same x y ≡ false
  differs x y t = by_test (same x y) refl where
    by_test : (b : Bool) → same x y ≡ b → same x y ≡ false
    by_test true e = absurd (let no = sym (ap not e) ∙ t in false≢true no)
    by_test false e = e

  pub new_distinct : (earlier xs : List A) → AreNew earlier xs → AllByRecursion (λ x. IsTrue (is_new same earlier x)) xs × IsDistinct same xs
  unfolding IsDistinct
  new_distinct earlier [] h = (tt, tt)
  new_distinct earlier (x ∷ xs) h =
      let r = new_distinct (x ∷ earlier) xs h.1 in
      ((h.0, all_of (λ y t. (and_parts (not (same x y)) (is_new same earlier y) t).1) xs r.0), (all_of (λ y t. differs x y (and_parts (not (same x y)) (is_new same earlier y) t).0) xs r.0, r.1))

  pub distinct_new : (earlier xs : List A) → AllByRecursion (λ x. IsTrue (is_new same earlier x)) xs → IsDistinct same xs → AreNew earlier xs
  unfolding IsDistinct
  distinct_new earlier [] all distinct = tt
  distinct_new earlier (x ∷ xs) all distinct =
      (all.0, distinct_new (x ∷ earlier) xs (all_both (λ y e t. and_from (not (same x y)) (is_new same earlier y) (ap not e) t) xs distinct.0 all.1) distinct.1)

  all_new : (xs : List A) → AllByRecursion (λ x. IsTrue (is_new same [] x)) xs
  all_new [] = tt
  all_new (x ∷ xs) = (refl, all_new xs)

  pub fresh_distinct : (xs : List A) → AreNew [] xs → IsDistinct same xs
  fresh_distinct xs h = (new_distinct [] xs h).1

  pub distinct_fresh : (xs : List A) → IsDistinct same xs → AreNew [] xs
  distinct_fresh xs h = distinct_new [] xs (all_new xs) h

-- ---- lists without a repeated key

module _ {A B : Type 0} (same : A → A → Bool) (P : List ℕ → A → Type 0) (W : List ℕ → ℕ → Type 0) (R : List ℕ → Field A) (Q : List ℕ → B → Type 0) (V : List ℕ → ℕ → Type 0) (T : List ℕ → Field B) where
  abbrev EachNew : List A → ℕ → List ℕ → List (A × B) → Type 0
  EachNew earlier n s xs = IsMany (IsBoth P Q) n s xs × AreNew same earlier (keys_of xs)

  abbrev Ended : List ℕ → List (A × B) → Type 0
  Ended s xs = (s ≡ []) × (xs ≡ [])

  ended_forth : (earlier : List A) (s : List ℕ) (xs : List (A × B)) → Ended s xs → EachNew earlier 0 s xs
  ended_forth earlier s xs h = subst (EachNew earlier 0 s) (sym h.1) ((h.0, refl), tt)

  ended_back : (earlier : List A) (s : List ℕ) (xs : List (A × B)) → EachNew earlier 0 s xs → Ended s xs
  ended_back earlier s [] h = (h.0.0, refl)
  ended_back earlier s (x ∷ xs) h = absurd (omega (arith, h.0.1))

  abbrev Item : List A → ℕ → A → B → List ℕ → List (A × B) → Type 0
  Item earlier n x y = IsMade (EachNew (x ∷ earlier) n) (λ xs. (x, y) ∷ xs)

  abbrev Keyed : List A → ℕ → A → List ℕ → List (A × B) → Type 0
  Keyed earlier n x = IsThen Q (Item earlier n x)

  item_forth : (earlier : List A) (n : ℕ) (s : List ℕ) (ys : List (A × B)) → IsThen (IsTested P (is_new same earlier)) (Keyed earlier n) s ys → EachNew earlier (suc n) s ys
  item_forth earlier n s ys h =
      let m = h.next in
      let i = m.next in
      let one : IsBoth P Q (h.prefix ++ m.prefix) (h.first, m.first) = record { prefix = h.prefix; suffix = m.prefix; whole = refl; first = h.right.0; second = m.right } in
      let all : EachNew earlier (suc n) s ((h.first, m.first) ∷ i.part) = (
        (
          record {
            prefix = h.prefix ++ m.prefix;
            suffix = m.suffix;
            whole = h.whole ∙ ap (λ (l : List ℕ). h.prefix ++ l) m.whole ∙ sym (append_assoc h.prefix m.prefix m.suffix);
            first = one;
            second = i.right.0.0;
          },
          ap suc i.right.0.1,
        ),
        (h.right.1, i.right.1),
      ) in
      subst (EachNew earlier (suc n) s) (sym i.is) all

  item_back : (earlier : List A) (n : ℕ) (s : List ℕ) (ys : List (A × B)) → EachNew earlier (suc n) s ys → IsThen (IsTested P (is_new same earlier)) (Keyed earlier n) s ys
  item_back earlier n s [] h = absurd (omega (arith, h.0.1))
  item_back earlier n s (x ∷ xs) h =
      let o = h.0.0 in
      let one = o.first in
      record {
        first = x.0;
        prefix = one.prefix;
        suffix = one.suffix ++ o.suffix;
        whole = o.whole ∙ ap (λ (l : List ℕ). l ++ o.suffix) one.whole ∙ append_assoc one.prefix one.suffix o.suffix;
        right = (one.first, h.1.0);
        next = record { first = x.1; prefix = one.suffix; suffix = o.suffix; whole = refl; right = one.second; next = record { part = xs; right = ((o.second, omega (arith, h.0.1)), h.1.1); is = refl } };
      }

  pub each_new_read : IsRead P W R → IsRead Q V T → (earlier : List A) (n : ℕ) → IsRead (EachNew earlier n) (StopsEachNew same P W Q V earlier n) (each_new_of same R T earlier n)
  each_new_read p q earlier zero = same_read Ended (EachNew earlier 0) (λ s at. ⊥) (each_new_of same R T earlier 0) (ended_forth earlier) (ended_back earlier) (nothing_read [])
  each_new_read p q earlier (suc n) =
      let new = is_new same earlier in
      same_read (IsThen (IsTested P new) (Keyed earlier n)) (EachNew earlier (suc n)) (StopsEachNew same P W Q V earlier (suc n)) (each_new_of same R T earlier (suc n)) (item_forth earlier n) (item_back earlier n)
      (then_read (IsTested P new) (StopsTested P W new) (tested_of R new) (Keyed earlier n) (λ x. StopsThen Q V (λ y. StopsEachNew same P W Q V (x ∷ earlier) n))
      (λ x s. T s >>= λ y. each_new_of same R T (x ∷ earlier) n y.1 >>= λ xs. Ok ((x, y.0) ∷ xs.0, xs.1))
      (tested_read P W R new p)
      (λ x. then_read Q V T (Item earlier n x) (λ y. StopsEachNew same P W Q V (x ∷ earlier) n) (λ y s. each_new_of same R T (x ∷ earlier) n s >>= λ xs. Ok ((x, y) ∷ xs.0, xs.1)) q
      (λ y. made_read (EachNew (x ∷ earlier) n) (StopsEachNew same P W Q V (x ∷ earlier) n) (each_new_of same R T (x ∷ earlier) n) (λ xs. (x, y) ∷ xs) (each_new_read p q (x ∷ earlier) n))))

  abbrev Distinct : List ℕ → List (A × B) → Type 0
  Distinct s xs = IsListed (IsBoth P Q) s xs × IsDistinct same (keys_of xs)

  distinct_forth : (s : List ℕ) (xs : List (A × B)) → IsThen IsCount (EachNew []) s xs → Distinct s xs
  distinct_forth s xs h =
      (listed_forth (IsBoth P Q) s xs (record { first = h.first; prefix = h.prefix; suffix = h.suffix; whole = h.whole; right = h.right; next = h.next.0 }), fresh_distinct same (keys_of xs) h.next.1)

  distinct_back : (s : List ℕ) (xs : List (A × B)) → Distinct s xs → IsThen IsCount (EachNew []) s xs
  distinct_back s xs h =
      let l = listed_back (IsBoth P Q) s xs h.0 in
      record { first = l.first; prefix = l.prefix; suffix = l.suffix; whole = l.whole; right = l.right; next = (l.next, distinct_fresh same (keys_of xs) h.1) }

  pub distinct_read : IsRead P W R → IsRead Q V T → IsRead Distinct (StopsDistinct same P W Q V) (distinct_of same R T)
  distinct_read p q =
      same_read (IsThen IsCount (EachNew [])) Distinct (StopsDistinct same P W Q V) (distinct_of same R T) distinct_forth distinct_back
      (then_read IsCount StopsCount count_field (EachNew []) (λ n. StopsEachNew same P W Q V [] n) (each_new_of same R T []) count_read (each_new_read p q []))
