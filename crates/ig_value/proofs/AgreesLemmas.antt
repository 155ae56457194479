-- A reader and the two relations that say what it reads: how each way of putting parts together
-- keeps their agreement.
use Rattle.std.proofs.Common.{◌≡◌, ℕ, zero, suc, ◌+◌, List, [], ◌∷◌, ◌++◌, length, take, drop, Result, Ok, Err, refl, sym, ap, subst, ◌∙◌, append_assoc, arith, inl, inr, length-append, ◌⊎◌}
use Rattle.std.proofs.lemmas.Bool.{cases_lt}
use Rattle.std.proofs.lemmas.List.{drop_at, length-take, get_or-drop, get_or-take, get_or_past}
use Rattle.ig_base.specs.Numbers.{AreBytes}
use Rattle.ig_value.specs.declared.cause.Cause.{Cause}
use Rattle.ig_value.specs.Spells.{IsBoth, IsMany}
use Rattle.ig_value.specs.Stops.{StopsBoth, StopsMany}
use Rattle.ig_value.specs.Reading.{Fault, Read, ◌>>=◌, mapped_read, nothing_at, both_at, many_at}

-- ---- tools

pub AreBytes-drop : (n : ℕ) (s : List ℕ) → AreBytes s → AreBytes (drop n s)
AreBytes-drop n s h i = rw get_or-drop (h (n + i))

pub AreBytes-take : (n : ℕ) (s : List ℕ) → AreBytes s → AreBytes (take n s)
AreBytes-take n s h i =
    elim (cases_lt i n) [
      | inl lt ↦ rw (get_or-take n s i 0 lt) (h i)
      | inr le ↦ rw (get_or_past (take n s) i 0 (omega (arith, length-take n s))) (omega arith)
    ]

pub AreBytes-suffix : (s prefix suffix : List ℕ) → s ≡ prefix ++ suffix → AreBytes s → AreBytes suffix
AreBytes-suffix s prefix suffix e h = subst AreBytes (ap (λ (l : List ℕ). drop (length prefix) l) e ∙ drop_at prefix suffix (length prefix) refl) (AreBytes-drop (length prefix) s h)

-- the value of a step that did not fail
pub bind_ok : {A B : Type 0} (r : Result A Fault) (f : A → Result B Fault) (y : B) → (r >>= f) ≡ Ok y → (x : A) × (r ≡ Ok x) × (f x ≡ Ok y)
bind_ok (Ok x) f y e = (x, refl, e)
bind_ok (Err d) f y e = absurd cc

-- the fault of two steps is the first one's, or the second one's
pub bind_err : {A B : Type 0} (r : Result A Fault) (f : A → Result B Fault) (d : Fault) → (r >>= f) ≡ Err d → (r ≡ Err d) ⊎ ((x : A) × (r ≡ Ok x) × (f x ≡ Err d))
bind_err (Ok x) f d e = inr (x, refl, e)
bind_err (Err c) f d e = inl cc

abbrev done : {A : Type 0} → A → Result A Fault
done x = Ok x

pub ok_is : {A : Type 0} (x y : A) → done x ≡ done y → x ≡ y
ok_is x y e = cc

abbrev lost : (A : Type 0) → Fault → Result A Fault
lost A f = Err f

pub err_is : {A : Type 0} (x y : Fault) → lost A x ≡ lost A y → x ≡ y
err_is x y e = cc

-- ---- agreement

-- the right prefix of the bytes
pub record Takes {A : Type 0} (P : List ℕ → A → Type 0) (s : List ℕ) (x : A) (rest : List ℕ) : Type 0 where
  pub prefix : List ℕ
  pub whole : s ≡ prefix ++ rest
  pub right : P prefix x

-- the place with this many bytes left after it
pub record Halts (W : List ℕ → ℕ → Cause → Type 0) (s : List ℕ) (left : ℕ) (c : Cause) : Type 0 where
  pub at : ℕ
  pub there : left + at ≡ length s
  pub wrong : W s at c

pub record Halted {A : Type 0} (R : List ℕ → Read A) (s : List ℕ) (at : ℕ) (c : Cause) : Type 0 where
  pub left : ℕ
  pub there : left + at ≡ length s
  pub is : R s ≡ Err (left, c)

-- What is read is spelled, and what is spelled is read, whatever follows; so with what stops.
pub record Agrees {A : Type 0} (P : List ℕ → A → Type 0) (W : List ℕ → ℕ → Cause → Type 0) (R : List ℕ → Read A) : Type 0 where
  pub takes : (s : List ℕ) (x : A) (rest : List ℕ) → AreBytes s → R s ≡ Ok (x, rest) → Takes P s x rest
  pub again : (s : List ℕ) (x : A) (rest : List ℕ) → P s x → R (s ++ rest) ≡ Ok (x, rest)
  pub halts : (s : List ℕ) (left : ℕ) (c : Cause) → AreBytes s → R s ≡ Err (left, c) → Halts W s left c
  pub halted : (s : List ℕ) (at : ℕ) (c : Cause) → W s at c → Halted R s at c

-- ---- two parts

both_takes : {A B : Type 0} (P : List ℕ → A → Type 0) (W : List ℕ → ℕ → Cause → Type 0) (R : List ℕ → Read A) (Q : List ℕ → B → Type 0) (V : List ℕ → ℕ → Cause → Type 0) (T : List ℕ → Read B) →
    Agrees P W R → Agrees Q V T → (s : List ℕ) (z : A × B) (rest : List ℕ) → AreBytes s → both_at R T s ≡ Ok (z, rest) → Takes (IsBoth P Q) s z rest
both_takes {A} {B} P W R Q V T p q s z rest bytes e =
    let a = bind_ok (R s) (λ x. T x.1 >>= λ y. Ok ((x.0, y.0), y.1)) (z, rest) e in
    let b = bind_ok (T a.0.1) (λ y. Ok ((a.0.0, y.0), y.1)) (z, rest) a.2 in
    let t = p.takes s a.0.0 a.0.1 bytes a.1 in
    let u = q.takes a.0.1 b.0.0 b.0.1 (AreBytes-suffix s t.prefix a.0.1 t.whole bytes) b.1 in
    let made : (A × B) × List ℕ = ((a.0.0, b.0.0), b.0.1) in
    let all : Takes (IsBoth P Q) s made.0 made.1 = record {
      prefix = t.prefix ++ u.prefix;
      whole = t.whole ∙ ap (λ (l : List ℕ). t.prefix ++ l) u.whole ∙ sym (append_assoc t.prefix u.prefix b.0.1);
      right = record { prefix = t.prefix; suffix = u.prefix; whole = refl; first = t.right; second = u.right };
    } in
    subst (λ (y : (A × B) × List ℕ). Takes (IsBoth P Q) s y.0 y.1) (ok_is made (z, rest) b.2) all

both_again : {A B : Type 0} (P : List ℕ → A → Type 0) (W : List ℕ → ℕ → Cause → Type 0) (R : List ℕ → Read A) (Q : List ℕ → B → Type 0) (V : List ℕ → ℕ → Cause → Type 0) (T : List ℕ → Read B) →
    Agrees P W R → Agrees Q V T → (s : List ℕ) (z : A × B) (rest : List ℕ) → IsBoth P Q s z → both_at R T (s ++ rest) ≡ Ok (z, rest)
both_again P W R Q V T p q s z rest h =
    let e : s ++ rest ≡ h.prefix ++ (h.suffix ++ rest) = ap (λ (l : List ℕ). l ++ rest) h.whole ∙ append_assoc h.prefix h.suffix rest in
    rw (e, p.again h.prefix z.0 (h.suffix ++ rest) h.first, q.again h.suffix z.1 rest h.second) refl

both_halts : {A B : Type 0} (P : List ℕ → A → Type 0) (W : List ℕ → ℕ → Cause → Type 0) (R : List ℕ → Read A) (Q : List ℕ → B → Type 0) (V : List ℕ → ℕ → Cause → Type 0) (T : List ℕ → Read B) →
    Agrees P W R → Agrees Q V T → (s : List ℕ) (left : ℕ) (c : Cause) → AreBytes s → both_at R T s ≡ Err (left, c) → Halts (StopsBoth P W V) s left c
both_halts {A} {B} P W R Q V T p q s left c bytes e =
    elim (bind_err (R s) (λ x. T x.1 >>= λ y. Ok ((x.0, y.0), y.1)) (left, c) e) [
      | inl first ↦
          let h = p.halts s left c bytes first in
          record { at = h.at; there = h.there; wrong = inl h.wrong }
      | inr a ↦
          let t = p.takes s a.0.0 a.0.1 bytes a.1 in
          let bytes' = AreBytes-suffix s t.prefix a.0.1 t.whole bytes in
          elim (bind_err (T a.0.1) (λ y. Ok ((a.0.0, y.0), y.1)) (left, c) a.2) [
            | inl second ↦
                let h = q.halts a.0.1 left c bytes' second in
                record {
                  at = length t.prefix + h.at;
                  there = omega (arith, h.there, ap length t.whole, length-append t.prefix a.0.1);
                  wrong = inr (record { first = a.0.0; prefix = t.prefix; suffix = a.0.1; further = h.at; whole = t.whole; right = t.right; wrong = h.wrong; there = refl });
                }
            | inr b ↦ absurd (let e : done ((a.0.0, b.0.0), b.0.1) ≡ lost ((A × B) × List ℕ) (left, c) = b.2 in cc)
          ]
    ]

both_halted : {A B : Type 0} (P : List ℕ → A → Type 0) (W : List ℕ → ℕ → Cause → Type 0) (R : List ℕ → Read A) (Q : List ℕ → B → Type 0) (V : List ℕ → ℕ → Cause → Type 0) (T : List ℕ → Read B) →
    Agrees P W R → Agrees Q V T → (s : List ℕ) (at : ℕ) (c : Cause) → StopsBoth P W V s at c → Halted (both_at R T) s at c
both_halted P W R Q V T p q s at c (inl w) =
    let h = p.halted s at c w in
    record { left = h.left; there = h.there; is = rw h.is refl }
both_halted P W R Q V T p q s at c (inr w) =
    let h = q.halted w.suffix w.further c w.wrong in
    record {
      left = h.left;
      there = omega (arith, h.there, w.there, ap length w.whole, length-append w.prefix w.suffix);
      is = rw (w.whole, p.again w.prefix w.first w.suffix w.right, h.is) refl;
    }

pub both_agrees : {A B : Type 0} (P : List ℕ → A → Type 0) (W : List ℕ → ℕ → Cause → Type 0) (R : List ℕ → Read A) (Q : List ℕ → B → Type 0) (V : List ℕ → ℕ → Cause → Type 0) (T : List ℕ → Read B) →
    Agrees P W R → Agrees Q V T → Agrees (IsBoth P Q) (StopsBoth P W V) (both_at R T)
both_agrees P W R Q V T p q = record {
  takes = both_takes P W R Q V T p q;
  again = both_again P W R Q V T p q;
  halts = both_halts P W R Q V T p q;
  halted = both_halted P W R Q V T p q;
}

-- ---- what is read, mapped_read as another value

pub seen_agrees : {A B : Type 0} (f : A → B) (g : B → A) (P : List ℕ → A → Type 0) (W : List ℕ → ℕ → Cause → Type 0) (R : List ℕ → Read A) →
    ((x : A) → g (f x) ≡ x) → ((y : B) → f (g y) ≡ y) → Agrees P W R → Agrees (λ s y. P s (g y)) W (λ s. mapped_read f (R s))
seen_agrees {A} {B} f g P W R suffix forth p = record {
  takes = λ s y rest bytes e.
      let a = bind_ok (R s) (λ x. Ok (f x.0, x.1)) (y, rest) e in
      let t = p.takes s a.0.0 a.0.1 bytes a.1 in
      let made : B × List ℕ = (f a.0.0, a.0.1) in
      let all : Takes (λ (l : List ℕ) (z : B). P l (g z)) s made.0 made.1 = record { prefix = t.prefix; whole = t.whole; right = subst (λ (x : A). P t.prefix x) (sym (suffix a.0.0)) t.right } in
      subst (λ (z : B × List ℕ). Takes (λ (l : List ℕ) (w : B). P l (g w)) s z.0 z.1) (ok_is made (y, rest) a.2) all;
  again = λ s y rest h. rw (p.again s (g y) rest h, forth y) refl;
  halts = λ s left c bytes e.
      elim (bind_err (R s) (λ x. Ok (f x.0, x.1)) (left, c) e) [
        | inl first ↦ p.halts s left c bytes first
        | inr a ↦ absurd (let no : done (f a.0.0, a.0.1) ≡ lost (B × List ℕ) (left, c) = a.2 in cc)
      ];
  halted = λ s at c w. let h = p.halted s at c w in record { left = h.left; there = h.there; is = rw h.is refl };
}

pub nothing_agrees : Agrees (λ s x. s ≡ []) (λ s at c. ⊥) nothing_at
nothing_agrees = record {
  takes = λ s x rest bytes e.
      let made : Unit {0} × List ℕ = (tt, s) in
      let all : Takes (λ (l : List ℕ) (y : Unit {0}). l ≡ []) s made.0 made.1 = record { prefix = []; whole = refl; right = refl } in
      subst (λ (z : Unit {0} × List ℕ). Takes (λ (l : List ℕ) (y : Unit {0}). l ≡ []) s z.0 z.1) (ok_is made (x, rest) e) all;
  again = λ s x rest h. rw h refl;
  halts = λ s left c bytes e. absurd (let no : done (tt, s) ≡ lost (Unit {0} × List ℕ) (left, c) = e in cc);
  halted = λ s at c w. absurd w;
}

-- ---- as many as a number says

many_takes : {A : Type 0} (P : List ℕ → A → Type 0) (W : List ℕ → ℕ → Cause → Type 0) (R : List ℕ → Read A) → Agrees P W R →
    (n : ℕ) (s : List ℕ) (xs : List A) (rest : List ℕ) → AreBytes s → many_at R n s ≡ Ok (xs, rest) → Takes (IsMany P n) s xs rest
many_takes {A} P W R p zero s xs rest bytes e =
    let made : List A × List ℕ = ([], s) in
    let all : Takes (IsMany P 0) s made.0 made.1 = record { prefix = []; whole = refl; right = (refl, refl) } in
    subst (λ (z : List A × List ℕ). Takes (IsMany P 0) s z.0 z.1) (ok_is made (xs, rest) e) all
many_takes {A} P W R p (suc n) s xs rest bytes e =
    let a = bind_ok (R s) (λ x. many_at R n x.1 >>= λ ys. Ok (x.0 ∷ ys.0, ys.1)) (xs, rest) e in
    let b = bind_ok (many_at R n a.0.1) (λ ys. Ok (a.0.0 ∷ ys.0, ys.1)) (xs, rest) a.2 in
    let t = p.takes s a.0.0 a.0.1 bytes a.1 in
    let u = many_takes P W R p n a.0.1 b.0.0 b.0.1 (AreBytes-suffix s t.prefix a.0.1 t.whole bytes) b.1 in
    let made : List A × List ℕ = (a.0.0 ∷ b.0.0, b.0.1) in
    let all : Takes (IsMany P (suc n)) s made.0 made.1 = record {
      prefix = t.prefix ++ u.prefix;
      whole = t.whole ∙ ap (λ (l : List ℕ). t.prefix ++ l) u.whole ∙ sym (append_assoc t.prefix u.prefix b.0.1);
      right = (record { prefix = t.prefix; suffix = u.prefix; whole = refl; first = t.right; second = u.right.0 }, ap suc u.right.1);
    } in
    subst (λ (z : List A × List ℕ). Takes (IsMany P (suc n)) s z.0 z.1) (ok_is made (xs, rest) b.2) all

many_again : {A : Type 0} (P : List ℕ → A → Type 0) (W : List ℕ → ℕ → Cause → Type 0) (R : List ℕ → Read A) → Agrees P W R →
    (n : ℕ) (s : List ℕ) (xs : List A) (rest : List ℕ) → IsMany P n s xs → many_at R n (s ++ rest) ≡ Ok (xs, rest)
many_again P W R p zero s [] rest h = rw h.0 refl
many_again P W R p zero s (x ∷ xs) rest h = absurd (omega (arith, h.1))
many_again P W R p (suc n) s [] rest h = absurd (omega (arith, h.1))
many_again P W R p (suc n) s (x ∷ xs) rest h =
    let m = h.0 in
    let e : s ++ rest ≡ m.prefix ++ (m.suffix ++ rest) = ap (λ (l : List ℕ). l ++ rest) m.whole ∙ append_assoc m.prefix m.suffix rest in
    let len : length xs ≡ n = omega (arith, h.1) in
    rw (e, p.again m.prefix x (m.suffix ++ rest) m.first, many_again P W R p n m.suffix xs rest (m.second, len)) refl

many_halts : {A : Type 0} (P : List ℕ → A → Type 0) (W : List ℕ → ℕ → Cause → Type 0) (R : List ℕ → Read A) → Agrees P W R →
    (n : ℕ) (s : List ℕ) (left : ℕ) (c : Cause) → AreBytes s → many_at R n s ≡ Err (left, c) → Halts (StopsMany P W n) s left c
many_halts {A} P W R p zero s left c bytes e = absurd (let start : List A × List ℕ = ([], s) in let no : done start ≡ lost (List A × List ℕ) (left, c) = e in cc)
many_halts {A} P W R p (suc n) s left c bytes e =
    elim (bind_err (R s) (λ x. many_at R n x.1 >>= λ ys. Ok (x.0 ∷ ys.0, ys.1)) (left, c) e) [
      | inl first ↦
          let h = p.halts s left c bytes first in
          record { at = h.at; there = h.there; wrong = inl h.wrong }
      | inr a ↦
          let t = p.takes s a.0.0 a.0.1 bytes a.1 in
          let bytes' = AreBytes-suffix s t.prefix a.0.1 t.whole bytes in
          elim (bind_err (many_at R n a.0.1) (λ ys. Ok (a.0.0 ∷ ys.0, ys.1)) (left, c) a.2) [
            | inl second ↦
                let h = many_halts P W R p n a.0.1 left c bytes' second in
                record {
                  at = length t.prefix + h.at;
                  there = omega (arith, h.there, ap length t.whole, length-append t.prefix a.0.1);
                  wrong = inr (record { first = a.0.0; prefix = t.prefix; suffix = a.0.1; further = h.at; whole = t.whole; right = t.right; wrong = h.wrong; there = refl });
                }
            | inr b ↦ absurd (let no : done (a.0.0 ∷ b.0.0, b.0.1) ≡ lost (List A × List ℕ) (left, c) = b.2 in cc)
          ]
    ]

many_halted : {A : Type 0} (P : List ℕ → A → Type 0) (W : List ℕ → ℕ → Cause → Type 0) (R : List ℕ → Read A) → Agrees P W R →
    (n : ℕ) (s : List ℕ) (at : ℕ) (c : Cause) → StopsMany P W n s at c → Halted (many_at R n) s at c
many_halted P W R p zero s at c w = absurd w
many_halted P W R p (suc n) s at c (inl w) =
    let h = p.halted s at c w in
    record { left = h.left; there = h.there; is = rw h.is refl }
many_halted P W R p (suc n) s at c (inr w) =
    let h = many_halted P W R p n w.suffix w.further c w.wrong in
    record {
      left = h.left;
      there = omega (arith, h.there, w.there, ap length w.whole, length-append w.prefix w.suffix);
      is = rw (w.whole, p.again w.prefix w.first w.suffix w.right, h.is) refl;
    }

pub many_agrees : {A : Type 0} (P : List ℕ → A → Type 0) (W : List ℕ → ℕ → Cause → Type 0) (R : List ℕ → Read A) → Agrees P W R → (n : ℕ) → Agrees (IsMany P n) (StopsMany P W n) (many_at R n)
many_agrees P W R p n = record {
  takes = many_takes P W R p n;
  again = many_again P W R p n;
  halts = many_halts P W R p n;
  halted = many_halted P W R p n;
}
