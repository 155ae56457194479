-- A reader of fields, the bytes that it reads, and where they stop: how each way of putting fields
-- together keeps their agreement.
use Rattle.std.proofs.Common.{◌≡◌, ℕ, suc, ◌+◌, ◌-◌, ◌≤◌, List, [], ◌∷◌, ◌++◌, length, drop, ◌≢◌, Result, Ok, Err, refl, sym, ap, subst, ◌∙◌, append_assoc, append-nil, arith, inl, inr, length-append, ◌⊎◌}
use Rattle.std.proofs.lemmas.List.{drop_at}
use Rattle.ig_base.specs.Numbers.{AreBytes}
use Rattle.ig_value.specs.declared.Cause.{Cause}
use Rattle.ig_value.specs.Reading.{Read}
use Rattle.ig_value.proofs.AgreesLemmas.{Takes, Agrees, AreBytes-suffix}
use Rattle.ig_wire.specs.Fields.{IsLeftOver, StopsThen, Field, ◌>>=◌, placed, whole}

-- the value of a step that did not fail
pub bind_ok : {A B : Type 0} (r : Result A ℕ) (f : A → Result B ℕ) (y : B) → (r >>= f) ≡ Ok y → (x : A) × (r ≡ Ok x) × (f x ≡ Ok y)
bind_ok (Ok x) f y e = (x, refl, e)
bind_ok (Err d) f y e = absurd cc

-- the fault of two steps is the first one's, or the second one's
pub bind_err : {A B : Type 0} (r : Result A ℕ) (f : A → Result B ℕ) (d : ℕ) → (r >>= f) ≡ Err d → (r ≡ Err d) ⊎ ((x : A) × (r ≡ Ok x) × (f x ≡ Err d))
bind_err (Ok x) f d e = inr (x, refl, e)
bind_err (Err c) f d e = inl cc

abbrev done : {A : Type 0} → A → Result A ℕ
done x = Ok x

pub ok_is : {A : Type 0} (x y : A) → done x ≡ done y → x ≡ y
ok_is x y e = cc

abbrev lost : (A : Type 0) → ℕ → Result A ℕ
lost A n = Err n

pub err_is : {A : Type 0} (x y : ℕ) → lost A x ≡ lost A y → x ≡ y
err_is x y e = cc

-- the place with this many bytes left after it
pub record Halts (W : List ℕ → ℕ → Type 0) (s : List ℕ) (left : ℕ) : Type 0 where
  pub at : ℕ
  pub there : left + at ≡ length s
  pub wrong : W s at

pub record Halted {A : Type 0} (R : List ℕ → Field A) (s : List ℕ) (at : ℕ) : Type 0 where
  pub left : ℕ
  pub there : left + at ≡ length s
  pub is : R s ≡ Err left

-- What is read is spelled, and what is spelled is read, whatever follows; so with what stops.
pub record IsRead {A : Type 0} (P : List ℕ → A → Type 0) (W : List ℕ → ℕ → Type 0) (R : List ℕ → Field A) : Type 0 where
  pub takes : (s : List ℕ) (x : A) (rest : List ℕ) → AreBytes s → R s ≡ Ok (x, rest) → Takes P s x rest
  pub again : (s : List ℕ) (x : A) (rest : List ℕ) → P s x → R (s ++ rest) ≡ Ok (x, rest)
  pub halts : (s : List ℕ) (left : ℕ) → AreBytes s → R s ≡ Err left → Halts W s left
  pub halted : (s : List ℕ) (at : ℕ) → W s at → Halted R s at

-- ---- a part that was read with a cause

placed_ok : {A : Type 0} (r : Read A) (x : A) (rest : List ℕ) → placed r ≡ Ok (x, rest) → r ≡ Ok (x, rest)
placed_ok (Ok y) x rest e = cc
placed_ok (Err f) x rest e = absurd cc

placed_err : {A : Type 0} (r : Read A) (left : ℕ) → placed r ≡ Err left → (c : Cause) × (r ≡ Err (left, c))
placed_err (Ok y) left e = absurd cc
placed_err {A} (Err f) left e = (f.1, let same : f.0 ≡ left = err_is {A = A × List ℕ} f.0 left e in ap (λ (n : ℕ). Err (n, f.1)) same)

pub placed_read : {A : Type 0} (P : List ℕ → A → Type 0) (W : List ℕ → ℕ → Cause → Type 0) (R : List ℕ → Read A) → Agrees P W R → IsRead P (λ s at. (why : Cause) × W s at why) (λ s. placed (R s))
placed_read P W R p = record {
  takes = λ s x rest bytes e. p.takes s x rest bytes (placed_ok (R s) x rest e);
  again = λ s x rest h. rw (p.again s x rest h) refl;
  halts = λ s left bytes e.
      let f = placed_err (R s) left e in
      let h = p.halts s left f.0 bytes f.1 in
      record { at = h.at; there = h.there; wrong = (f.0, h.wrong) };
  halted = λ s at w. let h = p.halted s at w.0 w.1 in record { left = h.left; there = h.there; is = rw h.is refl };
}

-- ---- one part, and then another by what the first is

-- the bytes spell the first part, and then the other by it
pub record IsThen {A B : Type 0} (P : List ℕ → A → Type 0) (Q : A → List ℕ → B → Type 0) (s : List ℕ) (y : B) : Type 0 where
  pub first : A
  pub prefix : List ℕ
  pub suffix : List ℕ
  pub whole : s ≡ prefix ++ suffix
  pub right : P prefix first
  pub next : Q first suffix y

module _ {A B : Type 0} (P : List ℕ → A → Type 0) (W : List ℕ → ℕ → Type 0) (R : List ℕ → Field A) (Q : A → List ℕ → B → Type 0) (V : A → List ℕ → ℕ → Type 0) (T : A → List ℕ → Field B) where
  then_takes : IsRead P W R → ((x : A) → IsRead (Q x) (V x) (T x)) → (s : List ℕ) (y : B) (rest : List ℕ) → AreBytes s → (R s >>= λ x. T x.0 x.1) ≡ Ok (y, rest) → Takes (IsThen P Q) s y rest
  then_takes p q s y rest bytes e =
      let a = bind_ok (R s) (λ x. T x.0 x.1) (y, rest) e in
      let t = p.takes s a.0.0 a.0.1 bytes a.1 in
      let u = (q a.0.0).takes a.0.1 y rest (AreBytes-suffix s t.prefix a.0.1 t.whole bytes) a.2 in
      record {
        prefix = t.prefix ++ u.prefix;
        whole = t.whole ∙ ap (λ (l : List ℕ). t.prefix ++ l) u.whole ∙ sym (append_assoc t.prefix u.prefix rest);
        right = record { first = a.0.0; prefix = t.prefix; suffix = u.prefix; whole = refl; right = t.right; next = u.right };
      }

  then_again : IsRead P W R → ((x : A) → IsRead (Q x) (V x) (T x)) → (s : List ℕ) (y : B) (rest : List ℕ) → IsThen P Q s y → (R (s ++ rest) >>= λ x. T x.0 x.1) ≡ Ok (y, rest)
  then_again p q s y rest h =
      let e : s ++ rest ≡ h.prefix ++ (h.suffix ++ rest) = ap (λ (l : List ℕ). l ++ rest) h.whole ∙ append_assoc h.prefix h.suffix rest in
      rw (e, p.again h.prefix h.first (h.suffix ++ rest) h.right) ((q h.first).again h.suffix y rest h.next)

  then_halts : IsRead P W R → ((x : A) → IsRead (Q x) (V x) (T x)) → (s : List ℕ) (left : ℕ) → AreBytes s → (R s >>= λ x. T x.0 x.1) ≡ Err left → Halts (StopsThen P W V) s left
  then_halts p q s left bytes e =
      elim (bind_err (R s) (λ x. T x.0 x.1) left e) [
        | inl first ↦
            let h = p.halts s left bytes first in
            record { at = h.at; there = h.there; wrong = inl h.wrong }
        | inr a ↦
            let t = p.takes s a.0.0 a.0.1 bytes a.1 in
            let h = (q a.0.0).halts a.0.1 left (AreBytes-suffix s t.prefix a.0.1 t.whole bytes) a.2 in
            record {
              at = length t.prefix + h.at;
              there = omega (arith, h.there, ap length t.whole, length-append t.prefix a.0.1);
              wrong = inr (record { first = a.0.0; prefix = t.prefix; suffix = a.0.1; further = h.at; whole = t.whole; right = t.right; wrong = h.wrong; there = refl });
            }
      ]

  then_halted : IsRead P W R → ((x : A) → IsRead (Q x) (V x) (T x)) → (s : List ℕ) (at : ℕ) → StopsThen P W V s at → Halted (λ l. R l >>= λ x. T x.0 x.1) s at
  then_halted p q s at (inl w) =
      let h = p.halted s at w in
      record { left = h.left; there = h.there; is = rw h.is refl }
  then_halted p q s at (inr w) =
      let h = (q w.first).halted w.suffix w.further w.wrong in
      record {
        left = h.left;
        there = omega (arith, h.there, w.there, ap length w.whole, length-append w.prefix w.suffix);
        is = rw (w.whole, p.again w.prefix w.first w.suffix w.right) h.is;
      }

  pub then_read : IsRead P W R → ((x : A) → IsRead (Q x) (V x) (T x)) → IsRead (IsThen P Q) (StopsThen P W V) (λ s. R s >>= λ x. T x.0 x.1)
  then_read p q = record { takes = then_takes p q; again = then_again p q; halts = then_halts p q; halted = then_halted p q }

-- ---- a part, as a value that is made of it

-- the bytes spell a part of which the value is made
pub record IsMade {A B : Type 0} (P : List ℕ → A → Type 0) (f : A → B) (s : List ℕ) (y : B) : Type 0 where
  pub part : A
  pub right : P s part
  pub is : y ≡ f part

pub made_read : {A B : Type 0} (P : List ℕ → A → Type 0) (W : List ℕ → ℕ → Type 0) (R : List ℕ → Field A) (f : A → B) → IsRead P W R → IsRead (IsMade P f) W (λ s. R s >>= λ x. Ok (f x.0, x.1))
made_read {A} {B} P W R f p = record {
  takes = λ s y rest bytes e.
      let a = bind_ok (R s) (λ x. Ok (f x.0, x.1)) (y, rest) e in
      let t = p.takes s a.0.0 a.0.1 bytes a.1 in
      let made : B × List ℕ = (f a.0.0, a.0.1) in
      let all : Takes (IsMade P f) s made.0 made.1 = record { prefix = t.prefix; whole = t.whole; right = record { part = a.0.0; right = t.right; is = refl } } in
      subst (λ (z : B × List ℕ). Takes (IsMade P f) s z.0 z.1) (ok_is made (y, rest) a.2) all;
  again = λ s y rest h. rw (p.again s h.part rest h.right, h.is) refl;
  halts = λ s left bytes e.
      elim (bind_err (R s) (λ x. Ok (f x.0, x.1)) left e) [
        | inl first ↦ p.halts s left bytes first
        | inr a ↦ absurd (let no : done (f a.0.0, a.0.1) ≡ lost (B × List ℕ) left = a.2 in cc)
      ];
  halted = λ s at w. let h = p.halted s at w in record { left = h.left; there = h.there; is = rw h.is refl };
}

-- ---- the same reader, and the same bytes, said otherwise

pub same_read : {A : Type 0} (P Q : List ℕ → A → Type 0) (W : List ℕ → ℕ → Type 0) (R : List ℕ → Field A) →
    ((s : List ℕ) (x : A) → P s x → Q s x) → ((s : List ℕ) (x : A) → Q s x → P s x) → IsRead P W R → IsRead Q W R
same_read P Q W R forth back p = record {
  takes = λ s x rest bytes e. let t = p.takes s x rest bytes e in record { prefix = t.prefix; whole = t.whole; right = forth t.prefix x t.right };
  again = λ s x rest h. p.again s x rest (back s x h);
  halts = p.halts;
  halted = p.halted;
}

pub same_stop : {A : Type 0} (P : List ℕ → A → Type 0) (W V : List ℕ → ℕ → Type 0) (R : List ℕ → Field A) →
    ((s : List ℕ) (at : ℕ) → W s at → V s at) → ((s : List ℕ) (at : ℕ) → V s at → W s at) → IsRead P W R → IsRead P V R
same_stop P W V R forth back p = record {
  takes = p.takes;
  again = p.again;
  halts = λ s left bytes e. let h = p.halts s left bytes e in record { at = h.at; there = h.there; wrong = forth s h.at h.wrong };
  halted = λ s at w. p.halted s at (back s at w);
}

pub by_reader : {A : Type 0} (P : List ℕ → A → Type 0) (W : List ℕ → ℕ → Type 0) (R T : List ℕ → Field A) → ((s : List ℕ) → R s ≡ T s) → IsRead P W R → IsRead P W T
by_reader P W R T same p = record {
  takes = λ s x rest bytes e. p.takes s x rest bytes (same s ∙ e);
  again = λ s x rest h. sym (same (s ++ rest)) ∙ p.again s x rest h;
  halts = λ s left bytes e. p.halts s left bytes (same s ∙ e);
  halted = λ s at w. let h = p.halted s at w in record { left = h.left; there = h.there; is = sym (same s) ∙ h.is };
}

pub nothing_read : {A : Type 0} (x : A) → IsRead (λ s y. (s ≡ []) × (y ≡ x)) (λ s at. ⊥) (λ s. Ok (x, s))
nothing_read {A} x = record {
  takes = λ s y rest bytes e.
      let made : A × List ℕ = (x, s) in
      let all : Takes (λ (l : List ℕ) (z : A). (l ≡ []) × (z ≡ x)) s made.0 made.1 = record { prefix = []; whole = refl; right = (refl, refl) } in
      subst (λ (z : A × List ℕ). Takes (λ (l : List ℕ) (w : A). (l ≡ []) × (w ≡ x)) s z.0 z.1) (ok_is made (y, rest) e) all;
  again = λ s y rest h. rw (h.0, h.1) refl;
  halts = λ s left bytes e. absurd (let no : done (x, s) ≡ lost (A × List ℕ) left = e in cc);
  halted = λ s at w. absurd w;
}

-- ---- a message, which has nothing after it

-- A message is read as it is spelled, and spelled as it is read; so with what stops.
pub record IsMessage {A : Type 0} (P : List ℕ → A → Type 0) (W : List ℕ → ℕ → Type 0) (R : List ℕ → Result A ℕ) : Type 0 where
  pub right : (s : List ℕ) (x : A) → AreBytes s → R s ≡ Ok x → P s x
  pub again : (s : List ℕ) (x : A) → P s x → R s ≡ Ok x
  pub halts : (s : List ℕ) (left : ℕ) → AreBytes s → R s ≡ Err left → Halts W s left
  pub halted : (s : List ℕ) (at : ℕ) → W s at → (left : ℕ) × (left + at ≡ length s) × (R s ≡ Err left)

abbrev just : {A : Type 0} → A → Result A ℕ
just x = Ok x

whole_ok : {A : Type 0} (r : Field A) (x : A) → whole r ≡ Ok x → r ≡ Ok (x, [])
whole_ok {A} (Ok (y, [])) x e = let same : y ≡ x = ok_is y x e in ap (λ (z : A). just (z, [])) same
whole_ok (Ok (y, (b ∷ s))) x e = absurd cc
whole_ok (Err left) x e = absurd cc

whole_err : {A : Type 0} (r : Field A) (left : ℕ) → whole r ≡ Err left → (r ≡ Err left) ⊎ ((x : A) × (b : ℕ) × (s : List ℕ) × (r ≡ Ok (x, b ∷ s)) × (left ≡ suc (length s)))
whole_err (Ok (y, [])) left e = absurd cc
whole_err {A} (Ok (y, (b ∷ s))) left e = inr (y, b, s, refl, sym (err_is {A = A} (suc (length s)) left e))
whole_err (Err n) left e = inl cc

left_over : (s : List ℕ) → s ≢ [] → (b : ℕ) × (rest : List ℕ) × (s ≡ b ∷ rest)
left_over [] some = absurd (some refl)
left_over (b ∷ rest) some = (b, rest, refl)

pub whole_read : {A : Type 0} (P : List ℕ → A → Type 0) (W : List ℕ → ℕ → Type 0) (R : List ℕ → Field A) → IsRead P W R → IsMessage P (StopsThen P W (λ x. IsLeftOver)) (λ s. whole (R s))
whole_read {A} P W R p = record {
  right = λ s x bytes e.
      let t = p.takes s x [] bytes (whole_ok (R s) x e) in
      subst (λ (l : List ℕ). P l x) (sym (t.whole ∙ append-nil t.prefix)) t.right;
  again = λ s x h. ap whole (ap R (sym (append-nil s)) ∙ p.again s x [] h);
  halts = λ s left bytes e.
      elim (whole_err (R s) left e) [
        | inl first ↦ let h = p.halts s left bytes first in record { at = h.at; there = h.there; wrong = inl h.wrong }
        | inr a ↦
            let t = p.takes s a.0 (a.1 ∷ a.2) bytes a.3 in
            record {
              at = length t.prefix + 0;
              there = omega (arith, a.4, ap length t.whole, length-append t.prefix (a.1 ∷ a.2));
              wrong = inr (record { first = a.0; prefix = t.prefix; suffix = a.1 ∷ a.2; further = 0; whole = t.whole; right = t.right; wrong = record { some = λ no. absurd cc; here = refl }; there = refl });
            }
      ];
  halted = whole_halted;
} where
  whole_halted : (s : List ℕ) (at : ℕ) → StopsThen P W (λ x. IsLeftOver) s at → (left : ℕ) × (left + at ≡ length s) × (whole (R s) ≡ Err left)
  whole_halted s at (inl w) = let h = p.halted s at w in (h.left, h.there, ap whole h.is)
  whole_halted s at (inr w) =
      let l = left_over w.suffix w.wrong.some in
      let e : s ≡ w.prefix ++ (l.0 ∷ l.1) = w.whole ∙ ap (λ (r : List ℕ). w.prefix ++ r) l.2 in (
        suc (length l.1),
        omega (arith, w.there, w.wrong.here, ap length e, length-append w.prefix (l.0 ∷ l.1)),
        ap (λ (r : List ℕ). whole (R r)) e ∙ ap whole (p.again w.prefix w.first (l.0 ∷ l.1) w.right),
      )

module _ {A B : Type 0} (P : List ℕ → A → Type 0) (W : List ℕ → ℕ → Type 0) (R : List ℕ → Field A) (Q : A → List ℕ → B → Type 0) (V : A → List ℕ → ℕ → Type 0) (T : A → List ℕ → Result B ℕ) where
  last_right : IsRead P W R → ((x : A) → IsMessage (Q x) (V x) (T x)) → (s : List ℕ) (y : B) → AreBytes s → (R s >>= λ x. T x.0 x.1) ≡ Ok y → IsThen P Q s y
  last_right p q s y bytes e =
      let a = bind_ok (R s) (λ x. T x.0 x.1) y e in
      let t = p.takes s a.0.0 a.0.1 bytes a.1 in
      record { first = a.0.0; prefix = t.prefix; suffix = a.0.1; whole = t.whole; right = t.right; next = (q a.0.0).right a.0.1 y (AreBytes-suffix s t.prefix a.0.1 t.whole bytes) a.2 }

  last_again : IsRead P W R → ((x : A) → IsMessage (Q x) (V x) (T x)) → (s : List ℕ) (y : B) → IsThen P Q s y → (R s >>= λ x. T x.0 x.1) ≡ Ok y
  last_again p q s y h = rw (h.whole, p.again h.prefix h.first h.suffix h.right) ((q h.first).again h.suffix y h.next)

  last_halts : IsRead P W R → ((x : A) → IsMessage (Q x) (V x) (T x)) → (s : List ℕ) (left : ℕ) → AreBytes s → (R s >>= λ x. T x.0 x.1) ≡ Err left → Halts (StopsThen P W V) s left
  last_halts p q s left bytes e =
      elim (bind_err (R s) (λ x. T x.0 x.1) left e) [
        | inl first ↦
            let h = p.halts s left bytes first in
            record { at = h.at; there = h.there; wrong = inl h.wrong }
        | inr a ↦
            let t = p.takes s a.0.0 a.0.1 bytes a.1 in
            let h = (q a.0.0).halts a.0.1 left (AreBytes-suffix s t.prefix a.0.1 t.whole bytes) a.2 in
            record {
              at = length t.prefix + h.at;
              there = omega (arith, h.there, ap length t.whole, length-append t.prefix a.0.1);
              wrong = inr (record { first = a.0.0; prefix = t.prefix; suffix = a.0.1; further = h.at; whole = t.whole; right = t.right; wrong = h.wrong; there = refl });
            }
      ]

  last_halted : IsRead P W R → ((x : A) → IsMessage (Q x) (V x) (T x)) → (s : List ℕ) (at : ℕ) → StopsThen P W V s at → (left : ℕ) × (left + at ≡ length s) × ((R s >>= λ x. T x.0 x.1) ≡ Err left)
  last_halted p q s at (inl w) = let h = p.halted s at w in (h.left, h.there, rw h.is refl)
  last_halted p q s at (inr w) =
      let h = (q w.first).halted w.suffix w.further w.wrong in
      (h.0, omega (arith, h.1, w.there, ap length w.whole, length-append w.prefix w.suffix), rw (w.whole, p.again w.prefix w.first w.suffix w.right) h.2)

  pub last_read : IsRead P W R → ((x : A) → IsMessage (Q x) (V x) (T x)) → IsMessage (IsThen P Q) (StopsThen P W V) (λ s. R s >>= λ x. T x.0 x.1)
  last_read p q = record { right = last_right p q; again = last_again p q; halts = last_halts p q; halted = last_halted p q }

pub made_message : {A B : Type 0} (P : List ℕ → A → Type 0) (W : List ℕ → ℕ → Type 0) (R : List ℕ → Result A ℕ) (f : A → B) → IsMessage P W R → IsMessage (IsMade P f) W (λ s. R s >>= λ x. Ok (f x))
made_message {A} {B} P W R f p = record {
  right = λ s y bytes e. let a = bind_ok (R s) (λ x. Ok (f x)) y e in record { part = a.0; right = p.right s a.0 bytes a.1; is = sym (ok_is (f a.0) y a.2) };
  again = λ s y h. rw (p.again s h.part h.right, h.is) refl;
  halts = λ s left bytes e.
      elim (bind_err (R s) (λ x. Ok (f x)) left e) [
        | inl first ↦ p.halts s left bytes first
        | inr a ↦ absurd (let no : done (f a.0) ≡ lost B left = a.2 in cc)
      ];
  halted = λ s at w. let h = p.halted s at w in (h.0, h.1, rw h.2 refl);
}

pub same_message : {A : Type 0} (P Q : List ℕ → A → Type 0) (W : List ℕ → ℕ → Type 0) (R : List ℕ → Result A ℕ) →
    ((s : List ℕ) (x : A) → P s x → Q s x) → ((s : List ℕ) (x : A) → Q s x → P s x) → IsMessage P W R → IsMessage Q W R
same_message P Q W R forth back p = record {
  right = λ s x bytes e. forth s x (p.right s x bytes e);
  again = λ s x h. p.again s x (back s x h);
  halts = p.halts;
  halted = p.halted;
}

-- where what is left of the bytes begins
pub rest_at : (body prefix rest : List ℕ) → body ≡ prefix ++ rest → (length rest ≤ length body) × (drop (length body - length rest) body ≡ rest)
rest_at body prefix rest e =
    let lens : length body ≡ length prefix + length rest = ap length e ∙ length-append prefix rest in
    let size : length body - length rest ≡ length prefix = omega (arith, lens) in
    (omega (arith, lens), ap (λ (n : ℕ). drop n body) size ∙ ap (drop (length prefix)) e ∙ drop_at prefix rest (length prefix) refl)
