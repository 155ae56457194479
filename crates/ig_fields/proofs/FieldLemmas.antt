-- Single fields, and fields put together, are read as they are spelled.
use Rattle.std.proofs.Common.{◌≡◌, ◌≢◌, ℕ, zero, suc, ◌+◌, ◌≤◌, Bool, true, false, List, [], ◌∷◌, ◌++◌, length, Option, None, Some, Ok, Err, refl, sym, ap, subst, ◌∙◌, arith, inl, inr, ◌⊎◌, length-append, append_assoc}
use Rattle.std.specs.Prelude.{IsTrue, IsFalse}
use Rattle.std.proofs.lemmas.Bool.{ne_eqb, cases_lt}
use Rattle.std.proofs.lemmas.List.{nil_from_length}
use Rattle.ig_base.specs.Numbers.{AreBytes}
use Rattle.ig_value.specs.declared.Value.{Value}
use Rattle.ig_value.specs.declared.Value.TheVariants.{Null}
use Rattle.ig_value.specs.Spells.{IsBoth, Spells}
use Rattle.ig_value.specs.Stops.{Stops}
use Rattle.ig_value.specs.Reading.{reading}
use Rattle.ig_value.proofs.AgreesLemmas.{Takes, AreBytes-suffix}
use Rattle.ig_value.proofs.ValueLemmas.{value_agrees}
use Rattle.ig_wire.specs.Fields.{IsShort, StopsThen, Field, ◌>>=◌}
use Rattle.ig_wire.proofs.AgreeLemmas.{Halts, Halted, IsRead, IsThen, placed_read, then_read, IsMade, made_read, same_read, bind_ok, bind_err, ok_is, err_is}
use Rattle.ig_fields.specs.SpellsFields.{IsByte, IsTested, IsChoice, IsUnlessNull}
use Rattle.ig_fields.specs.StopsFields.{StopsTested, StopsChoice, StopsValue, StopsUnlessNull}
use Rattle.ig_fields.specs.ReadingFields.{mapped_of, byte_field, if_passes, tested_of, both_of, choice_of, is_null, value_field, after_value, unless_null_of}

-- ---- a byte

byte_takes : (s : List ℕ) (x : ℕ) (rest : List ℕ) → AreBytes s → byte_field s ≡ Ok (x, rest) → Takes IsByte s x rest
byte_takes [] x rest bytes e = absurd cc
byte_takes (b ∷ s) x rest bytes e =
    let made : ℕ × List ℕ = (b, s) in
    let all : Takes IsByte (b ∷ s) made.0 made.1 = record { prefix = b ∷ []; whole = refl; right = (bytes 0, refl) } in
    subst (λ (z : ℕ × List ℕ). Takes IsByte (b ∷ s) z.0 z.1) (ok_is made (x, rest) e) all

byte_halts : (s : List ℕ) (left : ℕ) → byte_field s ≡ Err left → Halts (IsShort 1) s left
byte_halts [] left e =
    let f : 0 ≡ left = err_is {A = ℕ × List ℕ} 0 left e in
    record { at = 0; there = omega (arith, f); wrong = record { short = omega arith; here = refl } }
byte_halts (b ∷ s) left e = absurd cc

pub byte_read : IsRead IsByte (IsShort 1) byte_field
byte_read = record {
  takes = byte_takes;
  again = λ s x rest h. rw h.1 refl;
  halts = λ s left bytes e. byte_halts s left e;
  halted = λ s at w.
      let nil : s ≡ [] = nil_from_length s (omega (arith, w.short)) in
      record { left = 0; there = rw nil (omega (arith, w.here)); is = rw nil refl };
}

-- ---- an item that passes a test

pub pass_ok : {A : Type 0} (left : ℕ) (test : A → Bool) (y z : A × List ℕ) → if_passes left test y ≡ Ok z → (y ≡ z) × IsTrue (test z.0)
pass_ok {A} left test y z e = by_test (test y.0) refl where
  by_test : (b : Bool) → test y.0 ≡ b → (y ≡ z) × IsTrue (test z.0)
  by_test true t =
      let is : if_passes left test y ≡ Ok y = rw t refl in
      let same : y ≡ z = ok_is y z (sym is ∙ e) in
      (same, subst (λ (w : A × List ℕ). IsTrue (test w.0)) same t)
  by_test false t = absurd (let is : if_passes left test y ≡ Err left = rw t refl in let no = sym is ∙ e in cc)

pub pass_err : {A : Type 0} (left : ℕ) (test : A → Bool) (y : A × List ℕ) (n : ℕ) → if_passes left test y ≡ Err n → (left ≡ n) × IsFalse (test y.0)
pass_err {A} left test y n e = by_test (test y.0) refl where
  by_test : (b : Bool) → test y.0 ≡ b → (left ≡ n) × IsFalse (test y.0)
  by_test true t = absurd (let is : if_passes left test y ≡ Ok y = rw t refl in let no = sym is ∙ e in cc)
  by_test false t = let is : if_passes left test y ≡ Err left = rw t refl in (err_is {A = A × List ℕ} left n (sym is ∙ e), t)

module _ {A : Type 0} (P : List ℕ → A → Type 0) (W : List ℕ → ℕ → Type 0) (R : List ℕ → Field A) (test : A → Bool) where
  tested_takes : IsRead P W R → (s : List ℕ) (x : A) (rest : List ℕ) → AreBytes s → tested_of R test s ≡ Ok (x, rest) → Takes (IsTested P test) s x rest
  tested_takes p s x rest bytes e =
      let a = bind_ok (R s) (if_passes (length s) test) (x, rest) e in
      let passed = pass_ok (length s) test a.0 (x, rest) a.2 in
      let t = p.takes s x rest bytes (a.1 ∙ ap (λ (z : A × List ℕ). Ok z) passed.0) in
      record { prefix = t.prefix; whole = t.whole; right = (t.right, passed.1) }

  tested_halts : IsRead P W R → (s : List ℕ) (left : ℕ) → AreBytes s → tested_of R test s ≡ Err left → Halts (StopsTested P W test) s left
  tested_halts p s left bytes e =
      elim (bind_err (R s) (if_passes (length s) test) left e) [
        | inl first ↦
            let h = p.halts s left bytes first in
            record { at = h.at; there = h.there; wrong = inl h.wrong }
        | inr a ↦
            let t = p.takes s a.0.0 a.0.1 bytes a.1 in
            let failed = pass_err (length s) test a.0 left a.2 in
            record { at = 0; there = omega (arith, failed.0); wrong = inr (record { item = a.0.0; prefix = t.prefix; suffix = a.0.1; whole = t.whole; right = t.right; fails = failed.1; here = refl }) }
      ]

  tested_halted : IsRead P W R → (s : List ℕ) (at : ℕ) → StopsTested P W test s at → Halted (tested_of R test) s at
  tested_halted p s at (inl w) =
      let h = p.halted s at w in
      record { left = h.left; there = h.there; is = rw h.is refl }
  tested_halted p s at (inr w) =
      let e : R s ≡ Ok (w.item, w.suffix) = ap R w.whole ∙ p.again w.prefix w.item w.suffix w.right in
      record { left = length s; there = omega (arith, w.here); is = rw (e, w.fails) refl }

  pub tested_read : IsRead P W R → IsRead (IsTested P test) (StopsTested P W test) (tested_of R test)
  tested_read p = record {
    takes = tested_takes p;
    again = λ s x rest h. rw (p.again s x rest h.0, h.1) refl;
    halts = tested_halts p;
    halted = tested_halted p;
  }

-- ---- two fields

-- the bytes of one, after which the other is x
abbrev Beside : {A B : Type 0} → (List ℕ → B → Type 0) → A → List ℕ → A × B → Type 0
Beside Q x = IsMade Q (λ y. (x, y))

module _ {A B : Type 0} (P : List ℕ → A → Type 0) (W : List ℕ → ℕ → Type 0) (R : List ℕ → Field A) (Q : List ℕ → B → Type 0) (V : List ℕ → ℕ → Type 0) (T : List ℕ → Field B) where
  both_forth : (s : List ℕ) (z : A × B) → IsThen P (Beside Q) s z → IsBoth P Q s z
  both_forth s z h =
      let all : IsBoth P Q s (h.first, h.next.part) = record { prefix = h.prefix; suffix = h.suffix; whole = h.whole; first = h.right; second = h.next.right } in
      subst (IsBoth P Q s) (sym h.next.is) all

  both_back : (s : List ℕ) (z : A × B) → IsBoth P Q s z → IsThen P (Beside Q) s z
  both_back s z h = record { first = z.0; prefix = h.prefix; suffix = h.suffix; whole = h.whole; right = h.first; next = record { part = z.1; right = h.second; is = refl } }

  pub both_read : IsRead P W R → IsRead Q V T → IsRead (IsBoth P Q) (StopsThen P W (λ x. V)) (both_of R T)
  both_read p q =
      same_read (IsThen P (Beside Q)) (IsBoth P Q) (StopsThen P W (λ x. V)) (both_of R T) both_forth both_back
      (then_read P W R (Beside Q) (λ x. V) (λ x s. T s >>= λ y. Ok ((x, y.0), y.1)) p (λ x. made_read Q V T (λ y. (x, y)) q))

-- ---- a choice by a byte

module _ {A B : Type 0} (P : List ℕ → A → Type 0) (W : List ℕ → ℕ → Type 0) (R : List ℕ → Field A) (Q : List ℕ → B → Type 0) (V : List ℕ → ℕ → Type 0) (T : List ℕ → Field B) where
  abbrev left_of : A → A ⊎ B
  left_of x = inl x

  abbrev right_of : B → A ⊎ B
  right_of y = inr y

  zero_is : (s : List ℕ) → choice_of R T (0 ∷ s) ≡ mapped_of left_of (R s)
  zero_is s = refl

  one_is : (s : List ℕ) → choice_of R T (1 ∷ s) ≡ mapped_of right_of (T s)
  one_is s = refl

  other_is : (b : ℕ) (s : List ℕ) → 2 ≤ b → choice_of R T (b ∷ s) ≡ Err (suc (length s))
  other_is b s le = rw (ne_eqb b 0 (λ e. absurd (omega (arith, e, le))), ne_eqb b 1 (λ e. absurd (omega (arith, e, le)))) refl

  choice_takes : IsRead P W R → IsRead Q V T → (s : List ℕ) (z : A ⊎ B) (rest : List ℕ) → AreBytes s → choice_of R T s ≡ Ok (z, rest) → Takes (IsChoice P Q) s z rest
  choice_takes p q [] z rest bytes e = absurd cc
  choice_takes p q (zero ∷ s) z rest bytes e =
      let t = (made_read P W R left_of p).takes s z rest (AreBytes-suffix (0 ∷ s) (0 ∷ []) s refl bytes) e in
      let right : IsChoice P Q (0 ∷ t.prefix) (left_of t.right.part) = record { suffix = t.prefix; whole = refl; after = t.right.right } in
      record { prefix = 0 ∷ t.prefix; whole = ap (λ (l : List ℕ). 0 ∷ l) t.whole; right = subst (IsChoice P Q (0 ∷ t.prefix)) (sym t.right.is) right }
  choice_takes p q (suc zero ∷ s) z rest bytes e =
      let t = (made_read Q V T right_of q).takes s z rest (AreBytes-suffix (1 ∷ s) (1 ∷ []) s refl bytes) e in
      let right : IsChoice P Q (1 ∷ t.prefix) (right_of t.right.part) = record { suffix = t.prefix; whole = refl; after = t.right.right } in
      record { prefix = 1 ∷ t.prefix; whole = ap (λ (l : List ℕ). 1 ∷ l) t.whole; right = subst (IsChoice P Q (1 ∷ t.prefix)) (sym t.right.is) right }
  choice_takes p q (suc (suc b) ∷ s) z rest bytes e = absurd (let no = sym (other_is (suc (suc b)) s (omega arith)) ∙ e in cc)

  choice_again : IsRead P W R → IsRead Q V T → (s : List ℕ) (z : A ⊎ B) (rest : List ℕ) → IsChoice P Q s z → choice_of R T (s ++ rest) ≡ Ok (z, rest)
  choice_again p q s (inl x) rest h = rw (h.whole, p.again h.suffix x rest h.after) refl
  choice_again p q s (inr y) rest h = rw (h.whole, q.again h.suffix y rest h.after) refl

  choice_halts : IsRead P W R → IsRead Q V T → (s : List ℕ) (left : ℕ) → AreBytes s → choice_of R T s ≡ Err left → Halts (StopsChoice W V) s left
  choice_halts p q [] left bytes e =
      let f : 0 ≡ left = err_is {A = (A ⊎ B) × List ℕ} 0 left e in
      record { at = 0; there = omega (arith, f); wrong = inl (inl (record { short = omega arith; here = refl })) }
  choice_halts p q (zero ∷ s) left bytes e =
      let h = (made_read P W R left_of p).halts s left (AreBytes-suffix (0 ∷ s) (0 ∷ []) s refl bytes) e in
      record { at = suc h.at; there = omega (arith, h.there); wrong = inr (inl (record { suffix = s; further = h.at; whole = refl; wrong = h.wrong; there = refl })) }
  choice_halts p q (suc zero ∷ s) left bytes e =
      let h = (made_read Q V T right_of q).halts s left (AreBytes-suffix (1 ∷ s) (1 ∷ []) s refl bytes) e in
      record { at = suc h.at; there = omega (arith, h.there); wrong = inr (inr (record { suffix = s; further = h.at; whole = refl; wrong = h.wrong; there = refl })) }
  choice_halts p q (suc (suc b) ∷ s) left bytes e =
      let f : suc (length s) ≡ left = err_is {A = (A ⊎ B) × List ℕ} (suc (length s)) left (sym (other_is (suc (suc b)) s (omega arith)) ∙ e) in
      record { at = 0; there = omega (arith, f); wrong = inl (inr (record { byte = suc (suc b); rest = s; whole = refl; other = λ lt. absurd (omega (arith, lt)); here = refl })) }

  choice_halted : IsRead P W R → IsRead Q V T → (s : List ℕ) (at : ℕ) → StopsChoice W V s at → Halted (choice_of R T) s at
  choice_halted p q s at (inl (inl w)) =
      let nil : s ≡ [] = nil_from_length s (omega (arith, w.short)) in
      record { left = 0; there = rw nil (omega (arith, w.here)); is = rw nil refl }
  choice_halted p q s at (inl (inr w)) =
      let le : 2 ≤ w.byte = elim (cases_lt w.byte 2) [ inl lt ↦ absurd (w.other lt) | inr le ↦ le ] in
      record { left = suc (length w.rest); there = rw w.whole (omega (arith, w.here)); is = ap (choice_of R T) w.whole ∙ other_is w.byte w.rest le }
  choice_halted p q s at (inr (inl w)) =
      let h = p.halted w.suffix w.further w.wrong in
      record { left = h.left; there = rw w.whole (omega (arith, h.there, w.there)); is = rw (w.whole, h.is) refl }
  choice_halted p q s at (inr (inr w)) =
      let h = q.halted w.suffix w.further w.wrong in
      record { left = h.left; there = rw w.whole (omega (arith, h.there, w.there)); is = rw (w.whole, h.is) refl }

  pub choice_read : IsRead P W R → IsRead Q V T → IsRead (IsChoice P Q) (StopsChoice W V) (choice_of R T)
  choice_read p q = record { takes = choice_takes p q; again = choice_again p q; halts = choice_halts p q; halted = choice_halted p q }

-- ---- a value, and what follows it unless it is null

pub null_true : (v : Value) → is_null v ≡ true → v ≡ Null
null_true Null e = refl
null_true _ e = absurd cc

pub null_false : (v : Value) → is_null v ≡ false → v ≢ Null
null_false v e same = absurd (let null : is_null v ≡ true = ap is_null same in let no = sym null ∙ e in cc)

pub not_null : (v : Value) → v ≢ Null → is_null v ≡ false
not_null v n = by_test (is_null v) refl where
  by_test : (b : Bool) → is_null v ≡ b → is_null v ≡ false
  by_test true t = absurd (n (null_true v t))
  by_test false t = t

pub value_read : IsRead Spells StopsValue value_field
unfolding Spells Stops reading
value_read = placed_read Spells Stops reading (value_agrees 32)

module _ {A : Type 0} (P : List ℕ → A → Type 0) (W : List ℕ → ℕ → Type 0) (R : List ℕ → Field A) where
  -- a value that isn't null, before what follows it
  abbrev beside : Value → A → Option (Value × A)
  beside v x = Some (v, x)

  abbrev bare : Option (Value × A)
  bare = None

  null_is : (v : Value) (s : List ℕ) → is_null v ≡ true → after_value R (v, s) ≡ Ok (None, s)
  null_is v s t = rw t refl

  value_is : (v : Value) (s : List ℕ) → is_null v ≡ false → after_value R (v, s) ≡ mapped_of (beside v) (R s)
  value_is v s t = rw t refl

  unless_takes : IsRead P W R → (s : List ℕ) (z : Option (Value × A)) (rest : List ℕ) → AreBytes s → unless_null_of R s ≡ Ok (z, rest) → Takes (IsUnlessNull P) s z rest
  unless_takes p s z rest bytes e =
      let a = bind_ok (value_field s) (after_value R) (z, rest) e in
      at a.0.0 a.0.1 (value_read.takes s a.0.0 a.0.1 bytes a.1) a.2 (is_null a.0.0) refl where
        at : (v : Value) (l : List ℕ) → Takes Spells s v l → after_value R (v, l) ≡ Ok (z, rest) → (b : Bool) → is_null v ≡ b → Takes (IsUnlessNull P) s z rest
        at v l t e true null =
            let made : Option (Value × A) × List ℕ = (None, l) in
            let right : Spells t.prefix Null = subst (Spells t.prefix) (null_true v null) t.right in
            let all : Takes (IsUnlessNull P) s made.0 made.1 = record { prefix = t.prefix; whole = t.whole; right = right } in
            subst (λ (y : Option (Value × A) × List ℕ). Takes (IsUnlessNull P) s y.0 y.1) (ok_is made (z, rest) (sym (null_is v l null) ∙ e)) all
        at v l t e false other =
            let u = (made_read P W R (beside v) p).takes l z rest (AreBytes-suffix s t.prefix l t.whole bytes) (sym (value_is v l other) ∙ e) in
            let both : IsBoth Spells P (t.prefix ++ u.prefix) (v, u.right.part) = record { prefix = t.prefix; suffix = u.prefix; whole = refl; first = t.right; second = u.right.right } in
            let right : IsUnlessNull P (t.prefix ++ u.prefix) (beside v u.right.part) = (null_false v other, both) in
            record {
              prefix = t.prefix ++ u.prefix;
              whole = t.whole ∙ ap (λ (k : List ℕ). t.prefix ++ k) u.whole ∙ sym (append_assoc t.prefix u.prefix rest);
              right = subst (IsUnlessNull P (t.prefix ++ u.prefix)) (sym u.right.is) right;
            }

  unless_again : IsRead P W R → (s : List ℕ) (z : Option (Value × A)) (rest : List ℕ) → IsUnlessNull P s z → unless_null_of R (s ++ rest) ≡ Ok (z, rest)
  unless_again p s None rest h = rw (value_read.again s Null rest h) refl
  unless_again p s (Some x) rest h =
      let b = h.1 in
      let e : s ++ rest ≡ b.prefix ++ (b.suffix ++ rest) = ap (λ (l : List ℕ). l ++ rest) b.whole ∙ append_assoc b.prefix b.suffix rest in
      rw (e, value_read.again b.prefix x.0 (b.suffix ++ rest) b.first, not_null x.0 h.0, p.again b.suffix x.1 rest b.second) refl

  unless_halts : IsRead P W R → (s : List ℕ) (left : ℕ) → AreBytes s → unless_null_of R s ≡ Err left → Halts (StopsUnlessNull W) s left
  unless_halts p s left bytes e =
      elim (bind_err (value_field s) (after_value R) left e) [
        | inl first ↦
            let h = value_read.halts s left bytes first in
            record { at = h.at; there = h.there; wrong = inl h.wrong }
        | inr a ↦ at a.0.0 a.0.1 (value_read.takes s a.0.0 a.0.1 bytes a.1) a.2 (is_null a.0.0) refl
      ] where
        at : (v : Value) (l : List ℕ) → Takes Spells s v l → after_value R (v, l) ≡ Err left → (b : Bool) → is_null v ≡ b → Halts (StopsUnlessNull W) s left
        at v l t e true null = absurd (let no = sym (null_is v l null) ∙ e in cc)
        at v l t e false other =
            let h = (made_read P W R (beside v) p).halts l left (AreBytes-suffix s t.prefix l t.whole bytes) (sym (value_is v l other) ∙ e) in
            record {
              at = length t.prefix + h.at;
              there = omega (arith, h.there, ap length t.whole, length-append t.prefix l);
              wrong = inr (record { first = v; prefix = t.prefix; suffix = l; further = h.at; whole = t.whole; right = (t.right, null_false v other); wrong = h.wrong; there = refl });
            }

  unless_halted : IsRead P W R → (s : List ℕ) (at : ℕ) → StopsUnlessNull W s at → Halted (unless_null_of R) s at
  unless_halted p s at (inl w) =
      let h = value_read.halted s at w in
      record { left = h.left; there = h.there; is = rw h.is refl }
  unless_halted p s at (inr w) =
      let h = p.halted w.suffix w.further w.wrong in
      record {
        left = h.left;
        there = omega (arith, h.there, w.there, ap length w.whole, length-append w.prefix w.suffix);
        is = rw (w.whole, value_read.again w.prefix w.first w.suffix w.right.0, not_null w.first w.right.1, h.is) refl;
      }

  pub unless_null_read : IsRead P W R → IsRead (IsUnlessNull P) (StopsUnlessNull W) (unless_null_of R)
  unless_null_read p = record { takes = unless_takes p; again = unless_again p; halts = unless_halts p; halted = unless_halted p }
