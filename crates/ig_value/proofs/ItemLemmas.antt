-- Items of a fixed number of bytes, and what stands behind a code byte or a count.
use Rattle.std.proofs.Common.{◌≡◌, ℕ, suc, ◌+◌, ◌<◌, ◌≤◌, List, [], ◌∷◌, ◌++◌, length, take, drop, Option, Some, None, Result, Ok, Err, refl, sym, ap, subst, ◌∙◌, arith, inl, inr, length-append, ◌⊎◌}
use Rattle.std.proofs.Common.{◌≢◌, eq-eqb}
use Rattle.std.proofs.lemmas.Bool.{cases_lt, cases_eq, ne_eqb, le-ltb, lt-ltb}
use Rattle.std.proofs.lemmas.List.{take_at, drop_at, take-append-drop, length-take, nil_from_length}
use Rattle.ig_base.specs.Numbers.{AreBytes}
use Rattle.ig_value.specs.declared.cause.Cause.{Cause}
use Rattle.ig_value.specs.declared.cause.Cause.TheVariants as cause
use Rattle.ig_value.specs.declared.code.Code.{Code}
use Rattle.ig_value.specs.declared.code.Code.TheVariants as code
use Rattle.ig_value.specs.Table.{byte_of}
use Rattle.ig_value.specs.Spells.{IsCoded, IsOptional}
use Rattle.ig_value.specs.Stops.{StopsCoded, StopsOptional}
use Rattle.ig_value.specs.Reading.{Fault, Read, mapped_read, item_read, item_at, optional_at}
use Rattle.ig_value.proofs.AgreesLemmas.{Agrees, Takes, Halts, Halted, AreBytes-take, AreBytes-drop, bind_ok, bind_err, ok_is, err_is}

found_ok : {A : Type 0} (left : ℕ) (rest : List ℕ) (r : Result A Cause) (x : A) (rest' : List ℕ) → item_read left rest r ≡ Ok (x, rest') → (r ≡ Ok x) × (rest ≡ rest')
found_ok {A} left rest (Ok y) x rest' e = let p = ok_is (y, rest) (x, rest') e in (ap (λ (z : A × List ℕ). Ok z.0) p, ap (λ (z : A × List ℕ). z.1) p)
found_ok left rest (Err c) x rest' e = absurd cc

found_err : {A : Type 0} (left : ℕ) (rest : List ℕ) (r : Result A Cause) (left' : ℕ) (c : Cause) → item_read left rest r ≡ Err (left', c) → (r ≡ Err c) × (left ≡ left')
found_err left rest (Ok y) left' c e = absurd cc
found_err {A} left rest (Err d) left' c e = let p = err_is {A = A × List ℕ} (left, d) (left', c) e in (ap (λ (z : Fault). Err z.1) p, ap (λ (z : Fault). z.0) p)

-- what n bytes are, and where they stop
pub record IsItem {A : Type 0} (n : ℕ) (of : List ℕ → Result A Cause) (P : List ℕ → A → Type 0) (W : List ℕ → ℕ → Cause → Type 0) : Type 0 where
  pub right : (s : List ℕ) (x : A) → length s ≡ n → AreBytes s → of s ≡ Ok x → P s x
  pub again : (s : List ℕ) (x : A) → P s x → (length s ≡ n) × (of s ≡ Ok x)
  pub cut : (s : List ℕ) → length s < n → W s 0 cause.Short
  pub bad : (s : List ℕ) (c : Cause) → n ≤ length s → of (take n s) ≡ Err c → W s 0 c
  pub suffix : (s : List ℕ) (at : ℕ) (c : Cause) → W s at c → (at ≡ 0) × (((length s < n) × (c ≡ cause.Short)) ⊎ ((n ≤ length s) × (of (take n s) ≡ Err c)))

pub item_short : {A : Type 0} (n : ℕ) (of : List ℕ → Result A Cause) (s : List ℕ) → length s < n → item_at n of s ≡ Err (length s, cause.Short)
item_short n of s lt = rw (lt-ltb (length s) n lt) refl

pub item_whole : {A : Type 0} (n : ℕ) (of : List ℕ → Result A Cause) (s : List ℕ) → n ≤ length s → item_at n of s ≡ item_read (length s) (drop n s) (of (take n s))
item_whole n of s le = rw (le-ltb (length s) n le) refl

item_takes : {A : Type 0} (n : ℕ) (of : List ℕ → Result A Cause) (P : List ℕ → A → Type 0) (W : List ℕ → ℕ → Cause → Type 0) → IsItem n of P W →
    (s : List ℕ) (x : A) (rest : List ℕ) → AreBytes s → item_at n of s ≡ Ok (x, rest) → Takes P s x rest
item_takes n of P W p s x rest bytes e =
    elim (cases_lt (length s) n) [
      | inl lt ↦ absurd (let no = sym (item_short n of s lt) ∙ e in cc)
      | inr le ↦
          let f = found_ok (length s) (drop n s) (of (take n s)) x rest (sym (item_whole n of s le) ∙ e) in
          let len : length (take n s) ≡ n = omega (arith, length-take n s) in
          record { prefix = take n s; whole = rw (← f.1) (sym (take-append-drop n s)); right = p.right (take n s) x len (AreBytes-take n s bytes) f.0 }
    ]

item_again : {A : Type 0} (n : ℕ) (of : List ℕ → Result A Cause) (P : List ℕ → A → Type 0) (W : List ℕ → ℕ → Cause → Type 0) → IsItem n of P W →
    (s : List ℕ) (x : A) (rest : List ℕ) → P s x → item_at n of (s ++ rest) ≡ Ok (x, rest)
item_again n of P W p s x rest h =
    let a = p.again s x h in
    let le : n ≤ length (s ++ rest) = omega (arith, length-append s rest, a.0) in
    item_whole n of (s ++ rest) le ∙ rw (take_at s rest n a.0, drop_at s rest n a.0, a.1) refl

item_halts : {A : Type 0} (n : ℕ) (of : List ℕ → Result A Cause) (P : List ℕ → A → Type 0) (W : List ℕ → ℕ → Cause → Type 0) → IsItem n of P W →
    (s : List ℕ) (left : ℕ) (c : Cause) → AreBytes s → item_at n of s ≡ Err (left, c) → Halts W s left c
item_halts n of P W p s left c bytes e =
    elim (cases_lt (length s) n) [
      | inl lt ↦
          let f = err_is (length s, cause.Short) (left, c) (sym (item_short n of s lt) ∙ e) in
          let c-is : cause.Short ≡ c = ap (λ (z : Fault). z.1) f in
          let left-is : length s ≡ left = ap (λ (z : Fault). z.0) f in
          record { at = 0; there = omega (arith, left-is); wrong = subst (λ (d : Cause). W s 0 d) c-is (p.cut s lt) }
      | inr le ↦
          let f = found_err (length s) (drop n s) (of (take n s)) left c (sym (item_whole n of s le) ∙ e) in
          record { at = 0; there = omega (arith, f.1); wrong = p.bad s c le f.0 }
    ]

item_halted : {A : Type 0} (n : ℕ) (of : List ℕ → Result A Cause) (P : List ℕ → A → Type 0) (W : List ℕ → ℕ → Cause → Type 0) → IsItem n of P W →
    (s : List ℕ) (at : ℕ) (c : Cause) → W s at c → Halted (item_at n of) s at c
item_halted n of P W p s at c w =
    let b = p.suffix s at c w in
    let there : length s + at ≡ length s = omega (arith, b.0) in
    elim b.1 [
      | inl short ↦ record { left = length s; there = there; is = rw short.1 (item_short n of s short.0) }
      | inr bad ↦ record { left = length s; there = there; is = item_whole n of s bad.0 ∙ rw bad.1 refl }
    ]

pub item_agrees : {A : Type 0} (n : ℕ) (of : List ℕ → Result A Cause) (P : List ℕ → A → Type 0) (W : List ℕ → ℕ → Cause → Type 0) → IsItem n of P W → Agrees P W (item_at n of)
item_agrees n of P W p = record {
  takes = item_takes n of P W p;
  again = item_again n of P W p;
  halts = item_halts n of P W p;
  halted = item_halted n of P W p;
}

-- ---- behind a code byte

pub coded_takes : {A : Type 0} (c : Code) (P : List ℕ → A → Type 0) (W : List ℕ → ℕ → Cause → Type 0) (R : List ℕ → Read A) → Agrees P W R →
    (s : List ℕ) (x : A) (rest : List ℕ) → AreBytes (byte_of c ∷ s) → R s ≡ Ok (x, rest) → Takes (IsCoded c P) (byte_of c ∷ s) x rest
coded_takes c P W R p s x rest bytes e =
    let t = p.takes s x rest (AreBytes-drop 1 (byte_of c ∷ s) bytes) e in
    record { prefix = byte_of c ∷ t.prefix; whole = ap (λ (l : List ℕ). byte_of c ∷ l) t.whole; right = record { suffix = t.prefix; whole = refl; after = t.right } }

pub coded_halts : {A : Type 0} (c : Code) (P : List ℕ → A → Type 0) (W : List ℕ → ℕ → Cause → Type 0) (R : List ℕ → Read A) → Agrees P W R →
    (s : List ℕ) (left : ℕ) (why : Cause) → AreBytes (byte_of c ∷ s) → R s ≡ Err (left, why) → Halts (StopsCoded c W) (byte_of c ∷ s) left why
coded_halts c P W R p s left why bytes e =
    let h = p.halts s left why (AreBytes-drop 1 (byte_of c ∷ s) bytes) e in
    record { at = suc h.at; there = omega (arith, h.there); wrong = record { suffix = s; further = h.at; whole = refl; wrong = h.wrong; there = refl } }

optional_takes : {A : Type 0} (c : Code) (P : List ℕ → A → Type 0) (W : List ℕ → ℕ → Cause → Type 0) (R : List ℕ → Read A) → Agrees P W R →
    (s : List ℕ) (o : Option A) (rest : List ℕ) → AreBytes s → optional_at (byte_of c) R s ≡ Ok (o, rest) → Takes (IsOptional c P) s o rest
optional_takes c P W R p [] o rest bytes e = absurd cc
optional_takes {A} c P W R p (b ∷ s) o rest bytes e =
    elim (cases_eq b (byte_of code.Null)) [
      | inl null ↦
          let made : Option A × List ℕ = (None, s) in
          let is : optional_at (byte_of c) R (b ∷ s) ≡ Ok made = rw (eq-eqb b (byte_of code.Null) null) refl in
          let all : Takes (IsOptional c P) (b ∷ s) made.0 made.1 = record { prefix = byte_of code.Null ∷ []; whole = rw null refl; right = refl } in
          subst (λ (z : Option A × List ℕ). Takes (IsOptional c P) (b ∷ s) z.0 z.1) (ok_is made (o, rest) (sym is ∙ e)) all
      | inr no_null ↦
          elim (cases_eq b (byte_of c)) [
            | inl this ↦
                let is : optional_at (byte_of c) R (b ∷ s) ≡ mapped_read Some (R s) = rw (ne_eqb b (byte_of code.Null) no_null, eq-eqb b (byte_of c) this) refl in
                let a = bind_ok (R s) (λ x. Ok (Some x.0, x.1)) (o, rest) (sym is ∙ e) in
                let t = coded_takes c P W R p s a.0.0 a.0.1 (subst (λ (n : ℕ). AreBytes (n ∷ s)) this bytes) a.1 in
                let made : Option A × List ℕ = (Some a.0.0, a.0.1) in
                let all : Takes (IsOptional c P) (b ∷ s) made.0 made.1 = record { prefix = t.prefix; whole = ap (λ (n : ℕ). n ∷ s) this ∙ t.whole; right = t.right } in
                subst (λ (z : Option A × List ℕ). Takes (IsOptional c P) (b ∷ s) z.0 z.1) (ok_is made (o, rest) a.2) all
            | inr other ↦
                absurd (let is : optional_at (byte_of c) R (b ∷ s) ≡ Err (suc (length s), cause.Code b) = rw (ne_eqb b (byte_of code.Null) no_null, ne_eqb b (byte_of c) other) refl in let no = sym is ∙ e in cc)
          ]
    ]

optional_again : {A : Type 0} (c : Code) (P : List ℕ → A → Type 0) (W : List ℕ → ℕ → Cause → Type 0) (R : List ℕ → Read A) → Agrees P W R → byte_of c ≢ byte_of code.Null →
    (s : List ℕ) (o : Option A) (rest : List ℕ) → IsOptional c P s o → optional_at (byte_of c) R (s ++ rest) ≡ Ok (o, rest)
optional_again c P W R p no_null s None rest h = rw h refl
optional_again c P W R p no_null s (Some x) rest h =
    rw (h.whole, ne_eqb (byte_of c) (byte_of code.Null) no_null, eq-eqb (byte_of c) (byte_of c) refl, p.again h.suffix x rest h.after) refl

optional_halts : {A : Type 0} (c : Code) (P : List ℕ → A → Type 0) (W : List ℕ → ℕ → Cause → Type 0) (R : List ℕ → Read A) → Agrees P W R →
    (s : List ℕ) (left : ℕ) (why : Cause) → AreBytes s → optional_at (byte_of c) R s ≡ Err (left, why) → Halts (StopsOptional c W) s left why
optional_halts {A} c P W R p [] left why bytes e =
    let f = err_is {A = Option A × List ℕ} (0, cause.Short) (left, why) e in
    record { at = 0; there = omega (arith, ap (λ (z : Fault). z.0) f); wrong = inl (record { short = omega arith; here = refl; cause = sym (ap (λ (z : Fault). z.1) f) }) }
optional_halts {A} c P W R p (b ∷ s) left why bytes e =
    elim (cases_eq b (byte_of code.Null)) [
      | inl null ↦ absurd (let is : optional_at (byte_of c) R (b ∷ s) ≡ Ok (None, s) = rw (eq-eqb b (byte_of code.Null) null) refl in let no = sym is ∙ e in cc)
      | inr no_null ↦
          elim (cases_eq b (byte_of c)) [
            | inl this ↦
                let is : optional_at (byte_of c) R (b ∷ s) ≡ mapped_read Some (R s) = rw (ne_eqb b (byte_of code.Null) no_null, eq-eqb b (byte_of c) this) refl in
                elim (bind_err (R s) (λ x. Ok (Some x.0, x.1)) (left, why) (sym is ∙ e)) [
                  | inl inner ↦
                      let h = coded_halts c P W R p s left why (subst (λ (n : ℕ). AreBytes (n ∷ s)) this bytes) inner in
                      record { at = h.at; there = h.there; wrong = inr (inr (subst (λ (n : ℕ). StopsCoded c W (n ∷ s) h.at why) (sym this) h.wrong)) }
                  | inr a ↦ absurd (let no = a.2 in cc)
                ]
            | inr other ↦
                let is : optional_at (byte_of c) R (b ∷ s) ≡ Err (suc (length s), cause.Code b) = rw (ne_eqb b (byte_of code.Null) no_null, ne_eqb b (byte_of c) other) refl in
                let f = err_is {A = Option A × List ℕ} (suc (length s), cause.Code b) (left, why) (sym is ∙ e) in
                record {
                  at = 0;
                  there = omega (arith, ap (λ (z : Fault). z.0) f);
                  wrong = inr (inl (record { byte = b; rest = s; whole = refl; no_null = no_null; other = other; here = refl; cause = sym (ap (λ (z : Fault). z.1) f) }));
                }
          ]
    ]

optional_halted : {A : Type 0} (c : Code) (P : List ℕ → A → Type 0) (W : List ℕ → ℕ → Cause → Type 0) (R : List ℕ → Read A) → Agrees P W R → byte_of c ≢ byte_of code.Null →
    (s : List ℕ) (at : ℕ) (why : Cause) → StopsOptional c W s at why → Halted (optional_at (byte_of c) R) s at why
optional_halted c P W R p no_null s at why (inl cut) =
    let nil : s ≡ [] = nil_from_length s (omega (arith, cut.short)) in
    record { left = 0; there = rw nil (omega (arith, cut.here)); is = rw (nil, cut.cause) refl }
optional_halted c P W R p no_null s at why (inr (inl w)) =
    record {
      left = suc (length w.rest);
      there = rw w.whole (omega (arith, w.here));
      is = rw (w.whole, w.cause, ne_eqb w.byte (byte_of code.Null) w.no_null, ne_eqb w.byte (byte_of c) w.other) refl;
    }
optional_halted c P W R p no_null s at why (inr (inr w)) =
    let h = p.halted w.suffix w.further why w.wrong in
    record {
      left = h.left;
      there = rw w.whole (omega (arith, h.there, w.there));
      is = rw (w.whole, ne_eqb (byte_of c) (byte_of code.Null) no_null, eq-eqb (byte_of c) (byte_of c) refl, h.is) refl;
    }

pub optional_agrees : {A : Type 0} (c : Code) (P : List ℕ → A → Type 0) (W : List ℕ → ℕ → Cause → Type 0) (R : List ℕ → Read A) → Agrees P W R → byte_of c ≢ byte_of code.Null →
    Agrees (IsOptional c P) (StopsOptional c W) (optional_at (byte_of c) R)
optional_agrees c P W R p no_null = record {
  takes = optional_takes c P W R p;
  again = optional_again c P W R p no_null;
  halts = optional_halts c P W R p;
  halted = optional_halted c P W R p no_null;
}
