-- Fields laid end to end are read as they are spelled, where a field is, and stop where they stop.
use Rattle.std.proofs.Common.{◌≡◌, ℕ, suc, ◌+◌, ◌-◌, ◌*◌, ◌≤◌, List, [], ◌∷◌, length, Result, Ok, Err, refl, sym, ap, subst, ◌∙◌, arith, inl, inr, length-append, eq-eqb}
use Rattle.std.proofs.lemmas.Bool.{cases_eq, ne_eqb}
use Rattle.ig_base.specs.Numbers.{AreBytes}
use Rattle.ig_value.specs.declared.cause.Cause.{Cause}
use Rattle.ig_value.specs.declared.cause.Cause.TheVariants as cause
use Rattle.ig_value.specs.Objects.{AreLaid, StopsLaid}
use Rattle.ig_value.specs.Reading.{Fault, Read, ◌>>=◌, turned, laid_at}
use Rattle.ig_value.proofs.AgreesLemmas.{Agrees, AreBytes-suffix, bind_ok, bind_err, ok_is, err_is}

-- ---- a fault by its place

pub turned_ok : {A : Type 0} (end : ℕ) (r : Result A Fault) (x : A) → turned end r ≡ Ok x → r ≡ Ok x
turned_ok end (Ok y) x e = e
turned_ok end (Err f) x e = absurd cc

pub turned_err : {A : Type 0} (end : ℕ) (r : Result A Fault) (f : Fault) → turned end r ≡ Err f → (left : ℕ) × (r ≡ Err (left, f.1)) × (end - left ≡ f.0)
turned_err end (Ok y) f e = absurd cc
turned_err {A} end (Err g) f e =
    let same = err_is {A = A} (end - g.0, g.1) f e in
    (g.0, ap (λ (z : Fault). Err (g.0, z.1)) same, ap (λ (z : Fault). z.0) same)

-- ---- fields

-- the entries of a footer before this place
pub more_entries : (n d : ℕ) → suc n * d ≡ d + n * d
more_entries n d = omega arith

module _ {X : Type 0} (P : List ℕ → X → Type 0) (W : List ℕ → ℕ → Cause → Type 0) (R : List ℕ → Read X) (p : Agrees P W R) where
  -- the reading of the fields after one
  abbrev after_at : ℕ → ℕ → ℕ → List ℕ → X × List ℕ → Result (List X) Fault
  after_at d o end offsets x = laid_at R d (o + d) end offsets x.1 >>= λ xs. Ok (x.0 ∷ xs)

  here_at : (offset d o end : ℕ) (offsets s : List ℕ) → offset ≡ end - length s → laid_at R d o end (offset ∷ offsets) s ≡ (turned end (R s) >>= after_at d o end offsets)
  here_at offset d o end offsets s here = rw (eq-eqb offset (end - length s) here) refl

  elsewhere_at : (offset d o end : ℕ) (offsets s : List ℕ) → (offset ≡ end - length s → ⊥) → laid_at R d o end (offset ∷ offsets) s ≡ Err (o, cause.Offset)
  elsewhere_at offset d o end offsets s other = rw (ne_eqb offset (end - length s) other) refl

  pub laid_takes : (offsets : List ℕ) (d o end place : ℕ) (s : List ℕ) (xs : List X) → AreBytes s → place + length s ≡ end → laid_at R d o end offsets s ≡ Ok xs → AreLaid P place offsets s xs
  laid_takes [] d o end place [] [] bytes there e = refl
  laid_takes [] d o end place [] (x ∷ xs) bytes there e = absurd cc
  laid_takes [] d o end place (b ∷ s) xs bytes there e = absurd cc
  laid_takes (offset ∷ offsets) d o end place s xs bytes there e =
      elim (cases_eq offset (end - length s)) [
        | inl here ↦
            let a = bind_ok (turned end (R s)) (after_at d o end offsets) xs (sym (here_at offset d o end offsets s here) ∙ e) in
            let b = bind_ok (laid_at R d (o + d) end offsets a.0.1) (λ ys. Ok (a.0.0 ∷ ys)) xs a.2 in
            let t = p.takes s a.0.0 a.0.1 bytes (turned_ok end (R s) a.0 a.1) in
            let len : length s ≡ length t.prefix + length a.0.1 = ap length t.whole ∙ length-append t.prefix a.0.1 in
            let later = laid_takes offsets d (o + d) end (place + length t.prefix) a.0.1 b.0 (AreBytes-suffix s t.prefix a.0.1 t.whole bytes) (omega (arith, len, there)) b.1 in
            let made : AreLaid P place (offset ∷ offsets) s (a.0.0 ∷ b.0) =
            record { prefix = t.prefix; suffix = a.0.1; here = omega (arith, here, there); whole = t.whole; first = t.right; after = later } in
            subst (λ (ys : List X). AreLaid P place (offset ∷ offsets) s ys) (ok_is (a.0.0 ∷ b.0) xs b.2) made
        | inr other ↦ absurd (let no = sym (elsewhere_at offset d o end offsets s other) ∙ e in cc)
      ]

  pub laid_again : (offsets : List ℕ) (d o end place : ℕ) (s : List ℕ) (xs : List X) → AreLaid P place offsets s xs → place + length s ≡ end → laid_at R d o end offsets s ≡ Ok xs
  laid_again [] d o end place s [] h there = rw h refl
  laid_again [] d o end place s (x ∷ xs) h there = absurd h
  laid_again (offset ∷ offsets) d o end place s [] h there = absurd h
  laid_again (offset ∷ offsets) d o end place s (x ∷ xs) h there =
      let len : length s ≡ length h.prefix + length h.suffix = ap length h.whole ∙ length-append h.prefix h.suffix in
      let inner : R s ≡ Ok (x, h.suffix) = ap R h.whole ∙ p.again h.prefix x h.suffix h.first in
      let later = laid_again offsets d (o + d) end (place + length h.prefix) h.suffix xs h.after (omega (arith, len, there)) in
      here_at offset d o end offsets s (omega (arith, h.here, there)) ∙ rw (inner, later) refl

  pub laid_halts : (offsets : List ℕ) (d o end place : ℕ) (s : List ℕ) (at : ℕ) (c : Cause) → AreBytes s → place + length s ≡ end → laid_at R d o end offsets s ≡ Err (at, c) → StopsLaid P W d o place offsets s at c
  laid_halts [] d o end place [] at c bytes there e = absurd cc
  laid_halts [] d o end place (b ∷ s) at c bytes there e =
      let f = err_is {A = List X} (20, cause.Offset) (at, c) e in
      record { more = λ nil. cc; here = sym (ap (λ (z : Fault). z.0) f); cause = sym (ap (λ (z : Fault). z.1) f) }
  laid_halts (offset ∷ offsets) d o end place s at c bytes there e =
      elim (cases_eq offset (end - length s)) [
        | inl here ↦
            elim (bind_err (turned end (R s)) (after_at d o end offsets) (at, c) (sym (here_at offset d o end offsets s here) ∙ e)) [
              | inl first ↦
                  let t = turned_err end (R s) (at, c) first in
                  let h = p.halts s t.0 c bytes t.1 in
                  inr (inl (record { further = h.at; right = omega (arith, here, there); wrong = h.wrong; there = omega (arith, t.2, h.there, there) }))
              | inr a ↦
                  let t = p.takes s a.0.0 a.0.1 bytes (turned_ok end (R s) a.0 a.1) in
                  let len : length s ≡ length t.prefix + length a.0.1 = ap length t.whole ∙ length-append t.prefix a.0.1 in
                  elim (bind_err (laid_at R d (o + d) end offsets a.0.1) (λ ys. Ok (a.0.0 ∷ ys)) (at, c) a.2) [
                    | inl second ↦
                        let later = laid_halts offsets d (o + d) end (place + length t.prefix) a.0.1 at c (AreBytes-suffix s t.prefix a.0.1 t.whole bytes) (omega (arith, len, there)) second in
                        inr (inr (record {
                          first = a.0.0;
                          field = record { prefix = t.prefix; suffix = a.0.1; here = omega (arith, here, there); whole = t.whole; first = t.right; after = later };
                        }))
                    | inr b ↦ absurd (let no = b.2 in cc)
                  ]
            ]
        | inr other ↦
            let f = err_is {A = List X} (o, cause.Offset) (at, c) (sym (elsewhere_at offset d o end offsets s other) ∙ e) in
            inl (record { other = λ same. other (omega (arith, same, there)); here = sym (ap (λ (z : Fault). z.0) f); cause = sym (ap (λ (z : Fault). z.1) f) })
      ]

  -- where fields stop they are refused, at a place before this end
  pub laid_halted : (offsets : List ℕ) (d o end m place : ℕ) (s : List ℕ) (at : ℕ) (c : Cause) → place + length s ≡ end → end ≤ m → 20 ≤ m → o + length offsets * d ≤ m + d →
      StopsLaid P W d o place offsets s at c → (laid_at R d o end offsets s ≡ Err (at, c)) × (at ≤ m)
  laid_halted [] d o end m place [] at c there le twenty last w = absurd (w.more refl)
  laid_halted [] d o end m place (b ∷ s) at c there le twenty last w = (rw (w.here, w.cause) refl, omega (arith, w.here))
  laid_halted (offset ∷ offsets) d o end m place s at c there le twenty last (inl w) =
      (elsewhere_at offset d o end offsets s (λ same. w.other (omega (arith, same, there))) ∙ rw (w.here, w.cause) refl, omega (arith, w.here, last))
  laid_halted (offset ∷ offsets) d o end m place s at c there le twenty last (inr (inl w)) =
      let h = p.halted s w.further c w.wrong in
      let is : turned end (R s) ≡ Err (end - h.left, c) = ap (turned end) h.is in
      let at-is : end - h.left ≡ at = omega (arith, h.there, w.there, there) in
      (here_at offset d o end offsets s (omega (arith, w.right, there)) ∙ rw (is, at-is) refl, omega (arith, h.there, w.there, there))
  laid_halted (offset ∷ offsets) d o end m place s at c there le twenty last (inr (inr w)) =
      let f = w.field in
      let len : length s ≡ length f.prefix + length f.suffix = ap length f.whole ∙ length-append f.prefix f.suffix in
      let inner : R s ≡ Ok (w.first, f.suffix) = ap R f.whole ∙ p.again f.prefix w.first f.suffix f.first in
      let later = laid_halted offsets d (o + d) end m (place + length f.prefix) f.suffix at c (omega (arith, len, there)) le twenty (omega (arith, last)) f.after in
      (here_at offset d o end offsets s (omega (arith, f.here, there)) ∙ rw (inner, later.0) refl, later.1)
