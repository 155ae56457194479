-- The steps of the loop that reads arguments up to the end.
use Rattle.std.proofs.Common.{◌≡◌, ℕ, zero, suc, ◌+◌, ◌-◌, ◌<◌, ◌≤◌, List, [], ◌∷◌, ◌++◌, length, Ok, Err, refl, sym, ap, ◌∙◌, arith}
use Rattle.std.proofs.lemmas.List.{append-nil}
use Rattle.ig_text.specs.declared.fault.ReadError.{ReadError}
use Rattle.ig_text.specs.declared.fault.ReadError.TheVariants as error
use Rattle.ig_text.specs.ReaderAnswers.{Fails}
use Rattle.ig_text.specs.ReadText.{Read, ◌>>=◌}
use Rattle.ig_text.proofs.ReadsLemmas.{done}
use Rattle.ig_text.proofs.ReaderLoopLemmas.{with_front, front_more, counted_down}
use Rattle.ig_lines.specs.Arguments.{to_end_at}

-- nothing is left
at_end : {A : Type 0} (R : List ℕ → Read A) (n : ℕ) → to_end_at R n [] ≡ Ok ([], [])
at_end R zero = refl
at_end R (suc n) = refl

pub end_reached : {A : Type 0} (R : List ℕ → Read A) (n : ℕ) (s : List ℕ) (front : List A) (whole : Read (List A)) → s ≡ [] → with_front front (to_end_at R n s) ≡ whole → whole ≡ Ok (front, s)
end_reached R n s front whole none before =
    sym before ∙ ap (λ (t : List ℕ). with_front front (to_end_at R n t)) none ∙ ap (with_front front) (at_end R n) ∙ ap (λ l. done (l, [])) (append-nil front) ∙ ap (λ (t : List ℕ). done (front, t)) (sym none)

-- something is left, and as many arguments were read as there were bytes
pub end_missed : {A : Type 0} (R : List ℕ → Read A) (most counter : ℕ) (s : List ℕ) (front : List A) (whole : Read (List A)) → most ≤ counter → (s ≡ [] → ⊥) → with_front front (to_end_at R (most - counter) s) ≡ whole → whole ≡ Err (length s)
end_missed R most counter [] front whole le some before = absurd (some refl)
end_missed R most counter (b ∷ s) front whole le some before =
    let none : most - counter ≡ 0 = omega (arith, le) in
    sym before ∙ ap (λ (k : ℕ). with_front front (to_end_at R k (b ∷ s))) none

-- one more argument is there
step_on : {A : Type 0} (R : List ℕ → Read A) (n : ℕ) (s : List ℕ) (r : Read A) → (s ≡ [] → ⊥) → R s ≡ r → to_end_at R (suc n) s ≡ (r >>= λ x. to_end_at R n x.1 >>= λ xs. done (x.0 ∷ xs.0, xs.1))
step_on R n [] r some e = absurd (some refl)
step_on {A} R n (b ∷ s) r some e = ap (λ (q : Read A). q >>= λ x. to_end_at R n x.1 >>= λ xs. done (x.0 ∷ xs.0, xs.1)) e

counted_step : {A : Type 0} (R : List ℕ → Read A) (most counter : ℕ) (s : List ℕ) (r : Read A) → counter < most → (s ≡ [] → ⊥) → R s ≡ r →
    to_end_at R (most - counter) s ≡ (r >>= λ x. to_end_at R (most - (counter + 1)) x.1 >>= λ xs. done (x.0 ∷ xs.0, xs.1))
counted_step R most counter s r lt some e = ap (λ (k : ℕ). to_end_at R k s) (counted_down most counter lt) ∙ step_on R (most - (counter + 1)) s r some e

-- it is read
pub end_pushed : {A : Type 0} (R : List ℕ → Read A) (most counter : ℕ) (s : List ℕ) (front pushed : List A) (x : A) (rest : List ℕ) (whole : Read (List A)) → counter < most → (s ≡ [] → ⊥) → R s ≡ Ok (x, rest) → pushed ≡ front ++ x ∷ [] →
    with_front front (to_end_at R (most - counter) s) ≡ whole → with_front pushed (to_end_at R (most - (counter + 1)) rest) ≡ whole
end_pushed {A} R most counter s front pushed x rest whole lt some e push before =
    let n : ℕ = most - (counter + 1) in
    ap (λ (l : List A). with_front l (to_end_at R n rest)) push ∙ sym (front_more front x (to_end_at R n rest)) ∙ ap (with_front front) (sym (counted_step R most counter s (done (x, rest)) lt some e)) ∙ before

-- it is wrong, or memory ran out
pub end_stops : {A : Type 0} (R : List ℕ → Read A) (most counter : ℕ) (s : List ℕ) (front : List A) (e : ReadError) (whole : Read (List A)) → counter < most → (s ≡ [] → ⊥) → Fails e (R s) → with_front front (to_end_at R (most - counter) s) ≡ whole → Fails e whole
end_stops R most counter s front error.NoMemory whole lt some e before = tt
end_stops R most counter s front (error.Bad left) whole lt some e before = sym before ∙ ap (with_front front) (counted_step R most counter s (Err left) lt some e)
