-- Reading items one after the other, as a loop does.
use Rattle.std.proofs.Common.{◌≡◌, ℕ, suc, List, [], ◌∷◌, ◌++◌, Ok, Err, refl, sym, ap, ◌∙◌, append_assoc, append-nil}
use Rattle.ig_wire.specs.declared.ReadError.{ReadError}
use Rattle.ig_wire.specs.declared.ReadError.TheVariants as error
use Rattle.ig_wire.specs.Fields.{Field, ◌>>=◌}
use Rattle.ig_wire.specs.ReadAnswers.{Fails}
use Rattle.ig_fields.specs.ReadingFields.{each_of}

-- what was read before, and what is still read
abbrev pub with_front : {A : Type 0} → List A → Field (List A) → Field (List A)
with_front front read = read >>= λ x. Ok (front ++ x.0, x.1)

regroup : {A : Type 0} (front : List A) (x : A) (read : Field (List A)) → with_front front (read >>= λ xs. Ok (x ∷ xs.0, xs.1)) ≡ with_front (front ++ x ∷ []) read
regroup {A} front x (Ok xs) = ap (λ (l : List A). Ok (l, xs.1)) (simp append_assoc)
regroup front x (Err left) = refl

-- one more item was read, of those that are left
pub one_read : {A : Type 0} (one : List ℕ → Field A) (front : List A) (left left' : ℕ) (bytes : List ℕ) (x : A) (after : List ℕ) (total : Field (List A)) → left ≡ suc left' → one bytes ≡ Ok (x, after)
    → with_front front (each_of one left bytes) ≡ total → with_front (front ++ x ∷ []) (each_of one left' after) ≡ total
one_read one front left left' bytes x after total k h so_far =
    let step : with_front front (each_of one left bytes) ≡ with_front (front ++ x ∷ []) (each_of one left' after) = rw (k, h) (regroup front x (each_of one left' after)) in
    sym step ∙ so_far

-- one of those that are left could not be read
pub one_failed : {A : Type 0} (one : List ℕ → Field A) (e : ReadError) (front : List A) (left left' : ℕ) (bytes : List ℕ) (total : Field (List A)) → left ≡ suc left' → Fails e (one bytes)
    → with_front front (each_of one left bytes) ≡ total → Fails e total
one_failed one error.NoMemory front left left' bytes total k h so_far = tt
one_failed one (error.Stopped stop) front left left' bytes total k h so_far =
    let step : with_front front (each_of one left bytes) ≡ Err stop.left = rw (k, h) refl in
    sym so_far ∙ step

-- none is left
pub all_read : {A : Type 0} (one : List ℕ → Field A) (front : List A) (left : ℕ) (bytes : List ℕ) (total : Field (List A)) → left ≡ 0 → with_front front (each_of one left bytes) ≡ total → total ≡ Ok (front, bytes)
all_read {A} one front left bytes total k so_far =
    let step : with_front front (each_of one left bytes) ≡ Ok (front, bytes) = rw k (ap (λ (l : List A). Ok (l, bytes)) (append-nil front)) in
    sym so_far ∙ step
