-- Two parts, one after the other.
use Rattle.std.proofs.Common.{◌≡◌, ℕ, List, Ok, refl}
use Rattle.ig_value.specs.Reading.{Read, both_at}
use Rattle.ig_decode.specs.declared.fault.ReadError.{ReadError}
use Rattle.ig_decode.specs.declared.fault.ReadError.TheVariants as error
use Rattle.ig_decode.specs.ReaderAnswers.{Fails}

pub both_found : {A B : Type 0} (first : List ℕ → Read A) (second : List ℕ → Read B) (s : List ℕ) (x : A) (s' : List ℕ) (y : B) (s'' : List ℕ) → first s ≡ Ok (x, s') → second s' ≡ Ok (y, s'') → both_at first second s ≡ Ok ((x, y), s'')
both_found first second s x s' y s'' a b = rw (a, b) refl

pub first_fails : {A B : Type 0} (e : ReadError) (first : List ℕ → Read A) (second : List ℕ → Read B) (s : List ℕ) → Fails e (first s) → Fails e (both_at first second s)
first_fails error.NoMemory first second s h = tt
first_fails (error.Fault left c) first second s h = rw h refl

pub second_fails : {A B : Type 0} (e : ReadError) (first : List ℕ → Read A) (second : List ℕ → Read B) (s : List ℕ) (x : A) (s' : List ℕ) → first s ≡ Ok (x, s') → Fails e (second s') → Fails e (both_at first second s)
second_fails error.NoMemory first second s x s' a h = tt
second_fails (error.Fault left c) first second s x s' a h = rw (a, h) refl
