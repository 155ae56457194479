-- The results of the functions that read, compared with reading as a function of lists.
use Rattle.std.specs.Prelude.{◌≡◌, ℕ, ◌+◌, ◌<◌, ◌^◌, List, Result, Ok, Err}
use Rattle.ig_decode.specs.declared.fault.Stop.{Stop}
use Rattle.ig_decode.specs.declared.fault.ReadError.{ReadError}
use Rattle.ig_decode.specs.declared.fault.ReadError.TheVariants as error
use Rattle.ig_value.specs.Reading.{Fault, Read}

-- the fault is the one that reading the list gives, unless memory ran out
abbrev pub Fails : {Y : Type 0} → ReadError → Result Y Fault → Type 0
Fails error.NoMemory read = Unit {0}
Fails (error.Fault left cause) read = read ≡ Err (left, cause)

-- the result, seen through `view`, is what reading the list gives, unless memory ran out
abbrev pub ReaderAnswers : {X Y : Type 0} → (X → Y × List ℕ) → Result X ReadError → Read Y → Type 0
ReaderAnswers view (Ok x) read = read ≡ Ok (view x)
ReaderAnswers view (Err e) read = Fails e read

-- the same fault, where this number of bytes follow
abbrev pub followed : ℕ → ReadError → ReadError
followed more error.NoMemory = error.NoMemory
followed more (error.Fault left cause) = error.Fault (left + more) cause

-- a fault may be followed by this number of bytes
abbrev pub MayBeFollowed : ℕ → ReadError → Type 0
MayBeFollowed more error.NoMemory = Unit {0}
MayBeFollowed more (error.Fault left cause) = left + more < 2 ^ 64

-- the same of a function that takes no memory
abbrev pub AnswersWithoutMemory : {X Y : Type 0} → (X → Y × List ℕ) → Result X Stop → Read Y → Type 0
AnswersWithoutMemory view (Ok x) read = read ≡ Ok (view x)
AnswersWithoutMemory view (Err stop) read = read ≡ Err (stop.left, stop.cause)

-- the closure's results are those of `build`
abbrev pub Makes : {A B : Type 0} → (A → B → Type 0) → (A → B) → Type 0
Makes {A} {B} post build = (x : A) (y : B) → post x y → y ≡ build x
