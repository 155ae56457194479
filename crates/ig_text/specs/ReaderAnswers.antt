-- The results of the functions that read, compared with reading as a function of lists.
use Rattle.std.specs.Prelude.{◌≡◌, ℕ, ◌+◌, List, [], Result, Ok, Err, length}
use Rattle.ig_value.specs.declared.value.Value.{Value}
use Rattle.ig_text.specs.declared.fault.ReadError.{ReadError}
use Rattle.ig_text.specs.declared.fault.ReadError.TheVariants as error
use Rattle.ig_text.specs.declared.fault.TextFault.{TextFault}
use Rattle.ig_text.specs.declared.fault.TextFault.TheVariants as fault
use Rattle.ig_value.specs.Limits.{Fits}
use Rattle.ig_text.specs.ReadText.{Read, text_at}
use Rattle.ig_text.specs.TextOf.{TextOf}

-- the fault is the one that reading the list gives, unless memory ran out
abbrev pub Fails : {Y : Type 0} → ReadError → Result Y ℕ → Type 0
Fails error.NoMemory read = Unit {0}
Fails (error.Bad left) read = read ≡ Err left

-- the result, seen through `view`, is what reading the list gives, unless memory ran out
abbrev pub ReaderAnswers : {X Y : Type 0} → (X → Y × List ℕ) → Result X ReadError → Read Y → Type 0
ReaderAnswers view (Ok x) read = read ≡ Ok (view x)
ReaderAnswers view (Err e) read = Fails e read

-- the closure's results are those of `build`
abbrev pub Makes : {A B : Type 0} → (A → B → Type 0) → (A → B) → Type 0
Makes {A} {B} post build = (x : A) (y : B) → post x y → y ≡ build x

-- where a whole text is to be read: the place of the first wrong part, or of what follows the value
abbrev pub IsRefusal : List ℕ → ℕ → Read Value → Type 0
IsRefusal s place (Ok (v, rest)) = (place + length rest ≡ length s) × (rest ≡ [] → ⊥)
IsRefusal s place (Err left) = place + left ≡ length s

abbrev pub IsFault : List ℕ → TextFault → Type 0
IsFault s fault.NoMemory = Unit {0}
IsFault s (fault.Bad place) = IsRefusal s place (text_at s)

-- where the whole text is a value's, the result is this value, unless memory ran out
abbrev pub IsNoText : List ℕ → TextFault → Type 0
IsNoText s fault.NoMemory = Unit {0}
IsNoText s (fault.Bad place) = (v : Value) → Fits v → s ≡ TextOf v → ⊥

abbrev pub IsTextResult : List ℕ → Result Value TextFault → Type 0
IsTextResult s (Ok v) = Fits v × (s ≡ TextOf v)
IsTextResult s (Err e) = IsNoText s e

-- the same by reading, which tells the place too
abbrev pub IsValueResult : List ℕ → Result Value TextFault → Type 0
IsValueResult s (Ok v) = text_at s ≡ Ok (v, [])
IsValueResult s (Err e) = IsFault s e
