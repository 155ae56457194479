-- Laws of the texts of values.
use Rattle.std.specs.Prelude.{◌≡◌, ◌<◌, ◌≤◌, ◌*◌, ◌^◌, true, false, List, [], ◌∷◌, ◌++◌, length, ℕ, Ok}
use Rattle.std.specs.List.{AllByRecursion}
use Rattle.ig_value.specs.declared.value.Value.{Value}
use Rattle.ig_value.specs.Canon.{Canon}
use Rattle.ig_value.specs.Limits.{Fits}
use Rattle.ig_text.specs.ReadText.{is_hex, text_at}
use Rattle.ig_text.specs.TextOf.{TextOf}

-- nothing that a number could go on with: no digit and no upper case letter of hex
abbrev pub Ends : List ℕ → Type 0
Ends [] = Unit {0}
Ends (b ∷ s) = is_hex true b ≡ false

-- items that fit, as many as an Int32 counts
abbrev pub AreItems : {A : Type 0} → (A → Type 0) → List A → Type 0
AreItems Fits xs = (length xs < 2 ^ 31) × AllByRecursion Fits xs

-- what is read keeps to the limits, and its text stood there
pub record IsReadAs (s : List ℕ) (v : Value) (rest : List ℕ) : Type 0 where
  pub fits : Fits v
  pub whole : s ≡ TextOf v ++ rest

abbrev pub ReadIsText : Type 0
ReadIsText = (s rest : List ℕ) (v : Value) → text_at s ≡ Ok (v, rest) → IsReadAs s v rest

-- the text of a value within the limits is read, whatever follows that a number can't go on with
abbrev pub TextIsRead : Type 0
TextIsRead = (v : Value) (rest : List ℕ) → Fits v → Ends rest → text_at (TextOf v ++ rest) ≡ Ok (v, rest)

-- two values within the limits have the same text only if they are equal
abbrev pub TextTellsApart : Type 0
TextTellsApart = (v w : Value) → Fits v → Fits w → TextOf v ≡ TextOf w → v ≡ w

-- a value that was read from some bytes has a canonical form of at most 24 times as many
abbrev pub ReadIsBounded : Type 0
ReadIsBounded = (s rest : List ℕ) (v : Value) → text_at s ≡ Ok (v, rest) → length (Canon v) ≤ 24 * length s
