-- The right results of looking for a text at an offset.
use Rattle.std.specs.Prelude.{◌≡◌, ◌≢◌, ℕ, suc, ◌+◌, ◌-◌, ◌≤◌, ◌⊎◌, List, [], ◌∷◌, ◌++◌, length, take, drop, Result, Ok, Err, ◌==◌, if◌then◌else◌}
use Rattle.ig_value.specs.declared.Cause.{Cause}
use Rattle.ig_value.specs.declared.Cause.TheVariants as cause
use Rattle.ig_value.specs.declared.Code.TheVariants as code
use Rattle.ig_value.specs.declared.Value.TheVariants.{Str}
use Rattle.ig_value.specs.Table.{byte_of}
use Rattle.ig_value.specs.Spells.{Spells}
use Rattle.ig_value.specs.Stops.{Stops}
use Rattle.ig_value.specs.Reading.{Read, counted_at, text_run_at, reading}
use Rattle.ig_decode.specs.declared.fault.Refusal.{Refusal}

-- reading a text: the code of a text, and its content
abbrev pub text_reading : List ℕ → Read (List ℕ)
text_reading [] = Err (0, cause.Short)
text_reading (b ∷ rest) = if b == byte_of code.Str then counted_at text_run_at rest else Err (suc (length rest), cause.Code b)

-- the bytes from the offset on up to `end` encode this text
pub record IsText (bytes : List ℕ) (at : ℕ) (text : List ℕ) (end : ℕ) : Type 0 where
  pub after : at ≤ end
  pub within : end ≤ length bytes
  pub spelled : Spells (take (end - at) (drop at bytes)) (Str text)
  pub reads : reading (drop at bytes) ≡ Ok (Str text, drop end bytes)

-- another code than a text's stands at the offset, and the refusal says so
pub record IsOtherCode (bytes : List ℕ) (at : ℕ) (r : Refusal) : Type 0 where
  pub byte : ℕ
  pub rest : List ℕ
  pub whole : drop at bytes ≡ byte ∷ rest
  pub other : byte ≢ byte_of code.Str
  pub place : r.place ≡ at
  pub cause : r.cause ≡ cause.Code byte

-- no other code stands there, and the bytes from the offset on stop being a value, for this cause
pub record IsBrokenText (bytes : List ℕ) (at : ℕ) (r : Refusal) : Type 0 where
  pub no_other : (byte : ℕ) (rest : List ℕ) → drop at bytes ≡ byte ∷ rest → byte ≡ byte_of code.Str
  pub further : ℕ
  pub place : r.place ≡ at + further
  pub stops : Stops (drop at bytes) further r.cause
  pub reads : reading (drop at bytes) ≡ Err (length bytes - r.place, r.cause)

abbrev pub IsNoText : List ℕ → ℕ → Refusal → Type 0
IsNoText bytes at r = IsOtherCode bytes at r ⊎ IsBrokenText bytes at r

-- the result is this text, which ends at this offset
abbrev pub IsTextResult : {T : Type 0} → (T → List ℕ) → List ℕ → ℕ → Result (T × ℕ) Refusal → Type 0
IsTextResult view text end (Ok x) = (view x.0 ≡ text) × (x.1 ≡ end)
IsTextResult view text end (Err r) = ⊥

-- where a prefix of the bytes from the offset on encodes a text, the result is that text
abbrev pub FindsText : {T : Type 0} → (T → List ℕ) → List ℕ → ℕ → Result (T × ℕ) Refusal → Type 0
FindsText view bytes at answer = (s rest text : List ℕ) → drop at bytes ≡ s ++ rest → Spells s (Str text) → IsTextResult view text (at + length s) answer

-- the result is what reading a text from the list gives
abbrev pub ReadsText : {T : Type 0} → (T → List ℕ) → List ℕ → ℕ → Result (T × ℕ) Refusal → Type 0
ReadsText view bytes at (Ok x) = text_reading (drop at bytes) ≡ Ok (view x.0, drop x.1 bytes)
ReadsText view bytes at (Err r) = text_reading (drop at bytes) ≡ Err (length bytes - r.place, r.cause)
