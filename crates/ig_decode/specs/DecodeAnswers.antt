-- The right results of decoding the value at an offset.
use Rattle.std.specs.Prelude.{◌≡◌, ℕ, ◌+◌, ◌-◌, ◌≤◌, ◌↔◌, List, ◌++◌, length, take, drop, Result, Ok, Err, IsTrue}
use Rattle.ig_value.specs.declared.Cause.{Cause}
use Rattle.ig_value.specs.declared.Value.{Value}
use Rattle.ig_value.specs.Spells.{Spells}
use Rattle.ig_value.specs.Stops.{Stops}
use Rattle.ig_value.specs.Canon.{Canon}
use Rattle.ig_value.specs.Limits.{Fits, Nodes}
use Rattle.ig_value.specs.Reading.{reading}
use Rattle.ig_decode.specs.declared.answer.Decoded.{Decoded}
use Rattle.ig_decode.specs.declared.fault.Refusal.{Refusal}
use Rattle.ig_decode.specs.declared.fault.DecodeFault.{DecodeFault}
use Rattle.ig_decode.specs.declared.fault.DecodeFault.TheVariants as fault

-- `d.used` bytes from the offset on encode the value, which keeps to the limits
pub record IsFound (bytes : List ℕ) (at : ℕ) (d : Decoded) : Type 0 where
  pub within : at + d.used ≤ length bytes
  pub spelled : Spells (take d.used (drop at bytes)) d.value
  pub fits : Fits d.value
  pub canonical : IsTrue d.canonical ↔ (take d.used (drop at bytes) ≡ Canon d.value)

-- the bytes from the offset on stop being a value there, for this cause
pub record IsRefused (bytes : List ℕ) (at : ℕ) (r : Refusal) : Type 0 where
  pub further : ℕ
  pub place : r.place ≡ at + further
  pub stops : Stops (drop at bytes) further r.cause

-- the result is right; out of memory always is
abbrev pub IsRight : List ℕ → ℕ → Result Decoded DecodeFault → Type 0
IsRight bytes at (Ok d) = IsFound bytes at d
IsRight bytes at (Err (fault.Refused r)) = IsRefused bytes at r
IsRight bytes at (Err fault.NoMemory) = Unit {0}

-- the result is this value, from `used` bytes, unless memory ran out
abbrev pub Finds : Value → ℕ → Result Decoded DecodeFault → Type 0
Finds v used (Ok d) = (d.value ≡ v) × (d.used ≡ used)
Finds v used (Err (fault.Refused r)) = ⊥
Finds v used (Err fault.NoMemory) = Unit {0}

-- the result is this refusal, unless memory ran out
abbrev pub Refuses : ℕ → Cause → Result Decoded DecodeFault → Type 0
Refuses place cause (Ok d) = ⊥
Refuses place cause (Err (fault.Refused r)) = (r.place ≡ place) × (r.cause ≡ cause)
Refuses place cause (Err fault.NoMemory) = Unit {0}

-- where a prefix of the bytes from the offset on encodes a value, the result is that value
abbrev pub FindsWhatIsSpelled : List ℕ → ℕ → Result Decoded DecodeFault → Type 0
FindsWhatIsSpelled bytes at answer = (s rest : List ℕ) (v : Value) → drop at bytes ≡ s ++ rest → Spells s v → Finds v (length s) answer

-- where these bytes stop being a value, the result is that refusal
abbrev pub RefusesWhatStops : List ℕ → ℕ → Result Decoded DecodeFault → Type 0
RefusesWhatStops bytes at answer = (p : ℕ) (c : Cause) → Stops (drop at bytes) p c → Refuses (at + p) c answer

-- the result is what reading the list gives
abbrev pub Reads : List ℕ → ℕ → Result Decoded DecodeFault → Type 0
Reads bytes at (Ok d) = reading (drop at bytes) ≡ Ok (d.value, drop (at + d.used) bytes)
Reads bytes at (Err (fault.Refused r)) = reading (drop at bytes) ≡ Err (length bytes - r.place, r.cause)
Reads bytes at (Err fault.NoMemory) = Unit {0}

-- the value has no more nodes than bytes were used for it
abbrev pub HasByteForEachNode : Result Decoded DecodeFault → Type 0
HasByteForEachNode (Ok d) = Nodes d.value ≤ d.used
HasByteForEachNode (Err e) = Unit {0}

-- the bytes are the canonical form of a value
pub record IsCanonical (bytes : List ℕ) : Type 0 where
  pub value : Value
  pub spelled : Spells bytes value
  pub canonical : bytes ≡ Canon value
