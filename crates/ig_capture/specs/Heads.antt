-- What the calls that read a capture do.
use Rattle.std.specs.Prelude.{◌≡◌, ℕ, ◌<◌, ◌≤◌, ◌-◌, ◌++◌, suc, List, length, take, replicate, Result, Ok, Err}
use Rattle.ig_capture.specs.declared.fault.CaptureFault.{CaptureFault}
use Rattle.ig_capture.specs.declared.fault.CaptureFault.TheVariants as fault
use Rattle.ig_capture.specs.declared.field.Field.{Field}
use Rattle.ig_capture.specs.declared.field.Field.TheVariants as field
use Rattle.ig_capture.specs.Sessions.{Session, fresh_session}
use Rattle.ig_capture.specs.Reading.{Reading, read_bytes}

-- a field other than the bytes of a record
abbrev pub IsInHead : Field → Type 0
IsInHead (field.Bytes server session count left) = ⊥
IsInHead _ = Unit {0}

-- while bytes of a record are read, some are left
abbrev pub HasLeft : Field → Type 0
HasLeft (field.Bytes server session count left) = 0 < left
HasLeft _ = Unit {0}

-- there is this session, after others that said nothing yet
pub record HasRoom (number : ℕ) (old new : List Session) : Type 0 where
  pub sessions : new ≡ old ++ replicate (suc number - length old) fresh_session
  pub room : number < length new

-- the first bytes of a piece were read, and the lines of what they say appended
abbrev pub ReadsSome : List ℕ → Reading → Reading → List ℕ → List ℕ → Result ℕ CaptureFault → Type 0
ReadsSome piece old new lines lines' (Ok n) =
    (text : List ℕ) × (0 < n) × (n ≤ length piece) × (read_bytes old (take n piece) ≡ (Ok new, text)) × (lines' ≡ lines ++ text)
ReadsSome piece old new lines lines' (Err (fault.Bad why)) =
    (n : ℕ) × (text : List ℕ) × (read_bytes old (take n piece) ≡ (Err why, text)) × (lines' ≡ lines ++ text)
ReadsSome piece old new lines lines' (Err fault.NoMemory) = Unit {0}
