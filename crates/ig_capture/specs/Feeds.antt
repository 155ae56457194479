-- What the calls of a capture do.
use Rattle.std.specs.Prelude.{◌≡◌, ℕ, ◌++◌, List, Option, Some, None, Result, Ok, Err}
use Rattle.ig_capture.specs.declared.fault.CaptureFault.{CaptureFault}
use Rattle.ig_capture.specs.declared.fault.CaptureFault.TheVariants as fault
use Rattle.ig_capture.specs.EndText.{wrong_line}
use Rattle.ig_capture.specs.Reading.{Reading, State, Going, Stopped, read_bytes, fed, finished, answer_of}

abbrev pub state_of : Reading → Option CaptureFault → State
state_of r None = Going r
state_of r (Some why) = Stopped why

-- the piece was fed, and its text appended
pub record FeedsPiece (old new : State) (out out' piece : List ℕ) : Type 0 where
  pub state : new ≡ (fed old piece).0
  pub text : out' ≡ out ++ (fed old piece).1

-- memory ran out: nothing was appended
pub record IsSpent (new : State) (out out' : List ℕ) : Type 0 where
  pub state : new ≡ Stopped fault.NoMemory
  pub text : out' ≡ out

-- a piece was read, and its text appended, unless memory runs out
abbrev pub ShowsPiece : Reading → Reading → List ℕ → List ℕ → List ℕ → Result (Unit {0}) CaptureFault → Type 0
ShowsPiece old new out out' piece (Ok done) = (text : List ℕ) × (read_bytes old piece ≡ (Ok new, text)) × (out' ≡ out ++ text)
ShowsPiece old new out out' piece (Err (fault.Bad why)) =
    (text : List ℕ) × (read_bytes old piece ≡ (Err why, text)) × (out' ≡ out ++ (text ++ wrong_line why))
ShowsPiece old new out out' piece (Err fault.NoMemory) = out' ≡ out

-- A piece was fed, and its text appended, unless memory runs out: then nothing is appended. The answer is the
-- fault that stopped it, now or before.
abbrev pub Feeds : State → State → List ℕ → List ℕ → List ℕ → Result (Unit {0}) CaptureFault → Type 0
Feeds old new out out' piece (Err fault.NoMemory) = IsSpent new out out'
Feeds old new out out' piece answer = FeedsPiece old new out out' piece × (answer ≡ answer_of new)

-- after a fault it stays as it is and answers this fault again
abbrev pub StaysStopped : State → State → List ℕ → List ℕ → Result (Unit {0}) CaptureFault → Type 0
StaysStopped (Going r) new out out' answer = Unit {0}
StaysStopped (Stopped why) new out out' answer = (answer ≡ Err why) × (new ≡ Stopped why) × (out' ≡ out)

-- what the end adds was appended, unless memory runs out: then nothing is
abbrev pub Finishes : State → List ℕ → List ℕ → Result (Unit {0}) CaptureFault → Type 0
Finishes s out out' (Err fault.NoMemory) = out' ≡ out
Finishes s out out' answer = (answer ≡ (finished s).0) × (out' ≡ out ++ (finished s).1)
