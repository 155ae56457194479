-- What the command `decode` does: the text of the capture that it took.
use Rattle.std.specs.Prelude.{◌≡◌, ℕ, ◌+◌, ◌<◌, ◌≤◌, ◌⊎◌, true, List, [], ◌++◌, length, Option, Some, None, Result, Ok, Err}
use Rattle.ig_link.specs.States.{SourceState, SinkState, Rose, SourceAdvances, SinkAdvances}
use Rattle.ig_wire.specs.Limits.{most_session_bytes}
use Rattle.ig_session.specs.Serving.{HasEnded, IsStillOpen, ReadHasFailed, WriteHasFailed, SentFirst}
use Rattle.ig_capture.specs.declared.fault.CaptureBad.{CaptureBad}
use Rattle.ig_capture.specs.declared.fault.CaptureFault.{CaptureFault}
use Rattle.ig_capture.specs.declared.fault.CaptureFault.TheVariants as fault
use Rattle.ig_capture.specs.Reading.{Reading, State, Going, Stopped, fresh_state, fed, finished}
use Rattle.ig_capture.specs.CaptureText.{CaptureText, CaptureLines, WrongIn}
use Rattle.ignite_thin.specs.Statuses.{status_of_decode}
use Rattle.ignite_thin.specs.declared.decode_end.DecodeEnd.{DecodeEnd}
use Rattle.ignite_thin.specs.declared.decode_end.DecodeEnd.TheVariants as ends

-- What was written of the text of a capture. All of it where the capture ended well or is malformed; the lines
-- of its messages where no more of it came; and else the first bytes of it.
abbrev pub WritesText : DecodeEnd → List ℕ → List ℕ → Type 0
WritesText ends.Ended capture text = (text ≡ CaptureText capture) × (WrongIn capture ≡ None)
WritesText ends.Malformed capture text = (text ≡ CaptureText capture) × ((why : CaptureBad) × (WrongIn capture ≡ Some why))
WritesText ends.ReadFault capture text = text ≡ CaptureLines capture
WritesText ends.ByteLimit capture text = text ≡ CaptureLines capture
WritesText ends.WriteFault capture text = (missing : List ℕ) × (CaptureText capture ≡ text ++ missing)
WritesText ends.NoMemory capture text = (missing : List ℕ) × (CaptureText capture ≡ text ++ missing)

-- something in what was taken is malformed, whatever follows it
abbrev pub IsWrongAlready : List ℕ → Type 0
IsWrongAlready capture = (why : CaptureBad) × ((fed fresh_state capture).0 ≡ Stopped (fault.Bad why))

-- the cause of each end; out of memory needs none
abbrev pub IsDecodeCaused : DecodeEnd → List ℕ → SourceState → SourceState → SinkState → SinkState → Type 0
IsDecodeCaused ends.Ended capture source source' sink sink' = HasEnded source source' × (sink'.faults ≡ sink.faults)
IsDecodeCaused ends.Malformed capture source source' sink sink' =
    (HasEnded source source' ⊎ (IsStillOpen source source' × IsWrongAlready capture)) × (sink'.faults ≡ sink.faults)
IsDecodeCaused ends.ReadFault capture source source' sink sink' = ReadHasFailed source source' × (sink'.faults ≡ sink.faults)
IsDecodeCaused ends.WriteFault capture source source' sink sink' = WriteHasFailed sink sink'
IsDecodeCaused ends.ByteLimit capture source source' sink sink' =
    (length capture ≡ most_session_bytes) × IsStillOpen source source' × (sink'.faults ≡ sink.faults)
IsDecodeCaused ends.NoMemory capture source source' sink sink' = Unit {0}

-- a capture was taken, and this of its text was written
pub record Decodes (source source' : SourceState) (sink sink' : SinkState) (end : DecodeEnd) : Type 0 where
  pub capture : List ℕ
  pub text : List ℕ
  pub takes : SourceAdvances source source' capture
  pub writes : SinkAdvances sink sink' text
  pub limit : length capture ≤ most_session_bytes
  pub says : WritesText end capture text
  pub caused : IsDecodeCaused end capture source source' sink sink'

-- A source that has ended, no failed read and no failed write, and nothing malformed: then the status is 0, or
-- memory ran out.
abbrev pub CompletesDecode : SourceState → SourceState → SinkState → SinkState → List ℕ → ℕ → Type 0
CompletesDecode source source' sink sink' capture status =
    source'.ended ≡ true → ¬ (Rose source.faults source'.faults) → ¬ (Rose sink.faults sink'.faults) → WrongIn capture ≡ None
    → (status ≡ 0) ⊎ (status ≡ 5)

-- the status says the end, and is 0 where nothing stands in the way, memory aside
pub record RunsDecode (source source' : SourceState) (sink sink' : SinkState) (status : ℕ) : Type 0 where
  pub end : DecodeEnd
  pub decodes : Decodes source source' sink sink' end
  pub status_is : status ≡ status_of_decode end
  pub completes : CompletesDecode source source' sink sink' decodes.capture status

-- ---- its steps

-- a piece was taken and fed, or why not
abbrev pub TakesTextAs : Result ℕ DecodeEnd → State → State → SourceState → SourceState → ℕ → List ℕ → List ℕ → Type 0
TakesTextAs (Ok taken') old new source source' taken piece text =
    (taken' ≡ taken + length piece) × (0 < length piece) × (taken' ≤ most_session_bytes) × IsStillOpen source source' × ((fed old piece) ≡ (new, text)) × ((r : Reading) × (new ≡ Going r))
TakesTextAs (Err ends.Ended) old new source source' taken piece text = HasEnded source source' × (piece ≡ []) × (new ≡ old) × (text ≡ [])
TakesTextAs (Err ends.Malformed) old new source source' taken piece text =
    IsStillOpen source source' × (taken + length piece ≤ most_session_bytes) × ((fed old piece).1 ≡ text) × ((why : CaptureBad) × ((fed old piece).0 ≡ Stopped (fault.Bad why)))
TakesTextAs (Err ends.ReadFault) old new source source' taken piece text = ReadHasFailed source source' × (piece ≡ [])
TakesTextAs (Err ends.WriteFault) old new source source' taken piece text = ⊥
TakesTextAs (Err ends.ByteLimit) old new source source' taken piece text = (taken ≡ most_session_bytes) × (source' ≡ source) × (piece ≡ [])
TakesTextAs (Err ends.NoMemory) old new source source' taken piece text = taken + length piece ≤ most_session_bytes

pub record TakesText (old new : State) (source source' : SourceState) (taken : ℕ) (text : List ℕ) (result : Result ℕ DecodeEnd) : Type 0 where
  pub piece : List ℕ
  pub takes : SourceAdvances source source' piece
  pub does : TakesTextAs result old new source source' taken piece text

-- the text was written whole, and the end is this one; or its first bytes, and then a write failed
abbrev pub SendsText : List ℕ → SinkState → SinkState → DecodeEnd → DecodeEnd → Type 0
SendsText text sink sink' end end' =
    (SinkAdvances sink sink' text × (sink'.faults ≡ sink.faults) × (end' ≡ end)) ⊎ (SentFirst text sink sink' × (end' ≡ ends.WriteFault))

-- what the end of a capture adds was written, by its answer; out of memory nothing was
abbrev pub EndsTextAs : Result (Unit {0}) CaptureFault × List ℕ → SinkState → SinkState → DecodeEnd → Type 0
EndsTextAs (Ok done, text) sink sink' end = SendsText text sink sink' ends.Ended end
EndsTextAs (Err why, text) sink sink' end = SendsText text sink sink' ends.Malformed end

abbrev pub EndsText : State → SinkState → SinkState → DecodeEnd → Type 0
EndsText capture sink sink' ends.NoMemory = SinkAdvances sink sink' []
EndsText capture sink sink' end = EndsTextAs (finished capture) sink sink' end
