-- A link in memory, as the script that it follows.
use Rattle.std.specs.Prelude.{◌≡◌, ℕ, ◌+◌, ◌-◌, ◌^◌, ◌<◌, ◌≤◌, Bool, true, false, not, nat_lt, List, [], ◌∷◌, ◌++◌, length, take, drop, min, max, Some, if◌then◌else◌}
use Rattle.std.specs.List.{flat_map, list_any}
use Rattle.ig_link.specs.States.{SourceState, SinkState}
use Rattle.ig_link.specs.declared.ends.Take.{Take}
use Rattle.ig_link.specs.declared.ends.Take.TheVariants as took
use Rattle.ig_link.specs.declared.link.TakeNow.{TakeNow}
use Rattle.ig_link.specs.declared.link.TakeNow.TheVariants as now
use Rattle.ig_link.specs.declared.ends.Gave.{Gave}
use Rattle.ig_link.specs.declared.ends.Gave.TheVariants as gave
use Rattle.ig_link.specs.declared.mem_link.ReadStep.{ReadStep}
use Rattle.ig_link.specs.declared.mem_link.ReadStep.TheVariants as reads
use Rattle.ig_link.specs.declared.mem_link.WriteStep.{WriteStep}
use Rattle.ig_link.specs.declared.mem_link.WriteStep.TheVariants as writes

-- The state of a script: how many written bytes it has room for; the read steps and the write steps
-- that are left; the bytes taken and written so far; how many were written, a count that saturates at
-- `u64::MAX`; whether more bytes were written than it has room for; how often a read and a write have
-- failed and a read has paused; and whether a read has answered the end.
pub record Script : Type 0 where
  pub room : ℕ
  pub reads : List ReadStep
  pub writes : List WriteStep
  pub taken : List ℕ
  pub written : List ℕ
  pub written_count : ℕ
  pub overrun : Bool
  pub read_faults : ℕ
  pub write_faults : ℕ
  pub pauses : ℕ
  pub ended : Bool

-- the state before the first read and the first write
abbrev pub initial_script : ℕ → List ReadStep → List WriteStep → Script
initial_script room reading writing = record {
  room = room;
  reads = reading;
  writes = writing;
  taken = [];
  written = [];
  written_count = 0;
  overrun = false;
  read_faults = 0;
  write_faults = 0;
  pauses = 0;
  ended = false;
}

-- the bytes that a read step gives
abbrev pub step_bytes : ReadStep → List ℕ
step_bytes (reads.Bytes bytes) = bytes
step_bytes reads.Pause = []
step_bytes (reads.AfterWritten n) = []
step_bytes reads.Fault = []

-- all bytes that the read steps give
abbrev pub bytes_of : List ReadStep → List ℕ
bytes_of steps = flat_map step_bytes steps

-- at this step a read may fail, or end before all bytes were taken
abbrev pub may_stop : ReadStep → Bool
may_stop (reads.Bytes bytes) = false
may_stop reads.Pause = false
may_stop (reads.AfterWritten n) = true
may_stop reads.Fault = true

abbrev pub is_write_fault : WriteStep → Bool
is_write_fault (writes.AtMost n) = false
is_write_fault writes.Fault = true

-- as a source a script tells the bytes taken and those still to come, and its reads hold if neither a
-- fault nor a wait for written bytes is left
abbrev pub script_source : Script → SourceState
script_source s = record {
  taken = Some s.taken;
  left = Some (bytes_of s.reads);
  faults = s.read_faults;
  pauses = s.pauses;
  ended = s.ended;
  holds = not (list_any may_stop s.reads);
  stays_untold = true;
}

-- as a sink it tells the bytes written until they overran the room, and its writes hold if no fault
-- is left
abbrev pub script_sink : Script → SinkState
script_sink s = record {
  written = Some s.written;
  tells = not s.overrun;
  faults = s.write_faults;
  holds = not (list_any is_write_fault s.writes);
  stays_untold = true;
}

-- A read skips a step of bytes that has none left, a pause if the read waits, and a wait for written
-- bytes once as many were written.
abbrev pub is_skipped : ℕ → Bool → ReadStep → Bool
is_skipped count waits (reads.Bytes []) = true
is_skipped count waits (reads.Bytes (byte ∷ bytes)) = false
is_skipped count waits reads.Pause = waits
is_skipped count waits (reads.AfterWritten n) = not (nat_lt count n)
is_skipped count waits reads.Fault = false

-- the steps from the first on that a read doesn't skip, if this many bytes were written
abbrev pub after_skipped : ℕ → Bool → List ReadStep → List ReadStep
after_skipped count waits [] = []
after_skipped count waits (step ∷ steps) =
    if is_skipped count waits step then after_skipped count waits steps else (step ∷ steps)

-- What a read, which waits or doesn't, answers at these steps, and the steps left after it. A step of
-- bytes gives as many as fit in the buffer and keeps its other bytes. A pause is used up. A wait for
-- written bytes stays: a read that waits ends at it, one that doesn't finds nothing yet. After the
-- last step comes the end.
abbrev pub NextRead : Bool → List ReadStep → TakeNow → List ReadStep → List ℕ → Type 0
NextRead waits [] answer after buf = (answer ≡ now.End) × (after ≡ [])
NextRead waits (reads.Fault ∷ steps) answer after buf = (answer ≡ now.Failed) × (after ≡ steps)
NextRead waits (reads.Pause ∷ steps) answer after buf = (answer ≡ now.NotYet) × (after ≡ steps)
NextRead waits (reads.AfterWritten n ∷ steps) answer after buf =
    (answer ≡ (if waits then now.End else now.NotYet)) × (after ≡ reads.AfterWritten n ∷ steps)
NextRead waits (reads.Bytes bytes ∷ steps) answer after buf =
    let n = min (length bytes) (length buf) in
    (answer ≡ now.Bytes n) × (take n buf ≡ take n bytes) × (after ≡ reads.Bytes (drop n bytes) ∷ steps)

-- What a write answers at these steps, and the steps left after it. A limit of 0 counts as 1. After
-- the last step every piece is written whole.
abbrev pub NextWrite : List WriteStep → Gave → List WriteStep → List ℕ → Type 0
NextWrite [] answer after piece = (answer ≡ gave.Bytes (length piece)) × (after ≡ [])
NextWrite (writes.Fault ∷ steps) answer after piece = (answer ≡ gave.Failed) × (after ≡ steps)
NextWrite (writes.AtMost n ∷ steps) answer after piece =
    (answer ≡ gave.Bytes (min (max n 1) (length piece))) × (after ≡ steps)

-- the answer of a read that waits, among those of one that doesn't
abbrev pub as_now : Take → TakeNow
as_now (took.Bytes n) = now.Bytes n
as_now took.End = now.End
as_now took.Failed = now.Failed

-- the bytes that a read with this answer took
abbrev pub bytes_taken : TakeNow → List ℕ → List ℕ
bytes_taken (now.Bytes n) buf = take n buf
bytes_taken now.NotYet buf = []
bytes_taken now.End buf = []
bytes_taken now.Failed buf = []

-- the bytes that a write with this answer wrote
abbrev pub bytes_written : Gave → List ℕ → List ℕ
bytes_written (gave.Bytes n) piece = take n piece
bytes_written gave.Failed piece = []

-- the count after one more, which saturates at `u64::MAX`
abbrev pub next_count : ℕ → ℕ
next_count n = min (n + 1) (2 ^ 64 - 1)

-- the counts and the end after a read with this answer
abbrev pub ReadCounts : TakeNow → Script → Script → Type 0
ReadCounts (now.Bytes n) old new =
    (new.read_faults ≡ old.read_faults) × (new.pauses ≡ old.pauses) × (new.ended ≡ false)
ReadCounts now.NotYet old new =
    (new.read_faults ≡ old.read_faults) × (new.pauses ≡ next_count old.pauses) × (new.ended ≡ false)
ReadCounts now.End old new =
    (new.read_faults ≡ old.read_faults) × (new.pauses ≡ old.pauses) × (new.ended ≡ true)
ReadCounts now.Failed old new =
    (new.read_faults ≡ next_count old.read_faults) × (new.pauses ≡ old.pauses) × (new.ended ≡ false)

-- A read, which waits or doesn't, answers what the read steps say, adds what it took, and leaves the
-- room and all that belongs to writes. From its first end on a script ends every read. Once its reads
-- hold, a script that has ended has given all its bytes.
pub record ScriptReads (waits : Bool) (answer : TakeNow) (old new : Script) (buf : List ℕ) : Type 0 where
  pub steps : old.ended ≡ false
      → NextRead waits (after_skipped old.written_count waits old.reads) answer new.reads buf
  pub stays : old.ended ≡ true → (answer ≡ now.End) × (new.reads ≡ old.reads)
  pub settled : old.ended ≡ true → list_any may_stop old.reads ≡ false → bytes_of old.reads ≡ []
  pub taken : new.taken ≡ old.taken ++ bytes_taken answer buf
  pub counts : ReadCounts answer old new
  pub in_range : (old.read_faults < 2 ^ 64) × (old.pauses < 2 ^ 64)
  pub same : script_sink new ≡ script_sink old
  pub writes : new.writes ≡ old.writes
  pub room : new.room ≡ old.room
  pub written_count : new.written_count ≡ old.written_count

-- the count of faults after a write with this answer
abbrev pub WriteCounts : Gave → Script → Script → Type 0
WriteCounts (gave.Bytes n) old new = new.write_faults ≡ old.write_faults
WriteCounts gave.Failed old new = new.write_faults ≡ next_count old.write_faults

-- A write answers what the write steps say and leaves the room and all that belongs to reads. What
-- it wrote is added exactly until that is more than there is room for.
pub record ScriptWrites (answer : Gave) (old new : Script) (piece : List ℕ) : Type 0 where
  pub steps : NextWrite old.writes answer new.writes piece
  pub kept : new.overrun ≡ false
      → (old.overrun ≡ false) × (new.written ≡ old.written ++ bytes_written answer piece)
  pub fits : new.overrun ≡ false → length new.written ≤ new.room
  pub overrun : new.overrun ≡ true → old.overrun ≡ false
      → old.room < length old.written + length (bytes_written answer piece)
  pub written_count : new.written_count
      ≡ min (old.written_count + length (bytes_written answer piece)) (2 ^ 64 - 1)
  pub counts : WriteCounts answer old new
  pub in_range : old.write_faults < 2 ^ 64
  pub same : script_source new ≡ script_source old
  pub reads : new.reads ≡ old.reads
  pub room : new.room ≡ old.room
