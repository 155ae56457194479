-- Reading a capture byte by byte, in pieces of any length: which field of a record is being read, and what
-- each byte adds.
use Rattle.std.specs.Prelude.{ℕ, ◌+◌, ◌-◌, Bool, true, false, List, [], ◌∷◌, ◌++◌, length, nat_lt, Option, Some, None, Result, Ok, Err, ◌==◌, if◌then◌else◌}
use Rattle.std.specs.Str.{bytes_eq}
use Rattle.std.specs.Int.{w32}
use Rattle.ig_base.specs.Numbers.{number_at}
use Rattle.ig_frame.specs.Streams.{place_of}
use Rattle.ig_capture.specs.declared.fault.CaptureBad.{CaptureBad}
use Rattle.ig_capture.specs.declared.fault.CaptureBad.TheVariants as bad
use Rattle.ig_capture.specs.declared.fault.CaptureFault.{CaptureFault}
use Rattle.ig_capture.specs.declared.fault.CaptureFault.TheVariants as fault
use Rattle.ig_capture.specs.declared.field.Field.{Field}
use Rattle.ig_capture.specs.declared.field.Field.TheVariants.{Magic, Side, Session, Count, Bytes}
use Rattle.ig_capture.specs.Records.{magic, sessions, most_bytes, within}
use Rattle.ig_capture.specs.Said.{Said, silent, and_then}
use Rattle.ig_capture.specs.Sessions as state
use Rattle.ig_capture.specs.Sessions.{hear_at}
use Rattle.ig_capture.specs.EndText.{wrong_line, cuts_of}

-- The field that is being read, the place in the capture where it begins, and those of its bytes that came;
-- and the sessions so far. The bytes of a record aren't kept.
pub record Reading : Type 0 where
  pub field : Field
  pub place : ℕ
  pub came : List ℕ
  pub sessions : List state.Session

abbrev pub fresh_reading : Reading
fresh_reading = record { field = Magic; place = 0; came = []; sessions = [] }

-- the next field, which begins this many bytes further on
abbrev pub next_field : Reading → Field → ℕ → Reading
next_field r field further = record r { field = field; place = place_of (r.place + further); came = [] }

-- what is read of a capture, until it is malformed
abbrev pub Read : Type 0
Read = Said Reading CaptureBad

abbrev pub malformed : Reading → Read
malformed r = (Err (bad.Stream r.place), [])

-- the field after a number, if it is in range
abbrev pub numbered : Reading → (ℕ → Field) → Option ℕ → Read
numbered r field None = malformed r
numbered r field (Some n) = silent (next_field r (field n) 4)

-- a field of four bytes is looked at when it is whole
abbrev pub four_bytes : Reading → (Reading → List ℕ → Read) → List ℕ → Read
four_bytes r whole came = if nat_lt (length came) 4 then silent (record r { came = came }) else whole r came

abbrev pub magic_whole : Reading → List ℕ → Read
magic_whole r came = if bytes_eq came magic then silent (next_field r Side 4) else malformed r

abbrev pub session_whole : Bool → Reading → List ℕ → Read
session_whole server r came = numbered r (λ n. Count server n) (within 0 (sessions - 1) (number_at w32 came 0))

abbrev pub count_whole : Bool → ℕ → Reading → List ℕ → Read
count_whole server session r came = numbered r (λ n. Bytes server session n n) (within 1 most_bytes (number_at w32 came 0))

-- this many bytes of a record fewer are left, and after the last one a record may begin
abbrev pub fewer_left : Bool → ℕ → ℕ → ℕ → ℕ → Reading → Reading
fewer_left server session count left n r =
    if nat_lt n left then record r { field = Bytes server session count (left - n) } else next_field r Side count

-- the reading after one more byte
abbrev pub byte_in : Reading → Field → ℕ → Read
byte_in r Magic byte = four_bytes r magic_whole (r.came ++ byte ∷ [])
byte_in r Side byte = if nat_lt byte 2 then silent (next_field r (Session (byte == 1)) 1) else malformed r
byte_in r (Session server) byte = four_bytes r (session_whole server) (r.came ++ byte ∷ [])
byte_in r (Count server session) byte = four_bytes r (count_whole server session) (r.came ++ byte ∷ [])
byte_in r (Bytes server session count left) byte =
    and_then (hear_at r.sessions session server (byte ∷ [])) (λ heard. silent (fewer_left server session count left 1 (record r { sessions = heard })))

abbrev pub read_byte : Reading → ℕ → Read
read_byte r byte = byte_in r r.field byte

-- the reading after these bytes
abbrev pub read_bytes : Reading → List ℕ → Read
read_bytes r [] = silent r
read_bytes r (byte ∷ bytes) = and_then (read_byte r byte) (λ next. read_bytes next bytes)

-- ---- what a `Capture` is seen as: it goes on, or it stopped

pub data State : Type 0 where
  Going : Reading → State
  Stopped : CaptureFault → State

abbrev pub fresh_state : State
fresh_state = Going fresh_reading

-- the state after what was read, and the text
abbrev pub settled : Read → State × List ℕ
settled (Ok r, text) = (Going r, text)
settled (Err why, text) = (Stopped (fault.Bad why), text ++ wrong_line why)

-- a piece of a capture: the state after it, and the text that it adds
abbrev pub fed : State → List ℕ → State × List ℕ
fed (Going r) piece = settled (read_bytes r piece)
fed (Stopped why) piece = (Stopped why, [])

-- the answer of a feed is the fault that stopped it, if one did
abbrev pub answer_of : State → Result (Unit {0}) CaptureFault
answer_of (Going r) = Ok tt
answer_of (Stopped why) = Err why

-- what is malformed where a capture ends: it ends inside the first four bytes or inside a record
abbrev pub wrong_end : Reading → Field → Option CaptureBad
wrong_end r Side = None
wrong_end r _ = Some (bad.Stream r.place)

abbrev pub end_of : Reading → Option CaptureBad → Result (Unit {0}) CaptureFault × List ℕ
end_of r None = (Ok tt, cuts_of r.sessions)
end_of r (Some why) = (Err (fault.Bad why), wrong_line why)

-- the end of a capture: the answer, and the text that it adds
abbrev pub finished : State → Result (Unit {0}) CaptureFault × List ℕ
finished (Going r) = end_of r (wrong_end r r.field)
finished (Stopped why) = (Err why, [])
