-- Sessions: the streams of their two sides, cut into frames, and the lines of the messages in these.
use Rattle.std.specs.Prelude.{ℕ, zero, suc, Bool, true, false, List, [], ◌∷◌, ◌++◌, length, Result, Ok, Err}
use Rattle.std.specs.Fmt.{decimal}
use Rattle.ig_base.specs.Frames.{max_body, Front, Body, Bad, Incomplete}
use Rattle.ig_frame.specs.Streams.{Stream, new_stream, longer_stream, front_at, stream_after}
use Rattle.ig_lines.specs.Arguments.{space}
use Rattle.ig_capture.specs.declared.fault.CaptureBad.{CaptureBad}
use Rattle.ig_capture.specs.declared.fault.CaptureBad.TheVariants as bad
use Rattle.ig_capture.specs.Said.{Said, silent, and_then}
use Rattle.ig_capture.specs.Talks.{Talk, fresh_talk, Step, message, least}

-- ---- lines

abbrev pub line_end : ℕ
line_end = 10

-- `>` for the client and `<` for the server
abbrev pub arrow : Bool → ℕ
arrow false = 62
arrow true = 60

-- the line of a message
abbrev pub message_line : ℕ → Bool → List ℕ → List ℕ
message_line session server text = decimal session ++ space ∷ arrow server ∷ space ∷ (text ++ line_end ∷ [])

-- ---- one side of a session

-- the stream of a side, from the first frame on that isn't whole, and what is known of the session
pub record Side : Type 0 where
  pub stream : Stream
  pub talk : Talk

-- the line of a message; or what is malformed
abbrev pub step_line : ℕ → Bool → Stream → Step → Said Side CaptureBad
step_line session server stream (Ok x) = (Ok (record { stream = stream; talk = x.0 }), message_line session server x.1)
step_line session server stream (Err place) = (Err (bad.Message session server place), [])

-- the frame that the stream begins with, and what comes after it
abbrev pub hear_front : (Side → Said Side CaptureBad) → ℕ → Bool → Side → Front → Said Side CaptureBad
hear_front later session server side (Body body rest) =
    and_then (step_line session server (stream_after side.stream (Body body rest)) (message side.talk server side.stream.place body)) later
hear_front later session server side (Bad n) = (Err (bad.Message session server side.stream.place), [])
hear_front later session server side (Incomplete n) = silent side

-- the whole frames that the stream begins with, at most this many
abbrev pub hear_most : ℕ → ℕ → Bool → Side → Said Side CaptureBad
hear_most zero session server side = silent side
hear_most (suc most) session server side =
    hear_front (hear_most most session server) session server side (front_at (least server side.talk.phase) side.stream)

-- all of them: there are no more frames than bytes
abbrev pub hear : ℕ → Bool → Side → Said Side CaptureBad
hear session server side = hear_most (length side.stream.rest) session server side

-- ---- a session

-- the streams of its sides, and what is known of it
pub record Session : Type 0 where
  pub from_client : Stream
  pub from_server : Stream
  pub talk : Talk

abbrev pub fresh_session : Session
fresh_session = record { from_client = new_stream max_body; from_server = new_stream max_body; talk = fresh_talk }

abbrev pub side_of : Session → Bool → Side
side_of s false = record { stream = s.from_client; talk = s.talk }
side_of s true = record { stream = s.from_server; talk = s.talk }

abbrev pub with_side : Session → Bool → Side → Session
with_side s false side = record s { from_client = side.stream; talk = side.talk }
with_side s true side = record s { from_server = side.stream; talk = side.talk }

abbrev pub longer_side : Side → List ℕ → Side
longer_side side bytes = record side { stream = longer_stream side.stream bytes }

-- the session after bytes of a side
abbrev pub hear_session : ℕ → Session → Bool → List ℕ → Said Session CaptureBad
hear_session number s server bytes =
    and_then (hear number server (longer_side (side_of s server) bytes)) (λ side. silent (with_side s server side))

-- ---- all sessions, in the order of their numbers; beyond the list none said anything yet

abbrev pub session_at : ℕ → List Session → Session
session_at n [] = fresh_session
session_at zero (s ∷ sessions) = s
session_at (suc n) (s ∷ sessions) = session_at n sessions

-- the list with this one at its number
abbrev pub with_session : ℕ → Session → List Session → List Session
with_session zero s [] = s ∷ []
with_session zero s (_ ∷ sessions) = s ∷ sessions
with_session (suc n) s [] = fresh_session ∷ with_session n s []
with_session (suc n) s (first ∷ sessions) = first ∷ with_session n s sessions

-- the sessions after bytes of a side of one of them
abbrev pub hear_at : List Session → ℕ → Bool → List ℕ → Said (List Session) CaptureBad
hear_at sessions number server bytes =
    and_then (hear_session number (session_at number sessions) server bytes) (λ s. silent (with_session number s sessions))
