-- Hearing the bytes of a side in pieces.
use Rattle.std.proofs.Common.{◌≡◌, ℕ, zero, suc, ◌+◌, ◌≤◌, ◌<◌, ℤ, Bool, true, false, List, [], ◌∷◌, ◌++◌, length, Result, Ok, Err, refl, sym, ap, ◌∙◌, arith, append_assoc}
use Rattle.std.proofs.lemmas.List.{length-append}
use Rattle.ig_base.specs.Frames.{Front, Body, Bad, Incomplete}
use Rattle.ig_frame.specs.Streams.{Stream, front_at, stream_after, longer_stream}
use Rattle.ig_capture.specs.declared.fault.CaptureBad.{CaptureBad}
use Rattle.ig_capture.specs.Said.{Said, silent, and_then}
use Rattle.ig_capture.specs.Talks.{Talk, Step, message, least}
use Rattle.ig_capture.specs.Sessions.{Side, Session, message_line, step_line, hear_front, hear_most, hear, fresh_session, side_of, with_side, longer_side, hear_session, session_at, with_session, hear_at}
use Rattle.ig_capture.proofs.FrontLemmas.{front_longer, front_longer_bad, front_shorter, front_none}
use Rattle.ig_capture.proofs.SaidLemmas.{printed_first, assoc, same_next}

-- what the stream of a side begins with
abbrev front_of : Bool → Side → Front
front_of server side = front_at (least server side.talk.phase) side.stream

abbrev bytes_of : Side → List ℕ
bytes_of side = side.stream.rest

-- ---- more frames than there are bytes can't be

-- a side without bytes says nothing
none_left : (m session : ℕ) (server : Bool) (side : Side) → length (bytes_of side) ≡ 0 → hear_most m session server side ≡ silent side
none_left zero session server side none = refl
none_left (suc m) session server side none =
    ap (hear_front (hear_most m session server) session server side) (front_none (least server side.talk.phase) side.stream.limit (bytes_of side) none)

-- the side after a frame
abbrev after_frame : Side → List ℕ → List ℕ → Talk → Side
after_frame side body rest talk = record { stream = stream_after side.stream (Body body rest); talk = talk }

module _ (session : ℕ) (server : Bool) where
  -- a message and then one of two ways to go on that agree
  same_after : (f g : Side → Said Side CaptureBad) (side : Side) (body rest : List ℕ) (step : Step)
      → ((talk : Talk) → f (after_frame side body rest talk) ≡ g (after_frame side body rest talk))
      → and_then (step_line session server (stream_after side.stream (Body body rest)) step) f
      ≡ and_then (step_line session server (stream_after side.stream (Body body rest)) step) g
  same_after f g side body rest (Ok x) same = λ i. ((same x.0 i).0, message_line session server x.1 ++ (same x.0 i).1)
  same_after f g side body rest (Err place) same = refl

  -- as many frames are enough
  abbrev AreEnough : ℕ → ℕ → Type 0
  AreEnough m k = (side : Side) → length (bytes_of side) ≤ m → length (bytes_of side) ≤ k → hear_most m session server side ≡ hear_most k session server side

  enough_front : (m k : ℕ) → AreEnough m k → (side : Side) (f : Front) → front_of server side ≡ f → length (bytes_of side) ≤ suc m → length (bytes_of side) ≤ suc k
      → hear_front (hear_most m session server) session server side f ≡ hear_front (hear_most k session server) session server side f
  enough_front m k fewer_are side (Body body rest) is low high =
      let fewer : length rest < length (bytes_of side) = front_shorter (least server side.talk.phase) side.stream.limit (bytes_of side) body rest is in
      same_after (hear_most m session server) (hear_most k session server) side body rest (message side.talk server side.stream.place body)
      (λ talk. fewer_are (after_frame side body rest talk) (omega (arith, fewer, low)) (omega (arith, fewer, high)))
  enough_front m k fewer_are side (Bad n) is low high = refl
  enough_front m k fewer_are side (Incomplete n) is low high = refl

  -- as many as there are bytes are
  enough : (m k : ℕ) → AreEnough m k
  enough zero k side low high = sym (none_left k session server side (omega (arith, low)))
  enough (suc m) zero side low high = none_left (suc m) session server side (omega (arith, high))
  enough (suc m) (suc k) side low high = enough_front m k (enough m k) side (front_of server side) refl low high

  -- what is heard of a side, by what its stream begins with
  pub by_front : (side : Side) (f : Front) → front_of server side ≡ f → hear session server side ≡ hear_front (hear session server) session server side f
  by_front side f is =
      enough (length (bytes_of side)) (suc (length (bytes_of side))) side (omega arith) (omega arith)
      ∙ ap (hear_front (hear_most (length (bytes_of side)) session server) session server side) is
      ∙ whole f is
    where
      whole : (g : Front) → front_of server side ≡ g → hear_front (hear_most (length (bytes_of side)) session server) session server side g ≡ hear_front (hear session server) session server side g
      whole (Body body rest) found =
          let fewer : length rest < length (bytes_of side) = front_shorter (least server side.talk.phase) side.stream.limit (bytes_of side) body rest found in
          same_after (hear_most (length (bytes_of side)) session server) (hear session server) side body rest (message side.talk server side.stream.place body)
          (λ talk. enough (length (bytes_of side)) (length rest) (after_frame side body rest talk) (omega (arith, fewer)) (omega arith))
      whole (Bad n) found = refl
      whole (Incomplete n) found = refl

  -- ---- more bytes

  -- bytes are heard, and then more of them
  abbrev HearsLonger : ℕ → Type 0
  HearsLonger m = (side : Side) (more : List ℕ) → length (bytes_of side) ≤ m
      → hear session server (longer_side side more) ≡ and_then (hear_most m session server side) (λ x. hear session server (longer_side x more))

  longer_step : (m : ℕ) → HearsLonger m → (side : Side) (more body rest : List ℕ) (step : Step) → length rest < length (bytes_of side) → length (bytes_of side) ≤ suc m
      → and_then (step_line session server (stream_after (longer_side side more).stream (Body body (rest ++ more))) step) (hear_most (length (bytes_of side ++ more)) session server)
      ≡ and_then (and_then (step_line session server (stream_after side.stream (Body body rest)) step) (hear_most m session server)) (λ x. hear session server (longer_side x more))
  longer_step m fewer_hear side more body rest (Err place) fewer low = refl
  longer_step m fewer_hear side more body rest (Ok x) fewer low =
      let next : Side = after_frame side body rest x.0 in
      let line : List ℕ = message_line session server x.1 in
      let all : length (rest ++ more) ≤ length (bytes_of side ++ more) = omega (arith, fewer, length-append rest more, length-append (bytes_of side) more) in
      let later : hear_most (length (bytes_of side ++ more)) session server (longer_side next more) ≡ and_then (hear_most m session server next) (λ x. hear session server (longer_side x more)) =
      enough (length (bytes_of side ++ more)) (length (rest ++ more)) (longer_side next more) all (omega arith) ∙ fewer_hear next more (omega (arith, fewer, low)) in
      ap (λ (s : Said Side CaptureBad). (s.0, line ++ s.1)) later
      ∙ sym (printed_first line (hear_most m session server next) (λ x. hear session server (longer_side x more)))

  longer_front : (m : ℕ) → HearsLonger m → (side : Side) (more : List ℕ) (f : Front) → front_of server side ≡ f → length (bytes_of side) ≤ suc m
      → hear_front (hear_most (length (bytes_of side ++ more)) session server) session server (longer_side side more) (front_of server (longer_side side more))
      ≡ and_then (hear_front (hear_most m session server) session server side f) (λ x. hear session server (longer_side x more))
  longer_front m fewer_hear side more (Body body rest) is low =
      ap (hear_front (hear_most (length (bytes_of side ++ more)) session server) session server (longer_side side more))
      (front_longer (least server side.talk.phase) side.stream.limit (bytes_of side) more body rest is)
      ∙ longer_step m fewer_hear side more body rest (message side.talk server side.stream.place body)
      (front_shorter (least server side.talk.phase) side.stream.limit (bytes_of side) body rest is) low
  longer_front m fewer_hear side more (Bad n) is low =
      ap (hear_front (hear_most (length (bytes_of side ++ more)) session server) session server (longer_side side more))
      (front_longer_bad (least server side.talk.phase) side.stream.limit (bytes_of side) more n is)
  longer_front m fewer_hear side more (Incomplete n) is low =
      enough (suc (length (bytes_of side ++ more))) (length (bytes_of side ++ more)) (longer_side side more) (omega arith) (omega arith)

  longer : (m : ℕ) → HearsLonger m
  longer zero side more low = refl
  longer (suc m) side more low =
      enough (length (bytes_of side ++ more)) (suc (length (bytes_of side ++ more))) (longer_side side more) (omega arith) (omega arith)
      ∙ longer_front m (longer m) side more (front_of server side) refl low

-- a side that hears two pieces
pub hear_pieces_of : (session : ℕ) (server : Bool) (side : Side) (first second : List ℕ)
    → hear session server (longer_side side (first ++ second))
    ≡ and_then (hear session server (longer_side side first)) (λ x. hear session server (longer_side x second))
hear_pieces_of session server side first second =
    ap (λ (rest : List ℕ). hear session server (record side { stream = record { limit = side.stream.limit; place = side.stream.place; rest = rest } })) (sym (append_assoc (bytes_of side) first second))
    ∙ longer session server (length (bytes_of (longer_side side first))) (longer_side side first) second (omega arith)

-- ---- sessions

-- the same of a session
pub session_pieces : (number : ℕ) (s : Session) (server : Bool) (first second : List ℕ)
    → hear_session number s server (first ++ second) ≡ and_then (hear_session number s server first) (λ t. hear_session number t server second)
session_pieces number s server first second =
    ap (λ (h : Said Side CaptureBad). and_then h (λ side. silent (with_side s server side))) (hear_pieces_of number server (side_of s server) first second)
    ∙ assoc (hear number server (longer_side (side_of s server) first)) (λ x. hear number server (longer_side x second)) (λ side. silent (with_side s server side))
    ∙ by_side server
    ∙ sym (assoc (hear number server (longer_side (side_of s server) first)) (λ side. silent (with_side s server side)) (λ t. hear_session number t server second))
  where
    by_side : (b : Bool) → and_then (hear number b (longer_side (side_of s b) first)) (λ x. and_then (hear number b (longer_side x second)) (λ side. silent (with_side s b side)))
        ≡ and_then (hear number b (longer_side (side_of s b) first)) (λ x. and_then (silent (with_side s b x)) (λ t. hear_session number t b second))
    by_side false = same_next (hear number false (longer_side (side_of s false) first)) _ _ (λ x. refl)
    by_side true = same_next (hear number true (longer_side (side_of s true) first)) _ _ (λ x. refl)

at_with : (n : ℕ) (s : Session) (ss : List Session) → session_at n (with_session n s ss) ≡ s
at_with zero s [] = refl
at_with zero s (t ∷ ss) = refl
at_with (suc n) s [] = at_with n s []
at_with (suc n) s (t ∷ ss) = at_with n s ss

with_with : (n : ℕ) (s t : Session) (ss : List Session) → with_session n t (with_session n s ss) ≡ with_session n t ss
with_with zero s t [] = refl
with_with zero s t (u ∷ ss) = refl
with_with (suc n) s t [] = ap (λ (l : List Session). fresh_session ∷ l) (with_with n s t [])
with_with (suc n) s t (u ∷ ss) = ap (λ (l : List Session). u ∷ l) (with_with n s t ss)

-- and of all sessions
pub at_pieces : (ss : List Session) (number : ℕ) (server : Bool) (first second : List ℕ)
    → hear_at ss number server (first ++ second) ≡ and_then (hear_at ss number server first) (λ later. hear_at later number server second)
at_pieces ss number server first second =
    let start : Said Session CaptureBad = hear_session number (session_at number ss) server first in
    ap (λ (h : Said Session CaptureBad). and_then h (λ s. silent (with_session number s ss))) (session_pieces number (session_at number ss) server first second)
    ∙ assoc start (λ t. hear_session number t server second) (λ s. silent (with_session number s ss))
    ∙ same_next start (λ t. and_then (hear_session number t server second) (λ s. silent (with_session number s ss)))
    (λ t. and_then (silent (with_session number t ss)) (λ later. hear_at later number server second)) again
    ∙ sym (assoc start (λ s. silent (with_session number s ss)) (λ later. hear_at later number server second))
  where
    again : (t : Session) → and_then (hear_session number t server second) (λ s. silent (with_session number s ss))
        ≡ and_then (silent (with_session number t ss)) (λ later. hear_at later number server second)
    again t =
        sym (ap (λ (u : Session). and_then (hear_session number u server second) (λ s. silent (with_session number s (with_session number t ss)))) (at_with number t ss)
        ∙ same_next (hear_session number t server second) (λ s. silent (with_session number s (with_session number t ss))) (λ s. silent (with_session number s ss))
        (λ s. ap (λ (l : List Session). silent l) (with_with number t s ss)))
