-- What contracts see of a cutter of frames: a place in a stream, and the bytes from there on.
use Rattle.std.specs.Prelude.{◌≡◌, ℕ, ◌+◌, ◌-◌, ◌^◌, ◌≤◌, min, List, [], ◌++◌, length, drop}
use Rattle.std.specs.List.{flat_map}
use Rattle.ig_base.specs.Frames.{Frame, Side, Front, Body, Bad, Incomplete, front, Begins}

pub record Stream : Type 0 where
  -- the greatest length of a body
  pub limit : ℕ
  -- the place that was reached, an offset that saturates
  pub place : ℕ
  -- the bytes from the place on, as far as they were fed
  pub rest : List ℕ

-- the place that an offset is told as: it saturates at 2^64 - 1
abbrev pub place_of : ℕ → ℕ
place_of n = min n (2 ^ 64 - 1)

-- a stream of which nothing was fed
abbrev pub new_stream : ℕ → Stream
new_stream limit = record { limit = limit; place = 0; rest = [] }

-- the stream with one more piece fed
abbrev pub longer_stream : Stream → List ℕ → Stream
longer_stream s piece = record { limit = s.limit; place = s.place; rest = s.rest ++ piece }

-- what stands at the place of the stream, where a body has at least this length
abbrev pub front_at : ℕ → Stream → Front
front_at least s = front least s.limit s.rest

-- the stream after the frame that was found at its place, if one was found
abbrev pub stream_after : Stream → Front → Stream
stream_after s (Body body rest) = record { limit = s.limit; place = place_of (s.place + 4 + length body); rest = rest }
stream_after s (Bad n) = s
stream_after s (Incomplete missing) = s

-- the stream after the frame at its place, or as it was where no whole one stands there
unfoldable pub stream_after_frame : ℕ → Stream → Stream
stream_after_frame least s = stream_after s (front_at least s)

-- it stands for this stream, of which these bytes were fed so far, at this offset
pub record StandsFor (s : Stream) (input : List ℕ) (at : ℕ) : Type 0 where
  pub place : s.place ≡ place_of at
  pub within : at ≤ length input
  pub rest : s.rest ≡ drop at input

-- it handed out these bodies of the stream that one side sends, of which these bytes were fed so far
pub record HandedOut (side : Side) (s : Stream) (input : List ℕ) (bodies : List (List ℕ)) : Type 0 where
  pub begins : Begins side input bodies s.rest
  pub place : s.place ≡ place_of (length (flat_map Frame bodies))
