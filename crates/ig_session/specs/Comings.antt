-- What comes next in a session.
use Rattle.std.specs.Prelude.{◌≡◌, ℕ, List, [], ◌∷◌, Bool, true, false, if◌then◌else◌}
use Rattle.ig_base.specs.Frames.{client, Front, Body, Bad, Incomplete}
use Rattle.ig_frame.specs.Streams.{front_at}
use Rattle.ig_deals.specs.declared.end.SessionEnd.{SessionEnd}
use Rattle.ig_deals.specs.declared.end.SessionEnd.TheVariants as ends
use Rattle.ig_deals.specs.Hellos.{Greeting, greeting_of}
use Rattle.ig_deals.specs.Asks.{Asked, asked_in}
use Rattle.ig_replies.specs.declared.terms.Terms.{Terms}
use Rattle.ig_session.specs.declared.phase.Phase.{Phase}
use Rattle.ig_session.specs.declared.phase.Phase.TheVariants.{BeforeHello, Open, Refused, OutOfMemory}
use Rattle.ig_session.specs.States.{State}

pub data Coming : Type 0 where
  -- bytes of replies are to be written first
  Replies : Coming
  -- nothing more is read
  Stops : SessionEnd → Coming
  -- this many more bytes complete the next length or frame
  Misses : ℕ → Coming
  -- a whole frame: a hello that is answered so, or a request under these terms
  Greets : Greeting → Coming
  Asks : Terms → Asked → Coming

-- a client's first body has at least 8 bytes, a later one 10
abbrev pub least_in : Phase → ℕ
least_in BeforeHello = client.first
least_in phase = client.later

abbrev pub waits : List (List ℕ) → Bool
waits [] = false
waits (frame ∷ frames) = true

-- what stands at the place of the stream
abbrev pub found : State → (List ℕ → Coming) → Front → Coming
found s reads (Body body rest) = reads body
found s reads (Bad n) = Stops (ends.BadFrame s.stream.place n)
found s reads (Incomplete missing) = Misses missing

abbrev pub coming_in : State → Phase → Coming
coming_in s BeforeHello = found s (λ hello. Greets (greeting_of hello)) (front_at client.first s.stream)
coming_in s (Open terms) = found s (λ body. Asks terms (asked_in terms.version body)) (front_at client.later s.stream)
coming_in s (Refused fault) = Stops (ends.HelloRefused fault)
coming_in s OutOfMemory = Stops ends.NoMemory

-- what comes next: after replies that wait, by the phase
unfoldable pub coming : State → Coming
coming s = if waits s.waiting.frames then Replies else coming_in s s.phase

-- no reply waits, and no whole frame is left
abbrev pub IsPaused : State → Type 0
IsPaused s = (missing : ℕ) × (coming s ≡ Misses missing)
