-- What a channel may have been asked and answered since its start.
use Rattle.std.specs.Prelude.{◌≡◌, ℕ, ◌-◌, ◌^◌, ◌<◌, ℤ, Bool, true, false, List, [], ◌∷◌, ◌++◌, length, min, Option, None, Some, Result, Ok, Err, IsOk, if◌then◌else◌}
use Rattle.std.specs.Option.{option_map}
use Rattle.std.specs.List.{flat_map, find}
use Rattle.ig_base.specs.Frames.{Frame, Front, Body, Bad, Incomplete, front, max_body}
use Rattle.ig_link.specs.declared.link.Retired.{Retired}
use Rattle.ig_wire.specs.Versions.{server_side}
use Rattle.ig_client.specs.PendingState.{next_after, offered, id_of}
use Rattle.ig_client.specs.Cutting.{Cutting, cut, asked, has_id}
use Rattle.ig_client.specs.Pairs.{Pair, body_of, sent, pumped, first_break, is_of_frames, was_taken, was_closed}
use Rattle.ig_client.specs.LinkSince.{ShownSince}
use Rattle.ig_client.specs.declared.fault.Break.{Break}
use Rattle.ig_client.specs.declared.fault.Break.TheVariants.{ReadFault, WriteFault, PeerEnded, BadFrame, Unasked, Closed}
use Rattle.ig_client.specs.declared.fault.ChannelFault.{ChannelFault}
use Rattle.ig_client.specs.declared.fault.ChannelFault.TheVariants as fault
use Rattle.ig_client.specs.declared.ask.ChannelAsk.{ChannelAsk}
use Rattle.ig_client.specs.declared.ask.ChannelAsk.TheVariants as ask
use Rattle.ig_client.specs.declared.ask.ChannelGot.TheVariants as got
use Rattle.ig_client.specs.Pairs.{GotData}
use Rattle.ig_client.specs.declared.ask.ChannelStart.{ChannelStart}

-- the least length of a reply's body
abbrev pub least_of : ChannelStart → ℕ
least_of start = (server_side start.version).later

-- ---- what was read and filed after these pairs

-- The bytes that the link gave after the reply to the hello: those of the pumps, and where a pump broke the
-- channel by what it took, these bytes too.
abbrev pub given : List ℕ → List Pair → List ℕ
given last ps = if is_of_frames (first_break ps) then pumped ps ++ last else pumped ps

-- the frames that were filed of these bytes: those that were asked for, up to the first that wasn't
abbrev pub filed_bodies : ChannelStart → List ℕ → List Pair → List (List ℕ)
filed_bodies start bytes ps = asked (sent ps) (cut (least_of start) bytes).bodies

-- how many calls are pending: submitted, and without a frame so far
abbrev pub pending : ChannelStart → List ℕ → List Pair → ℕ
pending start bytes ps = sent ps - length (filed_bodies start bytes ps)

-- the frame of the reply to a call among these, unless it was taken
abbrev pub reply_among : List (List ℕ) → Bool → ℤ → Option (List ℕ)
reply_among bodies was id = if was then None else option_map Frame (find (has_id id) bodies)

-- the frame of the reply to a call, if it came and wasn't taken
abbrev pub reply_left : ChannelStart → List ℕ → List Pair → ℤ → Option (List ℕ)
reply_left start bytes ps id = reply_among (filed_bodies start bytes ps) (was_taken id ps) id

-- ---- what the next pair may be, after these pairs and over these bytes

-- the identifier of a submit, or why it is refused before its frame is written
abbrev pub outcome : ChannelStart → List ℕ → List Pair → ChannelAsk → Result ℤ ChannelFault
outcome start bytes ps asks =
    offered (body_of asks) (next_after (first_break ps) (sent ps) (pending start bytes ps))

abbrev pub Submits : ChannelStart → List ℕ → List Pair → ChannelAsk → Result ℤ ChannelFault → Type 0
Submits start bytes ps asks (Ok id) = outcome start bytes ps asks ≡ Ok id
Submits start bytes ps asks (Err (fault.Broke WriteFault)) =
    IsOk (outcome start bytes ps asks) × (start.writes_hold ≡ false)
Submits start bytes ps asks (Err cause) = outcome start bytes ps asks ≡ Err cause

-- the bytes are the first of those that the link had to give, where it told them
abbrev pub IsGiven : Option (List ℕ) → List ℕ → Type 0
IsGiven None bytes = Unit {0}
IsGiven (Some left) bytes = (rest : List ℕ) × (left ≡ bytes ++ rest)

-- with more bytes of the stream all frames were asked for
abbrev pub AllAsked : ℕ → Cutting → Type 0
AllAsked n c = asked n c.bodies ≡ c.bodies

-- the first frame that wasn't asked for has this identifier
abbrev pub IsUnasked : ℕ → Cutting → ℤ → Type 0
IsUnasked n c id =
    (body : List ℕ) × (more : List (List ℕ)) × (c.bodies ≡ asked n c.bodies ++ body ∷ more) × (id_of body ≡ id)

-- a call is pending on a channel that isn't down
abbrev pub Waits : ChannelStart → List ℕ → List Pair → Type 0
Waits start bytes ps = (first_break ps ≡ None) × (0 < pending start bytes ps)

abbrev pub PumpBreaks : ChannelStart → List ℕ → List Pair → Break → Type 0
PumpBreaks start last ps ReadFault = start.reads_hold ≡ false
PumpBreaks start last ps PeerEnded = start.reads_hold ≡ true → start.left ≡ Some (pumped ps)
PumpBreaks start last ps (BadFrame place n) =
    let c = cut (least_of start) (pumped ps ++ last) in
    AllAsked (sent ps) c × (front (least_of start) max_body c.rest ≡ Bad n)
    × (place ≡ min (length (flat_map Frame c.bodies)) (2 ^ 64 - 1)) × IsGiven start.left (pumped ps ++ last)
PumpBreaks start last ps (Unasked id) =
    IsUnasked (sent ps) (cut (least_of start) (pumped ps ++ last)) id × IsGiven start.left (pumped ps ++ last)
PumpBreaks start last ps WriteFault = ⊥
PumpBreaks start last ps Closed = ⊥

-- the bytes after the last frame don't begin with a length out of range
abbrev pub IsNotBad : Front → Type 0
IsNotBad (Body body rest) = Unit {0}
IsNotBad (Bad n) = ⊥
IsNotBad (Incomplete n) = Unit {0}

abbrev pub Pumps : ChannelStart → List ℕ → List Pair → Result (List ℕ) ChannelFault → Type 0
Pumps start last ps (Ok bytes) =
    let c = cut (least_of start) (pumped ps ++ bytes) in
    (first_break ps ≡ None) × (pending start (given last ps) ps ≡ 0 → bytes ≡ []) × AllAsked (sent ps) c
    × IsNotBad (front (least_of start) max_body c.rest) × IsGiven start.left (pumped ps ++ bytes)
Pumps start last ps (Err (fault.Down cause)) = first_break ps ≡ Some cause
Pumps start last ps (Err (fault.Broke cause)) = Waits start (given last ps) ps × PumpBreaks start last ps cause
Pumps start last ps (Err _) = ⊥

abbrev pub Closes : ChannelStart → List ℕ → List Pair → Option Retired → Type 0
Closes start bytes ps None = was_closed ps ≡ true
Closes start bytes ps (Some shown) = (was_closed ps ≡ false) × ShownSince start shown bytes ps

-- After these pairs the channel may answer this to an ask. `last` are the bytes that the pump took that
-- broke the channel by them.
abbrev pub MayFollow : ChannelStart → List ℕ → List Pair → ChannelAsk → GotData → Type 0
MayFollow start last ps (ask.Submit request) (got.Sent id) = Submits start (given last ps) ps (ask.Submit request) (Ok id)
MayFollow start last ps (ask.Submit request) (got.NotSent back cause) =
    (back ≡ request) × Submits start (given last ps) ps (ask.Submit request) (Err cause)
MayFollow start last ps (ask.SubmitParts caches) (got.Sent id) = Submits start (given last ps) ps (ask.SubmitParts caches) (Ok id)
MayFollow start last ps (ask.SubmitParts caches) (got.NotSentParts back cause) =
    (back ≡ caches) × Submits start (given last ps) ps (ask.SubmitParts caches) (Err cause)
MayFollow start last ps ask.Pump (got.Pumped bytes) = Pumps start last ps (Ok bytes)
MayFollow start last ps ask.Pump (got.NotPumped cause) = Pumps start last ps (Err cause)
MayFollow start last ps (ask.Take id) (got.Taken reply) = reply ≡ reply_left start (given last ps) ps id
MayFollow start last ps ask.Close (got.Closed retired) = Closes start (given last ps) ps retired
MayFollow start last ps _ _ = ⊥

-- each pair may follow those before it
abbrev pub EachFollows : ChannelStart → List ℕ → List Pair → List Pair → Type 0
EachFollows start last before [] = Unit {0}
EachFollows start last before (p ∷ ps) =
    MayFollow start last before p.0 p.1 × EachFollows start last (before ++ p ∷ []) ps

-- The pairs are what a channel with this start may have been asked and answered, over a link that gave these
-- bytes after the reply to the hello: the first of those that it had to give, where it told them.
pub record ChannelRun (start : ChannelStart) (bytes : List ℕ) (pairs : List Pair) : Type 0 where
  pub last : List ℕ
  pub given_are : bytes ≡ given last pairs
  pub each : EachFollows start last [] pairs

-- the pairs are so over some bytes
abbrev pub Runs : ChannelStart → List Pair → Type 0
Runs start pairs = (bytes : List ℕ) × ChannelRun start bytes pairs
