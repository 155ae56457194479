-- What the steps of a channel leave of what contracts see, and what they say of its link.
use Rattle.std.specs.Prelude.{◌≡◌, ◌⊎◌, ℕ, ◌≤◌, ℤ, List, [], length, take, Option, None, Some, Result, Ok, Err}
use Rattle.ig_link.specs.States.{SourceState, SinkState, SinkAdvances}
use Rattle.ig_link.specs.WritesAs.{SentPart}
use Rattle.ig_link.specs.declared.link.TakeNow.{TakeNow}
use Rattle.ig_link.specs.declared.link.TakeNow.TheVariants as now
use Rattle.ig_client.specs.declared.fault.Break.TheVariants.{ReadFault, WriteFault, PeerEnded, Closed}
use Rattle.ig_client.specs.declared.fault.ChannelFault.{ChannelFault}
use Rattle.ig_client.specs.declared.fault.ChannelFault.TheVariants.{Broke, Down, NoMemory}
use Rattle.ig_base.specs.Frames.{Frame}
use Rattle.ig_client.specs.declared.fault.Break.{Break}
use Rattle.ig_client.specs.PendingState.{PendingState, OrNoMemory, offered, next_id, with_call, broken, with_room, next_read, filed}

-- the whole frame was written; or a front of it, not all, and then a write failed
abbrev pub Sends : ℤ → List ℕ → PendingState → PendingState → SinkState → SinkState → Result ℤ ChannelFault → Type 0
Sends id frame old new sink sink' (Ok given) =
    (given ≡ id) × (new ≡ old) × SinkAdvances sink sink' frame × (sink'.faults ≡ sink.faults)
Sends id frame old new sink sink' (Err cause) =
    (cause ≡ Broke WriteFault) × (new ≡ broken WriteFault old) × ((sent : ℕ) × SentPart sent sink sink' frame)

-- the same over a link that may have been retired, seen as a sink by `sink`
abbrev pub LinkSends : {K : Type 0} → (K → SinkState) → ℤ → List ℕ → PendingState → PendingState → Option K → Option K
    → Result ℤ ChannelFault → Type 0
LinkSends sink id frame old new (Some link) (Some link') answer = Sends id frame old new (sink link) (sink link') answer
LinkSends sink id frame old new None None answer = (new ≡ old) × (answer ≡ Err (Down Closed))
LinkSends sink id frame old new _ _ answer = ⊥

-- what a link is as a source stays the same
abbrev pub SameSource : {K : Type 0} → (K → SourceState) → Option K → Option K → Type 0
SameSource source (Some link) (Some link') = source link' ≡ source link
SameSource source None None = Unit {0}
SameSource source _ _ = ⊥

-- A submit: refused before its frame is written, or out of memory, and nothing changed; or it is offered and
-- its frame is written, as far as the link takes it.
abbrev pub Submits : {K : Type 0} → (K → SinkState) → (ℤ → List ℕ) → PendingState → PendingState → Option K → Option K
    → Result ℤ ChannelFault → Type 0
Submits sink body old new link link' answer =
    ((cause : ChannelFault) × (answer ≡ Err cause) × (new ≡ old) × (link' ≡ link)
    × OrNoMemory (offered body (next_id old)) cause)
    ⊎ ((id : ℤ) × (offered body (next_id old) ≡ Ok id) × LinkSends sink id (Frame (body id)) (with_call old) new link link' answer)

-- room for the next read, if a call is pending; or the channel broke before, or memory ran out
abbrev pub TakesRoom : PendingState → PendingState → Result (List ℕ) ChannelFault → Type 0
TakesRoom old new (Ok piece) =
    (old.down ≡ None) × (((old.waiting ≡ 0) × (piece ≡ []) × (new ≡ old))
    ⊎ ((1 ≤ old.waiting) × (length piece ≡ next_read old) × (1 ≤ length piece) × (new ≡ with_room old)))
TakesRoom old new (Err (Down cause)) = (old.down ≡ Some cause) × (new ≡ old)
TakesRoom old new (Err NoMemory) = (old.down ≡ None) × (1 ≤ old.waiting) × ((new ≡ old) ⊎ (new ≡ with_room old))
TakesRoom old new (Err _) = ⊥

abbrev pub MayHold : TakeNow → List ℕ → Type 0
MayHold (now.Bytes n) piece = n ≤ length piece
MayHold _ piece = Unit {0}

-- the bytes that were taken are filed; nothing was there yet; the link ended; the read failed
abbrev pub Files : TakeNow → List ℕ → PendingState → PendingState → Result (List ℕ) ChannelFault → Type 0
Files (now.Bytes n) piece old new (Ok bytes) =
    (bytes ≡ take n piece) × (new ≡ filed bytes old) × (new.down ≡ None)
Files (now.Bytes n) piece old new (Err cause) =
    (new ≡ filed (take n piece) old) × (broke : Break) × (new.down ≡ Some broke) × (cause ≡ Broke broke)
Files now.NotYet piece old new answer = (answer ≡ Ok []) × (new ≡ old)
Files now.End piece old new answer = (answer ≡ Err (Broke PeerEnded)) × (new ≡ broken PeerEnded old)
Files now.Failed piece old new answer = (answer ≡ Err (Broke ReadFault)) × (new ≡ broken ReadFault old)
