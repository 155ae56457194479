-- What a handshake answers, and what it leaves of the link.
use Rattle.std.specs.Prelude.{◌≡◌, ℕ, ◌≤◌, ◌<◌, ◌⊎◌, true, List, [], ◌∷◌, ◌++◌, length, take, drop, Option, None, Some, Result, Ok, Err}
use Rattle.ig_base.specs.Frames.{Frame, Front, Body, Bad, Incomplete, front, max_body}
use Rattle.ig_base.specs.declared.NodeId.{NodeId}
use Rattle.ig_link.specs.Shows.{Shows}
use Rattle.ig_link.specs.declared.link.Retired.{Retired}
use Rattle.ig_link.specs.States.{SourceState, SinkState, Rose, SourceAdvances, SinkAdvances}
use Rattle.ig_wire.specs.Fields.{in_frame}
use Rattle.ig_wire.specs.Greets.{hello_bytes}
use Rattle.ig_wire.specs.HelloReplies.{hello_reply_of}
use Rattle.ig_wire.specs.declared.Login.{Login}
use Rattle.ig_wire.specs.declared.Version.{Version}
use Rattle.ig_wire.specs.declared.HelloReply.{HelloReply}
use Rattle.ig_wire.specs.declared.HelloReply.TheVariants.{Accepted, Refused}
use Rattle.ig_client.specs.declared.fault.Break.{Break}
use Rattle.ig_client.specs.declared.fault.Break.TheVariants as break
use Rattle.ig_client.specs.declared.fault.HandshakeFault.{HandshakeFault}
use Rattle.ig_client.specs.declared.fault.HandshakeFault.TheVariants as fault

-- what a frame's body says as the reply to a hello: the node; the refusal; or it doesn't read, at this place
abbrev pub Answered : Result HelloReply ℕ → List ℕ → Result (Option NodeId) HandshakeFault → Type 0
Answered reply body (Ok node) = reply ≡ Ok (Accepted node)
Answered reply body (Err (fault.Refused version text)) = (n : _) × (reply ≡ Ok (Refused version text n))
Answered reply body (Err (fault.BadReply place)) = in_frame body reply ≡ Err place
Answered reply body (Err fault.NoMemory) = Unit {0}
Answered reply body (Err (fault.Broke cause)) = ⊥

-- why a read or what was read breaks the handshake, where these bytes were taken
abbrev pub ReadBreaks : Break → SourceState → SourceState → List ℕ → Type 0
ReadBreaks break.ReadFault old new bytes =
    Rose old.faults new.faults × ((n : ℕ) × (front 1 max_body bytes ≡ Incomplete n))
ReadBreaks break.PeerEnded old new bytes = (new.ended ≡ true) × ((n : ℕ) × (front 1 max_body bytes ≡ Incomplete n))
ReadBreaks (break.BadFrame place n) old new bytes = (place ≡ 0) × (front 1 max_body bytes ≡ Bad n)
ReadBreaks break.WriteFault old new bytes = ⊥
ReadBreaks (break.Unasked id) old new bytes = ⊥
ReadBreaks break.Closed old new bytes = ⊥

-- the first frame was taken, and no byte after it; or less of it, and the read failed or the frame can't be
abbrev pub ReadsFrame : SourceState → SourceState → Result (List ℕ) HandshakeFault → Type 0
ReadsFrame old new (Ok frame) =
    SourceAdvances old new frame × (front 1 max_body frame ≡ Body (drop 4 frame) [])
ReadsFrame old new (Err (fault.Broke cause)) =
    (bytes : List ℕ) × SourceAdvances old new bytes × ReadBreaks cause old new bytes
ReadsFrame old new (Err fault.NoMemory) = (bytes : List ℕ) × SourceAdvances old new bytes
ReadsFrame old new (Err _) = ⊥

-- this many more bytes were taken and stand after the others; or fewer, and a read failed, or the source
-- ended, or memory ran out
abbrev pub ReadsOn : ℕ → List ℕ → List ℕ → SourceState → SourceState → Result (Unit {0}) HandshakeFault → Type 0
ReadsOn count old new source source' (Ok _) =
    (bytes : List ℕ) × (new ≡ old ++ bytes) × (length bytes ≡ count) × SourceAdvances source source' bytes
ReadsOn count old new source source' (Err (fault.Broke break.ReadFault)) =
    (bytes : List ℕ) × (length bytes < count) × SourceAdvances source source' bytes × Rose source.faults source'.faults
ReadsOn count old new source source' (Err (fault.Broke break.PeerEnded)) =
    (bytes : List ℕ) × (length bytes < count) × SourceAdvances source source' bytes × (source'.ended ≡ true)
ReadsOn count old new source source' (Err fault.NoMemory) =
    (bytes : List ℕ) × SourceAdvances source source' bytes
ReadsOn count old new source source' (Err _) = ⊥

-- The handshake: the whole hello was written, and the first frame, which is all that was taken, accepts it.
-- Or a write failed before the whole hello was written; or the read of the frame broke; or the frame
-- refuses the hello or doesn't read; or memory ran out.
abbrev pub Greeted : Version → Option Login → SourceState → SourceState → SinkState → SinkState
    → Result (Option NodeId) HandshakeFault → Type 0
Greeted version login source source' sink sink' (Ok node) =
    (body : List ℕ) × SinkAdvances sink sink' (Frame (hello_bytes version login))
    × ReadsFrame source source' (Ok (Frame body)) × (hello_reply_of version body ≡ Ok (Accepted node))
Greeted version login source source' sink sink' (Err (fault.Broke break.WriteFault)) =
    (part : List ℕ) × (more : List ℕ) × (Frame (hello_bytes version login) ≡ part ++ more)
    × SinkAdvances sink sink' part × Rose sink.faults sink'.faults × SourceAdvances source source' []
Greeted version login source source' sink sink' (Err (fault.Broke cause)) =
    SinkAdvances sink sink' (Frame (hello_bytes version login)) × ReadsFrame source source' (Err (fault.Broke cause))
Greeted version login source source' sink sink' (Err fault.NoMemory) = Unit {0}
Greeted version login source source' sink sink' (Err cause) =
    (body : List ℕ) × SinkAdvances sink sink' (Frame (hello_bytes version login))
    × ReadsFrame source source' (Ok (Frame body)) × Answered (hello_reply_of version body) body (Err cause)

-- The link that a channel wasn't started over: it was retired as the handshake left it.
abbrev pub GreetedInVain : Version → Option Login → SourceState → SinkState → HandshakeFault → Retired → Type 0
GreetedInVain version login source sink cause shown =
    (source' : SourceState) × (sink' : SinkState) × Shows source' sink' shown
    × Greeted version login source source' sink sink' (Err cause)

-- The link of a channel that was started.
abbrev pub GreetedWell : {L : Type 0} → (L → SourceState) → (L → SinkState) → Version → Option Login → L → Option L → Option NodeId → Type 0
GreetedWell source sink version login before (Some after) told =
    Greeted version login (source before) (source after) (sink before) (sink after) (Ok told)
GreetedWell source sink version login before None told = ⊥
