-- What a handshake reads and writes, over plain data.
use Rattle.std.proofs.Common.{◌≡◌, ℕ, ◌+◌, ◌-◌, ◌<◌, ◌≤◌, true, false, List, [], ◌++◌, length, take, drop, Option, Result, Ok, Err, IfErr, OnOk, subst, sym, ap, ◌∙◌, arith, append_assoc, append-nil, take-append-drop, length-append, length-take, length-drop}
use Rattle.std.proofs.lemmas.List.{take-take, take_all, take_at, take-append-le, drop_all, drop-append-le}
use Rattle.std.proofs.Math.Seq.{take-append-add}
use Rattle.std.specs.Result.{IsErrAnd, is_err}
use Rattle.ig_base.specs.Numbers.{AreBytes}
use Rattle.ig_base.specs.declared.NodeId.{NodeId}
use Rattle.ig_base.specs.Frames.{Frame, Body, Incomplete, front, max_body}
use Rattle.ig_base.proofs.FrameLemmas.{front-short, front-fewer, front-completed, front-within, front-reads}
use Rattle.ig_link.specs.States.{SourceState, SinkState, SourceAdvances, SinkAdvances}
use Rattle.ig_link.specs.WritesAs.{SentPart}
use Rattle.ig_link.specs.declared.send.SendFault.{SendFault}
use Rattle.ig_wire.specs.Greets.{hello_bytes}
use Rattle.ig_wire.specs.HelloReplies.{hello_reply_of}
use Rattle.ig_wire.specs.declared.Login.{Login}
use Rattle.ig_wire.specs.declared.Version.{Version}
use Rattle.ig_link.proofs.StateLemmas.{SourceAdvances-nothing, SourceAdvances-then, Rose-after}
use Rattle.ig_client.specs.Greeted.{Greeted, Answered, ReadsFrame, ReadsOn}
use Rattle.ig_client.specs.declared.fault.Break.TheVariants as break
use Rattle.ig_client.specs.declared.fault.HandshakeFault.{HandshakeFault}
use Rattle.ig_client.specs.declared.fault.HandshakeFault.TheVariants as fault

-- ---- bytes that a read puts after others

-- the bytes from before, where room was added after them
pub kept_in : (old items more : List ℕ) (end len : ℕ) → items ≡ take end old ++ more → len ≡ length old → len ≤ end → take len items ≡ old
kept_in old items more end len is count within =
    ap (take len) is ∙ ap (λ (l : List ℕ). take len (l ++ more)) (take_all end old (omega (arith, count, within))) ∙ take_at old more len (sym count)

-- the first n bytes that were read into the room after them
pub read_after : (old all buf after past : List ℕ) (len n size : ℕ) → len ≡ length old → take len all ≡ old → len + n ≤ size → n ≤ length buf
    → take (len + n) (take size ((take len all ++ (buf ++ after)) ++ past)) ≡ old ++ take n buf
read_after old all buf after past len n size count begins within fits =
    take-take (len + n) size ((take len all ++ (buf ++ after)) ++ past) within
    ∙ ap (λ (l : List ℕ). take (len + n) ((l ++ (buf ++ after)) ++ past)) begins
    ∙ ap (λ m. take (m + n) ((old ++ (buf ++ after)) ++ past)) count
    ∙ ap (take (length old + n)) (append_assoc old (buf ++ after) past)
    ∙ take-append-add old ((buf ++ after) ++ past) n
    ∙ ap (λ (l : List ℕ). old ++ l) (ap (take n) (append_assoc buf after past) ∙ take-append-le n buf (after ++ past) fits)

-- the room
pub room_of : (all buf : List ℕ) (len : ℕ) → length buf ≡ length (take (length all - len) (drop len all)) → length buf ≤ length all - len
room_of all buf len is = omega (arith, is, length-take (length all - len) (drop len all))

-- ---- the first frame

-- a fault that is handed on
pub on_err : {T E : Type 0} (result : Result T E) (P : E → Type 0) (cause : E) → IsErrAnd result (λ e. e ≡ cause) → P cause → IfErr result P
on_err (Ok x) P cause is holds = absurd is
on_err (Err other) P cause is holds = subst P (sym is) holds

-- less of the frame than was wanted came
pub frame_breaks : (start source source' : SourceState) (old was new : List ℕ) (count : ℕ) (cause : HandshakeFault) → SourceAdvances start source old
    → ((more : List ℕ) → length more < count → (n : ℕ) × (front 1 max_body (old ++ more) ≡ Incomplete n))
    → ReadsOn count was new source source' (Err cause) → ReadsFrame start source' (Err cause)
frame_breaks start source source' old was new count (fault.Broke break.ReadFault) before short reads =
    (old ++ reads.0, SourceAdvances-then before reads.2, (Rose-after start.faults source.faults source'.faults before.faults reads.3, short reads.0 reads.1))
frame_breaks start source source' old was new count (fault.Broke break.PeerEnded) before short reads =
    (old ++ reads.0, SourceAdvances-then before reads.2, (reads.3, short reads.0 reads.1))
frame_breaks start source source' old was new count (fault.Broke break.WriteFault) before short reads = absurd reads
frame_breaks start source source' old was new count (fault.Broke (break.BadFrame place n)) before short reads = absurd reads
frame_breaks start source source' old was new count (fault.Broke (break.Unasked id)) before short reads = absurd reads
frame_breaks start source source' old was new count (fault.Broke break.Closed) before short reads = absurd reads
frame_breaks start source source' old was new count (fault.BadReply place) before short reads = absurd reads
frame_breaks start source source' old was new count (fault.Refused version text) before short reads = absurd reads
frame_breaks start source source' old was new count fault.NoMemory before short reads = (old ++ reads.0, SourceAdvances-then before reads.1)

-- not even its length came
pub length_breaks : (start source' : SourceState) (was new : List ℕ) (cause : HandshakeFault) → ReadsOn 4 was new start source' (Err cause) → ReadsFrame start source' (Err cause)
length_breaks start source' was new cause reads =
    frame_breaks start start source' [] was new 4 cause (SourceAdvances-nothing start) (λ more less. (4 - length more, front-short 1 max_body more less)) reads

-- its length came
pub length_read : (start source : SourceState) (none first : List ℕ) → none ≡ [] → ReadsOn 4 none first start source (Ok tt) → (length first ≡ 4) × SourceAdvances start source first
length_read start source none first nothing reads =
    let all : first ≡ reads.0 = reads.1 ∙ ap (λ (l : List ℕ). l ++ reads.0) nothing in
    (ap length all ∙ reads.2, subst (SourceAdvances start source) (sym all) reads.3)

-- its body broke off
pub body_breaks : (start source source' : SourceState) (first was new : List ℕ) (count : ℕ) (cause : HandshakeFault) → SourceAdvances start source first
    → front 1 max_body first ≡ Incomplete count → ReadsOn count was new source source' (Err cause) → ReadsFrame start source' (Err cause)
body_breaks start source source' first was new count cause before at reads =
    frame_breaks start source source' first was new count cause before (λ more less. (count - length more, front-fewer 1 max_body first more count at less)) reads

-- its body came
pub body_read : (start source source' : SourceState) (first all : List ℕ) (count : ℕ) → (length first ≡ 4) × SourceAdvances start source first
    → front 1 max_body first ≡ Incomplete count → ReadsOn count first all source source' (Ok tt) → ReadsFrame start source' (Ok all)
body_read start source source' first all count before at reads = (
  subst (SourceAdvances start source') (sym reads.1) (SourceAdvances-then before.1 reads.3),
  ap (front 1 max_body) reads.1
      ∙ front-completed 1 max_body first reads.0 count (omega (arith, before.0)) at reads.2
      ∙ ap (λ (l : List ℕ). Body l []) (sym (drop-append-le 4 first reads.0 (omega (arith, before.0))) ∙ ap (drop 4) (sym reads.1)),
)

-- it has no body
pub bare_read : (start source : SourceState) (first : List ℕ) (len : ℕ) → (length first ≡ 4) × SourceAdvances start source first
    → front 1 max_body first ≡ Body (take len (drop 4 first)) (drop (4 + len) first) → ReadsFrame start source (Ok first)
bare_read start source first len before at = (
  before.1,
  at ∙ ap (λ (l : List ℕ). Body l (drop (4 + len) first)) (take_all len (drop 4 first) (omega (arith, length-drop 4 first, before.0)))
      ∙ ap (Body (drop 4 first)) (drop_all (4 + len) first (omega (arith, before.0))),
)

-- ---- the whole handshake

-- what holds of a call that didn't fail
pub ok_holds : {T E : Type 0} (result : Result T E) (P : Type 0) → is_err result ≡ false → OnOk result P → P
ok_holds (Ok x) P fine holds = holds
ok_holds (Err e) P fine holds = cc

-- the hello wasn't written whole
pub hello_failed : (version : Version) (login : Option Login) (source source' : SourceState) (sink sink' : SinkState) (piece : List ℕ) (result : Result (Unit {0}) SendFault) → is_err result ≡ true
    → IfErr result (λ e. SentPart e.sent sink sink' piece) → piece ≡ Frame (hello_bytes version login) → source' ≡ source
    → Greeted version login source source' sink sink' (Err (fault.Broke break.WriteFault))
hello_failed version login source source' sink sink' piece (Ok x) failed sends is same = cc
hello_failed version login source source' sink sink' piece (Err e) failed sends is same = (
  take e.sent piece,
  drop e.sent piece,
  sym is ∙ sym (take-append-drop e.sent piece),
  sends.advances,
  sends.rose,
  subst (λ s. SourceAdvances source s []) (sym same) (SourceAdvances-nothing source),
)

-- the bytes of a whole frame after its length
pub after_length : (bytes frame : List ℕ) → bytes ≡ frame → take (length bytes - 4) (drop 4 bytes) ≡ drop 4 frame
after_length bytes frame is = take_all (length bytes - 4) (drop 4 bytes) (omega (arith, length-drop 4 bytes)) ∙ ap (drop 4) is

-- a whole frame has a length
pub has_length : (frame : List ℕ) → front 1 max_body frame ≡ Body (drop 4 frame) [] → 4 ≤ length frame
has_length frame at = let inside : 4 + length (drop 4 frame) ≤ length frame = (front-within 1 max_body frame (drop 4 frame) [] at).0 in omega (arith, inside)

-- the hello was written and the reply to it came
pub greeted_by : (version : Version) (login : Option Login) (source source' : SourceState) (sink sink' : SinkState) (frame : List ℕ) (result : Result (Option NodeId) HandshakeFault)
    → SinkAdvances sink sink' (Frame (hello_bytes version login)) → ReadsFrame source source' (Ok frame) → AreBytes frame
    → Answered (hello_reply_of version (drop 4 frame)) (drop 4 frame) result → Greeted version login source source' sink sink' result
greeted_by version login source source' sink sink' frame result sent reads are answers = go result answers where
  spelled : frame ≡ Frame (drop 4 frame)
  spelled = (front-reads 1 max_body frame (drop 4 frame) [] are reads.1).1 ∙ append-nil (Frame (drop 4 frame))

  reads_body : ReadsFrame source source' (Ok (Frame (drop 4 frame)))
  reads_body = subst (λ (l : List ℕ). ReadsFrame source source' (Ok l)) spelled reads

  go : (r : Result (Option NodeId) HandshakeFault) → Answered (hello_reply_of version (drop 4 frame)) (drop 4 frame) r → Greeted version login source source' sink sink' r
  go (Ok named) a = (drop 4 frame, sent, reads_body, a)
  go (Err (fault.Refused v text)) a = (drop 4 frame, sent, reads_body, a)
  go (Err (fault.BadReply place)) a = (drop 4 frame, sent, reads_body, a)
  go (Err fault.NoMemory) a = tt
  go (Err (fault.Broke cause)) a = absurd a
