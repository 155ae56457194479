use Rattle.std.proofs.Common.{◌≡◌, ◌+◌, ◌≤◌, ℕ, List, ◌++◌, length, take, drop, Err, subst, arith}
use Rattle.std.proofs.lemmas.List.{length-take}
use Rattle.ig_link.specs.ReadsAs.{ReadSome}
use Rattle.ig_capture.specs.declared.fault.CaptureFault.{CaptureFault}
use Rattle.ig_capture.specs.Feeds.{Feeds}
use Rattle.ig_wire.specs.Limits.{most_session_bytes}
use Rattle.ignite_thin.proofs.DecodeStepLemmas.{text_at_end, text_at_fault, text_at_limit, text_of_piece, text_of_wrong, text_without_memory}
use Rattle.ignite_thin.proofs.decode.take_piece.Goals as goal

pub returns-then-taken-ge-SESSION_BYTES : goal.returns-then-taken-ge-SESSION_BYTES
returns-then-taken-ge-SESSION_BYTES g c =
    text_at_limit c.args.capture.now (g.S.Source.source c.args.source.now) c.args.taken c.args.text.now
    (omega (arith, c.if-taken-ge-SESSION_BYTES.true, c.requires.within))

pub returns-in-End : goal.returns-in-End
returns-in-End g c =
    text_at_end c.args.capture.now (g.S.Source.source c.args.source.now) (g.S.Source.source c.read.new.self) c.args.taken c.args.text.now c.requires.none c.in-End.ensures.answer

pub returns-in-Failed : goal.returns-in-Failed
returns-in-Failed g c =
    text_at_fault c.args.capture.now (g.S.Source.source c.args.source.now) (g.S.Source.source c.read.new.self) c.args.taken c.args.text.now c.in-Failed.ensures.answer

pub returns-in-Ok : goal.returns-in-Ok
returns-in-Ok g c =
    let some : ReadSome c.in-Bytes.n (g.S.Source.source c.args.source.now) (g.S.Source.source c.read.new.self) c.read.new.buf = c.in-Bytes.ensures.answer in
    let within : c.args.taken + c.in-Bytes.n ≤ most_session_bytes =
    omega (arith, some.fits, c.read.auto.buf, length-take c.min-room.result c.args.buf.now, c.min-room.ensures, c.requires.within) in
    text_of_piece c.args.capture.now c.feed.new.self (g.S.Source.source c.args.source.now) (g.S.Source.source c.read.new.self) c.args.taken c.in-Bytes.n c.read.new.buf (drop c.min-room.result c.args.buf.now)
    c.args.text.now c.feed.new.out some within c.requires.none c.in-Ok.ensures.feeds

pub returns-in-Err-Bad : goal.returns-in-Err-Bad
returns-in-Err-Bad g c =
    let some : ReadSome c.in-Bytes.n (g.S.Source.source c.args.source.now) (g.S.Source.source c.read.new.self) c.read.new.buf = c.in-Bytes.ensures.answer in
    let within : c.args.taken + c.in-Bytes.n ≤ most_session_bytes =
    omega (arith, some.fits, c.read.auto.buf, length-take c.min-room.result c.args.buf.now, c.min-room.ensures, c.requires.within) in
    text_of_wrong c.args.capture.now c.feed.new.self (g.S.Source.source c.args.source.now) (g.S.Source.source c.read.new.self) c.args.taken c.in-Bytes.n c.read.new.buf (drop c.min-room.result c.args.buf.now)
    c.args.text.now c.feed.new.out some within c.in-Err-Bad.field-0-0 c.requires.none
    (subst (λ (f : CaptureFault). Feeds c.args.capture.now c.feed.new.self c.args.text.now c.feed.new.out (take c.in-Bytes.n (c.read.new.buf ++ drop c.min-room.result c.args.buf.now)) (Err f)) c.in-Err-Bad.field-0-is c.in-Err-Bad.ensures.feeds)

pub returns-in-Err-NoMemory : goal.returns-in-Err-NoMemory
returns-in-Err-NoMemory g c =
    let some : ReadSome c.in-Bytes.n (g.S.Source.source c.args.source.now) (g.S.Source.source c.read.new.self) c.read.new.buf = c.in-Bytes.ensures.answer in
    let within : c.args.taken + c.in-Bytes.n ≤ most_session_bytes =
    omega (arith, some.fits, c.read.auto.buf, length-take c.min-room.result c.args.buf.now, c.min-room.ensures, c.requires.within) in
    text_without_memory c.args.capture.now c.feed.new.self (g.S.Source.source c.args.source.now) (g.S.Source.source c.read.new.self) c.args.taken c.in-Bytes.n c.read.new.buf (drop c.min-room.result c.args.buf.now)
    c.args.text.now c.feed.new.out some within
