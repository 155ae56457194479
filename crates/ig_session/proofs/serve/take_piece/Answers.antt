use Rattle.std.proofs.Common.{◌≡◌, ◌++◌, ◌∙◌, sym, ap, subst, refl, arith, length-take-le, length-append, length, take, drop, ◌+◌, ◌<◌, List, ℕ, Ok, Err}
use Rattle.std.proofs.lemmas.List.{take-append-le, length-take}
use Rattle.ig_base.specs.Frames.{max_body}
use Rattle.ig_base.specs.Numbers.{AreBytes}
use Rattle.ig_link.specs.ReadsAs.{ReadSome}
use Rattle.ig_deals.specs.declared.end.SessionEnd.{SessionEnd}
use Rattle.ig_deals.specs.declared.end.SessionEnd.TheVariants as ends
use Rattle.ig_session.specs.States.{State}
use Rattle.ig_session.specs.Steps.{fed}
use Rattle.ig_session.specs.Serving.{TakesPiece}
use Rattle.ig_session.proofs.TakeLemmas.{takes_limit, takes_fault, takes_end, takes_bytes, takes_none, paused_few}
use Rattle.ig_session.proofs.serve.take_piece.Goals as goal

pub returns-then-taken-ge-SESSION_BYTES-clause-takes : goal.returns-then-taken-ge-SESSION_BYTES-clause-takes
returns-then-taken-ge-SESSION_BYTES-clause-takes g c =
    takes_limit c.args.session.now (g.S.Source.source c.args.source.now) c.args.taken c.requires.sound c.requires.paused
    (omega (arith, c.if-taken-ge-SESSION_BYTES.true, c.requires.within))

pub returns-in-End-clause-takes : goal.returns-in-End-clause-takes
returns-in-End-clause-takes g c =
    let s : State = c.args.session.now in
    let ends_so = takes_end s (g.S.Source.source c.args.source.now) (g.S.Source.source c.read.new.self) c.args.taken c.requires.sound c.requires.paused
    (omega (arith, c.if-taken-ge-SESSION_BYTES.false)) c.in-End.ensures.answer in
    subst (λ (t : State). TakesPiece s t (g.S.Source.source c.args.source.now) (g.S.Source.source c.read.new.self) c.args.taken (Err c.end_input.result)) (sym c.end_input.ensures.same)
    (subst (λ (e : SessionEnd). TakesPiece s s (g.S.Source.source c.args.source.now) (g.S.Source.source c.read.new.self) c.args.taken (Err e)) (sym c.end_input.ensures.end) ends_so)

pub returns-in-Failed-clause-takes : goal.returns-in-Failed-clause-takes
returns-in-Failed-clause-takes g c =
    takes_fault c.args.session.now (g.S.Source.source c.args.source.now) (g.S.Source.source c.read.new.self) c.args.taken c.requires.sound c.requires.paused
    (omega (arith, c.if-taken-ge-SESSION_BYTES.false)) c.in-Failed.ensures.answer

pub feed-requires-clause-held : goal.feed-requires-clause-held
feed-requires-clause-held g c =
    let some : ReadSome c.in-Bytes.n (g.S.Source.source c.args.source.now) (g.S.Source.source c.read.new.self) c.read.new.buf = c.in-Bytes.ensures.answer in
    let few : length c.args.session.now.stream.rest < 4 + max_body = paused_few c.args.session.now c.requires.sound c.requires.paused in
    let piece = length-take-le c.in-Bytes.n (c.read.new.buf ++ drop c.min-room.result c.args.buf.now)
    (omega (arith, some.fits, length-append c.read.new.buf (drop c.min-room.result c.args.buf.now))) in
    omega (arith, few, piece, some.fits, c.read.auto.buf, length-take c.min-room.result c.args.buf.now, c.min-room.ensures, c.requires.room)

pub feed-requires-clause-fed : goal.feed-requires-clause-fed
feed-requires-clause-fed g c =
    let some : ReadSome c.in-Bytes.n (g.S.Source.source c.args.source.now) (g.S.Source.source c.read.new.self) c.read.new.buf = c.in-Bytes.ensures.answer in
    let piece = length-take-le c.in-Bytes.n (c.read.new.buf ++ drop c.min-room.result c.args.buf.now)
    (omega (arith, some.fits, length-append c.read.new.buf (drop c.min-room.result c.args.buf.now))) in
    omega (arith, piece, some.fits, c.read.auto.buf, length-take c.min-room.result c.args.buf.now, c.min-room.ensures, c.requires.room, c.requires.counts, c.requires.within)

pub returns-in-Ok-clause-takes : goal.returns-in-Ok-clause-takes
returns-in-Ok-clause-takes g c =
    let some : ReadSome c.in-Bytes.n (g.S.Source.source c.args.source.now) (g.S.Source.source c.read.new.self) c.read.new.buf = c.in-Bytes.ensures.answer in
    let s : State = c.args.session.now in
    let buf : List ℕ = c.read.new.buf in
    let n : ℕ = c.in-Bytes.n in
    let same = take-append-le n buf (drop c.min-room.result c.args.buf.now) some.fits in
    let are = c.feed.ensures.bytes in
    let len = length-take-le n buf some.fits in
    subst (λ (t : State). TakesPiece s t (g.S.Source.source c.args.source.now) (g.S.Source.source c.read.new.self) c.args.taken (Ok (c.args.taken + n)))
    (sym (c.in-Ok.ensures.ok ∙ ap (fed s) same))
    (takes_bytes s (g.S.Source.source c.args.source.now) (g.S.Source.source c.read.new.self) (take n buf) c.args.taken (c.args.taken + n)
    some.advances (record { ended = some.is_open; counts = some.counts }) (ap (λ (k : ℕ). c.args.taken + k) (sym len)) (omega (arith, some.some))
    (omega (arith, some.fits, c.read.auto.buf, length-take c.min-room.result c.args.buf.now, c.min-room.ensures, c.requires.within)) (subst AreBytes same are))

pub returns-in-Err-clause-takes : goal.returns-in-Err-clause-takes
returns-in-Err-clause-takes g c =
    let some : ReadSome c.in-Bytes.n (g.S.Source.source c.args.source.now) (g.S.Source.source c.read.new.self) c.read.new.buf = c.in-Bytes.ensures.answer in
    let s : State = c.args.session.now in
    let buf : List ℕ = c.read.new.buf in
    let n : ℕ = c.in-Bytes.n in
    let same = take-append-le n buf (drop c.min-room.result c.args.buf.now) some.fits in
    let are = c.feed.ensures.bytes in
    subst (λ (t : State). TakesPiece s t (g.S.Source.source c.args.source.now) (g.S.Source.source c.read.new.self) c.args.taken (Err ends.NoMemory)) (sym c.in-Err.ensures.err)
    (takes_none s (g.S.Source.source c.args.source.now) (g.S.Source.source c.read.new.self) (take n buf) c.args.taken
    some.advances (record { ended = some.is_open; counts = some.counts })
    (omega (arith, length-take-le n buf some.fits, some.fits, c.read.auto.buf, length-take c.min-room.result c.args.buf.now, c.min-room.ensures, c.requires.within)) (subst AreBytes same are))
