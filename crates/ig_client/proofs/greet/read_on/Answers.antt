use Rattle.std.proofs.Common.{◌≡◌, ◌∙◌, ℕ, ◌+◌, ◌-◌, ◌≤◌, List, ◌++◌, length, take, ap, sym, arith, append_assoc, length-append}
use Rattle.std.proofs.lemmas.List.{length-take-le}
use Rattle.ig_link.specs.ReadsAs.{ReadSome}
use Rattle.ig_link.proofs.StateLemmas.{SourceAdvances-then}
use Rattle.ig_client.proofs.GreetLemmas.{kept_in, read_after, room_of}
use Rattle.ig_client.proofs.greet.read_on.Goals.{then-left-lt-PIECE, else-left-lt-PIECE}
use Rattle.ig_client.proofs.greet.read_on.Goals as goal

pub loop-left-preserved : goal.loop-left-preserved
loop-left-preserved g c =
    let old : List ℕ = c.loop-left.bytes.items in
    let all : List ℕ = c.deref_mut.result.now in
    let buf : List ℕ = c.read.new.buf in
    let some : ReadSome c.in-Bytes.n (g.S.Source.source c.loop-left.source) (g.S.Source.source c.read.new.self) buf = c.in-Bytes.ensures.answer in
    let len : c.len-len.result ≡ length old = c.len-len.ensures ∙ c.loop-left.bytes.ok.0 in
    let within : length buf ≤ length all - c.len-len.result = room_of all buf c.len-len.result c.read.auto.buf in
    let room : c.if-left-lt-PIECE.room ≤ c.loop-left.left = elim c.if-left-lt-PIECE.branch [ then-left-lt-PIECE w ↦ omega (arith, w.room-is) | else-left-lt-PIECE w ↦ omega (arith, w.room-is, w.if-left-lt-PIECE.false) ] in
    let size : length all ≡ c.len-len.result + c.if-left-lt-PIECE.room = omega (arith, c.deref_mut.ensures.len, c.in_ok-resize.ensures.len, c.in-Some.ensures.1) in
    let less : c.in-Bytes.n ≤ c.loop-left.left = omega (arith, some.fits, within, size, room) in
    let items : all ≡ c.resize.new.self.items = c.deref_mut.ensures.value in
    let kept : take c.len-len.result c.resize.new.self.items ≡ old = kept_in old c.resize.new.self.items _ c.in-Some.end c.len-len.result c.in_ok-resize.ensures.items len (omega (arith, c.in-Some.ensures.1)) in
    let begins : take c.len-len.result all ≡ old = ap (take c.len-len.result) items ∙ kept in
    record {
      read = (
        c.loop-left.invariant.read.0 ++ take c.in-Bytes.n buf,
        c.truncate.ensures.items
            ∙ read_after old all buf _ _ c.len-len.result c.in-Bytes.n c.resize.new.self.len len begins (omega (arith, some.fits, within, size, c.deref_mut.ensures.len)) some.fits
            ∙ ap (λ (l : List ℕ). l ++ take c.in-Bytes.n buf) c.loop-left.invariant.read.1
            ∙ append_assoc c.args.bytes.now.items c.loop-left.invariant.read.0 (take c.in-Bytes.n buf),
        omega (arith, length-append c.loop-left.invariant.read.0 (take c.in-Bytes.n buf), length-take-le c.in-Bytes.n buf some.fits, c.loop-left.invariant.read.2, less),
        SourceAdvances-then c.loop-left.invariant.read.3 some.advances,
      );
      beside = c.in-Bytes.ensures.beside ∙ c.loop-left.invariant.beside;
    }
