use Rattle.std.proofs.Common.{arith, length-drop, subst, sym, ap, List, ℕ, take, drop, length}
use Rattle.std.proofs.lemmas.List.{take_rest}
use Rattle.std.proofs.Math.Seq.{take-add}
use Rattle.std.specs.Io.KnownBytes.{Appends}
use Rattle.std.proofs.KnownBytes.{Appends-trans}
use Rattle.ig_link.proofs.gathering.hand_on.Goals as goal

pub loop-count-preserved : goal.loop-count-preserved
loop-count-preserved g c =
    let contents = g.W.Write.contents in
    let bytes : List ℕ = c.args.bytes.now in
    let wrote = subst (λ (l : List ℕ). Appends (contents c.loop-count.writer) (contents c.write_some.new.writer) (take c.in-Ok.n l)) (take_rest bytes c.loop-count.count) c.in-Ok.ensures.bytes in
    let all = Appends-trans (contents c.args.writer.now) (contents c.loop-count.writer) (contents c.write_some.new.writer) (take c.loop-count.count bytes) (take c.in-Ok.n (drop c.loop-count.count bytes)) c.loop-count.invariant.written wrote in
    record {
      within = omega (arith, c.in-Ok.ensures.bound, length-drop c.loop-count.count bytes, ap length (take_rest bytes c.loop-count.count));
      written = subst (λ (l : List ℕ). Appends (contents c.args.writer.now) (contents c.write_some.new.writer) l) (sym (take-add c.loop-count.count c.in-Ok.n bytes)) all;
    }
