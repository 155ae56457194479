use Rattle.std.proofs.Common.{◌≤◌, suc, length, arith}
use Rattle.std.proofs.Math.Nat.{mul-le-mul_right}
use Rattle.ig_encode.proofs.OutputLemmas.{written_more}
use Rattle.ig_encode.proofs.leaves.write_all.Goals as goal

pub write_at-requires : goal.write_at-requires
write_at-requires g c =
    let W = g.E.WriteElement.byte_count in
    let le : suc c.loop-element.element-index ≤ length c.args.elements.now = omega arith in
    let room = mul-le-mul_right W le in
    omega (arith, room, c.requires, c.loop-element.invariant.place)

pub loop-element-preserved : goal.loop-element-preserved
loop-element-preserved g c = record {
  place = omega (arith, c.width-width.ensures.count, c.loop-element.invariant.place);
  written = written_more g.E.Spell.bytes g.E.WriteElement.byte_count g.met.E.WriteElement.wide c.args.into.now c.args.at c.args.elements.now c.loop-element.element-index c.element-item.result c.loop-element.place c.loop-element.into c.write_at.new.into
      c.loop-element-test.true c.requires c.element-item.is c.loop-element.invariant.place c.loop-element.invariant.written c.write_at.ensures;
}
