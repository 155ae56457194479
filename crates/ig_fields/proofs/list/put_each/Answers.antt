use Rattle.ig_encode.proofs.OutputLemmas.{each_full}
use Rattle.ig_fields.proofs.list.put_each.Goals as goal

pub returns-then-is_full : goal.returns-then-is_full
returns-then-is_full g c =
    each_full g.S.Output.after g.met.S.Output.longer g.F.FieldFormat.bytes c.args.out.now c.args.into.now c.args.items.now c.loop-item.item-index (c.loop-item.out, c.loop-item.into) c.loop-item.invariant (c.is_full.ensures c.if-is_full.true)
