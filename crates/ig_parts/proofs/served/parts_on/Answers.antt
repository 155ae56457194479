use Rattle.std.proofs.Common.{min, arith, sym, ◌∙◌}
use Rattle.std.proofs.lemmas.Int.{ints}
use Rattle.std.proofs.Math.Nat.{mod-eq_of_lt, add-mod_right}
use Rattle.ig_parts.proofs.ServedLemmas.{parts_made, parts_on_none}
use Rattle.ig_parts.proofs.served.parts_on.Goals as goal

pub loop-part-init : goal.loop-part-init
loop-part-init c = record {
  made = c.in_ok-made.ensures.items ∙ sym (parts_on_none c.args.nodes c.args.number (min c.args.number c.args.parts) (omega arith) c.requires.node);
  on = mod-eq_of_lt c.requires.node;
}

pub loop-part-preserved : goal.loop-part-preserved
loop-part-preserved c = record {
  made = parts_made c.args.nodes c.args.number c.loop-part.part c.args.parts _ c.loop-part.made.items _ c.in_ok-push.ensures.items (omega (arith, ints)) c.loop-part.invariant.made c.loop-part.invariant.on c.requires.node c.loop-part-test.true;
  on = add-mod_right c.loop-part.part c.args.nodes ∙ c.loop-part.invariant.on;
}
