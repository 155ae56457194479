use Rattle.std.proofs.Common.{arith, sym, ◌∙◌}
use Rattle.ig_parts.proofs.ServedLemmas.{nodes_none, nodes_more}
use Rattle.ig_parts.proofs.served.served_nodes.Goals as goal

pub loop-number-init : goal.loop-number-init
loop-number-init c = c.in_ok-made.ensures.items ∙ sym (nodes_none c.args.nodes c.args.parts)

pub loop-number-preserved : goal.loop-number-preserved
loop-number-preserved c = nodes_more c.args.nodes c.args.parts c.loop-number.number _ _ c.loop-number.made.items _ c.in_ok-push.ensures.items (omega arith) c.in_ok-parts.ensures c.loop-number.invariant
