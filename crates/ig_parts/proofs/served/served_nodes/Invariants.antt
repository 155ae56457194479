use Rattle.std.proofs.Common.{◌≡◌}
use Rattle.ig_parts.specs.ServedMap.{nodes_below}
use Rattle.ig_parts.proofs.served.served_nodes.Given as goal

abbrev pub invariant-loop-number : goal.invariant-loop-number
invariant-loop-number l = l.made.items ≡ nodes_below l.nodes l.parts l.number
