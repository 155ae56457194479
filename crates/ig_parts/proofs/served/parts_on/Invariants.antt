use Rattle.std.proofs.Common.{◌≡◌, ◌-◌, ◌%◌, min}
use Rattle.ig_parts.specs.ServedMap.{parts_on}
use Rattle.ig_parts.proofs.served.parts_on.Given as goal

abbrev pub invariant-loop-part : goal.invariant-loop-part
invariant-loop-part l = record {
  made : l.made.items ≡ parts_on l.nodes (min l.part l.parts) l.number;
  on : l.part % l.nodes ≡ l.number;
}

abbrev pub decreases-loop-part : goal.decreases-loop-part
decreases-loop-part l = l.parts - l.part
