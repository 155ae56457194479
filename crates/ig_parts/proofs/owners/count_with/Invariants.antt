use Rattle.std.proofs.Common.{◌≡◌, ◌≤◌, max, take}
use Rattle.ig_parts.specs.Owner.{count_from}
use Rattle.ig_parts.proofs.owners.count_with.Given as goal

abbrev pub invariant-loop-part : goal.invariant-loop-part
invariant-loop-part l = record {
  exact : l.count ≡ max l.initial.count (count_from (take l.part-index l.parts));
  few : l.count ≤ 65536;
}
