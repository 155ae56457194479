use Rattle.std.proofs.Common.{◌≡◌, ◌+◌, ◌*◌, take}
use Rattle.std.specs.List.{flat_map}
use Rattle.ig_encode.specs.Splice.{splice}
use Rattle.ig_encode.proofs.leaves.write_all.Given as goal

abbrev pub invariant-loop-element : goal.invariant-loop-element
invariant-loop-element g l = record {
  place : l.place ≡ l.at + l.element-index * g.E.WriteElement.byte_count;
  written : l.into ≡ splice l.initial.into l.at (flat_map g.E.Spell.bytes (take l.element-index l.elements));
}
