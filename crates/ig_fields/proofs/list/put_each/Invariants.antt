use Rattle.std.proofs.Common.{◌≡◌, take}
use Rattle.std.specs.List.{flat_map}
use Rattle.ig_fields.proofs.list.put_each.Given as goal

abbrev pub invariant-loop-item : goal.invariant-loop-item
invariant-loop-item g l = (l.out, l.into) ≡ g.S.Output.after l.initial.out l.initial.into (flat_map g.F.FieldFormat.bytes (take l.item-index l.items))
