use Rattle.std.proofs.Common.{◌≡◌, map, take}
use Rattle.std.specs.List.{AllByRecursion}
use Rattle.ig_value.specs.Part.{i32}
use Rattle.ig_value.specs.Spells.{IsInRange}
use Rattle.ig_value.proofs.build.ids_of.Given as goal

abbrev pub invariant-loop-field : goal.invariant-loop-field
invariant-loop-field l = record {
  are : l.ids.items ≡ map (λ f. f.0) (take l.field-index l.fields);
  in_range : AllByRecursion (IsInRange i32) l.ids.items;
}
