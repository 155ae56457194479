use Rattle.std.proofs.Common.{take}
use Rattle.ig_value.specs.Build.{AreShallow}
use Rattle.ig_value.proofs.build.are_shallow.Given as goal

abbrev pub invariant-loop-field : goal.invariant-loop-field
invariant-loop-field l = AreShallow (take l.field-index l.fields)
