use Rattle.std.proofs.Common.{◌≡◌, length, take}
use Rattle.ig_value.proofs.leaves.same_items.Given as goal

abbrev pub invariant-loop-x : goal.invariant-loop-x
invariant-loop-x g l = take (length l.yielded) l.a ≡ take (length l.yielded) l.b
