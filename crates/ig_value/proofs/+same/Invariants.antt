use Rattle.std.proofs.Common.{◌≡◌, length, take}
use Rattle.ig_value.proofs.+same.Given as goal

abbrev pub invariant-same::same_values-loop-x : goal.invariant-same::same_values-loop-x
invariant-same::same_values-loop-x l = take (length l.yielded) l.a ≡ take (length l.yielded) l.b

abbrev pub invariant-same::same_pairs-loop-x : goal.invariant-same::same_pairs-loop-x
invariant-same::same_pairs-loop-x l = take (length l.yielded) l.a ≡ take (length l.yielded) l.b
