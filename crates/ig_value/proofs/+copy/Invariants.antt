use Rattle.std.proofs.Common.{◌≡◌, take}
use Rattle.ig_value.proofs.+copy.Given as goal

abbrev pub invariant-copy::copy_values-loop-value : goal.invariant-copy::copy_values-loop-value
invariant-copy::copy_values-loop-value l = l.made.items ≡ take l.value-index l.values

abbrev pub invariant-copy::copy_pairs-loop-pair : goal.invariant-copy::copy_pairs-loop-pair
invariant-copy::copy_pairs-loop-pair l = l.made.items ≡ take l.pair-index l.pairs
