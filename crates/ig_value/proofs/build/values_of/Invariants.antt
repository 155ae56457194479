use Rattle.std.proofs.Common.{◌≡◌, map}
use Rattle.ig_value.proofs.build.values_of.Given as goal

abbrev pub invariant-loop-value : goal.invariant-loop-value
invariant-loop-value l = l.values.items ≡ map (λ f. f.1) l.yielded
