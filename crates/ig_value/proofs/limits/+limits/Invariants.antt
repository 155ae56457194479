use Rattle.std.proofs.Common.{take}
use Rattle.std.specs.List.{AllByRecursion}
use Rattle.ig_value.specs.Limits.{FitsTo}
use Rattle.ig_value.proofs.limits.+limits.Given as goal

abbrev pub invariant-values_fit-loop-value : goal.invariant-values_fit-loop-value
invariant-values_fit-loop-value l = AllByRecursion (FitsTo l.levels) (take l.value-index l.values)

abbrev pub invariant-pairs_fit-loop-pair : goal.invariant-pairs_fit-loop-pair
invariant-pairs_fit-loop-pair l = AllByRecursion (λ p. FitsTo l.levels p.0 × FitsTo l.levels p.1) (take l.pair-index l.pairs)
