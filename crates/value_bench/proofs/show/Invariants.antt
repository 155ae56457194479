use Rattle.ig_encode.specs.Marks.{IsMarkOf}
use Rattle.value_bench.proofs.show.Given as goal

abbrev pub invariant-loop : goal.invariant-loop
invariant-loop g l = IsMarkOf l.value l.mark
