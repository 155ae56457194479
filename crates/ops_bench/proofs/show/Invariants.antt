use Rattle.std.specs.Prelude.{pos, Some}
use Rattle.ig_ops.specs.PageMarks.{IsPageMark}
use Rattle.ops_bench.proofs.show.Given as goal

abbrev pub invariant-loop-count : goal.invariant-loop-count
invariant-loop-count g l = IsPageMark (Some (pos 1)) l.rows l.mark
