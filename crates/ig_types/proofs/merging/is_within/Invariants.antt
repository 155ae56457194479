use Rattle.std.proofs.Common.{length}
use Rattle.ig_types.proofs.WithinLemmas.{IsAlike}
use Rattle.ig_types.proofs.merging.is_within.Given as goal

-- what is left decides
abbrev pub invariant-loop-x : goal.invariant-loop-x
invariant-loop-x g l = IsAlike g.M.Member.rank l.xs l.ys l.fn.xs l.fn.ys

abbrev pub decreases-loop-x : goal.decreases-loop-x
decreases-loop-x g l = length l.ys
