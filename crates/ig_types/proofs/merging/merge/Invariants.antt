use Rattle.std.proofs.Common.{◌+◌, length}
use Rattle.ig_types.proofs.MergeLemmas.{IsLeft}
use Rattle.ig_types.proofs.merging.merge.Given as goal

-- what is left gives the rest of the answer
abbrev pub invariant-loop-x : goal.invariant-loop-x
invariant-loop-x g l = IsLeft g.M.Member.rank g.M.Member.same l.members.items l.xs l.ys l.fn.xs l.fn.ys

abbrev pub decreases-loop-x : goal.decreases-loop-x
decreases-loop-x g l = length l.xs + length l.ys
