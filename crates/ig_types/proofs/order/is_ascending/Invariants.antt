use Rattle.std.proofs.Common.{length}
use Rattle.ig_types.proofs.AscendingLemmas.{Ascends}
use Rattle.ig_types.proofs.order.is_ascending.Given as goal

-- what is left decides
abbrev pub invariant-loop-next : goal.invariant-loop-next
invariant-loop-next g l = Ascends g.M.Member.rank l.last l.rest l.members

abbrev pub decreases-loop-next : goal.decreases-loop-next
decreases-loop-next g l = length l.rest
