use Rattle.std.proofs.Common.{vec_len, All}
use Rattle.ig_turn.specs.History.{IsOf}
use Rattle.ig_turn.proofs.tests.join_all.Given as goal

abbrev pub invariant-loop-other : goal.invariant-loop-other
invariant-loop-other l = IsOf l.turn l.seat × All (λ w. IsOf l.turn w.seat) l.workers.items

abbrev pub decreases-loop-other : goal.decreases-loop-other
decreases-loop-other l = vec_len l.workers
