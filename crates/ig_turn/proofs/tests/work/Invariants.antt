use Rattle.ig_turn.specs.History.{IsOf}
use Rattle.ig_turn.proofs.tests.work.Given as goal

abbrev pub invariant-loop-i : goal.invariant-loop-i
invariant-loop-i g l = IsOf l.turn l.worked.seat
