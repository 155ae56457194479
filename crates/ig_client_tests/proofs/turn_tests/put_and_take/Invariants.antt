use Rattle.ig_turn.specs.History.{IsOf}
use Rattle.ig_client_tests.proofs.turn_tests.put_and_take.Given as goal

abbrev pub invariant-loop : goal.invariant-loop
invariant-loop g l = IsOf l.turn l.seat
