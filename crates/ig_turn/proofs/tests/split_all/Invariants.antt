use Rattle.std.proofs.Common.{All}
use Rattle.ig_turn.specs.History.{IsOf}
use Rattle.ig_turn.proofs.tests.split_all.Given as goal

abbrev pub invariant-loop : goal.invariant-loop
invariant-loop g l = IsOf l.turn l.seat × All (λ w. IsOf l.turn w.seat) l.workers.items
