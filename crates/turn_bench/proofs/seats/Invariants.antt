use Rattle.std.proofs.Common.{All}
use Rattle.ig_turn.specs.History.{IsOf}
use Rattle.turn_bench.proofs.seats.Given as goal

abbrev pub invariant-loop : goal.invariant-loop
invariant-loop g l = IsOf l.turn l.seat × All (IsOf l.turn) l.seats.items
