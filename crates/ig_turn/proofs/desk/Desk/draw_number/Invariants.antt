use Rattle.std.proofs.Common.{◌≡◌}
use Rattle.ig_turn.proofs.desk.Desk.draw_number.Given as goal

-- nothing was drawn yet
abbrev pub invariant-loop : goal.invariant-loop
invariant-loop g l = record {
  table : l.place.table_id ≡ l.initial.place.table_id;
  me : l.place.me ≡ l.initial.place.me;
}
