-- What contracts see of a turn and of a seat.
use Rattle.std.specs.Prelude.{ℕ, List}
use Rattle.atomic_table.specs.Seated.{TableId}
use Rattle.ig_base.specs.declared.entry.Entry.{Entry}
use Rattle.ig_turn.specs.declared.view.Ended.{Ended}

-- which table the turn is, and what the object was when its history began
pub record TurnState (X : Type 0) : Type 0 where
  pub table : TableId
  pub start : X

-- Of a seat: the turn's table and start, its number, the prefix of the history that it has seen, its own entries in order,
-- the seats that were joined into it with their entries, and the numbers of the seats that were split off it or off one of those
pub record SeatState (X A G : Type 0) : Type 0 where
  pub table : TableId
  pub start : X
  pub number : ℕ
  pub seen : List (Entry A G)
  pub own : List (Entry A G)
  pub ended : List (Ended A G)
  pub born : List ℕ
