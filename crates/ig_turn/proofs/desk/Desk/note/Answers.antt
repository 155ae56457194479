use Rattle.std.proofs.Common.{rules}
use Rattle.ig_turn.proofs.SeatLemmas.{splits_note}
use Rattle.ig_turn.proofs.desk.Desk.note.Goals as goal

pub split_seat-requires : goal.split_seat-requires
split_seat-requires g c = (search rules, search rules, splits_note _ _ _ _)
