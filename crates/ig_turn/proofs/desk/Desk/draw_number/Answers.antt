use Rattle.std.proofs.Common.{rules, refl}
use Rattle.ig_turn.proofs.SeatLemmas.{draws_it}
use Rattle.ig_turn.proofs.desk.Desk.draw_number.Goals as goal

pub compare_exchange-found-requires : goal.compare_exchange-found-requires
compare_exchange-found-requires g c = (search rules, search rules, draws_it _ _ _ _ _ _ _ (search rules) (search rules) refl (search rules))
