use Rattle.std.proofs.Common.{rules, ap, ◌∙◌}
use Rattle.ig_turn.proofs.SeatLemmas.{splits_seat}
use Rattle.ig_turn.proofs.WholeLemmas.{rest_split}
use Rattle.ig_turn.proofs.desk.Desk.split.Goals as goal

pub split_seat-fresh-requires : goal.split_seat-fresh-requires
split_seat-fresh-requires g c = let me = c.draw_number-number.ensures.drawn in
    (search rules, search rules, splits_seat _ _ _ c.draw_number-number.result _ (ap (λ m. m.0.drawn) me) (ap (λ m. m.0.live) me ∙ c.requires.rest.live))

pub returns-clause-rest : goal.returns-clause-rest
returns-clause-rest g c = let drawn = c.draw_number-number.ensures in
    rest_split _ c.args.place.now.me.0 _ _ c.draw_number-number.result (search rules) (search rules) drawn.above.0 drawn.unused c.requires.rest
