use Rattle.std.proofs.Common.{rules, ap, ◌∙◌}
use Rattle.ig_turn.proofs.SeatLemmas.{joins_seat, settles_it}
use Rattle.ig_turn.proofs.WholeLemmas.{keeps_both}
use Rattle.ig_turn.proofs.desk.Desk.join.Goals as goal

pub join_seat-requires : goal.join_seat-requires
join_seat-requires g c = let rest = c.requires.rest in
    (search rules, search rules, search rules, search rules, joins_seat _ _ _ _ _ _ _ rest.0.none_drawn rest.0.live rest.1.idle rest.1.none_drawn rest.1.live)

pub load-requires : goal.load-requires
load-requires g c = let rest = c.requires.rest.0 in let me = c.join_seat.ensures.2 in
    (search rules, search rules, settles_it _ _ _ _ _ _ (ap (λ m. m.0.drawn) me ∙ rest.none_drawn) (ap (λ m. m.0.live) me ∙ rest.live))

pub returns-clause-whole : goal.returns-clause-whole
returns-clause-whole g c = let rest = c.requires.rest in
    c.load.ensures.2.2 (keeps_both _ _ c.args.place.now.me.0 c.args.other.me.0 c.join_seat.ensures.2 rest.0.whole rest.1.whole)
