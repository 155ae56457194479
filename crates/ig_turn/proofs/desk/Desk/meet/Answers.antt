use Rattle.std.proofs.Common.{rules, ap, ◌∙◌}
use Rattle.ig_turn.proofs.SeatLemmas.{joins_note, settles_it}
use Rattle.ig_turn.proofs.WholeLemmas.{keeps_own}
use Rattle.ig_turn.proofs.desk.Desk.meet.Goals as goal

pub join_seat-requires : goal.join_seat-requires
join_seat-requires g c = let note = c.note-note.ensures.note in
    (search rules, search rules, search rules, search rules, joins_note _ _ _ _ _ _ _ (ap (λ m. m.0.stage) note) (ap (λ m. m.0.drawn) note) (ap (λ m. m.0.live) note))

pub load-requires : goal.load-requires
load-requires g c = let rest = c.requires.rest in let me = c.join_seat.ensures.2 in
    (search rules, search rules, settles_it _ _ _ _ _ _ (ap (λ m. m.0.drawn) me ∙ rest.none_drawn) (ap (λ m. m.0.live) me ∙ rest.live))

pub returns-clause-whole : goal.returns-clause-whole
returns-clause-whole g c = c.load.ensures.2.2 (keeps_own _ _ c.args.learner.now.me.0 c.note-note.result.me.0 c.join_seat.ensures.2 c.requires.rest.whole)
