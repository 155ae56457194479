use Rattle.std.proofs.Common.{◌≡◌, [], ◌∷◌, ◌++◌, subst}
use Rattle.ig_turn.specs.SeatState.{SeatState}
use Rattle.ig_turn.specs.History.{HasJoinedAll, entry}
use Rattle.ig_turn.proofs.WholeLemmas.{next_call, both_if_ok}
use Rattle.ig_turn.proofs.turn.Turn.run.Goals as goal

pub returns-clause-next : goal.returns-clause-next
returns-clause-next g c = both_if_ok c.call.result _ _ _
    (λ got adds whole. subst (λ (s : SeatState g.row.O-Start.Denot g.row.O-AskData.Denot g.row.O-GotData.Denot). HasJoinedAll s → c.call.new.place.me.0.seen ≡ s.seen ++ entry s.number (g.O.Plain.ask_data c.args.ask) (g.O.Plain.got_data got) ∷ [])
    c.seat.view_is
    (λ each. next_call c.seat.inside.place.me.0 c.call.new.place.me.0 (g.O.Plain.ask_data c.args.ask) (g.O.Plain.got_data got) c.seat.invariant.2.whole whole.1 adds each))
    c.call.ensures.ok c.call.ensures.legal
