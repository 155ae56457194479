use Rattle.std.proofs.Common.{sym, ap, ◌∙◌}
use Rattle.ig_turn.proofs.WholeLemmas.{numbers_differ}
use Rattle.ig_turn.proofs.turn.Turn.meet.Goals as goal

pub unreachable-requires : goal.unreachable-requires
unreachable-requires g c = numbers_differ _ _ c.learner.inside.place.me.0 c.replace-place.result.me.0 c.join.ensures.joined c.join.ensures.whole
    (sym c.learner.invariant.0 ∙ (sym c.if-teller-learner.true ∙ (c.teller.invariant.0 ∙ (ap (λ m. m.0.number) (sym c.note-note.ensures.left) ∙ ap (λ p. p.me.0.number) (sym c.replace-place.ensures.value)))))
