use Rattle.std.proofs.Common.{◌∙◌, ap, subst}
use Rattle.ig_turn.specs.History.{joined_with, IsLonger}
use Rattle.ig_turn.proofs.TwoCallsLemmas.{two_calls}
use Rattle.ig_turn.proofs.tests.put_and_get.Goals as goal

pub returns-clause-seen : goal.returns-clause-seen
returns-clause-seen g c = let teller = c.meet.ensures.teller in let joined = c.join.ensures in
    (two_calls c.args.turn.now _ c.run.new.seat _ c.meet.new.learner c.run-2.new.seat c.join.new.seat c.args.b.number _ _ c.in-Ok.put c.in-Ok-run.got c.requires.a c.requires.b.0 c.requires.b.1
    c.in-Ok.ensures.ok c.meet.ensures.learner c.meet.ensures.seen c.in-Ok-run.ensures.ok
    (joined.seat ∙ ap (λ s. joined_with s c.run-2.new.seat c.join.new.seat.seen) teller)
    (subst (λ l. IsLonger l c.run-2.new.seat.seen c.join.new.seat.seen) (ap (λ s. s.seen) teller) joined.seen) joined.whole).0
