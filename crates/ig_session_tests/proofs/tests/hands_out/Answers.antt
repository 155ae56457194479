use Rattle.std.proofs.Common.{◌≡◌, ℕ, eqb-true, subst}
use Rattle.std.specs.Prelude.{IsSome}
use Rattle.ig_session.specs.declared.step.Ahead.{Ahead}
use Rattle.ig_session.specs.Awaiting.{awaited_at}
use Rattle.ig_session.specs.StepsAhead.{step_ahead}
use Rattle.ig_session_tests.proofs.TestLemmas.{ahead_stays, ahead_hands}
use Rattle.ig_session_tests.proofs.tests.hands_out.Goals as goal

pub returns-in_default-clause-others : goal.returns-in_default-clause-others
returns-in_default-clause-others c = ahead_stays 4 c.args.session.now c.ahead.new.self c.in_ok-next.field-0 c.in_ok-next.ensures.ok

pub returns-clause-is_out : goal.returns-clause-is_out
returns-clause-is_out c = λ yes. subst (λ (n : ℕ). IsSome (awaited_at c.ahead.new.self.out n)) (eqb-true c.in-Run.next c.args.nth yes)
    (ahead_hands 4 c.args.session.now c.ahead.new.self c.in-Run.next c.in-Run.call
    (subst (λ (x : Ahead). (x, c.ahead.new.self) ≡ step_ahead 4 c.args.session.now) c.in-Run.is c.in_ok-next.ensures.ok))

pub returns-clause-others : goal.returns-clause-others
returns-clause-others c = ahead_stays 4 c.args.session.now c.ahead.new.self c.in_ok-next.field-0 c.in_ok-next.ensures.ok
