use Rattle.std.proofs.Common.{List, sym, subst}
use Rattle.std.specs.Prelude.{IsSome}
use Rattle.ig_session.specs.declared.awaited.Awaited.{Awaited}
use Rattle.ig_session.specs.Awaiting.{awaited_at}
use Rattle.ig_session_tests.proofs.TestLemmas.{answered_stays}
use Rattle.ig_session_tests.proofs.tests.answer.Goals as goal

pub returns : goal.returns
returns c = λ n other some. subst (λ (out : List Awaited). IsSome (awaited_at out n)) (sym c.write.ensures)
    (answered_stays c.args.session.now c.answer_nth.new.self c.args.nth _ c.in_ok-answer_nth.ensures.ok n other some)
