use Rattle.ig_session_tests.proofs.TestLemmas.{ahead_stays}
use Rattle.ig_session_tests.proofs.tests.answers.Goals as goal

pub returns : goal.returns
returns c = ahead_stays 4 c.args.session.now c.ahead.new.self c.in_ok-ahead.field-0 c.in_ok-ahead.ensures.ok
