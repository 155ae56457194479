use Rattle.ig_session_tests.proofs.TestLemmas.{answered_none}
use Rattle.ig_session_tests.proofs.tests.run.Goals as goal

pub returns-then-lacks : goal.returns-then-lacks
returns-then-lacks c = answered_none c.args.session.now c.answer.new.self _ c.answer.result c.requires.out c.answer.ensures.ok

pub returns : goal.returns
returns c = answered_none c.args.session.now c.answer-2.new.self _ c.answer-2.result c.requires.out c.answer-2.ensures.ok
