use Rattle.ig_base.specs.Frames.{Body, Bad}
use Rattle.ig_session.proofs.HeldLemmas.{truncated_more, truncated_never}
use Rattle.ig_session.proofs.session.Session.truncated.Goals as goal

pub returns-in-More : goal.returns-in-More
returns-in-More c = λ missing comes. truncated_more _ _ c.self.view_is c.least.result c.in-More.missing missing c.least.ensures c.in-More.ensures comes

pub returns-in-Bad : goal.returns-in-Bad
returns-in-Bad c = λ missing comes. truncated_never _ _ c.self.view_is c.least.result missing (Bad c.in-Bad.length) c.least.ensures c.in-Bad.ensures.1 (λ n e. cc) comes

pub returns-in-Frame : goal.returns-in-Frame
returns-in-Frame c = λ missing comes. truncated_never _ _ c.self.view_is c.least.result missing (Body c.in-Frame.body.now c.in-Frame.ensures.1.0) c.least.ensures c.in-Frame.ensures.1.1 (λ n e. cc) comes
