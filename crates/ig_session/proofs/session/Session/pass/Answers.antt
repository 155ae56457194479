use Rattle.ig_session.proofs.HeldLemmas.{passed_is, passed_keeps}
use Rattle.ig_session.proofs.session.Session.pass.Goals as goal

pub invariant_of-self : goal.invariant_of-self
invariant_of-self c = passed_keeps _ _ c.self.view_is c.least.result c.pass.new.self c.least.ensures c.pass.ensures c.self.invariant

pub returns : goal.returns
returns c = passed_is _ _ c.self.view_is c.least.result c.pass.new.self c.least.ensures c.pass.ensures
