use Rattle.ig_session.proofs.HeldLemmas.{gone_is, gone_keeps, gone_within}
use Rattle.ig_session.proofs.session.Session.gone.Goals as goal

pub gone-requires : goal.gone-requires
gone-requires c = gone_within _ _ c.self.view_is c.args.count c.requires

pub invariant_of-self : goal.invariant_of-self
invariant_of-self c = gone_keeps _ _ c.self.view_is c.args.count c.gone.new.self c.gone.ensures c.self.invariant

pub returns : goal.returns
returns c = gone_is _ _ c.self.view_is c.args.count c.gone.new.self c.gone.ensures
