use Rattle.std.proofs.Common.{subst}
use Rattle.ig_session.specs.Soundness.{IsSound}
use Rattle.ig_session.proofs.session.Session.sound_now.Goals as goal

pub returns : goal.returns
returns c = subst IsSound c.self.view_is c.self.invariant
