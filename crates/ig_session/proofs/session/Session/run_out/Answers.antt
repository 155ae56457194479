use Rattle.ig_session.specs.declared.phase.Phase.TheVariants.{OutOfMemory}
use Rattle.ig_session.proofs.HeldLemmas.{spent_is}
use Rattle.ig_session.proofs.SoundLemmas.{phase_sound}
use Rattle.ig_session.proofs.session.Session.run_out.Goals as goal

pub invariant_of-self : goal.invariant_of-self
invariant_of-self g c = phase_sound _ OutOfMemory tt c.self.invariant

pub returns-clause-spent : goal.returns-clause-spent
returns-clause-spent g c = spent_is _ _ c.self.view_is
