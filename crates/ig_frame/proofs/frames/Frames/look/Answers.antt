use Rattle.ig_frame.proofs.StreamLemmas.{looked}
use Rattle.ig_frame.proofs.frames.Frames.look.Goals as goal

pub returns-in-Body : goal.returns-in-Body
returns-in-Body c = looked c.args.least _ _ _ c.in-Body.len _ _ _ c.self.view_is c.deref.ensures.value c.in-Body.ensures
