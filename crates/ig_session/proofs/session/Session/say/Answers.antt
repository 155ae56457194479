use Rattle.std.proofs.Common.{ap, ◌∙◌}
use Rattle.ig_session.specs.Steps.{passed}
use Rattle.ig_session.proofs.ReplyLemmas.{ok_of}
use Rattle.ig_session.proofs.session.Session.say.Goals as goal

pub returns : goal.returns
returns c = c.pass.ensures ∙ ap passed (ok_of c.show.result tt (c.show.ensures.first c.requires.none) c.show.ensures.ok)
