use Rattle.std.proofs.Common.{ap, ◌∙◌}
use Rattle.ig_replies.specs.Showing.{piece_shown}
use Rattle.ig_session.specs.States.{State}
use Rattle.ig_session.proofs.HeldLemmas.{waiting_end}
use Rattle.ig_session.proofs.session.Session.waiting.Goals as goal

pub returns-clause-shown : goal.returns-clause-shown
returns-clause-shown c = c.waiting.ensures.shown ∙ ap (λ (s : State). piece_shown s.waiting) c.self.view_is

pub returns-clause-end : goal.returns-clause-end
returns-clause-end c = waiting_end _ _ c.self.view_is c.waiting.result.now c.self.invariant c.waiting.ensures.end
