use Rattle.std.proofs.Common.{sym, subst, ◌∙◌, ap}
use Rattle.ig_session.specs.States.{State}
use Rattle.ig_session.specs.Soundness.{IsSound}
use Rattle.ig_session.specs.Steps.{acceptance_frame}
use Rattle.ig_session.proofs.ChangeLemmas.{opened_is, opened_sound, hello_first}
use Rattle.ig_session.proofs.HelloFrameLemmas.{frame_some}
use Rattle.ig_session.proofs.session.Session.open.Goals as goal

pub greet-requires-clause-none : goal.greet-requires-clause-none
greet-requires-clause-none c = hello_first _ c.args.self.now c.requires.hello.0 (c.self-2.view_is ∙ c.pass.ensures) c.requires.hello.1

pub greet-requires-clause-some : goal.greet-requires-clause-some
greet-requires-clause-some c = frame_some _ c.in_ok-frame.frame c.in_ok-frame.ensures.frame

pub invariant_of-self : goal.invariant_of-self
invariant_of-self c =
    subst IsSound (sym (opened_is _ c.args.self.now c.args.version c.args.manner c.in_ok-frame.frame c.greet.new.self (c.self-2.view_is ∙ c.pass.ensures)
    (c.in_ok-frame.ensures.frame ∙ ap (λ (s : State). acceptance_frame s.cfg c.args.version) c.self.view_is) c.greet.ensures))
    (opened_sound c.args.self.now c.args.version c.args.manner c.requires.telling (subst IsSound c.self.view_is c.self.invariant))

pub returns-clause-ok : goal.returns-clause-ok
returns-clause-ok c = opened_is _ c.args.self.now c.args.version c.args.manner c.in_ok-frame.frame c.greet.new.self (c.self-2.view_is ∙ c.pass.ensures)
    (c.in_ok-frame.ensures.frame ∙ ap (λ (s : State). acceptance_frame s.cfg c.args.version) c.self.view_is) c.greet.ensures
