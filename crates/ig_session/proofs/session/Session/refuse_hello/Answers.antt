use Rattle.std.proofs.Common.{Err, sym, subst, ◌∙◌, ap}
use Rattle.ig_session.specs.States.{State}
use Rattle.ig_session.specs.Soundness.{IsSound}
use Rattle.ig_session.specs.Steps.{greeting_frame}
use Rattle.ig_session.proofs.ChangeLemmas.{refused_is, refused_sound, hello_first}
use Rattle.ig_session.proofs.HelloFrameLemmas.{frame_some}
use Rattle.ig_session.proofs.session.Session.refuse_hello.Goals as goal

pub greet-requires-clause-none : goal.greet-requires-clause-none
greet-requires-clause-none c = hello_first _ c.args.self.now c.requires.0 (c.self-2.view_is ∙ c.pass.ensures) c.requires.1

pub greet-requires-clause-some : goal.greet-requires-clause-some
greet-requires-clause-some c = frame_some _ c.in_ok-frame.frame c.in_ok-frame.ensures.frame

pub invariant_of-self : goal.invariant_of-self
invariant_of-self c =
    subst IsSound (sym (refused_is _ c.args.self.now c.args.fault c.in_ok-frame.frame c.greet.new.self (c.self-2.view_is ∙ c.pass.ensures)
    (c.in_ok-frame.ensures.frame ∙ ap (λ (s : State). greeting_frame s.cfg (Err c.args.fault)) c.self.view_is) c.greet.ensures))
    (refused_sound c.args.self.now c.requires.0 c.args.fault c.requires.1 (subst IsSound c.self.view_is c.self.invariant))

pub returns-clause-ok : goal.returns-clause-ok
returns-clause-ok c = refused_is _ c.args.self.now c.args.fault c.in_ok-frame.frame c.greet.new.self (c.self-2.view_is ∙ c.pass.ensures)
    (c.in_ok-frame.ensures.frame ∙ ap (λ (s : State). greeting_frame s.cfg (Err c.args.fault)) c.self.view_is) c.greet.ensures
