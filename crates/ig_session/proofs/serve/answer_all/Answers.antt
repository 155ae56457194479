use Rattle.std.proofs.Common.{◌≡◌, ◌∙◌, ℕ, Err, refl, sym, ap, subst}
use Rattle.std.proofs.lemmas.Result.{err_from_is_err_and}
use Rattle.ig_deals.specs.declared.end.SessionEnd.{SessionEnd}
use Rattle.ig_deals.specs.Deals.{entry_of}
use Rattle.ig_session.specs.declared.step.Step.{Step}
use Rattle.ig_session.specs.Histories.{StandsOn}
use Rattle.ig_session.specs.States.{State}
use Rattle.ig_session.specs.Steps.{next_step}
use Rattle.ig_session.specs.Serving.{AnswersAll}
use Rattle.ig_session.proofs.ProgressLemmas.{out_step, out_less, run_less}
use Rattle.ig_session.proofs.SinceLemmas.{since_start}
use Rattle.ig_session.proofs.AnswerAllLemmas.{since_lack, since_stop, since_more, since_written, since_unwritten, since_answered, since_lost}
use Rattle.ig_session.proofs.serve.answer_all.Goals as goal

pub steps-init : goal.steps-init
steps-init g c = record {
  since = since_start g.C.Caller.stands (g.C.Caller.seat c.args.caller.now) c.args.caller.now c.args.session.now (g.K.Sink.sink c.args.sink.now);
  seat = refl;
  lent = refl;
  kept = refl;
  beside = refl;
  none = c.requires.none;
}

pub returns-in-Err-clause-answers : goal.returns-in-Err-clause-answers
returns-in-Err-clause-answers g c = since_lack g.C.Caller.stands (g.C.Caller.seat c.args.caller.now) c.args.caller.now c.steps.caller c.args.session.now c.steps.session (g.K.Sink.sink c.args.sink.now) (g.K.Sink.sink c.steps.sink) c.steps.invariant.since
    c.next_request.new.self c.in-Err.ensures.err

pub returns-in-Ok-Stop-clause-answers : goal.returns-in-Ok-Stop-clause-answers
returns-in-Ok-Stop-clause-answers g c = since_stop g.C.Caller.stands (g.C.Caller.seat c.args.caller.now) c.args.caller.now c.steps.caller c.args.session.now c.steps.session (g.K.Sink.sink c.args.sink.now) (g.K.Sink.sink c.steps.sink) c.steps.invariant.since
    c.next_request.new.self c.in-Ok-Stop.end c.next_request.ensures.sound (subst (λ (x : Step). (x, c.next_request.new.self) ≡ next_step c.steps.session) c.in-Ok-Stop.field-0-is c.in-Ok-Stop.ensures.ok)

pub returns-in-Ok-More-clause-answers : goal.returns-in-Ok-More-clause-answers
returns-in-Ok-More-clause-answers g c = since_more g.C.Caller.stands (g.C.Caller.seat c.args.caller.now) c.args.caller.now c.steps.caller c.args.session.now c.steps.session (g.K.Sink.sink c.args.sink.now) (g.K.Sink.sink c.steps.sink) c.steps.invariant.since
    tt c.next_request.new.self c.in-Ok-More.field-0-0 c.next_request.ensures.sound c.steps.invariant.none (subst (λ (x : Step). (x, c.next_request.new.self) ≡ next_step c.steps.session) c.in-Ok-More.field-0-is c.in-Ok-More.ensures.ok)

pub steps-smaller-in-Continue-1 : goal.steps-smaller-in-Continue-1
steps-smaller-in-Continue-1 g c = out_less c.steps.session c.next_request.new.self c.send_waiting.new.session (subst (λ (x : Step). (x, c.next_request.new.self) ≡ next_step c.steps.session) c.in-Ok-Out.field-0-is c.in-Ok-Out.ensures.ok) c.in_ok-send_waiting-in-Ok-Out.ensures.sends.2

pub steps-preserved-in-Continue-1 : goal.steps-preserved-in-Continue-1
steps-preserved-in-Continue-1 g c = record {
  since = since_written g.C.Caller.stands (g.C.Caller.seat c.args.caller.now) c.args.caller.now c.steps.caller c.args.session.now c.steps.session (g.K.Sink.sink c.args.sink.now) (g.K.Sink.sink c.steps.sink) c.steps.invariant.since
      c.in_ok-send_waiting-in-Ok-Out.field-0 c.next_request.new.self c.send_waiting.new.session (g.K.Sink.sink c.send_waiting.new.sink) c.next_request.ensures.sound (subst (λ (x : Step). (x, c.next_request.new.self) ≡ next_step c.steps.session) c.in-Ok-Out.field-0-is c.in-Ok-Out.ensures.ok) c.in_ok-send_waiting-in-Ok-Out.ensures.sends;
  seat = c.steps.invariant.seat;
  lent = c.steps.invariant.lent;
  kept = c.steps.invariant.kept;
  beside = c.send_waiting.ensures.beside ∙ c.steps.invariant.beside;
  none = ap (λ (s : State). s.out) c.in_ok-send_waiting-in-Ok-Out.ensures.sends.2
      ∙ (out_step c.steps.session c.next_request.new.self (subst (λ (x : Step). (x, c.next_request.new.self) ≡ next_step c.steps.session) c.in-Ok-Out.field-0-is c.in-Ok-Out.ensures.ok)).out ∙ c.steps.invariant.none;
}

pub returns-in_err-send_waiting-in-Ok-Out-clause-answers : goal.returns-in_err-send_waiting-in-Ok-Out-clause-answers
returns-in_err-send_waiting-in-Ok-Out-clause-answers g c =
    let p = err_from_is_err_and c.from_residual.result c.from_residual.ensures.1 in
    rw (p.1, p.2) (since_unwritten g.C.Caller.stands (g.C.Caller.seat c.args.caller.now) c.args.caller.now c.steps.caller c.args.session.now c.steps.session (g.K.Sink.sink c.args.sink.now) (g.K.Sink.sink c.steps.sink) c.steps.invariant.since
    c.next_request.new.self c.send_waiting.new.session (g.K.Sink.sink c.send_waiting.new.sink) c.in_err-send_waiting-in-Ok-Out.field-0.0 c.next_request.ensures.sound (subst (λ (x : Step). (x, c.next_request.new.self) ≡ next_step c.steps.session) c.in-Ok-Out.field-0-is c.in-Ok-Out.ensures.ok) c.in_err-send_waiting-in-Ok-Out.ensures.sends)

pub steps-smaller : goal.steps-smaller
steps-smaller g c =
    let ran = c.in_ok-run_call-in-Ok-Run.ensures.runs in
    (run_less c.steps.session c.next_request.new.self c.run_call.new.session c.in-Ok-Run.call ran.0 c.steps.invariant.none (subst (λ (x : Step). (x, c.next_request.new.self) ≡ next_step c.steps.session) c.in-Ok-Run.field-0-is c.in-Ok-Run.ensures.ok) ran.2).0

pub steps-preserved : goal.steps-preserved
steps-preserved g c =
    let ran = c.in_ok-run_call-in-Ok-Run.ensures.runs in
    record {
      since = since_answered g.C.Caller.stands (g.C.Caller.seat c.args.caller.now) c.args.caller.now c.steps.caller c.args.session.now c.steps.session (g.K.Sink.sink c.args.sink.now) (g.K.Sink.sink c.steps.sink) c.steps.invariant.since
          c.run_call.new.caller c.next_request.new.self c.run_call.new.session c.in-Ok-Run.call ran.0 c.next_request.ensures.sound c.steps.invariant.none (subst (λ (x : Step). (x, c.next_request.new.self) ≡ next_step c.steps.session) c.in-Ok-Run.field-0-is c.in-Ok-Run.ensures.ok)
          (subst (λ (n : ℕ). StandsOn g.C.Caller.stands c.steps.caller c.run_call.new.caller (entry_of n c.in-Ok-Run.call ran.0)) c.steps.invariant.seat ran.1) ran.2;
      seat = c.run_call.ensures.seat ∙ c.steps.invariant.seat;
      lent = c.run_call.ensures.lent ∙ c.steps.invariant.lent;
      kept = c.run_call.ensures.kept ∙ c.steps.invariant.kept;
      beside = c.steps.invariant.beside;
      none = (run_less c.steps.session c.next_request.new.self c.run_call.new.session c.in-Ok-Run.call ran.0 c.steps.invariant.none (subst (λ (x : Step). (x, c.next_request.new.self) ≡ next_step c.steps.session) c.in-Ok-Run.field-0-is c.in-Ok-Run.ensures.ok) ran.2).1;
    }

pub returns-in_err-run_call-in-Ok-Run-clause-answers : goal.returns-in_err-run_call-in-Ok-Run-clause-answers
returns-in_err-run_call-in-Ok-Run-clause-answers g c =
    let ran = c.in_err-run_call-in-Ok-Run.ensures.runs in
    let p = err_from_is_err_and c.from_residual-in_err-run_call-in-Ok-Run.result c.from_residual-in_err-run_call-in-Ok-Run.ensures.1 in
    rw (p.1, p.2) (subst (λ (x : SessionEnd). AnswersAll g.C.Caller.stands (g.C.Caller.seat c.args.caller.now) c.args.caller.now c.run_call.new.caller c.args.session.now c.run_call.new.session (g.K.Sink.sink c.args.sink.now) (g.K.Sink.sink c.steps.sink) (Err x)) (sym ran.2.0)
    (since_lost g.C.Caller.stands (g.C.Caller.seat c.args.caller.now) c.args.caller.now c.steps.caller c.args.session.now c.steps.session (g.K.Sink.sink c.args.sink.now) (g.K.Sink.sink c.steps.sink) c.steps.invariant.since
    c.run_call.new.caller c.next_request.new.self c.run_call.new.session c.in-Ok-Run.call ran.0 c.next_request.ensures.sound (subst (λ (x : Step). (x, c.next_request.new.self) ≡ next_step c.steps.session) c.in-Ok-Run.field-0-is c.in-Ok-Run.ensures.ok)
    (subst (λ (n : ℕ). StandsOn g.C.Caller.stands c.steps.caller c.run_call.new.caller (entry_of n c.in-Ok-Run.call ran.0)) c.steps.invariant.seat ran.1) ran.2.1))
