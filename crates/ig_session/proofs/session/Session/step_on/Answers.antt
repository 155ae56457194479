use Rattle.std.proofs.Common.{◌≡◌, ℤ, Option, Ok, Err, sym, ap, ◌∙◌, subst, refl, rules, to_z, of_z, w64}
use Rattle.ig_caches.specs.declared.call.Call.{Call}
use Rattle.ig_session.specs.Comings.{Greets, Asks}
use Rattle.ig_session.specs.Requests.{asked_said, coming_said, IsServable}
use Rattle.ig_session.specs.States.{State}
use Rattle.ig_session.specs.Steps.{Takes}
use Rattle.ig_session.specs.StepsAhead.{step_on}
use Rattle.ig_session.proofs.NextLemmas.{silent_crew, opened_on, refused_on, run_on, out_on}
use Rattle.ig_session.proofs.ReplyLemmas.{hello_alone, request_alone, comes_of, on_err}
use Rattle.ig_session.proofs.session.Session.step_on.Goals as goal

pub open-requires-clause-hello : goal.open-requires-clause-hello
open-requires-clause-hello c = (c.in-Greets-Ok.field-0, sym (ap coming_said (sym c.in-Greets-Ok.is) ∙ c.requires.next))

pub open-requires-clause-telling : goal.open-requires-clause-telling
open-requires-clause-telling c = silent_crew c.in-Greets-Ok.hello.version c.of_crew.result c.of_crew.ensures

pub returns-in_err-open-in-Greets-Ok-clause-none : goal.returns-in_err-open-in-Greets-Ok-clause-none
returns-in_err-open-in-Greets-Ok-clause-none c =
    on_err c.from_residual.result (hello_alone c.args.self.now c.in-Greets-Ok.field-0 (ap coming_said (sym c.in-Greets-Ok.is) ∙ c.requires.next))

pub returns-in_ok-open-in-Greets-Ok-clause-ok : goal.returns-in_ok-open-in-Greets-Ok-clause-ok
returns-in_ok-open-in-Greets-Ok-clause-ok c =
    let same : c.in-Greets-Ok.field-0 ≡ Ok c.in-Greets-Ok.hello = search (rules, c.in-Greets-Ok.is, c.in-Greets-Ok.field-0-is) in
    opened_on c.args.self.now c.open.new.self c.in-Greets-Ok.hello c.of_crew.result c.of_crew.ensures c.in_ok-open-in-Greets-Ok.ensures.ok
    ∙ ap (step_on c.args.self.now) (ap Greets (sym same) ∙ ap coming_said (sym c.in-Greets-Ok.is))

pub refuse_hello-requires : goal.refuse_hello-requires
refuse_hello-requires c = (c.in-Greets-Err.field-0, sym (ap coming_said (sym c.in-Greets-Err.is) ∙ c.requires.next))

pub returns-in_err-refuse_hello-in-Greets-Err-clause-none : goal.returns-in_err-refuse_hello-in-Greets-Err-clause-none
returns-in_err-refuse_hello-in-Greets-Err-clause-none c =
    on_err c.from_residual-in_err-refuse_hello-in-Greets-Err.result
    (hello_alone c.args.self.now c.in-Greets-Err.field-0 (ap coming_said (sym c.in-Greets-Err.is) ∙ c.requires.next))

pub returns-in_ok-refuse_hello-in-Greets-Err-clause-ok : goal.returns-in_ok-refuse_hello-in-Greets-Err-clause-ok
returns-in_ok-refuse_hello-in-Greets-Err-clause-ok c =
    let same : c.in-Greets-Err.field-0 ≡ Err c.in-Greets-Err.fault = search (rules, c.in-Greets-Err.is, c.in-Greets-Err.field-0-is) in
    refused_on c.args.self.now c.refuse_hello.new.self c.in-Greets-Err.fault c.in_ok-refuse_hello-in-Greets-Err.ensures.ok
    ∙ ap (step_on c.args.self.now) (ap Greets (sym same) ∙ ap coming_said (sym c.in-Greets-Err.is))

pub take-requires : goal.take-requires
take-requires c =
    let id : to_z w64 (of_z w64 c.in-Asks.id) ≡ c.in-Asks.id = search rules in
    comes_of c.args.self.now c.in-Asks.terms c.in-Asks.id (to_z w64 (of_z w64 c.in-Asks.id)) c.in-Asks.asked c.in-Asks.asked id refl
    (record { comes = sym (ap coming_said (sym c.in-Asks.is) ∙ c.requires.next); serves = subst IsServable c.in-Asks.is c.requires.servable })

pub returns-in_err-call-in-Asks-clause-none : goal.returns-in_err-call-in-Asks-clause-none
returns-in_err-call-in-Asks-clause-none c =
    on_err c.from_residual-in_err-call-in-Asks.result
    (request_alone c.args.self.now c.in-Asks.terms (asked_said c.in-Asks.id c.in-Asks.asked) (sym (ap coming_said (sym c.in-Asks.is) ∙ c.requires.next)))

pub returns-in-Some-clause-ok : goal.returns-in-Some-clause-ok
returns-in-Some-clause-ok c =
    let id : to_z w64 (of_z w64 c.in-Asks.id) ≡ c.in-Asks.id = search rules in
    run_on c.args.self.now c.take.new.self c.self.inside.handed c.in-Asks.terms (asked_said (to_z w64 (of_z w64 c.in-Asks.id)) c.in-Asks.asked) c.in-Some.call (ap (λ (s : State). s.handed) c.self.view_is)
    (subst (λ (o : Option Call). Takes c.in-Asks.terms (asked_said (to_z w64 (of_z w64 c.in-Asks.id)) c.in-Asks.asked) o c.args.self.now c.take.new.self) c.in-Some.is c.in_ok-call-in-Asks.ensures.ok)
    ∙ ap (step_on c.args.self.now) (ap (λ (i : ℤ). Asks c.in-Asks.terms (asked_said i c.in-Asks.asked)) id ∙ ap coming_said (sym c.in-Asks.is))

pub returns-in-None-clause-ok : goal.returns-in-None-clause-ok
returns-in-None-clause-ok c =
    let id : to_z w64 (of_z w64 c.in-Asks.id) ≡ c.in-Asks.id = search rules in
    out_on c.args.self.now c.take.new.self c.in-Asks.terms (asked_said (to_z w64 (of_z w64 c.in-Asks.id)) c.in-Asks.asked)
    (subst (λ (o : Option Call). Takes c.in-Asks.terms (asked_said (to_z w64 (of_z w64 c.in-Asks.id)) c.in-Asks.asked) o c.args.self.now c.take.new.self) c.in-None.is c.in_ok-call-in-Asks.ensures.ok)
    ∙ ap (step_on c.args.self.now) (ap (λ (i : ℤ). Asks c.in-Asks.terms (asked_said i c.in-Asks.asked)) id ∙ ap coming_said (sym c.in-Asks.is))
