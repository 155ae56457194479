use Rattle.std.proofs.Common.{◌≡◌, ℤ, Some, Result, Ok, Err, sym, ap, subst, ◌∙◌, rules, to_z, of_z, w16, w64, FitsSigned}
use Rattle.ig_wire.specs.declared.ask.AskFault.{AskFault}
use Rattle.ig_wire.specs.Operations.{operation_at}
use Rattle.ig_fields.specs.AskAnswers.{AnswersAs}
use Rattle.ig_caches.specs.declared.request.Request.{Request}
use Rattle.ig_capture.proofs.AskLemmas.{head_in, row_none, row_later, row_served}
use Rattle.ig_capture.proofs.requests.read_request.Goals as goal

pub returns-in_default-clause-id : goal.returns-in_default-clause-id
returns-in_default-clause-id c =
    let same : to_z w64 (of_z w64 c.read_ask-code.result.1) ≡ c.read_ask-code.result.1 = search rules in
    let code : FitsSigned w16 c.read_ask-code.result.0 = search (rules, c.read_ask-code.type_inv) in
    let id : FitsSigned w64 c.read_ask-code.result.1 = search (rules, c.read_ask-code.type_inv) in
    same ∙ sym (head_in c.args.body.now c.read_ask-code.result.0 c.read_ask-code.result.1 code id c.read_ask-code.ensures.found).1

pub returns-in_default-clause-asked : goal.returns-in_default-clause-asked
returns-in_default-clause-asked c =
    let code : FitsSigned w16 c.read_ask-code.result.0 = search (rules, c.read_ask-code.type_inv) in
    let id : FitsSigned w64 c.read_ask-code.result.1 = search (rules, c.read_ask-code.type_inv) in
    row_none c.args.version c.args.body.now c.read_ask-code.result.0 (head_in c.args.body.now c.read_ask-code.result.0 c.read_ask-code.result.1 code id c.read_ask-code.ensures.found).0 (search (rules, c.of.ensures))

pub returns-then-not-is_up_to-clause-id : goal.returns-then-not-is_up_to-clause-id
returns-then-not-is_up_to-clause-id c =
    let same : to_z w64 (of_z w64 c.read_ask-code.result.1) ≡ c.read_ask-code.result.1 = search rules in
    let code : FitsSigned w16 c.read_ask-code.result.0 = search (rules, c.read_ask-code.type_inv) in
    let id : FitsSigned w64 c.read_ask-code.result.1 = search (rules, c.read_ask-code.type_inv) in
    same ∙ sym (head_in c.args.body.now c.read_ask-code.result.0 c.read_ask-code.result.1 code id c.read_ask-code.ensures.found).1

pub returns-then-not-is_up_to-clause-asked : goal.returns-then-not-is_up_to-clause-asked
returns-then-not-is_up_to-clause-asked c =
    let code : FitsSigned w16 c.read_ask-code.result.0 = search (rules, c.read_ask-code.type_inv) in
    let id : FitsSigned w64 c.read_ask-code.result.1 = search (rules, c.read_ask-code.type_inv) in
    row_later c.args.version c.args.body.now c.read_ask-code.result.0 c.in-Some.operation (head_in c.args.body.now c.read_ask-code.result.0 c.read_ask-code.result.1 code id c.read_ask-code.ensures.found).0 (search (rules, c.of.ensures, c.in-Some.is)) (search (rules, c.since.ensures, c.is_up_to.ensures, c.if-not-is_up_to.true))

pub returns-in-Ok-clause-id : goal.returns-in-Ok-clause-id
returns-in-Ok-clause-id c =
    let same : to_z w64 (of_z w64 c.read_ask-code.result.1) ≡ c.read_ask-code.result.1 = search rules in
    let code : FitsSigned w16 c.read_ask-code.result.0 = search (rules, c.read_ask-code.type_inv) in
    let id : FitsSigned w64 c.read_ask-code.result.1 = search (rules, c.read_ask-code.type_inv) in
    same ∙ sym (head_in c.args.body.now c.read_ask-code.result.0 c.read_ask-code.result.1 code id c.read_ask-code.ensures.found).1

pub returns-in-Ok-clause-operation : goal.returns-in-Ok-clause-operation
returns-in-Ok-clause-operation c =
    let code : FitsSigned w16 c.read_ask-code.result.0 = search (rules, c.read_ask-code.type_inv) in
    let id : FitsSigned w64 c.read_ask-code.result.1 = search (rules, c.read_ask-code.type_inv) in
    let here : operation_at c.read_ask-code.result.0 ≡ Some c.in-Some.operation = search (rules, c.of.ensures, c.in-Some.is) in
    sym (ap operation_at (head_in c.args.body.now c.read_ask-code.result.0 c.read_ask-code.result.1 code id c.read_ask-code.ensures.found).0 ∙ here)

pub returns-in-Ok-clause-asked : goal.returns-in-Ok-clause-asked
returns-in-Ok-clause-asked c =
    let code : FitsSigned w16 c.read_ask-code.result.0 = search (rules, c.read_ask-code.type_inv) in
    let id : FitsSigned w64 c.read_ask-code.result.1 = search (rules, c.read_ask-code.type_inv) in
    subst (λ (e : Result Request AskFault). AnswersAs e (Ok c.in-Ok.request))
    (sym (row_served c.args.version c.args.body.now c.read_ask-code.result.0 c.in-Some.operation (head_in c.args.body.now c.read_ask-code.result.0 c.read_ask-code.result.1 code id c.read_ask-code.ensures.found).0 (search (rules, c.of.ensures, c.in-Some.is)) (search (rules, c.since.ensures, c.is_up_to.ensures, c.if-not-is_up_to.false))))
    c.in-Ok.ensures.asked

pub returns-in-Err-clause-id : goal.returns-in-Err-clause-id
returns-in-Err-clause-id c =
    let same : to_z w64 (of_z w64 c.read_ask-code.result.1) ≡ c.read_ask-code.result.1 = search rules in
    let code : FitsSigned w16 c.read_ask-code.result.0 = search (rules, c.read_ask-code.type_inv) in
    let id : FitsSigned w64 c.read_ask-code.result.1 = search (rules, c.read_ask-code.type_inv) in
    same ∙ sym (head_in c.args.body.now c.read_ask-code.result.0 c.read_ask-code.result.1 code id c.read_ask-code.ensures.found).1

pub returns-in-Err-clause-asked : goal.returns-in-Err-clause-asked
returns-in-Err-clause-asked c =
    let code : FitsSigned w16 c.read_ask-code.result.0 = search (rules, c.read_ask-code.type_inv) in
    let id : FitsSigned w64 c.read_ask-code.result.1 = search (rules, c.read_ask-code.type_inv) in
    subst (λ (e : Result Request AskFault). AnswersAs e (Err c.in-Err.fault))
    (sym (row_served c.args.version c.args.body.now c.read_ask-code.result.0 c.in-Some.operation (head_in c.args.body.now c.read_ask-code.result.0 c.read_ask-code.result.1 code id c.read_ask-code.ensures.found).0 (search (rules, c.of.ensures, c.in-Some.is)) (search (rules, c.since.ensures, c.is_up_to.ensures, c.if-not-is_up_to.false))))
    c.in-Err.ensures.asked
