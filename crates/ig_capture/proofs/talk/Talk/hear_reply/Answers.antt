use Rattle.std.proofs.Common.{◌≡◌, ◌∙◌, ℤ, Option, Some, None, [], ◌∷◌, ◌++◌, sym, ap, subst, drop, rules, to_z, of_z, w64}
use Rattle.ig_value.specs.Part.{i64}
use Rattle.ig_wire.specs.declared.operation.Operation.{Operation}
use Rattle.ig_wire.specs.Heads.{head_of}
use Rattle.ig_text.specs.Tokens.{scalar_text}
use Rattle.ig_lines.specs.Arguments.{space}
use Rattle.ig_capture.specs.Requests.{TakesFirst}
use Rattle.ig_capture.proofs.RequestLemmas.{not_some}
use Rattle.ig_capture.proofs.TurnLemmas.{reply_unread, reply_not_asked, reply_is_heard}
use Rattle.ig_capture.proofs.talk.Talk.hear_reply.Goals as goal

pub returns-in-Err : goal.returns-in-Err
returns-in-Err c = reply_unread c.args.self.now c.args.version c.args.place c.args.body.now c.in-Err.fault c.of.result c.args.self.now c.args.text.now c.in-Err.ensures c.of.ensures

pub returns-in_default : goal.returns-in_default
returns-in_default c =
    let same : to_z w64 (of_z w64 c.in-Ok.found.0.id) ≡ c.in-Ok.found.0.id = search rules in
    let takes : TakesFirst (to_z w64 (of_z w64 c.in-Ok.found.0.id)) c.self.inside.unanswered c.take.new.self c.in_ok-operation.field-0 = c.in_ok-operation.ensures in
    reply_not_asked _ _ _ c.self.view_is c.args.place c.args.body.now c.in-Ok.found.0 (drop c.in-Ok.found.1 c.args.body.now) (head_of c.args.version c.args.body.now) c.in-Ok.ensures.1 c.take.new.self
    (subst (λ (n : ℤ). TakesFirst n c.self.inside.unanswered c.take.new.self None) same
    (subst (λ (o : Option (Option Operation)). TakesFirst (to_z w64 (of_z w64 c.in-Ok.found.0.id)) c.self.inside.unanswered c.take.new.self o) (sym (not_some c.in_ok-operation.field-0 c.in_default.not-Some)) takes))

pub put_content-requires : goal.put_content-requires
put_content-requires c = c.in-Ok.ensures.0

pub returns : goal.returns
returns c =
    let same : to_z w64 (of_z w64 c.in-Ok.found.0.id) ≡ c.in-Ok.found.0.id = search rules in
    let takes : TakesFirst (to_z w64 (of_z w64 c.in-Ok.found.0.id)) c.self.inside.unanswered c.take.new.self c.in_ok-operation.field-0 = c.in_ok-operation.ensures in
    reply_is_heard _ _ _ c.self.view_is c.args.place c.args.body.now c.in-Ok.found.0 (drop c.in-Ok.found.1 c.args.body.now) (head_of c.args.version c.args.body.now) c.in-Ok.ensures.1 c.take.new.self
    c.in-Some.operation c.args.text.now c.put_id.new.out c.put_told.new.text c.put_content.new.text c.put_content.result
    (subst (λ (n : ℤ). TakesFirst n c.self.inside.unanswered c.take.new.self (Some c.in-Some.operation)) same
    (subst (λ (o : Option (Option Operation)). TakesFirst (to_z w64 (of_z w64 c.in-Ok.found.0.id)) c.self.inside.unanswered c.take.new.self o) c.in-Some.is takes)) c.requires.empty
    (c.in_ok-put_id.ensures ∙ ap (λ (n : ℤ). c.args.text.now ++ (scalar_text i64 n ++ space ∷ [])) same) c.in_ok-put_told.ensures c.put_content.ensures
