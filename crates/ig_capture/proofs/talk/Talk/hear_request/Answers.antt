use Rattle.std.proofs.Common.{◌≡◌, ℤ, [], ◌∷◌, ◌++◌, sym, ap, ◌∙◌, rules, to_z, of_z, w64}
use Rattle.ig_value.specs.Part.{i64}
use Rattle.ig_text.specs.Tokens.{scalar_text}
use Rattle.ig_lines.specs.Arguments.{space}
use Rattle.ig_capture.specs.Requests.{with_request}
use Rattle.ig_capture.proofs.TurnLemmas.{request_is_heard}
use Rattle.ig_capture.proofs.talk.Talk.hear_request.Goals as goal

pub returns : goal.returns
returns c =
    let same : to_z w64 (of_z w64 c.read_request-id.result.0) ≡ c.read_request-id.result.0 = search rules in
    request_is_heard _ _ _ c.self.view_is c.args.version c.args.body.now c.read_request-id.result.2 c.read_request-id.result.0 c.read_request-id.result.1 c.add.new.self c.args.text.now c.put_id.new.out c.put_asked.new.text
    c.read_request-id.ensures.asked (sym c.lacks_memory.ensures ∙ c.if-lacks_memory.false) c.read_request-id.ensures.id c.read_request-id.ensures.operation
    (c.in_ok-add.ensures ∙ ap (λ (n : ℤ). with_request n c.read_request-id.result.1 c.self.inside.unanswered) same) c.requires.empty
    (c.in_ok-put_id.ensures ∙ ap (λ (n : ℤ). c.args.text.now ++ (scalar_text i64 n ++ space ∷ [])) same) c.in_ok-put_asked.ensures
