use Rattle.std.proofs.Common.{◌≡◌, ◌∙◌, ap, List, ℕ, ◌+◌, ◌++◌, None, arith, sym, subst}
use Rattle.ig_base.specs.Frames.{Frame}
use Rattle.ig_wire.specs.HelloReplies.{HasNoCode, hello_reply_bytes}
use Rattle.ig_wire.specs.declared.hello_reply.HelloReply.{HelloReply}
use Rattle.ig_wire.specs.declared.hello_reply.HelloReply.TheVariants.{Refused}
use Rattle.ig_wire.proofs.WriteLemmas.{on_ok, refused_framed, no_code}
use Rattle.ig_wire.proofs.hello_reply_writing.put_hello_reply.Goals as goal

pub returns-in_ok-put_version-in-Refused : goal.returns-in_ok-put_version-in-Refused
returns-in_ok-put_version-in-Refused c =
    let text : List ℕ = c.as_str-text.result.now in
    let none = no_code c.in-Refused.version c.in-Refused.text c.in-Refused.code (subst HasNoCode c.in-Refused.is c.requires.code) in
    let same : c.args.reply.now ≡ Refused c.in-Refused.version text None =
    c.in-Refused.is ∙ ap (Refused c.in-Refused.version c.in-Refused.text) none ∙ ap (λ (l : List ℕ). Refused c.in-Refused.version l None) (sym c.as_str-text.ensures) in
    on_ok c.put_string.result c.put_string.ensures (λ e.
    refused_framed c.args.out.now c.put_len.new.out c.push.new.self c.put_version.new.out c.put_string.new.out c.in-Refused.version text (7 + c.string_len.result)
    (omega (arith, c.string_len.ensures.exact)) c.in_ok-put_len-in-Refused.ensures c.in_ok-push-in-Refused.ensures.ok c.in_ok-put_version-in-Refused.ensures e
    ∙ ap (λ (r : HelloReply). c.args.out.now ++ Frame (hello_reply_bytes r)) (sym same))
