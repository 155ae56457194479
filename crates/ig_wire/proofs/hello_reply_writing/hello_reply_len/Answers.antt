use Rattle.std.proofs.Common.{◌≡◌, ◌∙◌, ap, sym, ◌+◌, List, ℕ, length, arith}
use Rattle.ig_wire.specs.Fields.{string}
use Rattle.ig_wire.specs.HelloReplies.{hello_reply_bytes}
use Rattle.ig_wire.specs.declared.hello_reply.HelloReply.{HelloReply}
use Rattle.ig_wire.specs.declared.hello_reply.HelloReply.TheVariants.{Accepted}
use Rattle.ig_wire.proofs.WriteLemmas.{length-refused}
use Rattle.ig_wire.proofs.hello_reply_writing.hello_reply_len.Goals as goal

pub returns-in-Accepted : goal.returns-in-Accepted
returns-in-Accepted c =
    let size : 1 + c.node_len.result ≡ length (hello_reply_bytes (Accepted c.in-Accepted.node)) = omega (arith, c.node_len.ensures.exact) in
    size ∙ sym (ap (λ (r : HelloReply). length (hello_reply_bytes r)) c.in-Accepted.is)

pub returns-in-Refused : goal.returns-in-Refused
returns-in-Refused c =
    let at = c.in-Refused in
    let text = c.string_len.ensures.exact ∙ ap (λ (l : List ℕ). length (string l)) c.as_str.ensures in
    omega (arith, text, c.code_len.ensures.exact, length-refused at.version at.text at.code) ∙ sym (ap (λ (r : HelloReply). length (hello_reply_bytes r)) at.is)
