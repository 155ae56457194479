use Rattle.std.proofs.Common.{◌≡◌, ◌∙◌, ap, ◌++◌, List, ℕ, length, arith}
use Rattle.ig_fields.proofs.FrameLemmas.{framed_length, framed_is}
use Rattle.ig_fields.proofs.frame.append_frame.Goals as goal

pub append_message-requires : goal.append_message-requires
append_message-requires g c =
    let body = g.M.Message.bytes c.args.body.now in
    let len : c.message_len-len.result ≡ length body = omega (arith, c.message_len-len.ensures) in
    framed_length c.message_len-len.result body len

pub returns-clause-done : goal.returns-clause-done
returns-clause-done g c = λ _.
    let body = g.M.Message.bytes c.args.body.now in
    let len : c.message_len-len.result ≡ length body = omega (arith, c.message_len-len.ensures) in
    c.in_ok-append_message.ensures.ok ∙ ap (λ (l : List ℕ). c.args.out.now ++ l) (framed_is c.message_len-len.result body len)
