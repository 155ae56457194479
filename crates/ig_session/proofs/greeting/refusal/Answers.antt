use Rattle.std.proofs.Common.{◌≡◌, List, ℕ, ◌++◌, ◌≤◌, length, None, Err, sym, ap, ◌∙◌, subst}
use Rattle.ig_base.specs.Frames.{max_body, Frame}
use Rattle.ig_wire.specs.Limits.{piece_bytes}
use Rattle.ig_wire.specs.Versions.{highest_version}
use Rattle.ig_wire.specs.HelloFaults.{fault_text}
use Rattle.ig_wire.specs.HelloReplies.{hello_reply_bytes}
use Rattle.ig_wire.specs.declared.hello_reply.HelloReply.TheVariants.{Refused}
use Rattle.ig_session.specs.Steps.{greeting_frame}
use Rattle.ig_session.proofs.HelloFrameLemmas.{refused_small, refusal_piece}
use Rattle.ig_session.proofs.greeting.refusal.Goals as goal

pub write_hello_reply-requires-clause-small : goal.write_hello_reply-requires-clause-small
write_hello_reply-requires-clause-small c =
    let text : c.new.result ≡ fault_text c.args.fault = c.new.ensures ∙ c.in_ok-text.ensures.ok ∙ c.text.ensures in
    subst (λ (t : List ℕ). length (hello_reply_bytes (Refused highest_version t None)) ≤ max_body) (sym text) (refused_small c.args.fault)

pub returns-clause-frame : goal.returns-clause-frame
returns-clause-frame c =
    let text : c.new.result ≡ fault_text c.args.fault = c.new.ensures ∙ c.in_ok-text.ensures.ok ∙ c.text.ensures in
    c.in_ok-write_hello_reply.ensures.ok ∙ ap (λ (l : List ℕ). l ++ Frame (hello_reply_bytes (Refused highest_version c.new.result None))) c.empty-frame.ensures
    ∙ ap (λ (t : List ℕ). Frame (hello_reply_bytes (Refused highest_version t None))) text

pub returns-clause-short : goal.returns-clause-short
returns-clause-short c =
    let text : c.new.result ≡ fault_text c.args.fault = c.new.ensures ∙ c.in_ok-text.ensures.ok ∙ c.text.ensures in
    let is : c.write_hello_reply.new.out ≡ greeting_frame c.args.cfg.now (Err c.args.fault) =
    c.in_ok-write_hello_reply.ensures.ok ∙ ap (λ (l : List ℕ). l ++ Frame (hello_reply_bytes (Refused highest_version c.new.result None))) c.empty-frame.ensures
    ∙ ap (λ (t : List ℕ). Frame (hello_reply_bytes (Refused highest_version t None))) text in
    subst (λ (l : List ℕ). length l ≤ piece_bytes) (sym is) (refusal_piece c.args.cfg.now c.args.fault)
