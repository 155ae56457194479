use Rattle.std.proofs.Common.{◌≡◌, List, ℕ, ◌++◌, ◌≤◌, length, Option, sym, ap, ◌∙◌, subst}
use Rattle.ig_base.specs.declared.NodeId.{NodeId}
use Rattle.ig_base.specs.Frames.{max_body, Frame}
use Rattle.ig_wire.specs.Limits.{piece_bytes}
use Rattle.ig_wire.specs.HelloReplies.{hello_reply_bytes, MayWrite}
use Rattle.ig_wire.specs.declared.hello_reply.HelloReply.TheVariants.{Accepted}
use Rattle.ig_session.specs.Steps.{acceptance_frame}
use Rattle.ig_session.proofs.HelloFrameLemmas.{may_accept, accepted_small, acceptance_piece}
use Rattle.ig_session.proofs.greeting.acceptance.Goals as goal

pub write_hello_reply-requires-clause-may : goal.write_hello_reply-requires-clause-may
write_hello_reply-requires-clause-may c =
    subst (λ (n : Option NodeId). MayWrite c.args.version (Accepted n)) (sym c.node_named-node.ensures) (may_accept c.args.cfg.now c.args.version)

pub write_hello_reply-requires-clause-small : goal.write_hello_reply-requires-clause-small
write_hello_reply-requires-clause-small c =
    subst (λ (n : Option NodeId). length (hello_reply_bytes (Accepted n)) ≤ max_body) (sym c.node_named-node.ensures) (accepted_small c.args.cfg.now c.args.version)

pub returns-clause-frame : goal.returns-clause-frame
returns-clause-frame c =
    c.in_ok-write_hello_reply.ensures.ok ∙ ap (λ (l : List ℕ). l ++ Frame (hello_reply_bytes (Accepted c.node_named-node.result))) c.empty-frame.ensures
    ∙ ap (λ (n : Option NodeId). Frame (hello_reply_bytes (Accepted n))) c.node_named-node.ensures

pub returns-clause-short : goal.returns-clause-short
returns-clause-short c =
    let is : c.write_hello_reply.new.out ≡ acceptance_frame c.args.cfg.now c.args.version =
    c.in_ok-write_hello_reply.ensures.ok ∙ ap (λ (l : List ℕ). l ++ Frame (hello_reply_bytes (Accepted c.node_named-node.result))) c.empty-frame.ensures
    ∙ ap (λ (n : Option NodeId). Frame (hello_reply_bytes (Accepted n))) c.node_named-node.ensures in
    subst (λ (l : List ℕ). length l ≤ piece_bytes) (sym is) (acceptance_piece c.args.cfg.now c.args.version)
