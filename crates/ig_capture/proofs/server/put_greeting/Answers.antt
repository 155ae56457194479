use Rattle.std.proofs.Common.{◌≡◌, ◌++◌, Some, OnOk, sym, subst, rules}
use Rattle.ig_wire.specs.declared.hello_reply.HelloReply.{HelloReply}
use Rattle.ig_wire.specs.declared.hello_reply.HelloReply.TheVariants.{Accepted}
use Rattle.ig_capture.specs.Talks.{accepted_text}
use Rattle.ig_capture.proofs.MessageLemmas.{node_appended}
use Rattle.ig_capture.proofs.server.put_greeting.Goals as goal

pub returns-in_ok-append-in-Accepted-Some : goal.returns-in_ok-append-in-Accepted-Some
returns-in_ok-append-in-Accepted-Some c =
    let is : c.args.reply.now ≡ Accepted (Some c.in-Accepted-Some.node) = search (rules, c.in-Accepted-Some.is, c.in-Accepted-Some.node-is, c.in-Accepted-Some.node-is') in
    subst (λ (r : HelloReply). OnOk c.put.result (c.put.new.out ≡ c.args.text.now ++ accepted_text r)) (sym is)
    (node_appended c.put.result c.in-Accepted-Some.node c.args.text.now c.append-in-Accepted-Some.new.self c.put.new.out c.in_ok-append-in-Accepted-Some.ensures.ok c.put.ensures)
