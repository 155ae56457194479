use Rattle.ig_wire.proofs.WriteLemmas.{on_ok, accepted_framed, node_framed}
use Rattle.ig_wire.proofs.hello_reply_writing.put_accepted.Goals as goal

pub returns-in_ok-put_len-in-None : goal.returns-in_ok-put_len-in-None
returns-in_ok-put_len-in-None c = rw c.in-None.is (on_ok c.push.result c.push.ensures.ok (accepted_framed c.args.out.now c.put_len.new.out c.push.new.self c.in_ok-put_len-in-None.ensures))

pub returns-in_ok-push-in-Some : goal.returns-in_ok-push-in-Some
returns-in_ok-push-in-Some c =
    rw c.in-Some.is (on_ok c.put_node.result c.put_node.ensures
    (node_framed c.args.out.now c.put_len-in-Some.new.out c.push-in-Some.new.self c.put_node.new.out c.in-Some.node c.in_ok-put_len-in-Some.ensures c.in_ok-push-in-Some.ensures.ok))
