use Rattle.ig_base.specs.Numbers.{LE}
use Rattle.ig_wire.proofs.WriteLemmas.{on_ok, node_put}
use Rattle.ig_wire.proofs.hello_reply_writing.put_node.Goals as goal

pub returns : goal.returns
unfolding LE
returns c =
    on_ok c.append-2.result c.append-2.ensures.ok
    (node_put c.args.out.now c.push.new.self c.append.new.self c.append-2.new.self c.to_le_bytes.result c.to_le_bytes-2.result c.args.node c.byte.result c.byte.ensures c.in_ok-push.ensures.ok c.to_le_bytes.ensures
    c.in_ok-append.ensures.ok c.to_le_bytes-2.ensures)
