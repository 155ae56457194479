use Rattle.std.proofs.Common.{◌≡◌, take, take_all, arith, sym, ap, ◌∙◌}
use Rattle.ig_parts.specs.declared.map.NodeParts.{NodeParts}
use Rattle.ig_parts.specs.Owner.{count_from, node_of_part, lists_part}
use Rattle.ig_parts.specs.NodeTable.{owner_beside}
use Rattle.ig_parts.proofs.TableLemmas.{part_count_at, node_more, table_whole}
use Rattle.ig_parts.proofs.tables.add_owners.Goals as goal

pub add_owner-requires-clause-within : goal.add_owner-requires-clause-within
add_owner-requires-clause-within c =
    omega (arith, part_count_at c.args.nodes.now c.loop-node.node-index c.node-item.result c.loop-node-test.true, ap (λ (n : NodeParts). count_from n.parts) c.node-item.is, c.loop-node.auto.table, c.requires.size)

pub loop-node-preserved : goal.loop-node-preserved
loop-node-preserved c = λ k d lt.
    let n = c.node-item.result in
    c.add_owner.ensures k d (omega (arith, c.loop-node.auto.table, c.requires.size)) ∙ ap (λ o. owner_beside o (lists_part k n) n.node) (c.loop-node.invariant k d lt)
    ∙ sym (node_more c.args.nodes.now c.loop-node.node-index k n c.loop-node-test.true (sym c.node-item.is))

pub returns : goal.returns
returns c =
    let all : take c.loop-node.node-index c.args.nodes.now ≡ c.args.nodes.now = take_all c.loop-node.node-index c.args.nodes.now c.loop-node-test.false in
    table_whole c.args.nodes.now c.loop-node.table (c.loop-node.auto.table ∙ c.requires.size) (λ k d lt. c.loop-node.invariant k d lt ∙ ap (λ l. node_of_part l k) all)
