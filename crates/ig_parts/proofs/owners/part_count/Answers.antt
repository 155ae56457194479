use Rattle.std.proofs.Common.{◌≡◌, arith, get_or, add-one, ap, ◌∙◌}
use Rattle.ig_parts.specs.declared.map.NodeParts.{NodeParts}
use Rattle.ig_parts.specs.Owner.{count_from}
use Rattle.ig_parts.proofs.OwnerLemmas.{part_count_more}
use Rattle.ig_parts.proofs.owners.part_count.Goals as goal

pub loop-node-preserved : goal.loop-node-preserved
loop-node-preserved c =
    let node = get_or c.args.nodes.now c.loop-node.node-index c.node-item.result in
    let more = part_count_more c.args.nodes.now c.loop-node.node-index c.node-item.result c.loop-node-test.true in
    let this : count_from c.as_slice.result.now ≡ count_from node.parts = ap count_from (c.as_slice.ensures ∙ ap (λ (n : NodeParts). n.parts) c.node-item.is) in
    record { exact = rw add-one (omega arith); few = c.count_with-count.ensures.few }
