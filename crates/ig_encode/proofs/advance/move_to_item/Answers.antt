use Rattle.std.proofs.Common.{◌<◌, get_or, length, arith}
use Rattle.ig_value.specs.declared.value.Value.{out-Value}
use Rattle.ig_value.specs.Table.{content, parts}
use Rattle.ig_encode.specs.declared.mark.Step.{Step}
use Rattle.ig_encode.proofs.MarkLemmas.{item_tail, path_to_two}
use Rattle.ig_encode.proofs.advance.move_to_item.Goals as goal

pub returns-clause-path : goal.returns-clause-path
returns-clause-path c =
    let none : Step = record { index = 0; before = 0 } in
    let v = c.args.value.now in
    let row = parts (out-Value v) in
    let some : 1 < length c.args.steps.now = omega (arith, c.if-steps-lt2.false) in
    let tail = item_tail v (content row.0) row.1 (get_or c.args.steps.now 0 none).before c.args.offset c.args.reached.step c.requires.item in
    path_to_two c.args.value.now c.args.offset c.args.steps.now none c.args.reached.step some c.requires.step c.requires.past tail
