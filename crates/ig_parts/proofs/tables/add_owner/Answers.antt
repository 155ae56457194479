use Rattle.std.proofs.Common.{◌<◌, pos, get_or, length, rules, arith, sym, ap, subst, ◌∙◌}
use mir.Val.{SFits}
use Rattle.std.specs.Int.{w32}
use Rattle.std.specs.Prelude.{unsigned_abs, All}
use Rattle.std.proofs.lemmas.Int.{to_z-of_z}
use Rattle.std.proofs.lemmas.List.{get_or_default}
use Rattle.ig_parts.specs.Owner.{count_from, IsPart}
use Rattle.ig_parts.proofs.TableLemmas.{count_from_at, part_is, table_step, Looked, was_empty, was_known}
use Rattle.ig_parts.proofs.tables.add_owner.Goals as goal
use Rattle.ig_parts.proofs.tables.add_owner.Goals.{then-is_none, else-is_none}

pub bounds-table-at : goal.bounds-table-at
bounds-table-at c =
    let ps = c.as_slice-part-items.result.now in
    let x = get_or ps c.loop-part.part-index (pos 0) in
    let fits : SFits w32 x = search rules in
    let size = c.unsigned_abs-at.ensures.value ∙ ap unsigned_abs (to_z-of_z w32 x fits) in
    let counted = count_from_at ps c.loop-part.part-index (pos 0) c.loop-part-test.true in
    omega (arith, ap count_from c.as_slice-part-items.ensures, c.requires.within, c.loop-part.auto.table)

pub bounds-table-at-then-is_none : goal.bounds-table-at-then-is_none
bounds-table-at-then-is_none c =
    let ps = c.as_slice-part-items.result.now in
    let x = get_or ps c.loop-part.part-index (pos 0) in
    let fits : SFits w32 x = search rules in
    let size = c.unsigned_abs-at.ensures.value ∙ ap unsigned_abs (to_z-of_z w32 x fits) in
    let counted = count_from_at ps c.loop-part.part-index (pos 0) c.loop-part-test.true in
    omega (arith, ap count_from c.as_slice-part-items.ensures, c.requires.within, c.loop-part.auto.table)

pub loop-part-preserved : goal.loop-part-preserved
loop-part-preserved c = λ k d lt.
    let ps = c.as_slice-part-items.result.now in
    let j = c.loop-part.part-index in
    let at = c.unsigned_abs-at.result in
    let table = c.loop-part.table in
    let x = get_or ps j (pos 0) in
    let fits : SFits w32 x = search rules in
    let size = c.unsigned_abs-at.ensures.value ∙ ap unsigned_abs (to_z-of_z w32 x fits) in
    let counted = count_from_at ps j (pos 0) c.loop-part-test.true in
    let within : at < length table = omega (arith, ap count_from c.as_slice-part-items.ensures, c.requires.within, c.loop-part.auto.table) in
    let part : IsPart x = subst (All IsPart) (sym c.as_slice-part-items.ensures) c.requires.parts j (pos 0) c.loop-part-test.true in
    let is = part_is x at part size in
    let step : Looked table c.if-is_none.table at c.args.node.now.node = elim c.if-is_none.branch [
      | then-is_none w ↦ was_empty table c.if-is_none.table at c.args.node.now.node c.is_none.result c.is_none.ensures w.if-is_none.true w.table-is
      | else-is_none w ↦ was_known table c.if-is_none.table at c.args.node.now.node c.is_none.result c.is_none.ensures w.if-is_none.false w.table-is
    ] in
    table_step (get_or c.args.table.now k d) table c.if-is_none.table ps j k at c.args.node.now.node d x c.loop-part-test.true (get_or_default ps j x (pos 0) c.loop-part-test.true) is within
    (λ e. get_or_default table k e d (omega (arith, c.loop-part.auto.table)) ∙ c.loop-part.invariant k d lt) step
