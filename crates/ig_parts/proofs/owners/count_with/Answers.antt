use Rattle.std.proofs.Common.{pos, get_or, ◌≤◌, ◌∙◌, add-one, ap, arith, rules, unsigned_abs}
use Rattle.std.specs.Int.{w32}
use mir.Val.{SFits}
use Rattle.std.proofs.lemmas.Int.{to_z-of_z}
use Rattle.ig_parts.proofs.OwnerLemmas.{count_from_more, part_size}
use Rattle.ig_parts.proofs.owners.count_with.Goals as goal
use Rattle.ig_parts.proofs.owners.count_with.Goals.{then-count-end, else-count-end}

pub loop-part-preserved : goal.loop-part-preserved
loop-part-preserved c =
    let part = get_or c.args.parts.now c.loop-part.part-index (pos 0) in
    let more = count_from_more c.args.parts.now c.loop-part.part-index (pos 0) c.loop-part-test.true in
    let small : unsigned_abs part ≤ 65535 = part_size part (c.requires.parts c.loop-part.part-index (pos 0) c.loop-part-test.true) in
    let fits : SFits w32 part = search rules in
    let size = c.unsigned_abs-end.ensures.value ∙ ap unsigned_abs (to_z-of_z w32 part fits) in
    elim c.if-count-end.branch [
      | then-count-end w ↦ record { exact = rw add-one (omega arith); few = omega arith }
      | else-count-end w ↦ record { exact = rw add-one (omega arith); few = omega arith }
    ]
