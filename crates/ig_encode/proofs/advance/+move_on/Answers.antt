use Rattle.std.proofs.Common.{◌<◌, ◌-◌, length, set, sym, ◌∙◌, arith}
use Rattle.std.proofs.lemmas.Bool.{eqb-false}
use Rattle.ig_encode.proofs.MarkLemmas.{set_len, below_len, first_is, path_through, path_past}
use Rattle.ig_encode.proofs.advance.+move_on.Goals as goal

pub move_on-below-requires : goal.move_on-below-requires
move_on-below-requires t c =
    let more = eqb-false (length c.args.steps.now) 0 (sym c.is_empty.ensures ∙ c.if-is_empty.false) in
    let steps = set c.args.steps.now 0 c.last_step-step.result in (
      omega (arith, more, below_len steps, set_len c.args.steps.now c.last_step-step.result),
      λ le. first_is c.in-Some.child.now (c.args.offset - c.last_step-step.result.before) c.first_step-first.result c.first_step-first.ensures.index c.first_step-first.ensures.before le,
    )

pub returns-in-Some-clause-path : goal.returns-in-Some-clause-path
returns-in-Some-clause-path t c =
    let more = eqb-false (length c.args.steps.now) 0 (sym c.is_empty.ensures ∙ c.if-is_empty.false) in
    let some : 0 < length c.args.steps.now = omega (arith, more) in
    path_through c.args.value.now c.args.offset c.args.steps.now c.last_step-step.result c.in-Some.child.now c.move_on-below.new.steps _ c.move_on-below.result.depth some (omega (arith, c.move_on-below.ensures.depth, c.move_on-below.auto.steps)) c.last_step-step.ensures c.in-Some.ensures.child c.move_on-below.ensures.path

pub move_tail-requires-clause-path : goal.move_tail-requires-clause-path
move_tail-requires-clause-path t c =
    let more = eqb-false (length c.args.steps.now) 0 (sym c.is_empty.ensures ∙ c.if-is_empty.false) in
    let some : 0 < length c.args.steps.now = omega (arith, more) in
    path_past c.args.value.now c.args.offset c.args.steps.now c.last_step-step.result some c.last_step-step.ensures c.in-None.ensures.child
