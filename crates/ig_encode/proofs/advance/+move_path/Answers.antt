use Rattle.std.proofs.Common.{◌<◌, ◌+◌, ◌-◌, get_or, length, sym, ap, ◌∙◌, arith}
use Rattle.std.proofs.lemmas.Bool.{eqb-false}
use Rattle.ig_value.specs.Canon.{Canon}
use Rattle.ig_encode.specs.Marks.{head_len, inner_values}
use Rattle.ig_encode.proofs.MarkLemmas.{below_len, known_below, known_step, step_more, end_is, path_kept}
use Rattle.ig_encode.proofs.advance.+move_path.Goals as goal

pub move_path-below-requires : goal.move_path-below-requires
move_path-below-requires t c =
    let more = eqb-false (length c.args.steps.now) 0 (sym c.is_empty.ensures ∙ c.if-is_empty.false) in (
      omega (arith, more, below_len c.args.steps.now),
      (
        omega (arith, c.requires.known, below_len c.args.steps.now),
        known_below c.args.value.now c.args.offset c.args.steps.now c.args.known (record { index = 0; before = 0 }) c.in-Some.child.now c.if-known-eq0.false c.requires.known c.requires.path c.in-Some.ensures.child,
      ),
    )

pub move_on-requires-in-Some-end : goal.move_on-requires-in-Some-end
move_on-requires-in-Some-end t c =
    let step = get_or c.args.steps.now 0 (record { index = 0; before = 0 }) in
    let child = c.in-Some.child.now in
    let end = end_is c.move_path-below.result.end c.in-Some-end.end (length (Canon child)) (c.args.offset - step.before) c.in-Some-end.is c.move_path-below.ensures.end in
    let is = known_step c.args.value.now c.args.offset c.args.steps.now c.args.known (record { index = 0; before = 0 }) c.if-known-eq0.false c.requires.known c.requires.path in
    λ le. step_more Canon (head_len c.args.value.now) (inner_values c.args.value.now) c.args.offset step child (step.before + c.in-Some-end.end) is c.in-Some.ensures.child (ap (λ n. step.before + n) end.0) le

pub returns-in-None-clause-path : goal.returns-in-None-clause-path
returns-in-None-clause-path t c =
    let more = eqb-false (length c.args.steps.now) 0 (sym c.is_empty.ensures ∙ c.if-is_empty.false) in
    let some : 0 < length c.args.steps.now = omega (arith, more) in
    let is = known_step c.args.value.now c.args.offset c.args.steps.now c.args.known (record { index = 0; before = 0 }) c.if-known-eq0.false c.requires.known c.requires.path in
    path_kept c.args.value.now c.args.offset c.args.steps.now (record { index = 0; before = 0 }) c.in-Some.child.now c.move_path-below.new.steps _ c.move_path-below.result.depth some (omega (arith, c.move_path-below.ensures.depth, c.move_path-below.auto.steps)) is c.in-Some.ensures.child c.move_path-below.ensures.path
