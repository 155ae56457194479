use Rattle.std.proofs.Common.{◌<◌, get_or, length, sym, ◌∙◌, arith}
use Rattle.std.proofs.lemmas.Bool.{eqb-false}
use Rattle.ig_encode.proofs.MarkLemmas.{path_head, resumed_some, resumed_tail}
use Rattle.ig_encode.proofs.resume.+fill_from.Goals as goal

pub returns-in-Some : goal.returns-in-Some
returns-in-Some t c =
    let more = eqb-false (length c.args.path.now) 0 (sym c.is_empty.ensures ∙ c.if-is_empty.false) in
    let some : 0 < length c.args.path.now = omega (arith, more) in
    let head = path_head c.args.value.now c.args.out.now.skip c.args.path.now (record { index = 0; before = 0 }) some c.requires in
    resumed_some c.args.value.now (get_or c.args.path.now 0 (record { index = 0; before = 0 })) c.args.out.now c.args.into.now c.in-Some.child.now (c.fill_from.new.out, c.fill_from.new.into) (c.fill_after.new.out, c.fill_after.new.into) head.0 c.in-Some.ensures.child c.fill_from.ensures c.fill_after.ensures

pub returns-in-None : goal.returns-in-None
returns-in-None t c =
    let more = eqb-false (length c.args.path.now) 0 (sym c.is_empty.ensures ∙ c.if-is_empty.false) in
    let some : 0 < length c.args.path.now = omega (arith, more) in
    let head = path_head c.args.value.now c.args.out.now.skip c.args.path.now (record { index = 0; before = 0 }) some c.requires in
    resumed_tail c.args.value.now (get_or c.args.path.now 0 (record { index = 0; before = 0 })) c.args.out.now c.args.into.now (c.fill_tail.new.out, c.fill_tail.new.into) head.0 c.in-None.ensures.child c.fill_tail.ensures
