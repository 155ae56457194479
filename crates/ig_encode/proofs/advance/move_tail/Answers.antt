use Rattle.std.proofs.Common.{◌-◌, ◌<◌, get_or, length, take, drop, sym, ap, subst, ◌∙◌, arith}
use Rattle.ig_value.specs.declared.value.Value.TheVariants as value
use Rattle.ig_encode.specs.declared.mark.Step.{Step}
use Rattle.ig_encode.specs.Marks.{IsEntryStep}
use Rattle.ig_encode.proofs.MarkLemmas.{tail_step, inside_end, fields_end, known_tail, first_entry_is, entry_fields, fields_entry, path_to_two}
use Rattle.ig_encode.proofs.advance.move_tail.Goals as goal

abbrev none : Step
none = record { index = 0; before = 0 }

pub end_after-end-requires-clause-before : goal.end_after-end-requires-clause-before
end_after-end-requires-clause-before c =
    inside_end c.args.value.now c.args.offset (get_or c.args.steps.now 0 none) (tail_step c.args.value.now c.args.offset c.args.steps.now c.args.known none c.requires.some c.requires.known c.requires.path) c.requires.past

pub last_entry-entry-requires-clause-end : goal.last_entry-entry-requires-clause-end
last_entry-entry-requires-clause-end c =
    let step = tail_step c.args.value.now c.args.offset c.args.steps.now c.args.known none c.requires.some c.requires.known c.requires.path in
    fields_end c.args.value.now c.get-object.result.now c.as_slice.result.now (get_or c.args.steps.now 0 none).before c.as_slice.ensures (c.in-Object.is ∙ ap value.Object (sym c.get-object.ensures)) (inside_end c.args.value.now c.args.offset (get_or c.args.steps.now 0 none) step c.requires.past)

pub last_entry-entry-requires-clause-field : goal.last_entry-entry-requires-clause-field
last_entry-entry-requires-clause-field c =
    let step = tail_step c.args.value.now c.args.offset c.args.steps.now c.args.known none c.requires.some c.requires.known c.requires.path in
    let is = c.in-Object.is ∙ ap value.Object (sym c.get-object.ensures) in
    let end = (get_or c.args.steps.now 0 none).before in
    let fields = fields_end c.args.value.now c.get-object.result.now c.as_slice.result.now end c.as_slice.ensures is (inside_end c.args.value.now c.args.offset (get_or c.args.steps.now 0 none) step c.requires.past) in
    let tail = known_tail c.args.value.now c.args.offset c.args.steps.now c.args.known none c.requires.some c.requires.known c.requires.path c.requires.past in
    let entry : IsEntryStep c.args.value.now end c.args.offset c.next_step-start.result = subst (IsEntryStep c.args.value.now end c.args.offset) (sym c.next_step-start.ensures) (first_entry_is c.args.value.now c.get-object.result.now end c.args.offset (take (c.args.known - 1) (drop 1 c.args.steps.now)) is (omega (arith, fields)) step.reached tail) in
    (entry_fields c.args.value.now c.get-object.result.now c.as_slice.result.now end c.args.offset c.next_step-start.result c.as_slice.ensures is entry).0

pub last_entry-entry-requires-clause-reached : goal.last_entry-entry-requires-clause-reached
last_entry-entry-requires-clause-reached c =
    let step = tail_step c.args.value.now c.args.offset c.args.steps.now c.args.known none c.requires.some c.requires.known c.requires.path in
    let is = c.in-Object.is ∙ ap value.Object (sym c.get-object.ensures) in
    let end = (get_or c.args.steps.now 0 none).before in
    let fields = fields_end c.args.value.now c.get-object.result.now c.as_slice.result.now end c.as_slice.ensures is (inside_end c.args.value.now c.args.offset (get_or c.args.steps.now 0 none) step c.requires.past) in
    let tail = known_tail c.args.value.now c.args.offset c.args.steps.now c.args.known none c.requires.some c.requires.known c.requires.path c.requires.past in
    let entry : IsEntryStep c.args.value.now end c.args.offset c.next_step-start.result = subst (IsEntryStep c.args.value.now end c.args.offset) (sym c.next_step-start.ensures) (first_entry_is c.args.value.now c.get-object.result.now end c.args.offset (take (c.args.known - 1) (drop 1 c.args.steps.now)) is (omega (arith, fields)) step.reached tail) in
    (entry_fields c.args.value.now c.get-object.result.now c.as_slice.result.now end c.args.offset c.next_step-start.result c.as_slice.ensures is entry).1

pub returns-clause-path : goal.returns-clause-path
returns-clause-path c =
    let step = tail_step c.args.value.now c.args.offset c.args.steps.now c.args.known none c.requires.some c.requires.known c.requires.path in
    let is = c.in-Object.is ∙ ap value.Object (sym c.get-object.ensures) in
    let some : 1 < length c.args.steps.now = omega (arith, c.if-steps-lt2.false) in
    let entry = fields_entry c.args.value.now c.get-object.result.now c.as_slice.result.now (get_or c.args.steps.now 0 none).before c.args.offset c.last_entry-entry.result c.as_slice.ensures is c.last_entry-entry.ensures.field c.last_entry-entry.ensures.reached in
    path_to_two c.args.value.now c.args.offset c.args.steps.now none c.last_entry-entry.result some step c.requires.past entry
