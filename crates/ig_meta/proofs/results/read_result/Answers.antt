use Rattle.std.proofs.Common.{◌≡◌, Some, arith, sym, ap, ◌∙◌}
use Rattle.std.specs.Int.{w16}
use Rattle.std.proofs.lemmas.Int.{to_z-of_z}
use Rattle.ig_base.specs.Numbers.{AreBytes}
use Rattle.ig_wire.specs.Operations.{operation_at}
use Rattle.ig_fields.specs.Ask.{row_at}
use Rattle.ig_meta.specs.Results.{result_of}
use Rattle.ig_meta.proofs.ResultLemmas.{shown_right, shown_by_code, read_known, shown_known, shown_in_order}
use Rattle.ig_meta.proofs.results.read_result.Goals as goal

pub returns-in-Some-clause-reads : goal.returns-in-Some-clause-reads
returns-in-Some-clause-reads c =
    let e : Some c.in-Some.operation ≡ operation_at c.args.op = sym c.in-Some.is ∙ c.of.ensures ∙ ap operation_at (to_z-of_z w16 c.args.op c.ranges.op) in
    shown_by_code (operation_at c.args.op) c.in-Some.operation c.args.body.now c.args.at c.shown_by.result e c.shown_by.ensures

pub returns-in-Some-clause-right : goal.returns-in-Some-clause-right
returns-in-Some-clause-right c =
    let e : Some c.in-Some.operation ≡ operation_at c.args.op = sym c.in-Some.is ∙ c.of.ensures ∙ ap operation_at (to_z-of_z w16 c.args.op c.ranges.op) in
    let bytes : AreBytes c.args.body.now = λ i. omega (arith, c.type_inv.body i) in
    shown_right (row_at result_of c.args.op) c.args.body.now c.args.at c.shown_by.result bytes c.requires.within (shown_by_code (operation_at c.args.op) c.in-Some.operation c.args.body.now c.args.at c.shown_by.result e c.shown_by.ensures)

pub returns-in-Some-clause-shown : goal.returns-in-Some-clause-shown
returns-in-Some-clause-shown c =
    let e : Some c.in-Some.operation ≡ operation_at c.args.op = sym c.in-Some.is ∙ c.of.ensures ∙ ap operation_at (to_z-of_z w16 c.args.op c.ranges.op) in
    let bytes : AreBytes c.args.body.now = λ i. omega (arith, c.type_inv.body i) in
    shown_known c.shown_by.result (read_known c.args.op c.args.body.now c.args.at c.shown_by.result c.requires.known (shown_right (row_at result_of c.args.op) c.args.body.now c.args.at c.shown_by.result bytes c.requires.within (shown_by_code (operation_at c.args.op) c.in-Some.operation c.args.body.now c.args.at c.shown_by.result e c.shown_by.ensures)))

pub returns-in-Some-clause-in_order : goal.returns-in-Some-clause-in_order
returns-in-Some-clause-in_order c =
    let e : Some c.in-Some.operation ≡ operation_at c.args.op = sym c.in-Some.is ∙ c.of.ensures ∙ ap operation_at (to_z-of_z w16 c.args.op c.ranges.op) in
    let bytes : AreBytes c.args.body.now = λ i. omega (arith, c.type_inv.body i) in
    shown_in_order c.shown_by.result (read_known c.args.op c.args.body.now c.args.at c.shown_by.result c.requires.known (shown_right (row_at result_of c.args.op) c.args.body.now c.args.at c.shown_by.result bytes c.requires.within (shown_by_code (operation_at c.args.op) c.in-Some.operation c.args.body.now c.args.at c.shown_by.result e c.shown_by.ensures)))
