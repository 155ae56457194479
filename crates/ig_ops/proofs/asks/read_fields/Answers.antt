use Rattle.std.proofs.Common.{◌≡◌, Some, arith, sym, ap, ◌∙◌}
use Rattle.std.specs.Int.{w16}
use Rattle.std.proofs.lemmas.Int.{to_z-of_z}
use Rattle.ig_base.specs.Numbers.{AreBytes}
use Rattle.ig_fields.specs.Ask.{row_at}
use Rattle.ig_fields.specs.AsksRightly.{AsksRightly}
use Rattle.ig_wire.specs.Operations.{operation_at}
use Rattle.ig_ops.specs.Requests.{ask_of}
use Rattle.ig_ops.proofs.RequestLemmas.{answer_known, answer_served}
use Rattle.ig_ops.proofs.AskedLemmas.{read_right}
use Rattle.ig_ops.proofs.asks.read_fields.Goals as goal

pub returns-in-Some-clause-right : goal.returns-in-Some-clause-right
returns-in-Some-clause-right c =
    let e : Some c.in-Some.operation ≡ operation_at c.args.op = sym c.in-Some.is ∙ c.of.ensures ∙ ap operation_at (to_z-of_z w16 c.args.op c.ranges.op) in
    let bytes : AreBytes c.args.body.now = λ i. omega (arith, c.type_inv.body i) in
    read_right (operation_at c.args.op) c.in-Some.operation c.args.body.now c.read_asked_by.result e bytes c.requires c.read_asked_by.ensures

pub returns-in-Some-clause-known : goal.returns-in-Some-clause-known
returns-in-Some-clause-known c =
    let e : Some c.in-Some.operation ≡ operation_at c.args.op = sym c.in-Some.is ∙ c.of.ensures ∙ ap operation_at (to_z-of_z w16 c.args.op c.ranges.op) in
    let bytes : AreBytes c.args.body.now = λ i. omega (arith, c.type_inv.body i) in
    let right : AsksRightly (row_at ask_of c.args.op) c.args.body.now c.read_asked_by.result = read_right (operation_at c.args.op) c.in-Some.operation c.args.body.now c.read_asked_by.result e bytes c.requires c.read_asked_by.ensures in
    answer_known c.args.op c.args.body.now c.read_asked_by.result right

pub returns-in-Some-clause-served : goal.returns-in-Some-clause-served
returns-in-Some-clause-served c small =
    let e : Some c.in-Some.operation ≡ operation_at c.args.op = sym c.in-Some.is ∙ c.of.ensures ∙ ap operation_at (to_z-of_z w16 c.args.op c.ranges.op) in
    let bytes : AreBytes c.args.body.now = λ i. omega (arith, c.type_inv.body i) in
    let right : AsksRightly (row_at ask_of c.args.op) c.args.body.now c.read_asked_by.result = read_right (operation_at c.args.op) c.in-Some.operation c.args.body.now c.read_asked_by.result e bytes c.requires c.read_asked_by.ensures in
    answer_served c.args.op c.args.body.now c.read_asked_by.result right small
