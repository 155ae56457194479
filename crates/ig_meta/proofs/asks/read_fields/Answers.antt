use Rattle.std.proofs.Common.{◌≡◌, Some, arith, sym, ap, ◌∙◌}
use Rattle.std.specs.Int.{w16}
use Rattle.std.proofs.lemmas.Int.{to_z-of_z}
use Rattle.ig_base.specs.Numbers.{AreBytes}
use Rattle.ig_wire.specs.Operations.{operation_at}
use Rattle.ig_meta.proofs.RequestLemmas.{read_right, read_runs, answer_known, answer_runs}
use Rattle.ig_meta.proofs.asks.read_fields.Goals as goal

pub returns-in-Some-clause-right : goal.returns-in-Some-clause-right
returns-in-Some-clause-right c =
    let e : Some c.in-Some.operation ≡ operation_at c.args.op = sym c.in-Some.is ∙ c.of.ensures ∙ ap operation_at (to_z-of_z w16 c.args.op c.ranges.op) in
    let bytes : AreBytes c.args.body.now = λ i. omega (arith, c.type_inv.body i) in
    read_right (operation_at c.args.op) c.in-Some.operation c.args.body.now c.asked_by.result e bytes c.requires c.asked_by.ensures

pub returns-in-Some-clause-known : goal.returns-in-Some-clause-known
returns-in-Some-clause-known c =
    let e : Some c.in-Some.operation ≡ operation_at c.args.op = sym c.in-Some.is ∙ c.of.ensures ∙ ap operation_at (to_z-of_z w16 c.args.op c.ranges.op) in
    let bytes : AreBytes c.args.body.now = λ i. omega (arith, c.type_inv.body i) in
    answer_known c.asked_by.result (read_runs c.args.op c.args.body.now c.asked_by.result (read_right (operation_at c.args.op) c.in-Some.operation c.args.body.now c.asked_by.result e bytes c.requires c.asked_by.ensures))

pub returns-in-Some-clause-runnable : goal.returns-in-Some-clause-runnable
returns-in-Some-clause-runnable c =
    let e : Some c.in-Some.operation ≡ operation_at c.args.op = sym c.in-Some.is ∙ c.of.ensures ∙ ap operation_at (to_z-of_z w16 c.args.op c.ranges.op) in
    let bytes : AreBytes c.args.body.now = λ i. omega (arith, c.type_inv.body i) in
    answer_runs c.asked_by.result (read_runs c.args.op c.args.body.now c.asked_by.result (read_right (operation_at c.args.op) c.in-Some.operation c.args.body.now c.asked_by.result e bytes c.requires c.asked_by.ensures))
