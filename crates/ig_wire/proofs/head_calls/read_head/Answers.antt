use Rattle.std.proofs.Common.{ℕ, arith, ap, sym, ◌∙◌, Ok, List}
use Rattle.ig_base.specs.Numbers.{AreBytes}
use Rattle.ig_wire.specs.declared.head.ReplyHead.{ReplyHead}
use Rattle.ig_wire.specs.Fields.{Field}
use Rattle.ig_wire.proofs.AgreeLemmas.{rest_at}
use Rattle.ig_wire.proofs.HeadLemmas.{head_read}
use Rattle.ig_wire.proofs.head_calls.read_head.Goals as goal

pub overflow_sub-result : goal.overflow_sub-result
overflow_sub-result c =
    let bytes : AreBytes c.args.body.now = λ i. omega (arith, c.type_inv.body i) in
    let t = (head_read c.args.version).takes c.args.body.now c.in-Ok.head c.in-Ok.rest.now bytes c.in-Ok.ensures in
    (rest_at c.args.body.now t.prefix c.in-Ok.rest.now t.whole).0

abbrev read : ReplyHead → List ℕ → Field ReplyHead
read head rest = Ok (head, rest)

pub returns-in-Ok : goal.returns-in-Ok
returns-in-Ok c =
    let bytes : AreBytes c.args.body.now = λ i. omega (arith, c.type_inv.body i) in
    let t = (head_read c.args.version).takes c.args.body.now c.in-Ok.head c.in-Ok.rest.now bytes c.in-Ok.ensures in
    (omega arith, c.in-Ok.ensures ∙ ap (read c.in-Ok.head) (sym (rest_at c.args.body.now t.prefix c.in-Ok.rest.now t.whole).1))
