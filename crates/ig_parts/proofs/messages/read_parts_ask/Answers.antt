use Rattle.std.proofs.Common.{arith}
use Rattle.ig_base.specs.Numbers.{AreBytes}
use Rattle.ig_parts.proofs.MessageLemmas.{ask_reads, ask_is_right}
use Rattle.ig_parts.proofs.messages.read_parts_ask.Goals as goal

pub returns-clause-reads : goal.returns-clause-reads
returns-clause-reads c = ask_reads c.args.body.now c.ask_fields.result c.ask_fields.ensures

pub returns-clause-right : goal.returns-clause-right
returns-clause-right c =
    let bytes : AreBytes c.args.body.now = λ i. omega (arith, c.type_inv.body i) in
    ask_is_right c.args.body.now c.ask_fields.result bytes c.requires (ask_reads c.args.body.now c.ask_fields.result c.ask_fields.ensures)
