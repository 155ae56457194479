use Rattle.std.proofs.Common.{arith, rules}
use Rattle.ig_base.specs.Numbers.{AreBytes}
use Rattle.ig_fields.specs.Ask.{row_at}
use Rattle.ig_ops.specs.Results.{result_of}
use Rattle.ig_ops.specs.ReadAnswers.{ShowsRow}
use Rattle.ig_ops.proofs.ResultLemmas.{row_is_right, answer_known}
use Rattle.ig_ops.proofs.results.read_result.Goals as goal

pub returns-clause-right : goal.returns-clause-right
returns-clause-right c =
    let bytes : AreBytes c.args.body.now = λ i. omega (arith, c.type_inv.body i) in
    let reads : ShowsRow (row_at result_of c.args.op) c.args.body.now c.args.at c.read_shown_by.result = search rules in
    row_is_right (row_at result_of c.args.op) c.args.body.now c.args.at c.read_shown_by.result bytes c.requires.within reads

pub returns-clause-known : goal.returns-clause-known
returns-clause-known c =
    let bytes : AreBytes c.args.body.now = λ i. omega (arith, c.type_inv.body i) in
    let reads : ShowsRow (row_at result_of c.args.op) c.args.body.now c.args.at c.read_shown_by.result = search rules in
    answer_known c.args.op c.args.body.now c.args.at c.read_shown_by.result (row_is_right (row_at result_of c.args.op) c.args.body.now c.args.at c.read_shown_by.result bytes c.requires.within reads)
