use Rattle.std.proofs.Common.{refl, arith}
use Rattle.ig_decode.proofs.TextAtLemmas.{is_text, is_no_text, text_rest, text_left, refusal_reads, text_reads, one_text, none_there}
use Rattle.ig_decode.proofs.text.text_at.Goals as goal

pub returns-in-Ok-clause-right : goal.returns-in-Ok-clause-right
returns-in-Ok-clause-right c = is_text c.args.bytes.now c.args.at c.in-Ok.text.now c.in-Ok.after.now c.requires (λ i. omega (arith, c.type_inv.bytes i)) c.in-Ok.ensures _ refl

pub returns-in-Ok-clause-found : goal.returns-in-Ok-clause-found
returns-in-Ok-clause-found c = λ s r t whole h. one_text c.args.bytes.now c.args.at c.in-Ok.text.now c.in-Ok.after.now c.requires c.in-Ok.ensures s r t whole h

pub returns-in-Ok-clause-reads : goal.returns-in-Ok-clause-reads
returns-in-Ok-clause-reads c = text_reads c.args.bytes.now c.args.at c.in-Ok.text.now c.in-Ok.after.now c.requires (λ i. omega (arith, c.type_inv.bytes i)) c.in-Ok.ensures _ refl

pub returns-in-Err-clause-refused : goal.returns-in-Err-clause-refused
returns-in-Err-clause-refused c = is_no_text c.args.bytes.now c.args.at c.in-Err.stop.left c.in-Err.stop.cause c.requires (λ i. omega (arith, c.type_inv.bytes i)) c.in-Err.ensures

pub returns-in-Err-clause-found : goal.returns-in-Err-clause-found
returns-in-Err-clause-found c = λ s r t whole h. none_there _ c.in-Err.stop.left c.in-Err.stop.cause c.in-Err.ensures s r t whole h

pub returns-in-Err-clause-reads : goal.returns-in-Err-clause-reads
returns-in-Err-clause-reads c = refusal_reads c.args.bytes.now c.args.at c.in-Err.stop.left c.in-Err.stop.cause (λ i. omega (arith, c.type_inv.bytes i)) c.in-Err.ensures

pub overflow_sub-result : goal.overflow_sub-result
overflow_sub-result c = text_rest c.args.bytes.now c.args.at c.in-Ok.text.now c.in-Ok.after.now (λ i. omega (arith, c.type_inv.bytes i)) c.in-Ok.ensures

pub overflow_sub-result-in-Err : goal.overflow_sub-result-in-Err
overflow_sub-result-in-Err c = omega (arith, text_left c.args.bytes.now c.args.at c.in-Err.stop.left c.in-Err.stop.cause (λ i. omega (arith, c.type_inv.bytes i)) c.in-Err.ensures)
