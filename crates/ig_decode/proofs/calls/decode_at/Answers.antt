use Rattle.std.proofs.Common.{refl, arith}
use Rattle.ig_decode.proofs.DecodeLemmas.{rest_within, is_found, byte_for_node, reads_ok, one_found, none_refused, left_within, is_refused, none_found, one_refused, reads_err}
use Rattle.ig_decode.proofs.calls.decode_at.Goals as goal

pub overflow_sub-result-in-Ok : goal.overflow_sub-result-in-Ok
overflow_sub-result-in-Ok c = rest_within c.args.bytes.now c.args.at c.in-Ok.value c.in-Ok.rest.now (λ i. omega (arith, c.type_inv.bytes i)) c.in-Ok.ensures.reads

pub overflow_sub-result-in-Err-Fault : goal.overflow_sub-result-in-Err-Fault
overflow_sub-result-in-Err-Fault c = omega (arith, left_within c.args.bytes.now c.args.at c.in-Err-Fault.left c.in-Err-Fault.cause (λ i. omega (arith, c.type_inv.bytes i)) (rw c.in-Err-Fault.field-0-is at c.in-Err-Fault.ensures.reads))

pub returns-in-Ok-clause-right : goal.returns-in-Ok-clause-right
returns-in-Ok-clause-right c = is_found c.args.bytes.now c.args.at c.in-Ok.value c.in-Ok.rest.now c.requires (λ i. omega (arith, c.type_inv.bytes i)) c.in-Ok.ensures.reads _ refl _ c.in-Ok.ensures.exact

pub returns-in-Ok-clause-found : goal.returns-in-Ok-clause-found
returns-in-Ok-clause-found c = λ s r w whole h. one_found c.args.bytes.now c.args.at c.in-Ok.value c.in-Ok.rest.now (λ i. omega (arith, c.type_inv.bytes i)) c.in-Ok.ensures.reads s r w whole h

pub returns-in-Ok-clause-refused : goal.returns-in-Ok-clause-refused
returns-in-Ok-clause-refused c = λ p d h. none_refused _ c.in-Ok.value c.in-Ok.rest.now c.in-Ok.ensures.reads p d h

pub returns-in-Ok-clause-nodes : goal.returns-in-Ok-clause-nodes
returns-in-Ok-clause-nodes c = byte_for_node c.args.bytes.now c.args.at c.in-Ok.value c.in-Ok.rest.now (λ i. omega (arith, c.type_inv.bytes i)) c.in-Ok.ensures.reads

pub returns-in-Ok-clause-reads : goal.returns-in-Ok-clause-reads
returns-in-Ok-clause-reads c = reads_ok c.args.bytes.now c.args.at c.in-Ok.value c.in-Ok.rest.now (λ i. omega (arith, c.type_inv.bytes i)) c.in-Ok.ensures.reads _ refl

pub returns-in-Err-Fault-clause-right : goal.returns-in-Err-Fault-clause-right
returns-in-Err-Fault-clause-right c = is_refused c.args.bytes.now c.args.at c.in-Err-Fault.left c.in-Err-Fault.cause c.requires (λ i. omega (arith, c.type_inv.bytes i)) (rw c.in-Err-Fault.field-0-is at c.in-Err-Fault.ensures.reads)

pub returns-in-Err-Fault-clause-found : goal.returns-in-Err-Fault-clause-found
returns-in-Err-Fault-clause-found c = λ s r w whole h. none_found s r c.in-Err-Fault.left c.in-Err-Fault.cause _ w (rw c.in-Err-Fault.field-0-is at c.in-Err-Fault.ensures.reads) whole h

pub returns-in-Err-Fault-clause-refused : goal.returns-in-Err-Fault-clause-refused
returns-in-Err-Fault-clause-refused c = λ p d h. one_refused c.args.bytes.now c.args.at c.in-Err-Fault.left c.in-Err-Fault.cause c.requires (λ i. omega (arith, c.type_inv.bytes i)) (rw c.in-Err-Fault.field-0-is at c.in-Err-Fault.ensures.reads) p d h

pub returns-in-Err-Fault-clause-reads : goal.returns-in-Err-Fault-clause-reads
returns-in-Err-Fault-clause-reads c = reads_err c.args.bytes.now c.args.at c.in-Err-Fault.left c.in-Err-Fault.cause (λ i. omega (arith, c.type_inv.bytes i)) (rw c.in-Err-Fault.field-0-is at c.in-Err-Fault.ensures.reads)
