use Rattle.ig_decode.proofs.TextLemmas.{text_found, text_wrong}
use Rattle.ig_decode.proofs.text.counted_text.Goals as goal

pub returns-in-Ok : goal.returns-in-Ok
returns-in-Ok c =
    rw c.in-Ok.ensures.0
    (text_found c.args.bytes.now c.in_ok-count.rest.now c.in-Some.counted.now c.in-Some.rest.now c.in_ok-count.count.items c.in_ok-count.ensures c.in-Some.ensures.whole c.in-Some.ensures.run c.in-Some.ensures.rest c.in-Ok.ensures.1)

pub returns-in-Err : goal.returns-in-Err
returns-in-Err c =
    text_wrong c.args.bytes.now c.in_ok-count.rest.now c.in-Some.counted.now c.in_ok-count.count.items c.in_ok-count.ensures c.in-Some.ensures.whole c.in-Some.ensures.run c.in-Err.ensures
