use Rattle.std.proofs.Common.{◌∙◌}
use Rattle.ig_encode.proofs.DigestLemmas.{hashed_on}
use Rattle.ig_encode.proofs.measure_output.hash_more.Goals as goal

pub loop-rest-preserved : goal.loop-rest-preserved
loop-rest-preserved c =
    let front = c.split_at.result.0.now in
    let back = c.split_at.result.1.now in
    hashed_on c.loop-rest.digest c.compose.new.digest c.loop-rest.rest.now front back 8 c.split_at.ensures.front c.split_at.ensures.back (c.compose.ensures front c.hash_each.ensures) ∙ c.loop-rest.invariant

pub returns : goal.returns
returns c = c.hash_each-2.ensures ∙ c.loop-rest.invariant
