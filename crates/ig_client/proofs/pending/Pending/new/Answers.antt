use Rattle.std.proofs.Common.{◌∙◌, ℕ, List, [], ap, arith}
use Rattle.ig_base.specs.Frames.{front, max_body}
use Rattle.ig_base.proofs.FrameLemmas.{front-short}
use Rattle.ig_client.proofs.pending.Pending.new.Goals as goal

pub invariant_of-result : goal.invariant_of-result
invariant_of-result c = (
  omega (arith, c.new-2.ensures.len),
  record {
    ids = omega arith;
    pending = omega arith;
    reading = λ up. (
      4,
      ap (λ (l : List ℕ). front c.least_reply.result max_body l) c.new-2.ensures.items ∙ front-short c.least_reply.result max_body [] (omega arith),
    );
  },
)
