use Rattle.std.proofs.Common.{[], sym, ◌∙◌, true, false}
use Rattle.std.proofs.lemmas.List.{append-nil}
use Rattle.ig_decode.proofs.DecodeLemmas.{verdict}
use Rattle.ig_decode.proofs.calls.is_canonical.Goals as goal
use Rattle.ig_decode.proofs.calls.is_canonical.Goals.{then-decoded, else-decoded}

pub returns-after-decoded : goal.returns-after-decoded
returns-after-decoded c =
    elim c.if-decoded.branch [
      | then-decoded w ↦ verdict c.args.bytes.now c.in-Ok.decoded c.in-Ok.ensures.right c.in-Ok.ensures.found c.if-decoded.result true w.if-decoded.true w.result-is
      | else-decoded w ↦ verdict c.args.bytes.now c.in-Ok.decoded c.in-Ok.ensures.right c.in-Ok.ensures.found c.if-decoded.result false w.if-decoded.false (w.result-is ∙ w.if-decoded.false)
    ]

pub returns-in-Err-Refused : goal.returns-in-Err-Refused
returns-in-Err-Refused c = (λ wrong. absurd (let both = wrong in cc), λ k. absurd ((rw c.in-Err-Refused.field-0-is at c.in-Err-Refused.ensures.found) c.args.bytes.now [] k.value (sym (append-nil c.args.bytes.now)) k.spelled))
