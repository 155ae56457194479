use Rattle.std.proofs.Common.{◌≡◌, ◌∷◌, ◌<◌, ℕ, ap, ◌∙◌, arith}
use Rattle.ig_text.proofs.ReaderLoopLemmas.{minus_there}
use Rattle.ig_text.proofs.read.signed.Goals as goal

pub returns-else-number-limit : goal.returns-else-number-limit
returns-else-number-limit c =
    let n : ℕ = c.in_ok-number-in-Some-eq45-default.number in
    let is = c.in-Some-eq45-default.ensures.cases.0 ∙ ap (λ (b : ℕ). b ∷ c.in-Some-eq45-default.after.now) c.in-Some-eq45-default.field-0-0-test in
    let some : 0 < n = omega (arith, c.if-number-eq0.false) in
    minus_there c.args.limit c.args.text.now c.in-Some-eq45-default.after.now c.in_ok-number-in-Some-eq45-default.rest.now n is c.in_ok-number-in-Some-eq45-default.ensures some c.if-number-limit.false c.requires
