use Rattle.std.proofs.Common.{rules, ◌≡◌, ◌<◌, ◌^◌, ℕ, List, ◌++◌, length, ap, ◌∙◌, arith, length-append}
use Rattle.std.specs.Fmt.{decimal}
use Rattle.std.proofs.lemmas.Fmt.{length-decimal-le}
use Rattle.ig_wire.specs.declared.reason.Reason.TheVariants as reason
use Rattle.ig_wire.specs.Reasons.{reason_text}
use Rattle.ig_replies.proofs.ReasonLemmas.{text_is_short}
use Rattle.ig_replies.proofs.contents.malformed_at.Goals as goal

pub returns-clause-short : goal.returns-clause-short
returns-clause-short c =
    let place : ℕ = c.args.place in
    let below : place < 2 ^ 64 = search rules in
    let text : c.new.result ≡ reason_text reason.Malformed ++ decimal place =
    c.new.ensures ∙ c.in_ok-format.ensures.ok ∙ ap (λ (l : List ℕ). l ++ decimal place) c.text.ensures in
    omega (arith, ap length text, length-append (reason_text reason.Malformed) (decimal place), text_is_short reason.Malformed, length-decimal-le 20 place (omega arith) (omega (arith, below)) below)
