use Rattle.std.proofs.Common.{◌≡◌, ℕ, List, Option, Some, Ok, Err, length, drop, arith, ap, ◌∙◌}
use Rattle.std.proofs.lemmas.List.{length-drop}
use Rattle.ig_wire.specs.declared.head.Fault.{Fault}
use Rattle.ig_lines.specs.ShownText.{FaultText}
use Rattle.ig_capture.specs.Talks.{content_text}
use Rattle.ig_capture.proofs.MessageLemmas.{after_fault, fault_alone, fault_ends}
use Rattle.ig_capture.proofs.server.put_content.Goals as goal

pub returns-then-at-body : goal.returns-then-at-body
returns-then-at-body c =
    let s : List ℕ = drop c.args.at c.args.body.now in
    let more : content_text c.args.fault.now c.args.operation s ≡ Err (length s) =
    ap (λ (f : Option Fault). content_text f c.args.operation s) c.in-Some.is
    ∙ after_fault c.in-Some.fault c.args.operation s (omega (arith, length-drop c.args.at c.args.body.now, c.if-at-body.true)) in
    (length s, more, c.saturating_add.ensures ∙ fault_ends c.args.place c.args.at c.args.body.now c.requires)

pub returns : goal.returns
returns c =
    let s : List ℕ = drop c.args.at c.args.body.now in
    let all : content_text c.args.fault.now c.args.operation s ≡ Ok (FaultText c.in-Some.fault) =
    ap (λ (f : Option Fault). content_text f c.args.operation s) c.in-Some.is
    ∙ fault_alone c.in-Some.fault c.args.operation s (omega (arith, length-drop c.args.at c.args.body.now, c.if-at-body.false)) in
    (FaultText c.in-Some.fault, all, c.in_ok-write_fault.ensures.ok)
