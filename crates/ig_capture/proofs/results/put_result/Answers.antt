use Rattle.std.proofs.Common.{◌≡◌, ℕ, ◌-◌, ◌++◌, length, drop, Option, Result, Ok, sym, ap, ◌∙◌}
use Rattle.std.proofs.lemmas.List.{length-drop}
use Rattle.std.specs.Prelude.{codes}
use Rattle.std.specs.Fmt.{decimal}
use Rattle.ig_wire.specs.declared.operation.Operation.{Operation}
use Rattle.ig_capture.specs.Talks.{text_by, form_for, unread_text}
use Rattle.ig_capture.proofs.RequestLemmas.{not_some}
use Rattle.ig_capture.proofs.OperationLemmas.{types_known, rows_known, other}
use Rattle.ig_capture.proofs.results.put_result.Goals as goal

pub returns-in_default : goal.returns-in_default
returns-in_default c =
    let size : length c.args.body.now - c.args.at ≡ length (drop c.args.at c.args.body.now) = sym (length-drop c.args.at c.args.body.now) in
    let unread : text_by (form_for c.args.operation) (drop c.args.at c.args.body.now) ≡ Ok (unread_text (drop c.args.at c.args.body.now)) =
    ap (λ (o : Option Operation). text_by (form_for o) (drop c.args.at c.args.body.now)) (sym (not_some c.args.operation c.in_default.not-Some)) in
    (unread_text (drop c.args.at c.args.body.now), unread, c.in_ok-put_unread.ensures ∙ ap (λ (n : ℕ). c.args.text.now ++ (codes "unread " ++ decimal n)) size)

pub put_types_result-requires-clause-known : goal.put_types_result-requires-clause-known
put_types_result-requires-clause-known c = types_known c.in-Some.operation (sym c.is_of_types.ensures ∙ c.if-is_of_types.true)

pub put_rows_result-requires-clause-known : goal.put_rows_result-requires-clause-known
put_rows_result-requires-clause-known c =
    rows_known c.in-Some.operation (sym c.is_of_types.ensures ∙ c.if-is_of_types.false) (other c.in-Some.operation c.in_default-operation.not-PartitionMaps)
