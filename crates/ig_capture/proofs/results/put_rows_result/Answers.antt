use Rattle.std.proofs.Common.{◌≡◌, ◌∙◌, sym, subst, rules, to_z, of_z, w16, Ok, Err}
use Rattle.std.specs.Prelude.{ℤ}
use Rattle.ig_fields.specs.Ask.{row_at}
use Rattle.ig_ops.specs.ReadAnswers.{IsKnown, ShowsRow}
use Rattle.ig_ops.specs.Results.{result_of}
use Rattle.ig_capture.proofs.ResultLemmas.{rows_at_code, rows_printed, rows_shown, rows_stopped}
use Rattle.ig_capture.proofs.results.put_rows_result.Goals as goal

pub read_result-requires-clause-operation : goal.read_result-requires-clause-operation
read_result-requires-clause-operation c =
    let same : to_z w16 (of_z w16 c.code.result) ≡ c.code.result = search rules in
    subst (λ (k : ℤ). IsKnown (row_at result_of k)) (sym (same ∙ c.code.ensures)) (rows_at_code c.args.operation c.requires.known)

pub write_shown-requires : goal.write_shown-requires
write_shown-requires c = rows_printed c.in-Ok.shown c.in-Ok.ensures.known

pub returns-in_ok-write_shown-in-Ok : goal.returns-in_ok-write_shown-in-Ok
returns-in_ok-write_shown-in-Ok c =
    let same : to_z w16 (of_z w16 c.code.result) ≡ c.code.result = search rules in
    let reads : ShowsRow (row_at result_of (to_z w16 (of_z w16 c.code.result))) c.args.body.now c.args.at (Ok c.in-Ok.shown) = c.in-Ok.ensures.reads in
    rows_shown c.args.operation c.args.place c.args.body.now c.args.at c.in-Ok.shown c.args.text.now c.write_shown.new.out
    (subst (λ (k : ℤ). ShowsRow (row_at result_of k) c.args.body.now c.args.at (Ok c.in-Ok.shown)) (same ∙ c.code.ensures) reads) c.in_ok-write_shown-in-Ok.ensures.ok

pub returns-in-Err : goal.returns-in-Err
returns-in-Err c =
    let same : to_z w16 (of_z w16 c.code.result) ≡ c.code.result = search rules in
    let reads : ShowsRow (row_at result_of (to_z w16 (of_z w16 c.code.result))) c.args.body.now c.args.at (Err c.in-Err.fault) = c.in-Err.ensures.reads in
    rows_stopped c.args.operation c.args.place c.args.body.now c.args.at c.in-Err.fault c.of.result c.args.text.now c.args.text.now
    (subst (λ (k : ℤ). ShowsRow (row_at result_of k) c.args.body.now c.args.at (Err c.in-Err.fault)) (same ∙ c.code.ensures) reads) c.of.ensures
