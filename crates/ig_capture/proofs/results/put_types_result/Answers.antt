use Rattle.std.proofs.Common.{◌≡◌, ◌∙◌, sym, subst, rules, to_z, of_z, w16, Ok, Err}
use Rattle.std.specs.Prelude.{ℤ, IsSome, IfSome}
use Rattle.ig_fields.specs.Ask.{row_at}
use Rattle.ig_fields.specs.ShowsRightly.{shown_by}
use Rattle.ig_fields.specs.ShownAnswers.{ShowsAs}
use Rattle.ig_meta.specs.Results.{result_of}
use Rattle.ig_capture.proofs.ResultLemmas.{types_at_code, types_printed, types_shown, types_stopped}
use Rattle.ig_capture.proofs.results.put_types_result.Goals as goal

pub read_result-requires-clause-known : goal.read_result-requires-clause-known
read_result-requires-clause-known c =
    let same : to_z w16 (of_z w16 c.code.result) ≡ c.code.result = search rules in
    subst (λ (k : ℤ). IsSome (row_at result_of k)) (sym (same ∙ c.code.ensures)) (types_at_code c.args.operation c.requires.known)

pub write_shown-requires : goal.write_shown-requires
write_shown-requires c = types_printed c.in-Ok.shown c.in-Ok.ensures.shown

pub returns-in_ok-write_shown-in-Ok : goal.returns-in_ok-write_shown-in-Ok
returns-in_ok-write_shown-in-Ok c =
    let same : to_z w16 (of_z w16 c.code.result) ≡ c.code.result = search rules in
    let reads : IfSome (row_at result_of (to_z w16 (of_z w16 c.code.result))) (λ form. ShowsAs (shown_by form c.args.body.now c.args.at) (Ok c.in-Ok.shown)) = c.in-Ok.ensures.reads in
    types_shown c.args.operation c.args.place c.args.body.now c.args.at c.requires.known c.in-Ok.shown c.args.text.now c.write_shown.new.out
    (subst (λ (k : ℤ). IfSome (row_at result_of k) (λ form. ShowsAs (shown_by form c.args.body.now c.args.at) (Ok c.in-Ok.shown))) (same ∙ c.code.ensures) reads) c.in_ok-write_shown-in-Ok.ensures.ok

pub returns-in-Err : goal.returns-in-Err
returns-in-Err c =
    let same : to_z w16 (of_z w16 c.code.result) ≡ c.code.result = search rules in
    let reads : IfSome (row_at result_of (to_z w16 (of_z w16 c.code.result))) (λ form. ShowsAs (shown_by form c.args.body.now c.args.at) (Err c.in-Err.fault)) = c.in-Err.ensures.reads in
    types_stopped c.args.operation c.args.place c.args.body.now c.args.at c.requires.known c.in-Err.fault c.of.result c.args.text.now c.args.text.now
    (subst (λ (k : ℤ). IfSome (row_at result_of k) (λ form. ShowsAs (shown_by form c.args.body.now c.args.at) (Err c.in-Err.fault))) (same ∙ c.code.ensures) reads) c.of.ensures
