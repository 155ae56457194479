use Rattle.ig_fields.proofs.AskLemmas.{shown_is_right, one_right_result}
use Rattle.ig_meta.proofs.ResultLemmas.{written_result_is_read, results_tell_apart, spelled_result_fits, answers_are_shown}
use Rattle.ig_meta.proofs.laws.meta_results_agree.Goals as goal

pub returns-clause-right : goal.returns-clause-right
returns-clause-right c code form body at known bytes le = shown_is_right form body at bytes le

pub returns-clause-only : goal.returns-clause-only
returns-clause-only c code form body at answer known le right n = one_right_result form body at answer le right n

pub returns-clause-written : goal.returns-clause-written
returns-clause-written c = written_result_is_read

pub returns-clause-apart : goal.returns-clause-apart
returns-clause-apart c = results_tell_apart

pub returns-clause-fit : goal.returns-clause-fit
returns-clause-fit c = spelled_result_fits

pub returns-clause-answers : goal.returns-clause-answers
returns-clause-answers c = answers_are_shown
