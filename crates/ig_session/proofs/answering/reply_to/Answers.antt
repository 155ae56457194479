use Rattle.std.proofs.Common.{◌≡◌, ℤ, sym, ap, ◌∙◌, rules, to_z, of_z, w32, w64}
use Rattle.ig_session.specs.declared.awaited.Awaits.TheVariants as await
use Rattle.ig_replies.specs.RunTerms.{terms_of}
use Rattle.ig_session.proofs.TakenLemmas.{answered_turn}
use Rattle.ig_session.proofs.answering.reply_to.Goals as goal

pub answer-requires : goal.answer-requires
answer-requires c = c.requires.right

pub answer-requires-in-Maps : goal.answer-requires-in-Maps
answer-requires-in-Maps c = c.requires.right

pub answer_scan-requires-clause-right : goal.answer_scan-requires-clause-right
answer_scan-requires-clause-right c = c.requires.right

pub answer_scan-requires-clause-numbers : goal.answer_scan-requires-clause-numbers
answer_scan-requires-clause-numbers c = c.requires.numbers

pub returns-in-Answer-clause-ok : goal.returns-in-Answer-clause-ok
returns-in-Answer-clause-ok c =
    let id : to_z w64 (of_z w64 c.args.awaited.id) ≡ c.args.awaited.id = search rules in
    answered_turn c.answer.result (terms_of c.args.terms.now) c.args.desk.now c.answer.new.desk (to_z w64 (of_z w64 c.args.awaited.id)) c.args.awaited c.args.given await.Answer id c.in-Answer.is c.answer.ensures.ok

pub returns-in-Maps-clause-ok : goal.returns-in-Maps-clause-ok
returns-in-Maps-clause-ok c =
    let id : to_z w64 (of_z w64 c.args.awaited.id) ≡ c.args.awaited.id = search rules in
    answered_turn c.answer-in-Maps.result (terms_of c.args.terms.now) c.args.desk.now c.answer-in-Maps.new.desk (to_z w64 (of_z w64 c.args.awaited.id)) c.args.awaited c.args.given
    (await.Maps c.in-Maps.caches) id c.in-Maps.is c.answer-in-Maps.ensures.ok

pub returns-in-Scan-clause-ok : goal.returns-in-Scan-clause-ok
returns-in-Scan-clause-ok c =
    let id : to_z w64 (of_z w64 c.args.awaited.id) ≡ c.args.awaited.id = search rules in
    let cache : to_z w32 (of_z w32 c.in-Scan.cache) ≡ c.in-Scan.cache = search rules in
    let page : to_z w32 (of_z w32 c.in-Scan.page) ≡ c.in-Scan.page = search rules in
    answered_turn c.answer_scan.result (terms_of c.args.terms.now) c.args.desk.now c.answer_scan.new.desk (to_z w64 (of_z w64 c.args.awaited.id)) c.args.awaited c.args.given
    (await.Scan (to_z w32 (of_z w32 c.in-Scan.cache)) (to_z w32 (of_z w32 c.in-Scan.page))) id
    (c.in-Scan.is ∙ sym (ap (λ (x : ℤ). await.Scan x (to_z w32 (of_z w32 c.in-Scan.page))) cache ∙ ap (await.Scan c.in-Scan.cache) page)) c.answer_scan.ensures.ok
