use Rattle.std.proofs.Common.{ℤ, SFits, subst, to_z, of_z, w32, w64, rules}
use Rattle.std.proofs.lemmas.Int.{to_z-of_z}
use Rattle.ig_deals.specs.Replies.{Content}
use Rattle.ig_deals.specs.Turns.{answers, content_of}
use Rattle.ig_replies.specs.RunTerms.{terms_of}
use Rattle.ig_replies.specs.Turned.{IsTurned}
use Rattle.ig_replies.proofs.turns.answer.Goals as goal

pub tell-requires-clause-text : goal.tell-requires-clause-text
tell-requires-clause-text c = c.in_ok-content.ensures.short

pub returns-clause-ok : goal.returns-clause-ok
returns-clause-ok c =
    let fits : SFits w32 c.args.given.minor = search rules in
    let turned : ℤ → ℤ → Content → Type 0 = λ i m k.
    IsTurned (terms_of c.args.terms.now) (answers (terms_of c.args.terms.now) c.args.desk.now i m k) c.tell.result c.tell.new.desk in
    let said : ℤ → Content = λ m. content_of c.args.terms.now.cfg c.args.call.now m c.args.given.outcome in
    subst (λ (m : ℤ). turned c.args.id m (said m)) (to_z-of_z w32 c.args.given.minor fits)
    (subst (λ (i : ℤ). turned i (to_z w32 (of_z w32 c.args.given.minor)) (said (to_z w32 (of_z w32 c.args.given.minor)))) (to_z-of_z w64 c.args.id c.ranges.id)
    (subst (turned (to_z w64 (of_z w64 c.args.id)) (to_z w32 (of_z w32 c.args.given.minor))) c.in_ok-content.ensures.said c.tell.ensures))
