use Rattle.std.proofs.Common.{◌≡◌, Bool, true, false, ℤ, pos, Some, sym, ap, subst, ◌∙◌, to_z, of_z, w32, w64}
use Rattle.std.specs.Prelude.{IfOk, length, nat_le}
use Rattle.std.proofs.lemmas.Int.{to_z-of_z}
use Rattle.ig_wire.specs.declared.reason.Reason.TheVariants as reason
use Rattle.ig_wire.specs.Limits.{most_cursors}
use Rattle.ig_deals.specs.Desk.{has_more}
use Rattle.ig_deals.specs.Turns.{Turn, scanned}
use Rattle.ig_replies.specs.RunTerms.{terms_of}
use Rattle.ig_replies.specs.Turned.{IsTurned}
use Rattle.ig_replies.proofs.ReasonLemmas.{reason_short}
use Rattle.ig_replies.proofs.TurnLemmas.{one_page, some_pages, too_many}
use Rattle.ig_replies.proofs.turns.first_page.Goals as goal

pub tell-requires-clause-text : goal.tell-requires-clause-text
tell-requires-clause-text c = reason_short reason.TooManyCursors

pub returns-then-not-has_more-clause-ok : goal.returns-then-not-has_more-clause-ok
returns-then-not-has_more-clause-ok c =
    let last : has_more c.args.cursor ≡ false = sym c.has_more.ensures ∙ c.if-not-has_more.true in
    subst (λ (t : Turn). IfOk c.show_first.result (λ frame. IsTurned (terms_of c.args.terms.now) t frame c.show_first.new.desk))
    (sym (one_page (terms_of c.args.terms.now) c.args.desk.now c.args.id c.args.minor c.args.cursor last)) (simp (to_z-of_z, c.ranges.id, c.ranges.minor) at c.show_first.ensures.ok)
