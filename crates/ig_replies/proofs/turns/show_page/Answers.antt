use Rattle.std.proofs.Common.{◌≡◌, Bool, true, false, sym, ap, ◌∙◌}
use Rattle.std.specs.Prelude.{◌&&◌}
use Rattle.ig_deals.specs.Replies.{fits}
use Rattle.ig_replies.specs.Contents.{reply_said}
use Rattle.ig_replies.proofs.TurnLemmas.{none_opens, one_opens}
use Rattle.ig_replies.proofs.turns.show_page.Goals as goal

pub returns-then-not-more-clause-open : goal.returns-then-not-more-clause-open
returns-then-not-more-clause-open c =
    let can : Bool = fits c.args.terms.now.version (reply_said c.args.page) in
    none_opens c.args.desk.now (c.args.more && can) c.args.cursor (ap (λ (b : Bool). b && can) c.if-not-more.true)

pub returns-then-not-fits-clause-open : goal.returns-then-not-fits-clause-open
returns-then-not-fits-clause-open c =
    let can : Bool = fits c.args.terms.now.version (reply_said c.args.page) in
    none_opens c.args.desk.now (c.args.more && can) c.args.cursor
    (ap (λ (b : Bool). b && can) c.if-not-more.false ∙ sym c.new-frame.ensures.fits ∙ c.if-not-fits.true)

pub returns-clause-open : goal.returns-clause-open
returns-clause-open c =
    let can : Bool = fits c.args.terms.now.version (reply_said c.args.page) in
    c.open.ensures
    ∙ one_opens c.args.desk.now (c.args.more && can) c.args.cursor
    (ap (λ (b : Bool). b && can) c.if-not-more.false ∙ sym c.new-frame.ensures.fits ∙ c.if-not-fits.false)
