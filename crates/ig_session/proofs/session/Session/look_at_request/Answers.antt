use Rattle.std.proofs.Common.{◌≡◌, ℤ, sym, ap, ◌∙◌, rules, to_z, of_z, w32}
use Rattle.ig_base.specs.Frames.{Body, Bad, Incomplete}
use Rattle.ig_deals.specs.declared.end.SessionEnd.TheVariants as ends
use Rattle.ig_session.specs.Comings.{Stops}
use Rattle.ig_session.proofs.LookLemmas.{request_next, if_next}
use Rattle.ig_session.proofs.HeldLemmas.{request_long, body_short, bad_place}
use Rattle.ig_session.proofs.session.Session.look_at_request.Goals as goal

pub returns-in-More-clause-coming : goal.returns-in-More-clause-coming
returns-in-More-clause-coming c = request_next _ _ c.least.result c.args.terms (Incomplete c.in-More.missing) c.self.view_is c.least.ensures c.requires.phase c.requires.none c.in-More.ensures

pub returns-in-Bad-clause-coming : goal.returns-in-Bad-clause-coming
returns-in-Bad-clause-coming c =
    let same : to_z w32 (of_z w32 c.in-Bad.length) ≡ c.in-Bad.length = search rules in
    ap (λ (n : ℤ). Stops (ends.BadFrame c.in-Bad.place n)) same
    ∙ bad_place _ _ c.self.view_is c.in-Bad.place c.in-Bad.length c.in-Bad.ensures.0
    ∙ request_next _ _ c.least.result c.args.terms (Bad c.in-Bad.length) c.self.view_is c.least.ensures c.requires.phase c.requires.none c.in-Bad.ensures.1

pub asked_by-requires-clause-long : goal.asked_by-requires-clause-long
asked_by-requires-clause-long c = request_long _ _ c.self.view_is c.least.result c.args.terms c.in-Frame.body.now c.in-Frame.ensures.1.0 c.least.ensures c.requires.phase c.in-Frame.ensures.1.1

pub asked_by-requires-clause-short : goal.asked_by-requires-clause-short
asked_by-requires-clause-short c = body_short _ _ c.self.view_is c.least.result c.in-Frame.body.now c.in-Frame.ensures.1.0 c.in-Frame.ensures.1.1 c.self.invariant

pub returns-in-Frame-clause-coming : goal.returns-in-Frame-clause-coming
returns-in-Frame-clause-coming c =
    if_next _ _ c.asked_by.result
    (request_next _ _ c.least.result c.args.terms (Body c.in-Frame.body.now c.in-Frame.ensures.1.0) c.self.view_is c.least.ensures c.requires.phase c.requires.none c.in-Frame.ensures.1.1)
    c.asked_by.ensures.asks
