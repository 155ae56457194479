use Rattle.std.proofs.Common.{◌≡◌, rules, refl, ap, sym, ◌∙◌, to_z, of_z, w32}
use Rattle.ig_base.specs.Frames as frames
use Rattle.ig_frame.proofs.StreamLemmas.{handed, stayed}
use Rattle.ig_frame.proofs.frames.Frames.next.Goals as goal

pub returns-in-Body : goal.returns-in-Body
returns-in-Body c =
    let next = handed c.args.least c.self.inside.limit c.self.inside.place c.self.inside.start c.in-Body.len c.saturating_add-self-inside.result c.self.inside.bytes.items
    c.deref.result.now c.deref-in-Body.result.now c.args.self.now (c.self.view_is ∙ c.give_back.ensures) c.deref.ensures.value c.deref-in-Body.ensures.value c.in-Body.ensures c.saturating_add-self-inside.ensures in
    ((refl, (λ s. tt), next.0), record { shows = (next.1, next.2); moves = tt })

pub returns-in-Bad : goal.returns-in-Bad
returns-in-Bad c =
    let next = stayed c.args.least c.self.inside.limit c.self.inside.place c.self.inside.start c.self.inside.bytes.items c.deref.result.now c.args.self.now
    (frames.Bad c.in-Bad.length) tt (c.self.view_is ∙ c.give_back.ensures) c.deref.ensures.value c.in-Bad.ensures in
    let same : to_z w32 (of_z w32 c.in-Bad.length) ≡ c.in-Bad.length = search rules in
    ((refl, (λ s. tt), next.0), record { shows = (next.1, next.2 ∙ ap frames.Bad (sym same)); moves = tt })

pub returns-in-Missing : goal.returns-in-Missing
returns-in-Missing c =
    let next = stayed c.args.least c.self.inside.limit c.self.inside.place c.self.inside.start c.self.inside.bytes.items c.deref.result.now c.args.self.now
    (frames.Incomplete c.in-Missing.missing) tt (c.self.view_is ∙ c.give_back.ensures) c.deref.ensures.value c.in-Missing.ensures in
    ((refl, (λ s. tt), next.0), record { shows = next.2; moves = tt })
