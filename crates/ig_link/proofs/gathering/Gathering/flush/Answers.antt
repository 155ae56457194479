use Rattle.std.proofs.Common.{◌∙◌, drop, ap, sym}
use Rattle.std.proofs.lemmas.List.{take_rest}
use Rattle.ig_link.specs.Gathered.{Gathered}
use Rattle.ig_link.proofs.GatheringLemmas.{all_written}
use Rattle.ig_link.proofs.gathering.Gathering.flush.Goals as goal

pub returns : goal.returns
returns g c =
    let contents = g.W.Write.contents in
    let rest = take_rest c.deref.result.now c.self.inside.handed_on in
    let waited = rest ∙ ap (drop c.self.inside.handed_on) c.deref.ensures.value ∙ ap (λ (s : Gathered). s.waiting) c.self.view_is in
    let whole = c.hand_on-count.ensures.whole c.if-failed.false in (
      all_written (contents c.args.writer.now) (contents c.hand_on-count.new.writer) c.args.self.now.waiting _ c.clear.new.self.items c.hand_on-count.result.0
          waited whole c.hand_on-count.ensures.written c.clear.ensures.items,
      c.clear.ensures.items,
      sym (ap (λ (s : Gathered). s.broken) c.self.view_is) ∙ c.if-self.false,
      c.if-self.false,
    )
