use Rattle.std.proofs.Common.{ℤ, refl, ap, ◌∙◌, w64}
use Rattle.std.proofs.lemmas.Int.{to_z-of_z}
use Rattle.ig_deals.specs.Replies.{Content, reply_frame, shortened}
use Rattle.ig_deals.specs.Turns.{untold}
use Rattle.ig_replies.specs.Contents.{content_said}
use Rattle.ig_replies.specs.Showing.{Showing, showing}
use Rattle.ig_replies.proofs.turns.refuse.Goals as goal

pub say-requires : goal.say-requires
say-requires c = c.in_ok-refusal.ensures.short

pub returns : goal.returns
returns c = λ desk.
    let shown : ℤ → Content → Showing = λ i k. showing (reply_frame c.args.terms.now.version (shortened c.args.terms.now.version (untold i k))) in
    record {
      frame_is = c.say.ensures
          ∙ ap (λ (i : ℤ). shown i (content_said c.in_ok-refusal.field-0)) (to_z-of_z w64 c.args.id c.ranges.id)
          ∙ ap (shown c.args.id) c.in_ok-refusal.ensures.said;
      desk_is = refl;
    }
