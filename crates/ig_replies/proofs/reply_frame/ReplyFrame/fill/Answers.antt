use Rattle.std.proofs.Common.{◌≡◌, ◌<◌, ◌≤◌, ◌+◌, ◌-◌, ◌++◌, List, ℕ, length, take, drop, sym, ap, subst, ◌∙◌, arith}
use Rattle.std.specs.Prelude.{min}
use Rattle.ig_deals.specs.Replies.{reply_frame}
use Rattle.ig_replies.specs.Contents.{reply_said}
use Rattle.ig_replies.specs.Showing.{Showing}
use Rattle.ig_replies.proofs.FrameLemmas.{frame_length, fills_within}
use Rattle.ig_replies.proofs.reply_frame.ReplyFrame.fill.Goals as goal

pub overflow_add-self : goal.overflow_add-self
overflow_add-self c =
    let len : length (reply_frame c.self.inside.version (reply_said c.self.inside.reply)) ≡ 4 + c.self.inside.body_len =
    frame_length c.self.inside.version c.self.inside.reply c.self.inside.body_len c.self.inside.lead_len c.self.invariant.0 in
    omega (arith, len, c.self.invariant.0.fits, c.self.invariant.2, c.frame_part-filled.ensures.count)

pub invariant_of-self : goal.invariant_of-self
invariant_of-self c = (
  c.self.invariant.0,
  c.move_mark.ensures,
  fills_within (length (reply_frame c.self.inside.version (reply_said c.self.inside.reply))) c.self.inside.gone c.frame_part-filled.result (length c.args.into.now)
      c.self.invariant.2 c.frame_part-filled.ensures.count,
)

pub returns-clause-some : goal.returns-clause-some
returns-clause-some c =
    let len : length (reply_frame c.self.inside.version (reply_said c.self.inside.reply)) ≡ 4 + c.self.inside.body_len =
    frame_length c.self.inside.version c.self.inside.reply c.self.inside.body_len c.self.inside.lead_len c.self.invariant.0 in
    let some : 0 < length (reply_frame c.self.inside.version (reply_said c.self.inside.reply)) = omega (arith, len) in
    subst (λ (s : Showing). 0 < length s.frame) c.self.view_is some

pub returns-clause-count : goal.returns-clause-count
returns-clause-count c =
    c.frame_part-filled.ensures.count ∙ ap (λ (s : Showing). min (length c.args.into.now) (length s.frame - s.gone)) c.self.view_is

pub returns-clause-bytes : goal.returns-clause-bytes
returns-clause-bytes c =
    c.frame_part-filled.ensures.bytes
    ∙ ap (λ (s : Showing). take c.frame_part-filled.result (drop s.gone s.frame) ++ drop c.frame_part-filled.result c.args.into.now) c.self.view_is

pub returns-clause-moved : goal.returns-clause-moved
returns-clause-moved c = ap (λ (s : Showing). record s { gone = s.gone + c.frame_part-filled.result }) c.self.view_is
