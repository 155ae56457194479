use Rattle.std.proofs.Common.{◌≡◌, ℕ, ◌+◌, length, sym, ap, ◌∙◌, arith}
use Rattle.ig_deals.specs.Replies.{reply_frame}
use Rattle.ig_replies.specs.Contents.{reply_said}
use Rattle.ig_replies.specs.Showing.{Showing}
use Rattle.ig_replies.proofs.FrameLemmas.{frame_length}
use Rattle.ig_replies.proofs.reply_frame.ReplyFrame.len.Goals as goal

pub returns : goal.returns
returns c =
    sym (frame_length c.self.inside.version c.self.inside.reply c.self.inside.body_len c.self.inside.lead_len c.self.invariant.0)
    ∙ ap (λ (s : Showing). length s.frame) c.self.view_is
