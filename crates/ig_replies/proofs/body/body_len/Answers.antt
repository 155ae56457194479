use Rattle.std.proofs.Common.{◌≡◌, ℕ, ◌-◌, length, sym, ap, ◌∙◌}
use Rattle.std.specs.Prelude.{◌^◌, min}
use Rattle.ig_wire.specs.declared.version.Version.{Version}
use Rattle.ig_wire.specs.declared.head.ReplyHead.{ReplyHead}
use Rattle.ig_wire.specs.Heads.{head_bytes}
use Rattle.ig_wire.specs.HeadViews.{owned_head}
use Rattle.ig_deals.specs.Replies.{head_of}
use Rattle.ig_replies.specs.Contents.{reply_said, content_bytes}
use Rattle.ig_replies.proofs.FrameLemmas.{body_length, sum_saturates}
use Rattle.ig_replies.proofs.body.body_len.Goals as goal

pub returns : goal.returns
returns c =
    let head : ℕ = length (head_bytes c.args.version (head_of (reply_said c.args.reply.now))) in
    let first : c.message_len.result ≡ min head (2 ^ 128 - 1) =
    c.message_len.ensures
    ∙ ap (λ (v : Version). min (length (head_bytes v (owned_head c.head_at.result.view))) (2 ^ 128 - 1)) c.head_at.ensures.version
    ∙ ap (λ (h : ReplyHead). min (length (head_bytes c.args.version h)) (2 ^ 128 - 1)) c.head_at.ensures.view in
    c.saturating_add.ensures
    ∙ sum_saturates head (length (content_bytes c.args.reply.now.content)) c.message_len.result c.content_len.result (2 ^ 128 - 1) first c.content_len.ensures
    ∙ ap (λ (n : ℕ). min n (2 ^ 128 - 1)) (sym (body_length c.args.version (reply_said c.args.reply.now)))
