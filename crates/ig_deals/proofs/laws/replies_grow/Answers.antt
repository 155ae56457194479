use Rattle.ig_deals.proofs.ReplyLemmas.{replies-append, one_reply_each, frames_grow, frames_stay}
use Rattle.ig_deals.proofs.laws.replies_grow.Goals as goal

pub returns : goal.returns
returns c = record { grow = replies-append; each = one_reply_each; frames = frames_grow; stay = frames_stay }
