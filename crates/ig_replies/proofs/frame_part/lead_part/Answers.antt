use Rattle.std.proofs.Common.{List, ℕ, ◌-◌, ◌++◌, length, take, drop, ap, ◌∙◌}
use Rattle.std.specs.Prelude.{min}
use Rattle.ig_replies.proofs.FrameLemmas.{lead_is}
use Rattle.ig_replies.proofs.frame_part.lead_part.Goals as goal

pub returns-clause-count : goal.returns-clause-count
returns-clause-count c =
    c.message_part.ensures.count
    ∙ ap (λ (l : List ℕ). min (length c.args.into.now) (length l - c.args.from))
    (lead_is c.args.version c.head_at.result.version c.args.reply.now c.args.body_len c.head_at.result.view c.head_at.ensures.version c.head_at.ensures.view)

pub returns-clause-bytes : goal.returns-clause-bytes
returns-clause-bytes c =
    c.message_part.ensures.bytes
    ∙ ap (λ (l : List ℕ). take c.message_part.result (drop c.args.from l) ++ drop c.message_part.result c.args.into.now)
    (lead_is c.args.version c.head_at.result.version c.args.reply.now c.args.body_len c.head_at.result.view c.head_at.ensures.version c.head_at.ensures.view)
