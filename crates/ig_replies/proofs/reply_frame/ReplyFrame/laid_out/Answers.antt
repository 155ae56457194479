use Rattle.std.proofs.Common.{◌<◌, ◌^◌, arith}
use Rattle.ig_replies.proofs.FrameLemmas.{lead_exact}
use Rattle.ig_replies.proofs.reply_frame.ReplyFrame.laid_out.Goals as goal

pub overflow_cast-lead_len : goal.overflow_cast-lead_len
overflow_cast-lead_len c =
    let small : c.message_len-lead_len.result < 2 ^ 64 =
    (lead_exact c.args.version c.head_at.result.version c.args.reply c.args.body_len c.head_at.result.view c.message_len-lead_len.result
    c.head_at.ensures.version c.head_at.ensures.view c.requires.len c.requires.fits c.message_len-lead_len.ensures).1 in
    omega (arith, small)

pub invariant_of-result : goal.invariant_of-result
invariant_of-result c = (
  record {
    may = c.requires.shown;
    body = c.requires.len;
    fits = c.requires.fits;
    lead = (lead_exact c.args.version c.head_at.result.version c.args.reply c.args.body_len c.head_at.result.view c.message_len-lead_len.result
        c.head_at.ensures.version c.head_at.ensures.view c.requires.len c.requires.fits c.message_len-lead_len.ensures).0;
  },
  c.first_mark-mark.ensures,
  omega arith,
)
