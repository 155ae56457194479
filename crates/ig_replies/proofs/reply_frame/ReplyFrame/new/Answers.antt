use Rattle.std.proofs.Common.{◌≡◌, ◌≤◌, ℕ, length, to_z, of_z, w64, arith}
use Rattle.ig_base.specs.Frames.{max_body}
use Rattle.ig_deals.specs.Replies.{Reply, reply_body, too_long}
use Rattle.ig_replies.specs.Contents.{content_said}
use Rattle.ig_replies.proofs.FrameLemmas.{short_exact}
use Rattle.ig_replies.proofs.reply_frame.ReplyFrame.new.Goals as goal

pub overflow_cast-len-2 : goal.overflow_cast-len-2
overflow_cast-len-2 c =
    let r : Reply = record { id = to_z w64 (of_z w64 c.args.reply.id); told = c.args.reply.told; content = content_said c.args.reply.content } in
    let small : c.body_len-len-2.result ≤ max_body = (short_exact c.args.version r c.body_len-len-2.result c.body_len-len-2.ensures).1 in
    omega (arith, small)

pub laid_out-requires-2-clause-len : goal.laid_out-requires-2-clause-len
laid_out-requires-2-clause-len c =
    let r : Reply = record { id = to_z w64 (of_z w64 c.args.reply.id); told = c.args.reply.told; content = content_said c.args.reply.content } in
    (short_exact c.args.version r c.body_len-len-2.result c.body_len-len-2.ensures).0

pub laid_out-requires-2-clause-fits : goal.laid_out-requires-2-clause-fits
laid_out-requires-2-clause-fits c =
    let r : Reply = record { id = to_z w64 (of_z w64 c.args.reply.id); told = c.args.reply.told; content = content_said c.args.reply.content } in
    (short_exact c.args.version r c.body_len-len-2.result c.body_len-len-2.ensures).1
