use Rattle.std.proofs.Common.{◌≡◌, List, ℕ, ◌-◌, ◌++◌, length, take, drop, ap, ◌∙◌, arith}
use Rattle.std.specs.Prelude.{min}
use Rattle.ig_deals.specs.Replies.{reply_frame}
use Rattle.ig_replies.specs.Contents.{reply_said, content_bytes}
use Rattle.ig_replies.specs.FrameParts.{lead_bytes}
use Rattle.ig_replies.proofs.FrameLemmas.{frame_is}
use Rattle.ig_replies.proofs.PartLemmas.{IsPart, after_lead, within_lead, over_lead}
use Rattle.ig_replies.proofs.frame_part.frame_part.Goals as goal

pub lead_part-first-requires : goal.lead_part-first-requires
lead_part-first-requires c = c.requires.laid.may

pub returns-then-from-lead_len-clause-count : goal.returns-then-from-lead_len-clause-count
returns-then-from-lead_len-clause-count c =
    (after_lead (reply_frame c.args.version (reply_said c.args.reply.now)) (lead_bytes c.args.version c.args.reply.now c.args.body_len)
    (content_bytes c.args.reply.now.content) c.args.into.now c.content_part.new.into c.args.lead_len c.args.from c.content_part.result
    (frame_is c.args.version c.args.reply.now c.args.body_len c.args.lead_len c.requires.laid) c.requires.laid.lead c.if-from-lead_len.true
    c.content_part.ensures.count c.content_part.ensures.bytes).0

pub returns-then-from-lead_len-clause-bytes : goal.returns-then-from-lead_len-clause-bytes
returns-then-from-lead_len-clause-bytes c =
    (after_lead (reply_frame c.args.version (reply_said c.args.reply.now)) (lead_bytes c.args.version c.args.reply.now c.args.body_len)
    (content_bytes c.args.reply.now.content) c.args.into.now c.content_part.new.into c.args.lead_len c.args.from c.content_part.result
    (frame_is c.args.version c.args.reply.now c.args.body_len c.args.lead_len c.requires.laid) c.requires.laid.lead c.if-from-lead_len.true
    c.content_part.ensures.count c.content_part.ensures.bytes).1

pub returns-then-from-first-clause-count : goal.returns-then-from-first-clause-count
returns-then-from-first-clause-count c =
    (within_lead (reply_frame c.args.version (reply_said c.args.reply.now)) (lead_bytes c.args.version c.args.reply.now c.args.body_len)
    (content_bytes c.args.reply.now.content) c.args.into.now c.lead_part-first.new.into c.args.lead_len c.args.from c.lead_part-first.result
    (frame_is c.args.version c.args.reply.now c.args.body_len c.args.lead_len c.requires.laid) c.requires.laid.lead c.if-from-first.true
    c.lead_part-first.ensures.count c.lead_part-first.ensures.bytes).0

pub returns-then-from-first-clause-bytes : goal.returns-then-from-first-clause-bytes
returns-then-from-first-clause-bytes c =
    (within_lead (reply_frame c.args.version (reply_said c.args.reply.now)) (lead_bytes c.args.version c.args.reply.now c.args.body_len)
    (content_bytes c.args.reply.now.content) c.args.into.now c.lead_part-first.new.into c.args.lead_len c.args.from c.lead_part-first.result
    (frame_is c.args.version c.args.reply.now c.args.body_len c.args.lead_len c.requires.laid) c.requires.laid.lead c.if-from-first.true
    c.lead_part-first.ensures.count c.lead_part-first.ensures.bytes).1

pub returns-clause-count : goal.returns-clause-count
returns-clause-count c =
    let mid : List ℕ = c.lead_part-first.new.into in
    let first : ℕ = c.lead_part-first.result in
    let result : List ℕ = content_bytes c.args.reply.now.content in
    let back : c.split_at_mut-room.result.1.now ≡ drop first mid = c.split_at_mut-room.ensures.back in
    let count : c.content_part-2.result ≡ min (length (drop first mid)) (length result) =
    omega (arith, c.content_part-2.ensures.count, ap length back) in
    let bytes : c.content_part-2.new.into ≡ take c.content_part-2.result result ++ drop c.content_part-2.result (drop first mid) =
    c.content_part-2.ensures.bytes ∙ ap (λ (l : List ℕ). take c.content_part-2.result result ++ drop c.content_part-2.result l) back in
    (over_lead (reply_frame c.args.version (reply_said c.args.reply.now)) (lead_bytes c.args.version c.args.reply.now c.args.body_len)
    result c.args.into.now mid c.content_part-2.new.into c.args.lead_len c.args.from first c.content_part-2.result
    (frame_is c.args.version c.args.reply.now c.args.body_len c.args.lead_len c.requires.laid) c.requires.laid.lead c.if-from-lead_len.false c.if-from-first.false
    c.lead_part-first.ensures.count c.lead_part-first.ensures.bytes count bytes).0

pub returns-clause-bytes : goal.returns-clause-bytes
returns-clause-bytes c =
    let mid : List ℕ = c.lead_part-first.new.into in
    let first : ℕ = c.lead_part-first.result in
    let result : List ℕ = content_bytes c.args.reply.now.content in
    let back : c.split_at_mut-room.result.1.now ≡ drop first mid = c.split_at_mut-room.ensures.back in
    let count : c.content_part-2.result ≡ min (length (drop first mid)) (length result) =
    omega (arith, c.content_part-2.ensures.count, ap length back) in
    let bytes : c.content_part-2.new.into ≡ take c.content_part-2.result result ++ drop c.content_part-2.result (drop first mid) =
    c.content_part-2.ensures.bytes ∙ ap (λ (l : List ℕ). take c.content_part-2.result result ++ drop c.content_part-2.result l) back in
    ap (λ (l : List ℕ). l ++ c.content_part-2.new.into) c.split_at_mut-room.ensures.front
    ∙ (over_lead (reply_frame c.args.version (reply_said c.args.reply.now)) (lead_bytes c.args.version c.args.reply.now c.args.body_len)
    result c.args.into.now mid c.content_part-2.new.into c.args.lead_len c.args.from first c.content_part-2.result
    (frame_is c.args.version c.args.reply.now c.args.body_len c.args.lead_len c.requires.laid) c.requires.laid.lead c.if-from-lead_len.false c.if-from-first.false
    c.lead_part-first.ensures.count c.lead_part-first.ensures.bytes count bytes).1
