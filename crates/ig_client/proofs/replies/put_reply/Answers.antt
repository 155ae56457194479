use Rattle.std.proofs.Common.{◌≡◌, Some, w64, to_z, of_z}
use Rattle.std.proofs.lemmas.Int.{to_z-of_z}
use Rattle.ig_client.proofs.ReplyLemmas.{put_at, never_absent, settled}
use Rattle.ig_client.proofs.replies.put_reply.Goals as goal

pub returns : goal.returns
returns c =
    let key : to_z w64 (of_z w64 c.args.id) ≡ c.args.id = to_z-of_z w64 c.args.id c.ranges.id in
    put_at c.args.replies.now.entries c.insert.new.self.entries (to_z w64 (of_z w64 c.args.id)) c.args.id (Some c.args.frame) key
    (settled c.insert.result _ _ c.insert.ensures.updates c.insert.ensures.absent
    (never_absent c.args.replies.now.entries (to_z w64 (of_z w64 c.args.id)) c.args.id key c.requires)).0
