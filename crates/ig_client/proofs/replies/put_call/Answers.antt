use Rattle.std.proofs.Common.{None, w64}
use Rattle.std.proofs.lemmas.Int.{to_z-of_z}
use Rattle.ig_client.proofs.ReplyLemmas.{put_at}
use Rattle.ig_client.proofs.replies.put_call.Goals as goal

pub returns-clause-ok : goal.returns-clause-ok
returns-clause-ok c =
    put_at c.args.replies.now.entries c.insert.new.self.entries _ c.args.id None (to_z-of_z w64 c.args.id c.ranges.id) c.in_ok-insert.ensures.updates.0
