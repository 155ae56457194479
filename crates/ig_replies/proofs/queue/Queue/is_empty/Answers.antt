use Rattle.std.proofs.Common.{◌≡◌, subst}
use Rattle.std.specs.Prelude.{[], ◌↔◌, IsTrue}
use Rattle.ig_replies.specs.Showing.{Waiting}
use Rattle.ig_replies.proofs.QueueLemmas.{none_waits}
use Rattle.ig_replies.proofs.queue.Queue.is_empty.Goals as goal

pub returns : goal.returns
returns c =
    subst (λ (w : Waiting). IsTrue c.is_none.result ↔ (w.frames ≡ [])) c.self.view_is
    (none_waits c.self.inside.first c.self.inside.piece c.self.inside.later.items c.is_none.result c.is_none.ensures)
