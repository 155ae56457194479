use Rattle.std.proofs.Common.{◌≡◌, List, ℕ, [], ◌∷◌, sym, ap, subst, ◌∙◌}
use Rattle.std.specs.List.{AllByRecursion}
use Rattle.ig_replies.specs.Showing.{Showing, Waiting, after_push}
use Rattle.ig_replies.specs.Queues.{IsFresh, frames_of}
use Rattle.ig_replies.proofs.QueueLemmas.{first_pushed}
use Rattle.ig_replies.proofs.queue.Queue.push.Goals as goal

pub begin-requires : goal.begin-requires
begin-requires c = ap (λ (s : Showing). s.gone) c.requires
