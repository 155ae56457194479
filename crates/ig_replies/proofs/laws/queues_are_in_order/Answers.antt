use Rattle.ig_replies.proofs.ShowLemmas.{shows_next, gone_is_dropped, push_is_last}
use Rattle.ig_replies.proofs.laws.queues_are_in_order.Goals as goal

pub returns : goal.returns
returns c = record { next = shows_next; gone = gone_is_dropped; last = push_is_last }
