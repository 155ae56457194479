use Rattle.ig_replies.proofs.QueueLemmas.{begun_queue, begun_waiting}
use Rattle.ig_replies.proofs.queue.begin.Goals as goal

pub returns-clause-queue : goal.returns-clause-queue
returns-clause-queue c = begun_queue c.args.frame c.refill.new.frame c.refill.new.self c.requires c.refill.ensures.some c.refill.ensures.piece c.refill.ensures.moved

pub returns-clause-waiting : goal.returns-clause-waiting
returns-clause-waiting c = begun_waiting c.args.frame c.refill.new.frame c.refill.new.self c.requires c.refill.ensures.piece c.refill.ensures.moved
