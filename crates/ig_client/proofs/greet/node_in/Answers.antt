use Rattle.std.proofs.Common.{ℕ, List, refl, subst}
use Rattle.ig_wire.specs.HelloReplies.{hello_reply_of}
use Rattle.ig_client.specs.Greeted.{Answered}
use Rattle.ig_client.proofs.GreetLemmas.{after_length}
use Rattle.ig_client.proofs.greet.node_in.Goals as goal

pub returns-clause-answer : goal.returns-clause-answer
returns-clause-answer c =
    subst (λ (l : List ℕ). Answered (hello_reply_of c.args.version l) l c.node_of.result) (after_length c.args.frame.now c.args.frame.now refl) c.node_of.ensures
