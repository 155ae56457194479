use Rattle.ig_types.proofs.JoinLemmas.{JoinFacts, join_facts}
use Rattle.ig_types.proofs.joining.join.Goals as goal

pub returns : goal.returns
returns c =
    let it : JoinFacts c.args.a.now c.args.b.now c.join_descriptions.result =
    join_facts c.args.a.now c.args.b.now c.requires.one_type c.requires.first c.requires.second c.join_descriptions.result c.join_descriptions.ensures
    in record { least = it.least; in_order = it.in_order; agreed = it.agreed; clash = it.clash; outcome = c.join_descriptions.ensures }
