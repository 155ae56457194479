use Rattle.ig_parts.proofs.LawLemmas.{groups_parts}
use Rattle.ig_parts.proofs.served.served_map.Goals as goal

pub returns-clause-parts : goal.returns-clause-parts
returns-clause-parts c = groups_parts c.args.nodes c.args.parts c.args.caches.now c.args.pairs.now c.in_ok-groups.groups c.in_ok-groups.ensures c.requires.parts
