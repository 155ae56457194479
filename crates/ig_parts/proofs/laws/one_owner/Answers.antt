use Rattle.ig_parts.proofs.LawLemmas.{served_owner, one_node}
use Rattle.ig_parts.proofs.laws.one_owner.Goals as goal

pub returns : goal.returns
returns c = record { owner = served_owner; only = one_node }
