use Rattle.ig_meta.proofs.TypeLemmas.{ordered_back, read_in_order}
use Rattle.ig_meta.proofs.laws.read_types_are_in_order.Goals as goal

pub returns-clause-back : goal.returns-clause-back
returns-clause-back c = ordered_back

pub returns-clause-in_order : goal.returns-clause-in_order
returns-clause-in_order c = read_in_order
