use Rattle.ig_types.proofs.JoinLawLemmas.{join_commutes}
use Rattle.ig_types.proofs.joining.join_commutes.Goals as goal

pub returns : goal.returns
returns c = join_commutes
