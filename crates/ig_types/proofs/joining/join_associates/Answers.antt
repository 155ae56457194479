use Rattle.ig_types.proofs.JoinLawLemmas.{join_associates}
use Rattle.ig_types.proofs.joining.join_associates.Goals as goal

pub returns : goal.returns
returns c = join_associates
