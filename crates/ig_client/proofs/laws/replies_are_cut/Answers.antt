use Rattle.ig_client.proofs.CutLemmas.{cuts_rightly}
use Rattle.ig_client.proofs.laws.replies_are_cut.Goals as goal

pub returns : goal.returns
returns c = cuts_rightly
