use Rattle.ig_base.proofs.FrameLemmas.{has_cut, same_cut}
use Rattle.ig_base.proofs.frames.one_cut.Goals as goal

pub returns : goal.returns
returns c = record { some = has_cut; only = λ side input rest end bodies others a b. same_cut bodies others side input rest end a b }
