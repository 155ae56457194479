use Rattle.ig_value.specs.Limits.{Fits}
use Rattle.ig_value.proofs.SpelledLemmas.{fits_depth}
use Rattle.ig_value.proofs.value.Value.keeps_to_limits.Goals as goal

pub returns-clause-exact : goal.returns-clause-exact
unfolding Fits
returns-clause-exact c = c.fits_to.ensures

pub returns-clause-shallow : goal.returns-clause-shallow
returns-clause-shallow c = λ yes. fits_depth 32 c.args.self.now (c.fits_to.ensures.0 yes)
