use Rattle.ig_caches.proofs.FitLemmas.{refused_stays, answers_fit}
use Rattle.ig_caches.proofs.laws.answers_fit.Goals as goal

pub returns : goal.returns
returns c = record { refused = refused_stays; fit = answers_fit }
