use Rattle.std.proofs.Common.{rules}
use Rattle.ig_caches.specs.declared.Outcome.TheVariants as outcome
use Rattle.ig_caches.specs.declared.Shown.TheVariants.{Out}
use Rattle.ig_meta.proofs.results.shown_done.Goals as goal

pub returns : goal.returns
returns c = c.read_shown.ensures (λ x. Out outcome.Done) (λ x y p. search rules)
