use Rattle.std.proofs.Common.{rules}
use Rattle.ig_caches.specs.declared.answer.Outcome.TheVariants as outcome
use Rattle.ig_caches.specs.declared.request.Shown.TheVariants as shown
use Rattle.ig_ops.proofs.result_shapes.read_done.Goals as goal

pub returns : goal.returns
returns c = c.read_shown.ensures (λ x. shown.Out outcome.Done) (λ x y p. search rules)
