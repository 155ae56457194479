use Rattle.std.proofs.Common.{rules}
use Rattle.ig_caches.specs.declared.answer.Outcome.TheVariants as outcome
use Rattle.ig_caches.specs.declared.request.Shown.TheVariants as shown
use Rattle.ig_ops.proofs.result_shapes.read_count.Goals as goal

pub returns : goal.returns
returns c = c.read_shown.ensures (λ n. shown.Out (outcome.Count n)) (λ x y p. search rules)
