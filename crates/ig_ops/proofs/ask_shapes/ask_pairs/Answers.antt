use Rattle.std.proofs.Common.{rules}
use Rattle.std.specs.List.{flat_map}
use Rattle.ig_caches.specs.declared.call.Call.TheVariants.{PutAll}
use Rattle.ig_caches.specs.declared.request.Request.TheVariants as request
use Rattle.ig_ops.specs.Requests.{null_among, pair_values}
use Rattle.ig_ops.proofs.ask_shapes.ask_pairs.Goals as goal

pub returns : goal.returns
returns c = c.read_asked.ensures (λ x. request.Run (PutAll x.0.0 x.1)) (λ x. null_among (flat_map pair_values x.1)) (λ x y p. search rules)
