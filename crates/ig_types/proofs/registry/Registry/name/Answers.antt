use Rattle.std.proofs.Common.{w32, ap, option_copied}
use Rattle.std.proofs.lemmas.Int.{to_z-of_z}
use Rattle.ig_types.specs.Registered.{by_place}
use Rattle.ig_types.proofs.MapLemmas.{get_answer}
use Rattle.ig_types.proofs.RegistryLemmas.{by_place_total}
use Rattle.ig_types.proofs.registry.Registry.name.Goals as goal

pub returns : goal.returns
returns c =
    get_answer by_place by_place_total c.self.inside.names.entries c.args.self.now.names (option_copied c.get.result) _ (c.args.platform, c.args.type_id)
    (ap (λ r. r.names) c.self.view_is) (ap (λ id. (c.args.platform, id)) (to_z-of_z w32 c.args.type_id c.ranges.type_id)) c.get.ensures.value
