use Rattle.std.proofs.Common.{◌≡◌, w32, ap, subst, option_copied}
use Rattle.std.proofs.lemmas.Int.{to_z-of_z}
use Rattle.std.specs.Ordering.{int_cmp}
use Rattle.std.specs.Cmp.{int_cmp_total}
use Rattle.std.specs.FinMap as map
use Rattle.ig_types.specs.Registered.{IsWellFormed}
use Rattle.ig_types.proofs.MapLemmas.{get_answer}
use Rattle.ig_types.proofs.RegistryLemmas.{found_in_order}
use Rattle.ig_types.proofs.registry.Registry.get.Goals as goal

pub returns : goal.returns
returns c =
    let found : option_copied c.get.result ≡ map.get c.args.self.now.types c.args.type_id =
    get_answer int_cmp int_cmp_total c.self.inside.types.entries c.args.self.now.types (option_copied c.get.result) _ c.args.type_id
    (ap (λ r. r.types) c.self.view_is) (to_z-of_z w32 c.args.type_id c.ranges.type_id) c.get.ensures.value
    in record {
      found = found;
      in_order = found_in_order c.args.self.now c.args.type_id c.get.result (subst IsWellFormed c.self.view_is c.self.invariant) found;
    }
