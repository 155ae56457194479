use Rattle.std.proofs.Common.{ap}
use Rattle.std.specs.FinMap.{from_entries}
use Rattle.ig_types.specs.Registered.{Registered}
use Rattle.ig_types.proofs.RegistryLemmas.{well_formed_empty, joins_of_empty}
use Rattle.ig_types.proofs.registry.Registry.new.Goals as goal

pub invariant_of-result : goal.invariant_of-result
invariant_of-result c =
    let r : Registered = record { types = from_entries c.new.result.entries; names = from_entries c.new-2.result.entries } in
    well_formed_empty r (ap from_entries c.new.ensures.empty)

pub returns-clause-joins : goal.returns-clause-joins
returns-clause-joins c =
    let r : Registered = record { types = from_entries c.new.result.entries; names = from_entries c.new-2.result.entries } in
    joins_of_empty r (ap from_entries c.new.ensures.empty)
