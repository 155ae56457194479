use Rattle.std.proofs.Common.{◌≡◌, w32, to_z, of_z, sym, ap, ◌∙◌, refl}
use Rattle.std.proofs.lemmas.Int.{to_z-of_z}
use Rattle.std.specs.FinMap as map
use Rattle.std.specs.FinMap.{from_entries}
use Rattle.ig_types.specs.Registered.{Registered, registry_after_name}
use Rattle.ig_types.proofs.RegistryLemmas.{name_is, name_stands}
use Rattle.ig_types.proofs.registry.Registry.set_name.Goals as goal

pub returns-in-Ok-clause-ok : goal.returns-in-Ok-clause-ok
returns-in-Ok-clause-ok c =
    let key : to_z w32 (of_z w32 c.args.type_id) ≡ c.args.type_id = to_z-of_z w32 c.args.type_id c.ranges.type_id in
    name_is c.args.self.now c.self.inside.names.entries c.insert.new.self.entries (from_entries c.self.inside.types.entries) (c.args.platform, c.args.type_id) _ c.args.name
    (ap (λ r. r.types) c.self.view_is) (ap (λ r. r.names) c.self.view_is) (ap (λ id. (c.args.platform, id)) key)
    (sym (c.in_default.ensures ∙ ap (λ id. map.get c.args.self.now.names (c.args.platform, id)) key)) c.in-Ok.ensures.updates.0

pub returns-in-Ok-clause-is_set : goal.returns-in-Ok-clause-is_set
returns-in-Ok-clause-is_set c =
    let key : to_z w32 (of_z w32 c.args.type_id) ≡ c.args.type_id = to_z-of_z w32 c.args.type_id c.ranges.type_id in
    let new : ◌≡◌ {A = Registered} (record { types = from_entries c.self.inside.types.entries; names = from_entries c.insert.new.self.entries }) (registry_after_name c.args.self.now (c.args.platform, c.args.type_id) c.args.name) =
    returns-in-Ok-clause-ok c in (
      λ _.
          ap (λ (r : Registered). map.get r.names (c.args.platform, c.args.type_id)) new
          ∙ name_stands c.args.self.now (c.args.platform, c.args.type_id) c.args.name (sym (c.in_default.ensures ∙ ap (λ id. map.get c.args.self.now.names (c.args.platform, id)) key)),
      λ _. refl,
    )
