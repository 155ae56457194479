use Rattle.std.proofs.Common.{rules, w32, to_z, of_z, ◌≡◌, ◌++◌, ◌∷◌, [], Some, List, ℤ, refl, sym, ap, subst, ◌∙◌}
use Rattle.std.specs.FinMap as map
use Rattle.std.specs.FinMap.{from_entries}
use Rattle.ig_types.specs.declared.meta.TypeMeta.{TypeMeta}
use Rattle.ig_types.specs.IsInOrder.{IsInOrder}
use Rattle.ig_types.specs.Registered.{Registered, IsWellFormed, HoldsJoinsOf, registry_after_put}
use Rattle.ig_types.proofs.RegistryLemmas.{well_formed_put, joins_of_put, put_is, IsKnown, known, registered_in_order}
use Rattle.ig_types.proofs.registry.Registry.put.Goals as goal

-- an insert that fails leaves the entries
pub invariant_of-self : goal.invariant_of-self
invariant_of-self c =
    subst (λ (es : List (ℤ × TypeMeta)). IsWellFormed (record { types = from_entries es; names = from_entries c.self.inside.names.entries }))
    (sym c.in_err-insert.ensures.err) c.self.invariant

pub invariant_of-self-2 : goal.invariant_of-self-2
invariant_of-self-2 c =
    let key : to_z w32 (of_z w32 c.args.meta.now.type_id) ≡ c.args.meta.now.type_id = search rules in
    let new : ◌≡◌ {A = Registered} (record { types = from_entries c.insert.new.self.entries; names = from_entries c.self.inside.names.entries }) (registry_after_put c.args.self.now c.args.meta.now) =
    put_is c.args.self.now c.self.inside.types.entries c.insert.new.self.entries (from_entries c.self.inside.names.entries) c.args.meta.now c.in_ok-joined.joined _
    (ap (λ r. r.types) c.self.view_is) (ap (λ r. r.names) c.self.view_is) key c.in_ok-joined.ensures.outcome.1 c.in_ok-insert.ensures.updates.0
    in subst IsWellFormed (sym new) (well_formed_put c.args.self.now c.args.meta.now ((subst IsWellFormed c.self.view_is c.self.invariant) c.args.meta.now.type_id) c.requires c.in_ok-joined.ensures.outcome.0 (subst IsWellFormed c.self.view_is c.self.invariant))

pub returns-2 : goal.returns-2
returns-2 c =
    let key : to_z w32 (of_z w32 c.args.meta.now.type_id) ≡ c.args.meta.now.type_id = search rules in
    let new : ◌≡◌ {A = Registered} (record { types = from_entries c.insert.new.self.entries; names = from_entries c.self.inside.names.entries }) (registry_after_put c.args.self.now c.args.meta.now) =
    put_is c.args.self.now c.self.inside.types.entries c.insert.new.self.entries (from_entries c.self.inside.names.entries) c.args.meta.now c.in_ok-joined.joined _
    (ap (λ r. r.types) c.self.view_is) (ap (λ r. r.names) c.self.view_is) key c.in_ok-joined.ensures.outcome.1 c.in_ok-insert.ensures.updates.0
    in record {
      joins = λ ms joins.
          subst (λ (r : Registered). HoldsJoinsOf r (ms ++ c.args.meta.now ∷ [])) (sym new)
          (joins_of_put c.args.self.now c.args.meta.now ((subst IsWellFormed c.self.view_is c.self.invariant) c.args.meta.now.type_id) c.requires c.in_ok-joined.ensures.outcome.0 ms joins);
      outcome = (c.in_ok-joined.ensures.outcome.0, refl);
      clash = tt;
      ok = new;
      err = tt;
    }

-- a description that stands there already changes nothing
pub returns : goal.returns
returns c =
    let key : to_z w32 (of_z w32 c.args.meta.now.type_id) ≡ c.args.meta.now.type_id = search rules in
    let found : map.get c.args.self.now.types c.args.meta.now.type_id ≡ Some c.in-Some.known.now =
    sym (c.in-Some.ensures.found ∙ ap (map.get c.args.self.now.types) key) in
    let its : (c.in-Some.known.now.type_id ≡ c.args.meta.now.type_id) × IsInOrder c.in-Some.known.now =
    (c.in-Some.ensures.in_order.0 ∙ key, c.in-Some.ensures.in_order.1) in
    let it : IsKnown c.args.self.now c.args.meta.now = known c.args.self.now c.args.meta.now c.in-Some.known.now its c.requires found (c.if-is_below.ensures.0 refl)
    in record {
      joins = λ ms joins.
          subst (λ (r : Registered). HoldsJoinsOf r (ms ++ c.args.meta.now ∷ [])) it.same
          (joins_of_put c.args.self.now c.args.meta.now (registered_in_order c.args.self.now c.args.meta.now c.in-Some.known.now its found) c.requires it.no_clash ms joins);
      outcome = (it.no_clash, refl);
      clash = tt;
      ok = sym it.same;
      err = tt;
    }
