use Rattle.std.proofs.Common.{◌≡◌, ◌<◌, List, length, get_or, arith, sym, ap, ◌∙◌}
use Rattle.std.specs.Int.{w32}
use Rattle.std.specs.Prelude.{position, Ok}
use Rattle.std.proofs.lemmas.List.{length-map}
use Rattle.std.proofs.lemmas.Int.{to_z-of_z}
use Rattle.ig_parts.specs.declared.map.Group.{Group}
use Rattle.ig_parts.specs.declared.map.PartMap.{PartMap}
use Rattle.ig_parts.specs.NodeTable.{node_table}
use Rattle.ig_parts.specs.Owner.{routes, owner_in}
use Rattle.ig_parts.proofs.TableLemmas.{place_found, owner_nowhere, owner_there, table_there}
use Rattle.ig_parts.proofs.routes.Routes.owner.Goals as goal

pub returns-in_default : goal.returns-in_default
returns-in_default c =
    let groups : c.as_slice-groups.result.now ≡ c.args.self.now.groups = c.as_slice-groups.ensures ∙ ap (λ (m : PartMap). m.groups) c.self.view_is in
    let place = c.group_place.ensures ∙ ap (λ z. position (routes z) c.as_slice-groups.result.now) (to_z-of_z w32 c.args.cache c.ranges.cache) in
    ap (λ o. Ok o) (sym (owner_nowhere c.args.self.now c.args.cache c.args.key.now (ap (position (routes c.args.cache)) (sym groups) ∙ sym place ∙ c.in_default.is)))

pub index-requires : goal.index-requires
index-requires c =
    let found = place_found (routes c.args.cache) c.as_slice-groups.result.now c.index-groups-at.result c.in-Some.at (sym (c.group_place.ensures ∙ ap (λ z. position (routes z) c.as_slice-groups.result.now) (to_z-of_z w32 c.args.cache c.ranges.cache)) ∙ c.in-Some.is) in
    let size = ap length c.self.invariant.each ∙ length-map c.self.inside.map.groups (λ (g : Group). node_table g.nodes) in
    omega (arith, found.1, ap length c.as_slice-groups.ensures, size, c.self.inside.tables.ok)

pub owner_in-requires-clause-table : goal.owner_in-requires-clause-table
owner_in-requires-clause-table c =
    let found = place_found (routes c.args.cache) c.as_slice-groups.result.now c.index-groups-at.result c.in-Some.at (sym (c.group_place.ensures ∙ ap (λ z. position (routes z) c.as_slice-groups.result.now) (to_z-of_z w32 c.args.cache c.ranges.cache)) ∙ c.in-Some.is) in
    let here = ap (λ (l : List Group). length l) c.as_slice-groups.ensures in
    let within : c.in-Some.at < length c.self.inside.map.groups = omega (arith, found.1, here) in
    let group = ap (λ (l : List Group). get_or l c.in-Some.at c.index-groups-at.result) (sym c.as_slice-groups.ensures) ∙ sym c.index-groups-at.is in
    c.as_slice.ensures ∙ table_there c.self.inside.map.groups c.self.inside.tables.items c.in-Some.at c.index-groups-at.result c.index.result.now c.self.invariant.each within group (sym c.index.ensures)

pub returns : goal.returns
returns c =
    let groups : c.as_slice-groups.result.now ≡ c.args.self.now.groups = c.as_slice-groups.ensures ∙ ap (λ (m : PartMap). m.groups) c.self.view_is in
    let place = c.group_place.ensures ∙ ap (λ z. position (routes z) c.as_slice-groups.result.now) (to_z-of_z w32 c.args.cache c.ranges.cache) in
    let there = ap (position (routes c.args.cache)) (sym groups) ∙ sym place ∙ c.in-Some.is in
    let group = ap (λ (l : List Group). get_or l c.in-Some.at c.index-groups-at.result) (sym groups) ∙ sym c.index-groups-at.is in
    let same = owner_there c.args.self.now c.args.cache c.args.key.now c.in-Some.at c.index-groups-at.result there group in
    c.owner_in.ensures ∙ ap (λ z. Ok (owner_in c.index-groups-at.result z c.args.key.now)) (to_z-of_z w32 c.args.cache c.ranges.cache) ∙ ap (λ o. Ok o) (sym same)
