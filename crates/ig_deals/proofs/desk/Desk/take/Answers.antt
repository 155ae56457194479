use Rattle.std.proofs.Common.{◌≡◌, ◌<◌, ◌≤◌, ◌+◌, Some, None, List, ◌++◌, length, take, drop, sym, ap, ◌∙◌, subst, arith}
use Rattle.std.specs.Prelude.{slice_index_or, vec_capacity}
use Rattle.std.proofs.lemmas.Int.{to_z-of_z}
use Rattle.std.proofs.lemmas.Grind.{common_steps}
use Rattle.ig_wire.specs.Limits.{most_cursors}
use Rattle.ig_deals.specs.Desk.{Cursor, Desk, AreApart, place_of_number, cursor_at, without}
use Rattle.ig_deals.proofs.TakeLemmas.{place_within, place_found, place_left, place_none, place_same, apart-without}
use Rattle.ig_deals.proofs.desk.Desk.take.Goals as goal

pub remove-requires : goal.remove-requires
remove-requires c =
    let place : place_of_number c.self.inside.cursors.items c.args.number ≡ Some c.in-Some.index = grind (arith, to_z-of_z) in
    let lt : c.in-Some.index < length c.self.inside.cursors.items = place_within c.args.number c.self.inside.cursors.items c.in-Some.index place in
    grind (arith, common_steps)

pub invariant_of-self : goal.invariant_of-self
invariant_of-self c =
    let place : place_of_number c.self.inside.cursors.items c.args.number ≡ Some c.in-Some.index = grind (arith, to_z-of_z) in
    let left : without c.self.inside.cursors.items c.args.number ≡ take c.in-Some.index c.self.inside.cursors.items ++ drop (c.in-Some.index + 1) c.self.inside.cursors.items =
    place_left c.args.number c.self.inside.cursors.items c.in-Some.index place c.self.invariant.1 in
    let room : most_cursors ≤ vec_capacity c.remove.new.self = grind (arith, common_steps) in
    (room, subst AreApart (left ∙ sym c.remove.ensures.by_index.2) (apart-without c.args.number c.self.inside.cursors.items c.self.invariant.1))

pub returns-in-Some-clause-taken : goal.returns-in-Some-clause-taken
returns-in-Some-clause-taken c =
    let place : place_of_number c.self.inside.cursors.items c.args.number ≡ Some c.in-Some.index = grind (arith, to_z-of_z) in
    let found : cursor_at c.self.inside.cursors.items c.args.number ≡ Some (slice_index_or c.self.inside.cursors.items c.in-Some.index c.remove.result) =
    place_found c.args.number c.self.inside.cursors.items c.in-Some.index place c.remove.result in
    ap Some c.remove.ensures.value ∙ sym found ∙ ap (λ (d : Desk). cursor_at d.cursors c.args.number) c.self.view_is

pub returns-in-Some-clause-left : goal.returns-in-Some-clause-left
returns-in-Some-clause-left c =
    let place : place_of_number c.self.inside.cursors.items c.args.number ≡ Some c.in-Some.index = grind (arith, to_z-of_z) in
    let left : without c.self.inside.cursors.items c.args.number ≡ take c.in-Some.index c.self.inside.cursors.items ++ drop (c.in-Some.index + 1) c.self.inside.cursors.items =
    place_left c.args.number c.self.inside.cursors.items c.in-Some.index place c.self.invariant.1 in
    let with_cursors : List Cursor → Desk = λ cs. record { cursors = cs; next = c.self.inside.next; told = c.self.inside.told } in
    ap with_cursors (c.remove.ensures.by_index.2 ∙ sym left)
    ∙ ap (λ (d : Desk). record d { cursors = without d.cursors c.args.number }) c.self.view_is

pub returns-in-None-clause-taken : goal.returns-in-None-clause-taken
returns-in-None-clause-taken c =
    let place : place_of_number c.self.inside.cursors.items c.args.number ≡ None = grind (arith, to_z-of_z) in
    let none : cursor_at c.self.inside.cursors.items c.args.number ≡ None = place_none c.args.number c.self.inside.cursors.items place in
    sym none ∙ ap (λ (d : Desk). cursor_at d.cursors c.args.number) c.self.view_is

pub returns-in-None-clause-left : goal.returns-in-None-clause-left
returns-in-None-clause-left c =
    let place : place_of_number c.self.inside.cursors.items c.args.number ≡ None = grind (arith, to_z-of_z) in
    let same : without c.self.inside.cursors.items c.args.number ≡ c.self.inside.cursors.items = place_same c.args.number c.self.inside.cursors.items place in
    let unchanged : without c.args.self.now.cursors c.args.number ≡ c.args.self.now.cursors =
    subst (λ (d : Desk). without d.cursors c.args.number ≡ d.cursors) c.self.view_is same in
    let with_cursors : List Cursor → Desk = λ cs. record { cursors = cs; next = c.args.self.now.next; told = c.args.self.now.told } in
    sym (ap with_cursors unchanged)
