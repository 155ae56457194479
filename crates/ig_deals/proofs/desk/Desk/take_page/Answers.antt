use Rattle.std.proofs.Common.{◌≡◌, ◌<◌, ◌≤◌, Some, None, List, length, sym, ap, ◌∙◌, subst, arith}
use Rattle.std.specs.Prelude.{slice_index_or, slice_set, vec_capacity, option_map}
use Rattle.std.proofs.lemmas.Int.{to_z-of_z}
use Rattle.std.proofs.lemmas.Grind.{common_steps}
use Rattle.ig_wire.specs.Limits.{most_cursors}
use Rattle.ig_deals.specs.Desk.{Cursor, Desk, page_shown, after_page, paged, AreApart, place_of_number, cursor_at, without}
use Rattle.ig_deals.proofs.TakeLemmas.{place_within, place_none, place_same, lent_back, page_lent, page_taken, page_left, apart-without}
use Rattle.ig_deals.proofs.desk.Desk.take_page.Goals as goal

pub page_at-requires : goal.page_at-requires
page_at-requires c =
    let place : place_of_number c.self.inside.cursors.items c.args.number ≡ Some c.in-Some.index = grind (arith, to_z-of_z) in
    let lt : c.in-Some.index < length c.self.inside.cursors.items = place_within c.args.number c.self.inside.cursors.items c.in-Some.index place in
    subst (λ (l : List Cursor). c.in-Some.index < length l) (sym c.deref_mut.ensures.value) lt

pub remove-requires : goal.remove-requires
remove-requires c =
    let place : place_of_number c.self.inside.cursors.items c.args.number ≡ Some c.in-Some.index = grind (arith, to_z-of_z) in
    let lt : c.in-Some.index < length c.self.inside.cursors.items = place_within c.args.number c.self.inside.cursors.items c.in-Some.index place in
    grind (arith, common_steps)

pub invariant_of-self-in-Some : goal.invariant_of-self-in-Some
invariant_of-self-in-Some c =
    let place : place_of_number c.self.inside.cursors.items c.args.number ≡ Some c.in-Some.index = grind (arith, to_z-of_z) in
    let long : length c.self.inside.cursors.items ≡ c.self.inside.cursors.len = grind (arith, common_steps) in
    let new : (d : Cursor) → lent_back c.self.inside.cursors.len c.page_at.new.cursors c.self.inside.cursors.items
    ≡ slice_set c.self.inside.cursors.items c.in-Some.index (after_page (slice_index_or c.self.inside.cursors.items c.in-Some.index d)) =
    page_lent c.self.inside.cursors.items c.deref_mut.result.now c.page_at.new.cursors c.self.inside.cursors.len c.in-Some.index
    c.deref_mut.ensures.value long c.in_ok-page-in-Some.ensures.left in
    let left : c.remove.new.self.items ≡ without c.self.inside.cursors.items c.args.number =
    c.remove.ensures.by_index.2
    ∙ page_left c.args.number c.self.inside.cursors.items (lent_back c.self.inside.cursors.len c.page_at.new.cursors c.self.inside.cursors.items)
    c.in-Some.index c.remove.result place c.self.invariant.1 new in
    let room : most_cursors ≤ vec_capacity c.remove.new.self = grind (arith, common_steps) in
    (room, subst AreApart (sym left) (apart-without c.args.number c.self.inside.cursors.items c.self.invariant.1))

pub returns-in_ok-page-in-Some-clause-page : goal.returns-in_ok-page-in-Some-clause-page
returns-in_ok-page-in-Some-clause-page c =
    let place : place_of_number c.self.inside.cursors.items c.args.number ≡ Some c.in-Some.index = grind (arith, to_z-of_z) in
    let long : length c.self.inside.cursors.items ≡ c.self.inside.cursors.len = grind (arith, common_steps) in
    let new : (d : Cursor) → lent_back c.self.inside.cursors.len c.page_at.new.cursors c.self.inside.cursors.items
    ≡ slice_set c.self.inside.cursors.items c.in-Some.index (after_page (slice_index_or c.self.inside.cursors.items c.in-Some.index d)) =
    page_lent c.self.inside.cursors.items c.deref_mut.result.now c.page_at.new.cursors c.self.inside.cursors.len c.in-Some.index
    c.deref_mut.ensures.value long c.in_ok-page-in-Some.ensures.left in
    let page : (d : Cursor) → c.in_ok-page-in-Some.page ≡ page_shown None (slice_index_or c.self.inside.cursors.items c.in-Some.index d) = λ d.
    c.in_ok-page-in-Some.ensures.page d ∙ ap (λ (l : List Cursor). page_shown None (slice_index_or l c.in-Some.index d)) c.deref_mut.ensures.value in
    page_taken c.args.number c.self.inside.cursors.items (lent_back c.self.inside.cursors.len c.page_at.new.cursors c.self.inside.cursors.items)
    c.in-Some.index c.in_ok-page-in-Some.page c.remove.result place page new c.remove.ensures.value
    ∙ ap (λ (d : Desk). option_map paged (cursor_at d.cursors c.args.number)) c.self.view_is

pub returns-in_ok-page-in-Some-clause-left : goal.returns-in_ok-page-in-Some-clause-left
returns-in_ok-page-in-Some-clause-left c =
    let place : place_of_number c.self.inside.cursors.items c.args.number ≡ Some c.in-Some.index = grind (arith, to_z-of_z) in
    let long : length c.self.inside.cursors.items ≡ c.self.inside.cursors.len = grind (arith, common_steps) in
    let new : (d : Cursor) → lent_back c.self.inside.cursors.len c.page_at.new.cursors c.self.inside.cursors.items
    ≡ slice_set c.self.inside.cursors.items c.in-Some.index (after_page (slice_index_or c.self.inside.cursors.items c.in-Some.index d)) =
    page_lent c.self.inside.cursors.items c.deref_mut.result.now c.page_at.new.cursors c.self.inside.cursors.len c.in-Some.index
    c.deref_mut.ensures.value long c.in_ok-page-in-Some.ensures.left in
    let left : c.remove.new.self.items ≡ without c.self.inside.cursors.items c.args.number =
    c.remove.ensures.by_index.2
    ∙ page_left c.args.number c.self.inside.cursors.items (lent_back c.self.inside.cursors.len c.page_at.new.cursors c.self.inside.cursors.items)
    c.in-Some.index c.remove.result place c.self.invariant.1 new in
    let with_cursors : List Cursor → Desk = λ cs. record { cursors = cs; next = c.self.inside.next; told = c.self.inside.told } in
    ap with_cursors left ∙ ap (λ (d : Desk). record d { cursors = without d.cursors c.args.number }) c.self.view_is

pub returns-in-None-clause-page : goal.returns-in-None-clause-page
returns-in-None-clause-page c =
    let place : place_of_number c.self.inside.cursors.items c.args.number ≡ None = grind (arith, to_z-of_z) in
    let none : cursor_at c.self.inside.cursors.items c.args.number ≡ None = place_none c.args.number c.self.inside.cursors.items place in
    ap (option_map paged) (sym none ∙ ap (λ (d : Desk). cursor_at d.cursors c.args.number) c.self.view_is)

pub returns-in-None-clause-left : goal.returns-in-None-clause-left
returns-in-None-clause-left c =
    let place : place_of_number c.self.inside.cursors.items c.args.number ≡ None = grind (arith, to_z-of_z) in
    let same : without c.self.inside.cursors.items c.args.number ≡ c.self.inside.cursors.items = place_same c.args.number c.self.inside.cursors.items place in
    let unchanged : without c.args.self.now.cursors c.args.number ≡ c.args.self.now.cursors =
    subst (λ (d : Desk). without d.cursors c.args.number ≡ d.cursors) c.self.view_is same in
    let with_cursors : List Cursor → Desk = λ cs. record { cursors = cs; next = c.args.self.now.next; told = c.args.self.now.told } in
    sym (ap with_cursors unchanged)
