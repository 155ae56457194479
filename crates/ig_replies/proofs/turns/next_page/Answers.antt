use Rattle.std.proofs.Common.{◌≡◌, ◌<◌, ℤ, pos, Some, None, List, length, sym, ap, subst, ◌∙◌, to_z, of_z, w64}
use Rattle.std.specs.Prelude.{option_map}
use Rattle.std.proofs.lemmas.Int.{to_z-of_z}
use Rattle.ig_wire.specs.declared.reason.Reason.TheVariants as reason
use Rattle.ig_wire.specs.Limits.{most_cursors}
use Rattle.ig_caches.specs.declared.request.Page.{Page}
use Rattle.ig_caches.specs.declared.request.Shown.TheVariants as shown
use Rattle.ig_deals.specs.Desk.{Cursor, Desk, page_shown, after_page, paged, cursor_at, without}
use Rattle.ig_deals.specs.Faults.{fault_of}
use Rattle.ig_deals.specs.Replies.{Shows, Fails, reply_frame, shortened}
use Rattle.ig_deals.specs.Turns.{untold, page_content}
use Rattle.ig_replies.specs.RunTerms.{terms_of}
use Rattle.ig_replies.specs.Showing.{showing}
use Rattle.ig_replies.proofs.TurnLemmas.{taken_is_alone, taken_leaves_room, next_turned, paged_is, none_paged, none_next, some_next}
use Rattle.ig_replies.proofs.turns.next_page.Goals as goal

pub returns-in_default-clause-ok : goal.returns-in_default-clause-ok
returns-in_default-clause-ok c =
    let number : to_z w64 (of_z w64 c.args.number) ≡ c.args.number = to_z-of_z w64 c.args.number c.ranges.number in
    let id : to_z w64 (of_z w64 c.args.id) ≡ c.args.id = to_z-of_z w64 c.args.id c.ranges.id in
    let none : cursor_at c.args.desk.now.cursors c.args.number ≡ None =
    none_paged (cursor_at c.args.desk.now.cursors c.args.number)
    (ap (λ (k : ℤ). option_map paged (cursor_at c.args.desk.now.cursors k)) (sym number) ∙ sym c.in_ok-page.ensures.page ∙ c.in_default.is) in
    let left : c.take_page.new.self ≡ record c.args.desk.now { cursors = without c.args.desk.now.cursors c.args.number } =
    c.in_ok-page.ensures.left ∙ ap (λ (k : ℤ). record c.args.desk.now { cursors = without c.args.desk.now.cursors k }) number in
    let said : c.say.result ≡ showing (reply_frame c.args.terms.now.version
    (shortened c.args.terms.now.version (untold c.args.id (Fails (fault_of reason.NoResource))))) =
    c.say.ensures
    ∙ ap (λ (i : ℤ). showing (reply_frame c.args.terms.now.version (shortened c.args.terms.now.version (untold i (Fails (fault_of reason.NoResource)))))) id in
    none_next (terms_of c.args.terms.now) c.args.desk.now c.take_page.new.self c.args.id c.args.number c.say.result none left said

pub show_page-requires-clause-room : goal.show_page-requires-clause-room
show_page-requires-clause-room c = λ more.
    let number : to_z w64 (of_z w64 c.args.number) ≡ c.args.number = to_z-of_z w64 c.args.number c.ranges.number in
    let taken : (cursor : Cursor) × (cursor_at c.args.desk.now.cursors c.args.number ≡ Some cursor)
    × (c.in-Some.page ≡ page_shown None cursor) × (c.in-Some.cursor ≡ after_page cursor) =
    paged_is (cursor_at c.args.desk.now.cursors c.args.number) c.in-Some.page c.in-Some.cursor
    (ap (λ (k : ℤ). option_map paged (cursor_at c.args.desk.now.cursors k)) (sym number) ∙ sym c.in_ok-page.ensures.page ∙ c.in-Some.is) in
    let left : c.take_page.new.self ≡ record c.args.desk.now { cursors = without c.args.desk.now.cursors c.args.number } =
    c.in_ok-page.ensures.left ∙ ap (λ (k : ℤ). record c.args.desk.now { cursors = without c.args.desk.now.cursors k }) number in
    subst (λ (d : Desk). length d.cursors < most_cursors) (sym left)
    (taken_leaves_room c.args.number c.args.desk.now.cursors taken.0 taken.1 c.requires.kept.few)

pub show_page-requires-clause-unused : goal.show_page-requires-clause-unused
show_page-requires-clause-unused c =
    let number : to_z w64 (of_z w64 c.args.number) ≡ c.args.number = to_z-of_z w64 c.args.number c.ranges.number in
    let taken : (cursor : Cursor) × (cursor_at c.args.desk.now.cursors c.args.number ≡ Some cursor)
    × (c.in-Some.page ≡ page_shown None cursor) × (c.in-Some.cursor ≡ after_page cursor) =
    paged_is (cursor_at c.args.desk.now.cursors c.args.number) c.in-Some.page c.in-Some.cursor
    (ap (λ (k : ℤ). option_map paged (cursor_at c.args.desk.now.cursors k)) (sym number) ∙ sym c.in_ok-page.ensures.page ∙ c.in-Some.is) in
    let left : c.take_page.new.self ≡ record c.args.desk.now { cursors = without c.args.desk.now.cursors c.args.number } =
    c.in_ok-page.ensures.left ∙ ap (λ (k : ℤ). record c.args.desk.now { cursors = without c.args.desk.now.cursors k }) number in
    ap (λ (d : Desk). cursor_at d.cursors (pos c.in-Some.cursor.number)) left
    ∙ ap (λ (d : Cursor). cursor_at (without c.args.desk.now.cursors c.args.number) (pos d.number)) taken.3
    ∙ taken_is_alone c.args.number c.args.desk.now.cursors taken.0 taken.1

pub returns-clause-ok : goal.returns-clause-ok
returns-clause-ok c =
    let id : to_z w64 (of_z w64 c.args.id) ≡ c.args.id = to_z-of_z w64 c.args.id c.ranges.id in
    let number : to_z w64 (of_z w64 c.args.number) ≡ c.args.number = to_z-of_z w64 c.args.number c.ranges.number in
    let taken : (cursor : Cursor) × (cursor_at c.args.desk.now.cursors c.args.number ≡ Some cursor)
    × (c.in-Some.page ≡ page_shown None cursor) × (c.in-Some.cursor ≡ after_page cursor) =
    paged_is (cursor_at c.args.desk.now.cursors c.args.number) c.in-Some.page c.in-Some.cursor
    (ap (λ (k : ℤ). option_map paged (cursor_at c.args.desk.now.cursors k)) (sym number) ∙ sym c.in_ok-page.ensures.page ∙ c.in-Some.is) in
    let left : c.take_page.new.self ≡ record c.args.desk.now { cursors = without c.args.desk.now.cursors c.args.number } =
    c.in_ok-page.ensures.left ∙ ap (λ (k : ℤ). record c.args.desk.now { cursors = without c.args.desk.now.cursors k }) number in
    let page : untold (to_z w64 (of_z w64 c.args.id)) (Shows (shown.Page c.in-Some.page)) ≡ untold c.args.id (page_content None taken.0) =
    ap (λ (i : ℤ). untold i (Shows (shown.Page c.in-Some.page))) id ∙ ap (λ (p : Page). untold c.args.id (Shows (shown.Page p))) taken.2 in
    some_next (terms_of c.args.terms.now) c.args.desk.now c.show_page.new.desk c.args.id c.args.number taken.0 c.show_page.result taken.1
    (next_turned (terms_of c.args.terms.now) c.args.desk.now c.take_page.new.self c.show_page.new.desk c.args.number taken.0 c.in-Some.cursor
    (untold (to_z w64 (of_z w64 c.args.id)) (Shows (shown.Page c.in-Some.page))) (untold c.args.id (page_content None taken.0))
    c.in-Some.page.more c.show_page.result left page (ap (λ (p : Page). p.more) taken.2) taken.3 c.show_page.ensures.frame c.show_page.ensures.«open»)
