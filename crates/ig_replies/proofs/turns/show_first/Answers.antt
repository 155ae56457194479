use Rattle.std.proofs.Common.{◌≡◌, ℕ, suc, ◌<◌, ◌^◌, ℤ, pos, Option, Some, None, List, length, sym, ap, subst, ◌∙◌, arith, to_z, of_z, w32, w64}
use Rattle.std.specs.Prelude.{IsTrue}
use Rattle.std.proofs.lemmas.Int.{to_z-of_z, to_z_pos}
use Rattle.ig_base.specs.declared.Topology.{Topology}
use Rattle.ig_wire.specs.Versions.{has_flags}
use Rattle.ig_wire.specs.Heads.{MayTell}
use Rattle.ig_wire.specs.Limits.{most_cursors}
use Rattle.ig_deals.specs.Desk.{Cursor, Desk, after_page, cursor_at}
use Rattle.ig_deals.specs.Telling.{tells, told_after}
use Rattle.ig_deals.specs.Replies.{Reply}
use Rattle.ig_deals.specs.Turns.{telling, page_content}
use Rattle.ig_replies.specs.RunTerms.{terms_of}
use Rattle.ig_replies.proofs.TurnLemmas.{tells_rightly, new_is_alone, page_reply, page_is, first_turned}
use Rattle.ig_replies.proofs.turns.show_first.Goals as goal

pub show_page-requires-clause-shown : goal.show_page-requires-clause-shown
show_page-requires-clause-shown c =
    let minor : to_z w32 (of_z w32 c.args.minor) ≡ c.args.minor = to_z-of_z w32 c.args.minor c.ranges.minor in
    let told : c.tell-told.result ≡ tells c.args.terms.now.manner c.args.desk.now.told c.args.minor =
    c.tell-told.ensures.told ∙ ap (tells c.args.terms.now.manner c.args.desk.now.told) minor in
    record {
      told = subst (λ (o : Option Topology). MayTell (has_flags c.args.terms.now.version) o None) (sym told)
          (tells_rightly (has_flags c.args.terms.now.version) c.args.terms.now.manner c.args.desk.now.told c.args.minor c.requires.right.silent);
      text = tt;
    }

pub show_page-requires-clause-room : goal.show_page-requires-clause-room
show_page-requires-clause-room c = λ more.
    let same : c.draw.new.self.cursors ≡ c.args.desk.now.cursors =
    ap (λ (d : Desk). d.cursors) c.draw.ensures ∙ ap (λ (d : Desk). d.cursors) c.tell-told.ensures.noted in
    subst (λ (cs : List Cursor). length cs < most_cursors) (sym same) (c.requires.room more)

pub show_page-requires-clause-unused : goal.show_page-requires-clause-unused
show_page-requires-clause-unused c =
    let same : c.draw.new.self.cursors ≡ c.args.desk.now.cursors =
    ap (λ (d : Desk). d.cursors) c.draw.ensures ∙ ap (λ (d : Desk). d.cursors) c.tell-told.ensures.noted in
    new_is_alone c.args.desk.now c.draw.new.self c.args.cursor c.take_page.new.self c.requires.numbers.kept c.requires.next same c.in_ok-rows.ensures.left

pub returns-clause-ok : goal.returns-clause-ok
returns-clause-ok c =
    let minor : to_z w32 (of_z w32 c.args.minor) ≡ c.args.minor = to_z-of_z w32 c.args.minor c.ranges.minor in
    let id : to_z w64 (of_z w64 c.args.id) ≡ c.args.id = to_z-of_z w64 c.args.id c.ranges.id in
    let told : c.tell-told.result ≡ tells c.args.terms.now.manner c.args.desk.now.told c.args.minor =
    c.tell-told.ensures.told ∙ ap (tells c.args.terms.now.manner c.args.desk.now.told) minor in
    let noted : c.tell-told.new.self ≡ record c.args.desk.now { told = told_after c.args.terms.now.manner c.args.desk.now.told c.args.minor } =
    c.tell-told.ensures.noted ∙ ap (λ (m : ℤ). record c.args.desk.now { told = told_after c.args.terms.now.manner c.args.desk.now.told m }) minor in
    let before : c.draw.new.self ≡ record {
      cursors = c.args.desk.now.cursors;
      next = suc c.args.desk.now.next;
      told = told_after c.args.terms.now.manner c.args.desk.now.told c.args.minor;
    } = c.draw.ensures ∙ ap (λ (d : Desk). record d { next = suc d.next }) noted in
    let drawn : c.number-number.result ≡ c.args.cursor.number = c.number-number.ensures in
    let below : c.number-number.result < 2 ^ 63 = omega (arith, drawn, c.requires.next, c.requires.numbers.left) in
    let number : Some (to_z w64 c.number-number.result) ≡ Some (pos c.args.cursor.number) =
    ap Some (to_z_pos w64 c.number-number.result below ∙ ap pos drawn) in
    let page : page_reply (to_z w64 (of_z w64 c.args.id)) c.tell-told.result (Some (to_z w64 c.number-number.result)) c.in_ok-rows.rows c.args.more
    ≡ telling (terms_of c.args.terms.now) c.args.desk.now c.args.id c.args.minor (page_content (Some (pos c.args.cursor.number)) c.args.cursor) =
    ap (λ (i : ℤ). page_reply i c.tell-told.result (Some (to_z w64 c.number-number.result)) c.in_ok-rows.rows c.args.more) id
    ∙ page_is c.args.id c.tell-told.result (tells c.args.terms.now.manner c.args.desk.now.told c.args.minor)
    (Some (to_z w64 c.number-number.result)) (Some (pos c.args.cursor.number)) c.in_ok-rows.rows c.args.more c.args.cursor told number c.in_ok-rows.ensures.page c.requires.left in
    first_turned (terms_of c.args.terms.now) c.args.desk.now c.draw.new.self c.show_page.new.desk c.args.minor c.args.cursor c.take_page.new.self
    (page_reply (to_z w64 (of_z w64 c.args.id)) c.tell-told.result (Some (to_z w64 c.number-number.result)) c.in_ok-rows.rows c.args.more)
    (telling (terms_of c.args.terms.now) c.args.desk.now c.args.id c.args.minor (page_content (Some (pos c.args.cursor.number)) c.args.cursor))
    c.args.more c.show_page.result before page c.requires.left c.in_ok-rows.ensures.left c.show_page.ensures.frame c.show_page.ensures.«open»
