use Rattle.std.proofs.Common.{◌≡◌, ℕ, ℤ, Some, rules, sym, ap, subst, ◌∙◌, to_z, of_z, w32, w64}
use Rattle.std.specs.Prelude.{IfOk}
use Rattle.std.proofs.lemmas.Int.{to_z-of_z}
use Rattle.ig_caches.specs.declared.call.Call.TheVariants as call
use Rattle.ig_caches.specs.declared.request.Request.TheVariants.{Scan}
use Rattle.ig_deals.specs.Deals.{Had}
use Rattle.ig_deals.specs.Turns.{Turn, answers, content_of, page_size, cursor_for, scanned, request_turn}
use Rattle.ig_replies.specs.Contents.{content_said}
use Rattle.ig_replies.specs.RunTerms.{terms_of}
use Rattle.ig_replies.specs.Turned.{IsTurned}
use Rattle.ig_replies.proofs.TurnLemmas.{no_rows, scan_shows, scan_fails}
use Rattle.ig_replies.proofs.turns.answer_scan.Goals as goal

pub returns-in-Pairs-clause-ok : goal.returns-in-Pairs-clause-ok
returns-in-Pairs-clause-ok c =
    let id : to_z w64 (of_z w64 c.args.id) ≡ c.args.id = to_z-of_z w64 c.args.id c.ranges.id in
    let page : to_z w32 (of_z w32 c.args.page) ≡ c.args.page = to_z-of_z w32 c.args.page c.ranges.page in
    let minor : to_z w32 (of_z w32 c.args.given.minor) ≡ c.args.given.minor = search rules in
    let cursor : c.new-cursor.result ≡ cursor_for c.args.desk.now c.args.page c.in-Pairs.rows =
    c.new-cursor.ensures
    ∙ ap (λ (n : ℕ). record { number = n; page = c.page_size.result; rows = c.in-Pairs.rows }) c.next_number.ensures
    ∙ ap (λ (n : ℕ). record { number = c.args.desk.now.next; page = n; rows = c.in-Pairs.rows }) (c.page_size.ensures ∙ ap page_size page) in
    let turn : scanned (terms_of c.args.terms.now) c.args.desk.now (to_z w64 (of_z w64 c.args.id)) (to_z w32 (of_z w32 c.args.given.minor)) c.new-cursor.result
    ≡ request_turn (terms_of c.args.terms.now) c.args.desk.now c.args.id (Scan c.args.cache c.args.page) (Some (Had c.args.given)) =
    ap (λ (i : ℤ). scanned (terms_of c.args.terms.now) c.args.desk.now i (to_z w32 (of_z w32 c.args.given.minor)) c.new-cursor.result) id
    ∙ ap (λ (m : ℤ). scanned (terms_of c.args.terms.now) c.args.desk.now c.args.id m c.new-cursor.result) minor
    ∙ scan_shows (terms_of c.args.terms.now) c.args.desk.now c.args.id c.args.cache c.args.page c.args.given c.in-Pairs.rows c.new-cursor.result c.in-Pairs.is cursor in
    subst (λ (t : Turn). IfOk c.first_page.result (λ frame. IsTurned (terms_of c.args.terms.now) t frame c.first_page.new.desk)) turn c.first_page.ensures.ok

pub returns-in_ok-content-in_default : goal.returns-in_ok-content-in_default
returns-in_ok-content-in_default c =
    let id : to_z w64 (of_z w64 c.args.id) ≡ c.args.id = to_z-of_z w64 c.args.id c.ranges.id in
    let cache : to_z w32 (of_z w32 c.args.cache) ≡ c.args.cache = to_z-of_z w32 c.args.cache c.ranges.cache in
    let minor : to_z w32 (of_z w32 c.args.given.minor) ≡ c.args.given.minor = search rules in
    let said : content_said c.in_ok-content-in_default.content ≡ content_of c.args.terms.now.cfg (call.Scan c.args.cache) c.args.given.minor c.args.given.outcome =
    c.in_ok-content-in_default.ensures.said
    ∙ ap (λ (k : ℤ). content_of c.args.terms.now.cfg (call.Scan k) (to_z w32 (of_z w32 c.args.given.minor)) c.args.given.outcome) cache
    ∙ ap (λ (m : ℤ). content_of c.args.terms.now.cfg (call.Scan c.args.cache) m c.args.given.outcome) minor in
    let turn : answers (terms_of c.args.terms.now) c.args.desk.now (to_z w64 (of_z w64 c.args.id)) (to_z w32 (of_z w32 c.args.given.minor)) (content_said c.in_ok-content-in_default.content)
    ≡ request_turn (terms_of c.args.terms.now) c.args.desk.now c.args.id (Scan c.args.cache c.args.page) (Some (Had c.args.given)) =
    ap (λ (i : ℤ). answers (terms_of c.args.terms.now) c.args.desk.now i (to_z w32 (of_z w32 c.args.given.minor)) (content_said c.in_ok-content-in_default.content)) id
    ∙ ap (λ (m : ℤ). answers (terms_of c.args.terms.now) c.args.desk.now c.args.id m (content_said c.in_ok-content-in_default.content)) minor
    ∙ ap (answers (terms_of c.args.terms.now) c.args.desk.now c.args.id c.args.given.minor) said
    ∙ scan_fails (terms_of c.args.terms.now) c.args.desk.now c.args.id c.args.cache c.args.page c.args.given (no_rows c.args.given.outcome c.in_default.not-Pairs) in
    record {
      ok = subst (λ (t : Turn). IsTurned (terms_of c.args.terms.now) t c.tell.result c.tell.new.desk) turn c.tell.ensures;
      err = tt;
    }
