-- What may be told, and the cursors of turns.
use Rattle.std.proofs.Common.{◌≡◌, ℕ, suc, ◌<◌, ◌≤◌, ℤ, pos, Bool, true, false, List, [], ◌∷◌, ◌++◌, length, Option, None, Some, refl, sym, ap, subst, ◌∙◌, append-nil, arith}
use Rattle.std.specs.Prelude.{◌&&◌, nat_le, option_map, if◌then◌else◌}
use Rattle.std.proofs.lemmas.Bool.{cond-true, cond-false}
use Rattle.std.proofs.lemmas.Bool.Decides.{Decides-int_eq}
use Rattle.ig_wire.specs.declared.reason.Reason.TheVariants as reason
use Rattle.ig_wire.specs.Heads.{MayTell}
use Rattle.ig_wire.specs.Limits.{most_cursors}
use Rattle.ig_deals.specs.declared.manner.Manner.{Manner}
use Rattle.ig_deals.specs.declared.manner.Manner.TheVariants.{Never}
use Rattle.ig_deals.specs.Telling.{tells}
use Rattle.ig_base.specs.declared.Topology.{Topology}
use Rattle.ig_wire.specs.declared.version.Version.{Version}
use Rattle.ig_caches.specs.declared.call.Pair.{Pair}
use Rattle.ig_caches.specs.declared.call.Call.TheVariants as call
use Rattle.ig_caches.specs.declared.answer.Answer.{Answer}
use Rattle.ig_caches.specs.declared.answer.Outcome.{Outcome}
use Rattle.ig_caches.specs.declared.answer.Outcome.TheVariants as outcome
use Rattle.ig_caches.specs.declared.request.Request.TheVariants.{Scan}
use Rattle.ig_caches.specs.declared.request.Page.{Page as ShownPage}
use Rattle.ig_caches.specs.declared.request.Shown.TheVariants.{Page, Out}
use Rattle.ig_deals.specs.Deals.{Had}
use Rattle.ig_deals.specs.Telling.{told_after}
use Rattle.ig_deals.specs.Desk.{Cursor, Desk, page_of, page_shown, has_more, after_page, paged, cursor_at, without}
use Rattle.ig_deals.specs.Faults.{fault_of}
use Rattle.ig_deals.specs.Replies.{Reply, Shows, Fails, reply_frame, fits, shortened}
use Rattle.ig_deals.specs.Turns.{Terms, untold, close_turn, telling, answers, content_of, page_content, open_after, first_page, scanned, cursor_for, pairs_in, scan_answer, next_page, next_turn, request_turn}
use Rattle.ig_deals.specs.Laws.{IsDesk}
use Rattle.ig_deals.proofs.CursorLemmas.{found_has, without_none, without_fewer}
use Rattle.ig_deals.proofs.TakeLemmas.{without_absent}
use Rattle.ig_replies.specs.Showing.{Showing, showing}
use Rattle.ig_replies.specs.Turned.{IsTurned}

-- ---- what may be told

-- a reply that tells nothing may be shown at every version
pub silent : (flags : Bool) → MayTell flags None None
silent true = tt
silent false = tt

-- a manner that tells nothing where there are no flags
pub tells_rightly : (flags : Bool) (manner : Manner) (last : Option ℤ) (minor : ℤ) → (flags ≡ false → manner ≡ Never)
    → MayTell flags (tells manner last minor) None
tells_rightly true manner last minor is = tt
tells_rightly false manner last minor is = subst (λ (m : Manner). MayTell false (tells m last minor) None) (sym (is refl)) tt

-- ---- cursors that are taken out

-- a cursor has the number by which it was found, and then none has
pub taken_is_alone : (k : ℤ) (cs : List Cursor) (c : Cursor) → cursor_at cs k ≡ Some c → cursor_at (without cs k) (pos c.number) ≡ None
taken_is_alone k cs c found =
    let same : pos c.number ≡ k = (Decides-int_eq (pos c.number) k).0 (found_has k cs c found) in
    ap (cursor_at (without cs k)) same ∙ without_none k cs

-- there is room for it then
pub taken_leaves_room : (k : ℤ) (cs : List Cursor) (c : Cursor) → cursor_at cs k ≡ Some c → length cs ≤ most_cursors
    → length (without cs k) < most_cursors
taken_leaves_room k cs c found few = omega (arith, without_fewer k cs c found, few)

-- ---- the cursor of a scan

-- it has the next number, which no open cursor has
pub new_is_alone : (desk before : Desk) (cursor left : Cursor) → IsDesk desk → cursor.number ≡ desk.next → before.cursors ≡ desk.cursors
    → left ≡ after_page cursor → cursor_at before.cursors (pos left.number) ≡ None
new_is_alone desk before cursor left is next before_is left_is =
    let within : desk.next ≤ desk.next = omega arith in
    let number : left.number ≡ desk.next = ap (λ (c : Cursor). c.number) left_is ∙ next in
    ap (λ (cs : List Cursor). cursor_at cs (pos left.number)) before_is
    ∙ ap (λ (n : ℕ). cursor_at desk.cursors (pos n)) number
    ∙ is.unused desk.next within

-- ---- scans

-- a scan that fits its first page
pub one_page : (terms : Terms) (desk : Desk) (id minor : ℤ) (cursor : Cursor) → has_more cursor ≡ false
    → scanned terms desk id minor cursor ≡ first_page terms desk minor cursor (telling terms desk id minor (page_content (Some (pos cursor.number)) cursor))
one_page terms desk id minor cursor e =
    cond-false (has_more cursor && nat_le most_cursors (length desk.cursors)) _ _ (ap (λ (b : Bool). b && nat_le most_cursors (length desk.cursors)) e)

-- one that doesn't
pub some_pages : (terms : Terms) (desk : Desk) (id minor : ℤ) (cursor : Cursor) → has_more cursor ≡ true
    → nat_le most_cursors (length desk.cursors) ≡ false
    → scanned terms desk id minor cursor ≡ first_page terms desk minor cursor (telling terms desk id minor (page_content (Some (pos cursor.number)) cursor))
some_pages terms desk id minor cursor e room =
    cond-false (has_more cursor && nat_le most_cursors (length desk.cursors)) _ _
    (ap (λ (b : Bool). b && nat_le most_cursors (length desk.cursors)) e ∙ room)

pub too_many : (terms : Terms) (desk : Desk) (id minor : ℤ) (cursor : Cursor) → has_more cursor ≡ true
    → nat_le most_cursors (length desk.cursors) ≡ true
    → scanned terms desk id minor cursor ≡ answers terms desk id minor (Fails (fault_of reason.TooManyCursors))
too_many terms desk id minor cursor e full =
    cond-true (has_more cursor && nat_le most_cursors (length desk.cursors)) _ _
    (ap (λ (b : Bool). b && nat_le most_cursors (length desk.cursors)) e ∙ full)

-- results without rows
pub no_rows : (o : Outcome) → ((rows : List Pair) → o ≡ outcome.Pairs rows → ⊥) → pairs_in o ≡ None
no_rows (outcome.Pairs rows) never = absurd (never rows refl)
no_rows outcome.Done never = refl
no_rows (outcome.Found v) never = refl
no_rows (outcome.Yes b) never = refl
no_rows (outcome.Count n) never = refl
no_rows (outcome.Names names) never = refl
no_rows (outcome.Name name) never = refl
no_rows (outcome.Meta meta) never = refl
no_rows (outcome.Keys pairs) never = refl
no_rows (outcome.Refused why) never = refl

-- what a scan is replied whose call has rows
pub scan_shows : (terms : Terms) (desk : Desk) (id cache page : ℤ) (given : Answer) (rows : List Pair) (cursor : Cursor)
    → given.outcome ≡ outcome.Pairs rows → cursor ≡ cursor_for desk page rows
    → scanned terms desk id given.minor cursor ≡ request_turn terms desk id (Scan cache page) (Some (Had given))
scan_shows terms desk id cache page given rows cursor rows_are cursor_is =
    ap (scanned terms desk id given.minor) cursor_is
    ∙ ap (λ (o : Outcome). scan_answer terms desk id cache page given (pairs_in o)) (sym rows_are)

-- and one whose call has none
pub scan_fails : (terms : Terms) (desk : Desk) (id cache page : ℤ) (given : Answer) → pairs_in given.outcome ≡ None
    → answers terms desk id given.minor (content_of terms.cfg (call.Scan cache) given.minor given.outcome)
    ≡ request_turn terms desk id (Scan cache page) (Some (Had given))
scan_fails terms desk id cache page given none = ap (scan_answer terms desk id cache page given) (sym none)

-- ---- pages

-- the reply with a page
abbrev pub page_reply : ℤ → Option Topology → Option ℤ → List Pair → Bool → Reply
page_reply id told number rows more = record {
  id = id;
  told = told;
  content = Shows (Page (record { cursor = number; rows = rows; more = more }));
}

pub page_is : (id : ℤ) (told said : Option Topology) (number shown : Option ℤ) (rows : List Pair) (more : Bool) (cursor : Cursor)
    → told ≡ said → number ≡ shown → rows ≡ page_of cursor → more ≡ has_more cursor
    → page_reply id told number rows more ≡ record { id = id; told = said; content = page_content shown cursor }
page_is id told said number shown rows more cursor told_is number_is rows_are more_is =
    ap (λ (t : Option Topology). page_reply id t number rows more) told_is
    ∙ ap (λ (n : Option ℤ). page_reply id said n rows more) number_is
    ∙ ap (λ (rs : List Pair). page_reply id said shown rs more) rows_are
    ∙ ap (page_reply id said shown (page_of cursor)) more_is

-- the cursor that is open after a page
abbrev pub opened : Version → Bool → Cursor → Reply → List Cursor
opened v more left page = if more && fits v page then left ∷ [] else []

opened_is : (v : Version) (more : Bool) (left cursor : Cursor) (page said : Reply) → more ≡ has_more cursor → left ≡ after_page cursor → page ≡ said
    → opened v more left page ≡ open_after v said cursor
opened_is v more left cursor page said more_is left_is page_is =
    ap (λ (m : Bool). opened v m left page) more_is
    ∙ ap (λ (c : Cursor). opened v (has_more cursor) c page) left_is
    ∙ ap (opened v (has_more cursor) (after_page cursor)) page_is

-- the first page of a cursor, which drew its number
pub first_turned : (terms : Terms) (desk before now : Desk) (minor : ℤ) (cursor left : Cursor) (page said : Reply) (more : Bool) (frame : Showing)
    → before ≡ record { cursors = desk.cursors; next = suc desk.next; told = told_after terms.manner desk.told minor }
    → page ≡ said → more ≡ has_more cursor → left ≡ after_page cursor
    → frame ≡ showing (reply_frame terms.version (shortened terms.version page))
    → now ≡ record before { cursors = before.cursors ++ opened terms.version more left page }
    → IsTurned terms (first_page terms desk minor cursor said) frame now
first_turned terms desk before now minor cursor left page said more frame before_is page_is more_is left_is frame_is now_is = record {
  frame_is = frame_is ∙ ap (λ (p : Reply). showing (reply_frame terms.version (shortened terms.version p))) page_is;
  desk_is = now_is
      ∙ ap (λ (d : Desk). record d { cursors = d.cursors ++ opened terms.version more left page }) before_is
      ∙ ap (λ (cs : List Cursor). record { cursors = desk.cursors ++ cs; next = suc desk.next; told = told_after terms.manner desk.told minor })
      (opened_is terms.version more left cursor page said more_is left_is page_is);
}

-- a next page of a cursor, which was taken out of the others
pub next_turned : (terms : Terms) (desk before now : Desk) (number : ℤ) (cursor left : Cursor) (page said : Reply) (more : Bool) (frame : Showing)
    → before ≡ record desk { cursors = without desk.cursors number }
    → page ≡ said → more ≡ has_more cursor → left ≡ after_page cursor
    → frame ≡ showing (reply_frame terms.version (shortened terms.version page))
    → now ≡ record before { cursors = before.cursors ++ opened terms.version more left page }
    → IsTurned terms (next_page terms desk number cursor said) frame now
next_turned terms desk before now number cursor left page said more frame before_is page_is more_is left_is frame_is now_is = record {
  frame_is = frame_is ∙ ap (λ (p : Reply). showing (reply_frame terms.version (shortened terms.version p))) page_is;
  desk_is = now_is
      ∙ ap (λ (d : Desk). record d { cursors = d.cursors ++ opened terms.version more left page }) before_is
      ∙ ap (λ (cs : List Cursor). record desk { cursors = without desk.cursors number ++ cs })
      (opened_is terms.version more left cursor page said more_is left_is page_is);
}

-- the cursor opens, or it doesn't
abbrev pub opened_if : Desk → Bool → Cursor → Desk
opened_if desk opens cursor = record desk { cursors = desk.cursors ++ (if opens then cursor ∷ [] else []) }

pub none_opens : (desk : Desk) (opens : Bool) (cursor : Cursor) → opens ≡ false → desk ≡ opened_if desk opens cursor
none_opens desk opens cursor e =
    ap (λ (cs : List Cursor). record desk { cursors = cs })
    (sym (append-nil desk.cursors) ∙ ap (λ (l : List Cursor). desk.cursors ++ l) (sym (cond-false opens (cursor ∷ []) [] e)))

pub one_opens : (desk : Desk) (opens : Bool) (cursor : Cursor) → opens ≡ true
    → record desk { cursors = desk.cursors ++ cursor ∷ [] } ≡ opened_if desk opens cursor
one_opens desk opens cursor e =
    ap (λ (cs : List Cursor). record desk { cursors = cs })
    (ap (λ (l : List Cursor). desk.cursors ++ l) (sym (cond-true opens (cursor ∷ []) [] e)))

-- ---- pages of open cursors

-- a page was taken out of a cursor, which was open
pub paged_is : (o : Option Cursor) (page : ShownPage) (left : Cursor) → option_map paged o ≡ Some (page, left)
    → (cursor : Cursor) × (o ≡ Some cursor) × (page ≡ page_shown None cursor) × (left ≡ after_page cursor)
paged_is None page left e = absurd (clash e) where
  clash : {p : ShownPage × Cursor} → None ≡ Some p → ⊥
  clash h = cc
paged_is (Some cursor) page left e =
    let same : paged cursor ≡ (page, left) = inside e in
    (cursor, refl, ap (λ (p : ShownPage × Cursor). p.0) (sym same), ap (λ (p : ShownPage × Cursor). p.1) (sym same)) where
      inside : {p q : ShownPage × Cursor} → Some p ≡ Some q → p ≡ q
      inside h = cc

-- none was open
pub none_paged : (o : Option Cursor) → option_map paged o ≡ None → o ≡ None
none_paged None e = refl
none_paged (Some cursor) e = absurd (clash e) where
  clash : {p : ShownPage × Cursor} → Some p ≡ None → ⊥
  clash h = cc

-- ---- requests on an open cursor

-- no cursor has the number: the desk stays as it is
pub none_taken : (desk now : Desk) (k : ℤ) → cursor_at desk.cursors k ≡ None → now ≡ record desk { cursors = without desk.cursors k } → now ≡ desk
none_taken desk now k none is =
    is ∙ ap (λ (cs : List Cursor). record desk { cursors = cs }) (without_absent k desk.cursors none)

-- and a page that is asked of it is refused
pub none_next : (terms : Terms) (desk now : Desk) (id k : ℤ) (frame : Showing) → cursor_at desk.cursors k ≡ None
    → now ≡ record desk { cursors = without desk.cursors k }
    → frame ≡ showing (reply_frame terms.version (shortened terms.version (untold id (Fails (fault_of reason.NoResource)))))
    → IsTurned terms (next_turn terms desk id k (cursor_at desk.cursors k)) frame now
none_next terms desk now id k frame none now_is frame_is =
    subst (λ (o : Option Cursor). IsTurned terms (next_turn terms desk id k o) frame now) (sym none)
    (record { frame_is = frame_is; desk_is = none_taken desk now k none now_is })

-- a page that is asked of an open cursor
pub some_next : (terms : Terms) (desk now : Desk) (id k : ℤ) (cursor : Cursor) (frame : Showing) → cursor_at desk.cursors k ≡ Some cursor
    → IsTurned terms (next_page terms desk k cursor (untold id (page_content None cursor))) frame now
    → IsTurned terms (next_turn terms desk id k (cursor_at desk.cursors k)) frame now
some_next terms desk now id k cursor frame found turned =
    subst (λ (o : Option Cursor). IsTurned terms (next_turn terms desk id k o) frame now) (sym found) turned

-- a cursor is closed
pub closed_some : (terms : Terms) (desk now : Desk) (id i number k : ℤ) (cursor : Cursor) (frame : Showing) → i ≡ id → k ≡ number
    → cursor_at desk.cursors k ≡ Some cursor → now ≡ record desk { cursors = without desk.cursors k }
    → frame ≡ showing (reply_frame terms.version (shortened terms.version (untold i (Shows (Out outcome.Done)))))
    → IsTurned terms (close_turn terms desk id number (cursor_at desk.cursors number)) frame now
closed_some terms desk now id i number k cursor frame i_is k_is found now_is frame_is =
    let here : cursor_at desk.cursors number ≡ Some cursor = sym (ap (cursor_at desk.cursors) k_is) ∙ found in
    subst (λ (o : Option Cursor). IsTurned terms (close_turn terms desk id number o) frame now) (sym here) (record {
      frame_is = frame_is
          ∙ ap (λ (n : ℤ). showing (reply_frame terms.version (shortened terms.version (untold n (Shows (Out outcome.Done)))))) i_is;
      desk_is = now_is ∙ ap (λ (n : ℤ). record desk { cursors = without desk.cursors n }) k_is;
    })

-- none has the number
pub closed_none : (terms : Terms) (desk now : Desk) (id i number k : ℤ) (frame : Showing) → i ≡ id → k ≡ number
    → cursor_at desk.cursors k ≡ None → now ≡ record desk { cursors = without desk.cursors k }
    → frame ≡ showing (reply_frame terms.version (shortened terms.version (untold i (Fails (fault_of reason.NoResource)))))
    → IsTurned terms (close_turn terms desk id number (cursor_at desk.cursors number)) frame now
closed_none terms desk now id i number k frame i_is k_is found now_is frame_is =
    let here : cursor_at desk.cursors number ≡ None = sym (ap (cursor_at desk.cursors) k_is) ∙ found in
    subst (λ (o : Option Cursor). IsTurned terms (close_turn terms desk id number o) frame now) (sym here) (record {
      frame_is = frame_is
          ∙ ap (λ (n : ℤ). showing (reply_frame terms.version (shortened terms.version (untold n (Fails (fault_of reason.NoResource)))))) i_is;
      desk_is = none_taken desk now k found now_is;
    })
