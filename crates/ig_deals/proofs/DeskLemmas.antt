-- No more cursors are open than may be, and each new one gets a number that none has.
use Rattle.std.specs.Prelude.{◌&&◌, nat_le}
use Rattle.std.proofs.Common.{None, Some, ◌≡◌, ℕ, ◌<◌, ◌≤◌, ℤ, pos, Bool, true, false, if◌then◌else◌, List, [], ◌∷◌, ◌++◌, length, Option, Result, Ok, Err, refl, sym, ap, ◌∙◌, subst, arith, append-nil}
use Rattle.std.specs.Ordering.{int_eq}
use Rattle.std.proofs.lemmas.Bool.{leb-false}
use Rattle.std.proofs.lemmas.Bool.Decides.{Decides-int_eq}
use Rattle.std.proofs.lemmas.List.{length-append}
use Rattle.ig_wire.specs.declared.head.Fault.{Fault}
use Rattle.ig_wire.specs.declared.reason.Reason.TheVariants as reason
use Rattle.ig_wire.specs.Limits.{most_cursors}
use Rattle.ig_caches.specs.declared.call.Pair.{Pair}
use Rattle.ig_caches.specs.declared.answer.Answer.{Answer}
use Rattle.ig_caches.specs.declared.request.Request.{Request}
use Rattle.ig_caches.specs.declared.request.Request.TheVariants.{Run, Scan, NextPage, Close}
use Rattle.ig_deals.specs.Faults.{fault_of}
use Rattle.ig_deals.specs.Deals.{Got, Had, NoMemory, Deal}
use Rattle.ig_deals.specs.Desk.{Cursor, Desk, fresh_desk, has_number, has_more, after_page, cursor_at, without}
use Rattle.ig_deals.specs.Replies.{Fails, Reply, fits}
use Rattle.ig_deals.specs.Turns.{Terms, untold, telling, answers, page_content, open_after, first_page, cursor_for, pairs_in, scan_answer, next_turn, close_turn, turn_for, turn}
use Rattle.ig_deals.specs.OutFrames.{desk_after}
use Rattle.ig_deals.specs.Laws.{IsDesk}
use Rattle.ig_deals.proofs.CursorLemmas.{found-append, found_has, alone_none, other_number, earlier_number, without_other, without_few, without_fewer, open_other}

-- ---- how many are open

open_few : (b : Bool) (cursor : Cursor) → length (if b then cursor ∷ [] else []) ≤ 1
open_few true cursor = omega arith
open_few false cursor = omega arith

first_few : (more full fit : Bool) (cs : List Cursor) (cursor : Cursor) → nat_le most_cursors (length cs) ≡ full → (more && full) ≡ false → length cs ≤ most_cursors
    → length (cs ++ (if more && fit then cursor ∷ [] else [])) ≤ most_cursors
first_few false full fit cs cursor e h few = subst (λ (l : List Cursor). length l ≤ most_cursors) (sym (append-nil cs)) few
first_few true true fit cs cursor e h few = absurd cc
first_few true false true cs cursor e h few = let room : length cs < most_cursors = leb-false most_cursors (length cs) e in omega (arith, length-append cs (cursor ∷ []), room)
first_few true false false cs cursor e h few = subst (λ (l : List Cursor). length l ≤ most_cursors) (sym (append-nil cs)) few

-- ---- turns

-- only cursors and the next number count
same_desk : (desk now : Desk) → now.cursors ≡ desk.cursors → now.next ≡ desk.next → IsDesk desk → IsDesk now
same_desk desk now e f is = record {
  few = subst (λ (cs : List Cursor). length cs ≤ most_cursors) (sym e) is.few;
  unused = λ m le. ap (λ (cs : List Cursor). cursor_at cs (pos m)) e ∙ is.unused m (subst (λ (n : ℕ). n ≤ m) f le);
}

first_desk : (terms : Terms) (desk : Desk) (minor : ℤ) (cursor : Cursor) (page : Reply) → cursor.number ≡ desk.next
    → (has_more cursor && nat_le most_cursors (length desk.cursors)) ≡ false → IsDesk desk → IsDesk (first_page terms desk minor cursor page).desk
first_desk terms desk minor cursor page is_next h is = record {
  few = first_few (has_more cursor) (nat_le most_cursors (length desk.cursors)) (fits terms.version page) desk.cursors (after_page cursor) refl h is.few;
  unused = λ m le.
      let lt : cursor.number < m = subst (λ (n : ℕ). n < m) (sym is_next) (omega (arith, le)) in
      found-append (pos m) desk.cursors (open_after terms.version page cursor)
      (open_other (has_more cursor && fits terms.version page) (pos m) (after_page cursor) (alone_none (pos m) (after_page cursor) (earlier_number cursor.number m lt)))
      ∙ is.unused m (omega (arith, le));
}

scan_by : (b : Bool) (terms : Terms) (desk : Desk) (id minor : ℤ) (cursor : Cursor) (page : Reply) → cursor.number ≡ desk.next
    → (has_more cursor && nat_le most_cursors (length desk.cursors)) ≡ b → IsDesk desk
    → IsDesk (if b then answers terms desk id minor (Fails (fault_of reason.TooManyCursors)) else first_page terms desk minor cursor page).desk
scan_by true terms desk id minor cursor page is_next e is = same_desk desk (answers terms desk id minor (Fails (fault_of reason.TooManyCursors))).desk refl refl is
scan_by false terms desk id minor cursor page is_next e is = first_desk terms desk minor cursor page is_next e is

scan_desk : (terms : Terms) (desk : Desk) (id cache page : ℤ) (answer : Answer) (rows : Option (List Pair)) → IsDesk desk → IsDesk (scan_answer terms desk id cache page answer rows).desk
scan_desk terms desk id cache page answer (Some rows) is =
    let cursor : Cursor = cursor_for desk page rows in
    scan_by (has_more cursor && nat_le most_cursors (length desk.cursors)) terms desk id answer.minor cursor
    (telling terms desk id answer.minor (page_content (Some (pos cursor.number)) cursor)) refl refl is
scan_desk terms desk id cache page answer None is = same_desk desk (scan_answer terms desk id cache page answer None).desk refl refl is

-- an unused number stays unused where an open cursor goes
without_unused : (b : Bool) (k : ℤ) (m : ℕ) (cs : List Cursor) (cursor : Cursor) → int_eq k (pos m) ≡ b → cursor_at cs k ≡ Some cursor → cursor_at cs (pos m) ≡ None
    → (cursor_at (without cs k) (pos m) ≡ None) × (has_number (pos m) cursor ≡ false)
without_unused true k m cs cursor e found none =
    let here : cursor_at cs (pos m) ≡ Some cursor = ap (cursor_at cs) (sym ((Decides-int_eq k (pos m)).0 e)) ∙ found in absurd (apart here none) where
      apart : {o : Option Cursor} → o ≡ Some cursor → o ≡ None → ⊥
      apart h g = cc
without_unused false k m cs cursor e found none = (without_other k (pos m) cs e ∙ none, other_number k (pos m) cursor e (found_has k cs cursor found))

without_desk : (desk : Desk) (k : ℤ) (cursor : Cursor) → cursor_at desk.cursors k ≡ Some cursor → IsDesk desk → IsDesk (record desk { cursors = without desk.cursors k })
without_desk desk k cursor found is = record {
  few = let fewer : length (without desk.cursors k) ≤ length desk.cursors = without_few k desk.cursors in let few : length desk.cursors ≤ most_cursors = is.few in omega (arith, fewer, few);
  unused = λ m le. (without_unused (int_eq k (pos m)) k m desk.cursors cursor refl found (is.unused m le)).0;
}

paged_desk : (desk : Desk) (k : ℤ) (cursor : Cursor) (keep : Bool) → cursor_at desk.cursors k ≡ Some cursor → IsDesk desk
    → IsDesk (record desk { cursors = without desk.cursors k ++ (if keep then after_page cursor ∷ [] else []) })
paged_desk desk k cursor keep found is =
    let now : List Cursor = if keep then after_page cursor ∷ [] else [] in record {
      few =
          let fewer : length (without desk.cursors k) < length desk.cursors = without_fewer k desk.cursors cursor found in
          let one : length now ≤ 1 = open_few keep (after_page cursor) in
          let few : length desk.cursors ≤ most_cursors = is.few in omega (arith, length-append (without desk.cursors k) now, fewer, one, few);
      unused = λ m le.
          let both : (cursor_at (without desk.cursors k) (pos m) ≡ None) × (has_number (pos m) cursor ≡ false) =
          without_unused (int_eq k (pos m)) k m desk.cursors cursor refl found (is.unused m le) in
          found-append (pos m) (without desk.cursors k) now (open_other keep (pos m) (after_page cursor) (alone_none (pos m) (after_page cursor) both.1)) ∙ both.0;
    }

next_desk : (terms : Terms) (desk : Desk) (id k : ℤ) (o : Option Cursor) → cursor_at desk.cursors k ≡ o → IsDesk desk → IsDesk (next_turn terms desk id k o).desk
next_desk terms desk id k (Some cursor) e is = paged_desk desk k cursor (has_more cursor && fits terms.version (untold id (page_content None cursor))) e is
next_desk terms desk id k None e is = is

close_desk : (terms : Terms) (desk : Desk) (id k : ℤ) (o : Option Cursor) → cursor_at desk.cursors k ≡ o → IsDesk desk → IsDesk (close_turn terms desk id k o).desk
close_desk terms desk id k (Some cursor) e is = without_desk desk k cursor e is
close_desk terms desk id k None e is = is

desk_for : (terms : Terms) (desk : Desk) (id : ℤ) (request : Result Request Fault) (got : Option Got) → IsDesk desk → IsDesk (turn_for terms desk id request got).desk
desk_for terms desk id (Err fault) got is = is
desk_for terms desk id (Ok (Run c)) None is = is
desk_for terms desk id (Ok (Run c)) (Some NoMemory) is = is
desk_for terms desk id (Ok (Run c)) (Some (Had answer)) is = same_desk desk (turn_for terms desk id (Ok (Run c)) (Some (Had answer))).desk refl refl is
desk_for terms desk id (Ok (Scan cache page)) None is = is
desk_for terms desk id (Ok (Scan cache page)) (Some NoMemory) is = is
desk_for terms desk id (Ok (Scan cache page)) (Some (Had answer)) is = scan_desk terms desk id cache page answer (pairs_in answer.outcome) is
desk_for terms desk id (Ok (NextPage k)) got is = next_desk terms desk id k (cursor_at desk.cursors k) refl is
desk_for terms desk id (Ok (Close k)) got is = close_desk terms desk id k (cursor_at desk.cursors k) refl is

turn_desk : (terms : Terms) (desk : Desk) (deal : Deal) → IsDesk desk → IsDesk (turn terms desk deal).desk
unfolding turn
turn_desk terms desk deal is = desk_for terms desk deal.asked.id deal.asked.request deal.got is

pub desks_stay : (terms : Terms) (desk : Desk) (deals : List Deal) → IsDesk desk → IsDesk (desk_after terms desk deals)
desks_stay terms desk [] is = is
desks_stay terms desk (deal ∷ deals) is = desks_stay terms (turn terms desk deal).desk deals (turn_desk terms desk deal is)

pub fresh_is_desk : IsDesk fresh_desk
fresh_is_desk = record { few = omega arith; unused = λ m le. refl }
