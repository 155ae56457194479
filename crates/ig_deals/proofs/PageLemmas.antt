-- What pages show of a cursor's rows.
use Rattle.std.specs.Prelude.{◌&&◌, nat_le}
use Rattle.std.proofs.Common.{None, Some, ◌≡◌, ℕ, ◌<◌, ℤ, pos, Bool, true, false, if◌then◌else◌, List, [], ◌∷◌, ◌++◌, length, drop, Option, Result, Ok, Err, refl, sym, ap, ◌∙◌, subst, arith, append-nil, append_assoc, take-append-drop}
use Rattle.std.specs.Ordering.{int_eq}
use Rattle.std.proofs.lemmas.Bool.Decides.{Decides-int_eq}
use Rattle.ig_base.specs.declared.Topology.{Topology}
use Rattle.ig_wire.specs.declared.version.Version.{Version}
use Rattle.ig_wire.specs.declared.head.Fault.{Fault}
use Rattle.ig_wire.specs.declared.reason.Reason.TheVariants as reason
use Rattle.ig_wire.specs.Limits.{most_cursors}
use Rattle.ig_caches.specs.declared.call.Pair.{Pair}
use Rattle.ig_caches.specs.declared.answer.Answer.{Answer}
use Rattle.ig_caches.specs.declared.request.Request.{Request}
use Rattle.ig_caches.specs.declared.request.Request.TheVariants.{Run, Scan, NextPage, Close}
use Rattle.ig_deals.specs.Faults.{fault_of}
use Rattle.ig_deals.specs.Deals.{Got, Had, NoMemory, Deal}
use Rattle.ig_deals.specs.Desk.{Cursor, Desk, has_more, after_page, cursor_at, without}
use Rattle.ig_deals.specs.Replies.{Fails, Reply, fits, too_long, shortened}
use Rattle.ig_deals.specs.Turns.{Terms, Turn, untold, telling, answers, page_content, open_after, first_page, scanned, cursor_for, pairs_in, scan_answer, next_turn, close_turn, turn_for, turn}
use Rattle.ig_deals.specs.OutFrames.{desk_after}
use Rattle.ig_deals.specs.Laws.{rows_in, asks_page, pages_shown, HasLeft, ShowsOf, scan_deal}
use Rattle.ig_deals.proofs.CursorLemmas.{found-append, found-after, found_has, alone_none, head-true, other_number, later_number, without_none, without_other, open_other}

-- ---- what is shown in one step, and in two

shows_none : (a b : Option Cursor) → b ≡ a → ShowsOf a [] b
shows_none (Some c) b e = (c.rows, refl, subst (λ (o : Option Cursor). HasLeft o c.rows) (sym e) refl)
shows_none None b e = (refl, e)

shows_closed : (a b : Option Cursor) → b ≡ None → ShowsOf a [] b
shows_closed (Some c) b e = (c.rows, refl, subst (λ (o : Option Cursor). HasLeft o c.rows) (sym e) tt)
shows_closed None b e = (refl, e)

shows_then : (a : Option Cursor) (s : List Pair) (b : Option Cursor) (t : List Pair) (d : Option Cursor) → ShowsOf a s b → ShowsOf b t d → ShowsOf a (s ++ t) d
shows_then (Some c) s (Some m) t d h g = (g.0, append_assoc s t g.0 ∙ ap (λ (l : List Pair). s ++ l) (g.1 ∙ sym h.2) ∙ h.1, g.2)
shows_then (Some c) s None t d h g = (
  h.0,
  ap (λ (l : List Pair). (s ++ l) ++ h.0) g.0 ∙ ap (λ (l : List Pair). l ++ h.0) (append-nil s) ∙ h.1,
  subst (λ (o : Option Cursor). HasLeft o h.0) (sym g.1) tt,
)
shows_then None s b t d h g =
    let none : ShowsOf None t d = subst (λ (o : Option Cursor). ShowsOf o t d) h.1 g in
    (ap (λ (l : List Pair). l ++ t) h.0 ∙ none.0, none.1)

-- ---- one page

-- the reply with a page of a cursor
abbrev page_reply : ℤ → Option Topology → Option ℤ → Cursor → Reply
page_reply id told number cursor = record { id = id; told = told; content = page_content number cursor }

-- the cursor after the page, if it is open
abbrev left_open : Bool → Bool → Cursor → Option Cursor
left_open more fit cursor = if more && fit then Some (after_page cursor) else None

page_by : (more fit : Bool) (id : ℤ) (told : Option Topology) (number : Option ℤ) (cursor : Cursor)
    → ShowsOf (Some cursor) (rows_in (if fit then page_reply id told number cursor else too_long (page_reply id told number cursor)).content) (left_open more fit cursor)
page_by true true id told number cursor = (drop cursor.page cursor.rows, take-append-drop cursor.page cursor.rows, refl)
page_by false true id told number cursor = (drop cursor.page cursor.rows, take-append-drop cursor.page cursor.rows, tt)
page_by true false id told number cursor = (cursor.rows, refl, tt)
page_by false false id told number cursor = (cursor.rows, refl, tt)

page_shows : (v : Version) (id : ℤ) (told : Option Topology) (number : Option ℤ) (cursor : Cursor) (now : Option Cursor)
    → now ≡ left_open (has_more cursor) (fits v (page_reply id told number cursor)) cursor
    → ShowsOf (Some cursor) (rows_in (shortened v (page_reply id told number cursor)).content) now
page_shows v id told number cursor now e =
    subst (λ (o : Option Cursor). ShowsOf (Some cursor) (rows_in (shortened v (page_reply id told number cursor)).content) o) (sym e)
    (page_by (has_more cursor) (fits v (page_reply id told number cursor)) id told number cursor)

-- a fault shows no rows, too long or not
no_rows : (v : Version) (id : ℤ) (told : Option Topology) (fault : Fault) → rows_in (shortened v (record { id = id; told = told; content = Fails fault })).content ≡ []
no_rows v id told fault = by_length (fits v (record { id = id; told = told; content = Fails fault })) where
  by_length : (b : Bool) → rows_in (if b then record { id = id; told = told; content = Fails fault } else too_long (record { id = id; told = told; content = Fails fault })).content ≡ []
  by_length true = refl
  by_length false = refl

-- ---- the next page of the cursor itself

found_open : (more fit : Bool) (k : ℤ) (cs : List Cursor) (cursor : Cursor) → cursor_at cs k ≡ Some cursor
    → cursor_at (without cs k ++ (if more && fit then after_page cursor ∷ [] else [])) k ≡ left_open more fit cursor
found_open true true k cs cursor e = found-after k (without cs k) (after_page cursor ∷ []) (without_none k cs) ∙ head-true k (after_page cursor) [] (found_has k cs cursor e)
found_open false true k cs cursor e = found-after k (without cs k) [] (without_none k cs)
found_open true false k cs cursor e = found-after k (without cs k) [] (without_none k cs)
found_open false false k cs cursor e = found-after k (without cs k) [] (without_none k cs)

next_shows : (terms : Terms) (desk : Desk) (id k : ℤ) (o : Option Cursor) → cursor_at desk.cursors k ≡ o
    → ShowsOf o (rows_in (next_turn terms desk id k o).reply.content) (cursor_at (next_turn terms desk id k o).desk.cursors k)
next_shows terms desk id k (Some cursor) e =
    page_shows terms.version id None None cursor (cursor_at (next_turn terms desk id k (Some cursor)).desk.cursors k)
    (found_open (has_more cursor) (fits terms.version (page_reply id None None cursor)) k desk.cursors cursor e)
next_shows terms desk id k None e = (no_rows terms.version id None (fault_of reason.NoResource), e)

next_keeps : (terms : Terms) (desk : Desk) (id k : ℤ) (o : Option Cursor) → (next_turn terms desk id k o).desk.next ≡ desk.next
next_keeps terms desk id k (Some cursor) = refl
next_keeps terms desk id k None = refl

-- ---- what concerns another cursor

next_other : (terms : Terms) (desk : Desk) (id j k : ℤ) (o : Option Cursor) → cursor_at desk.cursors j ≡ o → int_eq j k ≡ false
    → cursor_at (next_turn terms desk id j o).desk.cursors k ≡ cursor_at desk.cursors k
next_other terms desk id j k (Some cursor) e other =
    let page : Reply = untold id (page_content None cursor) in
    found-append k (without desk.cursors j) (open_after terms.version page cursor)
    (open_other (has_more cursor && fits terms.version page) k (after_page cursor) (alone_none k (after_page cursor) (other_number j k cursor other (found_has j desk.cursors cursor e))))
    ∙ without_other j k desk.cursors other
next_other terms desk id j k None e other = refl

close_other : (terms : Terms) (desk : Desk) (id j k : ℤ) (o : Option Cursor) → int_eq j k ≡ false → cursor_at (close_turn terms desk id j o).desk.cursors k ≡ cursor_at desk.cursors k
close_other terms desk id j k (Some cursor) other = without_other j k desk.cursors other
close_other terms desk id j k None other = refl

close_keeps : (terms : Terms) (desk : Desk) (id k : ℤ) (o : Option Cursor) → (close_turn terms desk id k o).desk.next ≡ desk.next
close_keeps terms desk id k (Some cursor) = refl
close_keeps terms desk id k None = refl

close_shows : (terms : Terms) (desk : Desk) (id k : ℤ) (o : Option Cursor) → cursor_at desk.cursors k ≡ o → ShowsOf (cursor_at desk.cursors k) [] (cursor_at (close_turn terms desk id k o).desk.cursors k)
close_shows terms desk id k (Some cursor) e = shows_closed (cursor_at desk.cursors k) (cursor_at (without desk.cursors k) k) (without_none k desk.cursors)
close_shows terms desk id k None e = shows_none (cursor_at desk.cursors k) (cursor_at desk.cursors k) refl

-- ---- steps

-- what a turn shows of the cursor with a number, which was drawn before
abbrev Steps : ℕ → Desk → List Pair → Turn → Type 0
Steps n desk shown t = ShowsOf (cursor_at desk.cursors (pos n)) shown (cursor_at t.desk.cursors (pos n)) × (n < t.desk.next)

-- the cursors stay, but for other ones
same_step : (n : ℕ) (desk : Desk) (t : Turn) → cursor_at t.desk.cursors (pos n) ≡ cursor_at desk.cursors (pos n) → n < t.desk.next → Steps n desk [] t
same_step n desk t e lt = (shows_none (cursor_at desk.cursors (pos n)) (cursor_at t.desk.cursors (pos n)) e, lt)

either_step : (b : Bool) (n : ℕ) (desk : Desk) (t u : Turn) → Steps n desk [] t → Steps n desk [] u → Steps n desk [] (if b then t else u)
either_step true n desk t u d e = d
either_step false n desk t u d e = e

first_step : (terms : Terms) (desk : Desk) (minor : ℤ) (cursor : Cursor) (page : Reply) (n : ℕ) → n < desk.next → cursor.number ≡ desk.next → Steps n desk [] (first_page terms desk minor cursor page)
first_step terms desk minor cursor page n lt is =
    let later : n < cursor.number = subst (λ (m : ℕ). n < m) (sym is) lt in
    same_step n desk (first_page terms desk minor cursor page)
    (found-append (pos n) desk.cursors (open_after terms.version page cursor)
    (open_other (has_more cursor && fits terms.version page) (pos n) (after_page cursor) (alone_none (pos n) (after_page cursor) (later_number cursor.number n later)))) (omega (arith, lt))

scan_step : (terms : Terms) (desk : Desk) (id cache page : ℤ) (answer : Answer) (rows : Option (List Pair)) (n : ℕ) → n < desk.next → Steps n desk [] (scan_answer terms desk id cache page answer rows)
scan_step terms desk id cache page answer (Some rows) n lt =
    let cursor : Cursor = cursor_for desk page rows in
    let refused : Turn = answers terms desk id answer.minor (Fails (fault_of reason.TooManyCursors)) in
    let shown : Reply = telling terms desk id answer.minor (page_content (Some (pos cursor.number)) cursor) in
    either_step (has_more cursor && nat_le most_cursors (length desk.cursors)) n desk refused (first_page terms desk answer.minor cursor shown)
    (same_step n desk refused refl lt) (first_step terms desk answer.minor cursor shown n lt refl)
scan_step terms desk id cache page answer None n lt = same_step n desk (scan_answer terms desk id cache page answer None) refl lt

next_step : (terms : Terms) (desk : Desk) (id j : ℤ) (n : ℕ) (b : Bool) → int_eq j (pos n) ≡ b → n < desk.next
    → Steps n desk (if b then rows_in (next_turn terms desk id j (cursor_at desk.cursors j)).reply.content else []) (next_turn terms desk id j (cursor_at desk.cursors j))
next_step terms desk id j n true e lt =
    let same : j ≡ pos n = (Decides-int_eq j (pos n)).0 e in
    subst (λ (i : ℤ). Steps n desk (rows_in (next_turn terms desk id i (cursor_at desk.cursors i)).reply.content) (next_turn terms desk id i (cursor_at desk.cursors i))) (sym same)
    (next_shows terms desk id (pos n) (cursor_at desk.cursors (pos n)) refl, subst (λ (m : ℕ). n < m) (sym (next_keeps terms desk id (pos n) (cursor_at desk.cursors (pos n)))) lt)
next_step terms desk id j n false e lt =
    same_step n desk (next_turn terms desk id j (cursor_at desk.cursors j)) (next_other terms desk id j (pos n) (cursor_at desk.cursors j) refl e)
    (subst (λ (m : ℕ). n < m) (sym (next_keeps terms desk id j (cursor_at desk.cursors j))) lt)

close_step : (terms : Terms) (desk : Desk) (id j : ℤ) (n : ℕ) (b : Bool) → int_eq j (pos n) ≡ b → n < desk.next → Steps n desk [] (close_turn terms desk id j (cursor_at desk.cursors j))
close_step terms desk id j n true e lt =
    let same : j ≡ pos n = (Decides-int_eq j (pos n)).0 e in
    subst (λ (i : ℤ). Steps n desk [] (close_turn terms desk id i (cursor_at desk.cursors i))) (sym same)
    (close_shows terms desk id (pos n) (cursor_at desk.cursors (pos n)) refl, subst (λ (m : ℕ). n < m) (sym (close_keeps terms desk id (pos n) (cursor_at desk.cursors (pos n)))) lt)
close_step terms desk id j n false e lt =
    same_step n desk (close_turn terms desk id j (cursor_at desk.cursors j)) (close_other terms desk id j (pos n) (cursor_at desk.cursors j) e)
    (subst (λ (m : ℕ). n < m) (sym (close_keeps terms desk id j (cursor_at desk.cursors j))) lt)

step_for : (terms : Terms) (desk : Desk) (id : ℤ) (request : Result Request Fault) (got : Option Got) (n : ℕ) → n < desk.next
    → Steps n desk (if asks_page (pos n) request then rows_in (turn_for terms desk id request got).reply.content else []) (turn_for terms desk id request got)
step_for terms desk id (Err fault) got n lt = same_step n desk (turn_for terms desk id (Err fault) got) refl lt
step_for terms desk id (Ok (Run c)) None n lt = same_step n desk (turn_for terms desk id (Ok (Run c)) None) refl lt
step_for terms desk id (Ok (Run c)) (Some NoMemory) n lt = same_step n desk (turn_for terms desk id (Ok (Run c)) (Some NoMemory)) refl lt
step_for terms desk id (Ok (Run c)) (Some (Had answer)) n lt = same_step n desk (turn_for terms desk id (Ok (Run c)) (Some (Had answer))) refl lt
step_for terms desk id (Ok (Scan cache page)) None n lt = same_step n desk (turn_for terms desk id (Ok (Scan cache page)) None) refl lt
step_for terms desk id (Ok (Scan cache page)) (Some NoMemory) n lt = same_step n desk (turn_for terms desk id (Ok (Scan cache page)) (Some NoMemory)) refl lt
step_for terms desk id (Ok (Scan cache page)) (Some (Had answer)) n lt = scan_step terms desk id cache page answer (pairs_in answer.outcome) n lt
step_for terms desk id (Ok (NextPage j)) got n lt = next_step terms desk id j n (int_eq j (pos n)) refl lt
step_for terms desk id (Ok (Close j)) got n lt = close_step terms desk id j n (int_eq j (pos n)) refl lt

step : (terms : Terms) (desk : Desk) (deal : Deal) (n : ℕ) → n < desk.next
    → Steps n desk (if asks_page (pos n) deal.asked.request then rows_in (turn terms desk deal).reply.content else []) (turn terms desk deal)
unfolding turn
step terms desk deal n lt = step_for terms desk deal.asked.id deal.asked.request deal.got n lt

pub pages_are_rows : (terms : Terms) (desk : Desk) (deals : List Deal) (number : ℕ) → number < desk.next
    → ShowsOf (cursor_at desk.cursors (pos number)) (pages_shown terms desk (pos number) deals) (cursor_at (desk_after terms desk deals).cursors (pos number))
pages_are_rows terms desk [] number lt = shows_none (cursor_at desk.cursors (pos number)) (cursor_at desk.cursors (pos number)) refl
pages_are_rows terms desk (deal ∷ deals) number lt =
    let t : Turn = turn terms desk deal in
    let s : Steps number desk (if asks_page (pos number) deal.asked.request then rows_in t.reply.content else []) t = step terms desk deal number lt in
    shows_then (cursor_at desk.cursors (pos number)) (if asks_page (pos number) deal.asked.request then rows_in t.reply.content else []) (cursor_at t.desk.cursors (pos number))
    (pages_shown terms t.desk (pos number) deals) (cursor_at (desk_after terms t.desk deals).cursors (pos number)) s.0 (pages_are_rows terms t.desk deals number s.1)

-- ---- the first page

first_open : (more fit : Bool) (cs : List Cursor) (cursor : Cursor) → cursor_at cs (pos cursor.number) ≡ None
    → cursor_at (cs ++ (if more && fit then after_page cursor ∷ [] else [])) (pos cursor.number) ≡ left_open more fit cursor
first_open true true cs cursor e =
    found-after (pos cursor.number) cs (after_page cursor ∷ []) e ∙ head-true (pos cursor.number) (after_page cursor) [] ((Decides-int_eq (pos cursor.number) (pos cursor.number)).1 refl)
first_open false true cs cursor e = found-after (pos cursor.number) cs [] e
first_open true false cs cursor e = found-after (pos cursor.number) cs [] e
first_open false false cs cursor e = found-after (pos cursor.number) cs [] e

first_by : (b : Bool) (terms : Terms) (desk : Desk) (id minor : ℤ) (cursor : Cursor) → cursor_at desk.cursors (pos cursor.number) ≡ None
    → (t : Turn) → t ≡ (if b then answers terms desk id minor (Fails (fault_of reason.TooManyCursors)) else first_page terms desk minor cursor (telling terms desk id minor (page_content (Some (pos cursor.number)) cursor)))
    → ShowsOf (Some cursor) (rows_in t.reply.content) (cursor_at t.desk.cursors (pos cursor.number))
first_by true terms desk id minor cursor none t e =
    subst (λ (u : Turn). ShowsOf (Some cursor) (rows_in u.reply.content) (cursor_at u.desk.cursors (pos cursor.number))) (sym e) (
      cursor.rows,
      ap (λ (l : List Pair). l ++ cursor.rows) (no_rows terms.version id (telling terms desk id minor (Fails (fault_of reason.TooManyCursors))).told (fault_of reason.TooManyCursors)),
      subst (λ (o : Option Cursor). HasLeft o cursor.rows) (sym none) tt,
    )
first_by false terms desk id minor cursor none t e =
    let told : Option Topology = (telling terms desk id minor (page_content (Some (pos cursor.number)) cursor)).told in
    subst (λ (u : Turn). ShowsOf (Some cursor) (rows_in u.reply.content) (cursor_at u.desk.cursors (pos cursor.number))) (sym e)
    (page_shows terms.version id told (Some (pos cursor.number)) cursor
    (cursor_at (desk.cursors ++ open_after terms.version (page_reply id told (Some (pos cursor.number)) cursor) cursor) (pos cursor.number))
    (first_open (has_more cursor) (fits terms.version (page_reply id told (Some (pos cursor.number)) cursor)) desk.cursors cursor none))

pub first_page_is_first : (terms : Terms) (desk : Desk) (id cache page minor : ℤ) (rows : List Pair) → cursor_at desk.cursors (pos desk.next) ≡ None
    → ShowsOf (Some (cursor_for desk page rows)) (rows_in (turn terms desk (scan_deal id cache page minor rows)).reply.content)
    (cursor_at (turn terms desk (scan_deal id cache page minor rows)).desk.cursors (pos desk.next))
unfolding turn
first_page_is_first terms desk id cache page minor rows none =
    let cursor : Cursor = cursor_for desk page rows in
    first_by (has_more cursor && nat_le most_cursors (length desk.cursors)) terms desk id minor cursor none (scanned terms desk id minor cursor) refl
