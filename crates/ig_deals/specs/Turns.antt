-- What a request is replied, and the desk after it.
use Rattle.std.specs.Prelude.{ℕ, suc, ℤ, pos, negsuc, ◌&&◌, List, [], ◌∷◌, ◌++◌, length, nat_le, Option, None, Some, Result, Ok, Err, if◌then◌else◌}
use Rattle.ig_wire.specs.declared.version.Version.{Version}
use Rattle.ig_wire.specs.declared.head.Fault.{Fault}
use Rattle.ig_wire.specs.declared.reason.Reason.TheVariants as reason
use Rattle.ig_wire.specs.Limits.{most_cursors}
use Rattle.ig_caches.specs.declared.call.Pair.{Pair}
use Rattle.ig_caches.specs.declared.call.Call.{Call}
use Rattle.ig_caches.specs.declared.call.Call.TheVariants.{Affinity}
use Rattle.ig_caches.specs.declared.call.Call.TheVariants as call
use Rattle.ig_caches.specs.declared.answer.Answer.{Answer}
use Rattle.ig_caches.specs.declared.answer.Outcome.{Outcome}
use Rattle.ig_caches.specs.declared.answer.Outcome.TheVariants.{Pairs, Keys, Refused}
use Rattle.ig_caches.specs.declared.request.Request.{Request}
use Rattle.ig_caches.specs.declared.request.Request.TheVariants.{Run, Scan, NextPage, Close}
use Rattle.ig_caches.specs.declared.request.Shown.TheVariants.{Out, Page}
use Rattle.ig_caches.specs.declared.answer.Outcome.TheVariants as outcome
use Rattle.ig_parts.specs.ServedMap.{served_map}
use Rattle.ig_deals.specs.declared.cfg.SessionCfg.{SessionCfg}
use Rattle.ig_deals.specs.declared.manner.Manner.{Manner}
use Rattle.ig_deals.specs.Faults.{fault_of, reason_of}
use Rattle.ig_deals.specs.Deals.{Got, Had, NoMemory, Deal}
use Rattle.ig_deals.specs.Desk.{Cursor, Desk, page_shown, has_more, after_page, cursor_at, without}
use Rattle.ig_deals.specs.Telling.{topology, tells, told_after}
use Rattle.ig_deals.specs.Replies.{Content, Shows, Maps, Fails, Reply, fits, shortened}

-- what stays the same through a session after its hello
pub record Terms : Type 0 where
  pub version : Version
  pub manner : Manner
  pub cfg : SessionCfg

pub record Turn : Type 0 where
  pub reply : Reply
  pub desk : Desk

-- ---- replies that leave the desk as it is, but for what was told

-- a reply that tells no topology
abbrev pub untold : ℤ → Content → Reply
untold id content = record { id = id; told = None; content = content }

-- a reply to a grid call with an answer, which may tell the topology
abbrev pub telling : Terms → Desk → ℤ → ℤ → Content → Reply
telling terms desk id minor content = record { id = id; told = tells terms.manner desk.told minor; content = content }

-- the desk after such a reply
abbrev pub having_told : Terms → Desk → ℤ → Desk
having_told terms desk minor = record desk { told = told_after terms.manner desk.told minor }

abbrev pub stays : Terms → Desk → ℤ → Content → Turn
stays terms desk id content = record { reply = shortened terms.version (untold id content); desk = desk }

abbrev pub answers : Terms → Desk → ℤ → ℤ → Content → Turn
answers terms desk id minor content = record {
  reply = shortened terms.version (telling terms desk id minor content);
  desk = having_told terms desk minor;
}

-- ---- calls

-- the caches whose partition maps a call asks for
abbrev pub caches_in : Call → List ℤ
caches_in (Affinity caches) = caches
caches_in call = []

-- what an outcome shows: a refusal its reason, and the pairs of types and fields a partition map
abbrev pub content_of : SessionCfg → Call → ℤ → Outcome → Content
content_of cfg call minor (Refused why) = Fails (fault_of (reason_of why))
content_of cfg call minor (Keys pairs) = Maps (served_map (topology minor) cfg.nodes cfg.parts (caches_in call) pairs)
content_of cfg call minor o = Shows (Out o)

-- a call for which memory ran out is replied `no memory`, and tells nothing
abbrev pub no_memory : Terms → Desk → ℤ → Turn
no_memory terms desk id = stays terms desk id (Fails (fault_of reason.NoMemory))

abbrev pub run_turn : Terms → Desk → ℤ → Call → Option Got → Turn
run_turn terms desk id call (Some (Had answer)) = answers terms desk id answer.minor (content_of terms.cfg call answer.minor answer.outcome)
run_turn terms desk id call (Some NoMemory) = no_memory terms desk id
run_turn terms desk id call None = no_memory terms desk id

-- ---- scans and pages

-- the next page of a cursor; the first one has the cursor's number
abbrev pub page_content : Option ℤ → Cursor → Content
page_content number cursor = Shows (Page (page_shown number cursor))

-- a cursor is open after a page exactly where rows are left and a frame can hold the page
abbrev pub open_after : Version → Reply → Cursor → List Cursor
open_after v page cursor = if has_more cursor && fits v page then after_page cursor ∷ [] else []

-- the first page of a scan: a cursor draws its number
abbrev pub first_page : Terms → Desk → ℤ → Cursor → Reply → Turn
first_page terms desk minor cursor page = record {
  reply = shortened terms.version page;
  desk = record {
    cursors = desk.cursors ++ open_after terms.version page cursor;
    next = suc desk.next;
    told = told_after terms.manner desk.told minor;
  };
}

-- where as many cursors are open as may be, a scan must fit its first page
abbrev pub scanned : Terms → Desk → ℤ → ℤ → Cursor → Turn
scanned terms desk id minor cursor =
    if has_more cursor && nat_le most_cursors (length desk.cursors)
    then answers terms desk id minor (Fails (fault_of reason.TooManyCursors))
    else first_page terms desk minor cursor (telling terms desk id minor (page_content (Some (pos cursor.number)) cursor))

-- the rows of a page, 1 or more
abbrev pub page_size : ℤ → ℕ
page_size (pos n) = n
page_size (negsuc n) = 0

-- the cursor that a scan would open
abbrev pub cursor_for : Desk → ℤ → List Pair → Cursor
cursor_for desk page rows = record { number = desk.next; page = page_size page; rows = rows }

abbrev pub pairs_in : Outcome → Option (List Pair)
pairs_in (Pairs rows) = Some rows
pairs_in o = None

-- a scan whose call was answered, with these rows unless it was refused
abbrev pub scan_answer : Terms → Desk → ℤ → ℤ → ℤ → Answer → Option (List Pair) → Turn
scan_answer terms desk id cache page answer (Some rows) = scanned terms desk id answer.minor (cursor_for desk page rows)
scan_answer terms desk id cache page answer None =
    answers terms desk id answer.minor (content_of terms.cfg (call.Scan cache) answer.minor answer.outcome)

abbrev pub scan_turn : Terms → Desk → ℤ → ℤ → ℤ → Option Got → Turn
scan_turn terms desk id cache page (Some (Had answer)) = scan_answer terms desk id cache page answer (pairs_in answer.outcome)
scan_turn terms desk id cache page (Some NoMemory) = no_memory terms desk id
scan_turn terms desk id cache page None = no_memory terms desk id

-- a number that isn't that of an open cursor
abbrev pub no_resource : Terms → Desk → ℤ → Turn
no_resource terms desk id = stays terms desk id (Fails (fault_of reason.NoResource))

-- the next page of a cursor, which comes after the other ones then, if it is still open
abbrev pub next_page : Terms → Desk → ℤ → Cursor → Reply → Turn
next_page terms desk number cursor page = record {
  reply = shortened terms.version page;
  desk = record desk { cursors = without desk.cursors number ++ open_after terms.version page cursor };
}

abbrev pub next_turn : Terms → Desk → ℤ → ℤ → Option Cursor → Turn
next_turn terms desk id number (Some cursor) = next_page terms desk number cursor (untold id (page_content None cursor))
next_turn terms desk id number None = no_resource terms desk id

-- a cursor is closed without its rows being shown
abbrev pub close_turn : Terms → Desk → ℤ → ℤ → Option Cursor → Turn
close_turn terms desk id number (Some cursor) = stays terms (record desk { cursors = without desk.cursors number }) id (Shows (Out outcome.Done))
close_turn terms desk id number None = no_resource terms desk id

-- ---- requests

abbrev pub request_turn : Terms → Desk → ℤ → Request → Option Got → Turn
request_turn terms desk id (Run call) got = run_turn terms desk id call got
request_turn terms desk id (Scan cache page) got = scan_turn terms desk id cache page got
request_turn terms desk id (NextPage cursor) got = next_turn terms desk id cursor (cursor_at desk.cursors cursor)
request_turn terms desk id (Close resource) got = close_turn terms desk id resource (cursor_at desk.cursors resource)

abbrev pub turn_for : Terms → Desk → ℤ → Result Request Fault → Option Got → Turn
turn_for terms desk id (Ok request) got = request_turn terms desk id request got
turn_for terms desk id (Err fault) got = stays terms desk id (Fails fault)

-- what a deal is replied, and the desk after it
unfoldable pub turn : Terms → Desk → Deal → Turn
turn terms desk deal = turn_for terms desk deal.asked.id deal.asked.request deal.got
