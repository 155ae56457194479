-- Laws of asks, deals, desks and frames.
use Rattle.std.specs.Prelude.{◌≡◌, ◌≢◌, ℕ, ◌<◌, ◌≤◌, ℤ, pos, Bool, false, List, [], ◌∷◌, ◌++◌, map, length, Option, None, Some, Result, Ok, Err, if◌then◌else◌, FitsSigned}
use Rattle.std.specs.Int.{w16, w64}
use Rattle.std.specs.Ordering.{int_eq}
use Rattle.ig_base.specs.Numbers.{LE}
use Rattle.ig_base.specs.Frames.{client, Begins, Cut}
use Rattle.ig_wire.specs.declared.version.Version.{Version}
use Rattle.ig_wire.specs.declared.hello.Hello.{Hello}
use Rattle.ig_wire.specs.declared.hello.HelloFault.{HelloFault}
use Rattle.ig_wire.specs.declared.head.Fault.{Fault}
use Rattle.ig_wire.specs.Limits.{most_cursors}
use Rattle.ig_fields.specs.TableLaws.{AskedIsRight, OneRightAsk}
use Rattle.ig_caches.specs.declared.call.Pair.{Pair}
use Rattle.ig_caches.specs.declared.answer.Outcome.TheVariants.{Pairs}
use Rattle.ig_caches.specs.declared.request.Request.{Request}
use Rattle.ig_caches.specs.declared.request.Request.TheVariants.{Run, Scan, NextPage}
use Rattle.ig_caches.specs.declared.request.Shown.TheVariants.{Page}
use Rattle.ig_deals.specs.declared.cfg.SessionCfg.{SessionCfg}
use Rattle.ig_deals.specs.declared.end.SessionEnd.{SessionEnd}
use Rattle.ig_deals.specs.declared.end.SessionEnd.TheVariants as ends
use Rattle.ig_deals.specs.declared.manner.Manner.{Manner}
use Rattle.ig_deals.specs.declared.manner.Manner.TheVariants.{AtChanges}
use Rattle.ig_deals.specs.Hellos.{greeting_of}
use Rattle.ig_deals.specs.Asks.{Asked, served_at, operation_in, id_in, asks}
use Rattle.ig_deals.specs.Deals.{Got, Had, Ran, handed, gots, calls, Deal, dealt}
use Rattle.ig_deals.specs.Desk.{Cursor, Desk, fresh_desk, cursor_at}
use Rattle.ig_deals.specs.Replies.{Content, Shows, Reply}
use Rattle.ig_deals.specs.Turns.{Terms, cursor_for, turn}
use Rattle.ig_deals.specs.OutFrames.{replies, desk_after, reply_frames, terms_at, out_frames}
use Rattle.ig_deals.specs.Serves.{EndsBy, joined, ShowsPart}

-- the second list goes on from the first
abbrev pub IsPrefix : {A : Type 0} → List A → List A → Type 0
IsPrefix {A} xs ys = (rest : List A) × (xs ++ rest ≡ ys)

-- ---- asks

-- A body begins with its operation and its identifier.
abbrev pub HeadIsRead : Type 0
HeadIsRead =
    (operation id : ℤ) (fields : List ℕ) → FitsSigned w16 operation → FitsSigned w64 id
    → (operation_in (LE w16 operation ++ LE w64 id ++ fields) ≡ operation)
    × (id_in (LE w16 operation ++ LE w64 id ++ fields) ≡ id)

-- what a body asks at a version is what its fields spell by the row of its operation
abbrev pub RequestsAreRight : Type 0
RequestsAreRight = (v : Version) → AskedIsRight (served_at v)

-- and nothing else is right
abbrev pub OneRequestIsRight : Type 0
OneRequestIsRight = (v : Version) → OneRightAsk (served_at v)

-- more bodies ask more
abbrev pub AsksGrow : Type 0
AsksGrow =
    (hello : List ℕ) (bodies more : List (List ℕ))
    → asks (hello ∷ (bodies ++ more)) ≡ asks (hello ∷ bodies) ++ asks (hello ∷ more)

-- after a refused hello nothing is asked
abbrev pub RefusedAsksNothing : Type 0
RefusedAsksNothing =
    (hello : List ℕ) (fault : HelloFault) (bodies : List (List ℕ)) → greeting_of hello ≡ Err fault
    → asks (hello ∷ bodies) ≡ []

abbrev pub CallsGrow : Type 0
CallsGrow = (asked more : List Asked) → calls (asked ++ more) ≡ calls asked ++ calls more

-- ---- deals

-- where there is a result for each call, what follows is dealt apart
abbrev pub DealsGrow : Type 0
DealsGrow =
    (asked more : List Asked) (given later : List Got) → length given ≡ length (calls asked)
    → dealt (asked ++ more) (given ++ later) ≡ dealt asked given ++ dealt more later

-- then each request is dealt, in order
abbrev pub AllAreDealt : Type 0
AllAreDealt =
    (asked : List Asked) (given : List Got) → length given ≡ length (calls asked)
    → map (λ (d : Deal). d.asked) (dealt asked given) ≡ asked

-- in any case the first of them are
abbrev pub FirstAreDealt : Type 0
FirstAreDealt =
    (asked : List Asked) (given : List Got) → IsPrefix (map (λ (d : Deal). d.asked) (dealt asked given)) asked

-- more requests and more results change no deal
abbrev pub DealsStay : Type 0
DealsStay =
    (asked more : List Asked) (given later : List Got)
    → IsPrefix (dealt asked given) (dealt (asked ++ more) (given ++ later))

-- ---- replies

-- replies to deals, and then to more deals from the desk after them
abbrev pub RepliesGrow : Type 0
RepliesGrow =
    (terms : Terms) (desk : Desk) (deals more : List Deal)
    → (replies terms desk (deals ++ more) ≡ replies terms desk deals ++ replies terms (desk_after terms desk deals) more)
    × (desk_after terms desk (deals ++ more) ≡ desk_after terms (desk_after terms desk deals) more)

-- each deal gets one reply, with the identifier of its request, in order
abbrev pub OneReplyEach : Type 0
OneReplyEach =
    (terms : Terms) (desk : Desk) (deals : List Deal)
    → map (λ (r : Reply). r.id) (replies terms desk deals) ≡ map (λ (d : Deal). d.asked.id) deals

-- ---- frames

-- after an accepted hello further bodies, with the results of their calls, add the frames of their replies
abbrev pub FramesGrow : Type 0
FramesGrow =
    (cfg : SessionCfg) (manner_at : Version → Manner) (hello : List ℕ) (bodies more : List (List ℕ))
    (given later : List Got) (accepted : Hello) → greeting_of hello ≡ Ok accepted
    → length given ≡ length (calls (asks (hello ∷ bodies)))
    → out_frames cfg manner_at (hello ∷ (bodies ++ more)) (given ++ later)
    ≡ out_frames cfg manner_at (hello ∷ bodies) given
    ++ reply_frames (terms_at cfg manner_at accepted.version)
    (desk_after (terms_at cfg manner_at accepted.version) fresh_desk (dealt (asks (hello ∷ bodies)) given))
    (dealt (asks (hello ∷ more)) later)

-- more bodies and more results change no frame
abbrev pub FramesStay : Type 0
FramesStay =
    (cfg : SessionCfg) (manner_at : Version → Manner) (bodies more : List (List ℕ)) (given later : List Got)
    → IsPrefix (out_frames cfg manner_at bodies given) (out_frames cfg manner_at (bodies ++ more) (given ++ later))

-- ---- answers in any order

-- a call other than a scan, or a refused request: it neither looks at cursors nor opens or closes one
abbrev pub IsApart : Result Request Fault → Type 0
IsApart (Ok (Run call)) = Unit {0}
IsApart (Ok request) = ⊥
IsApart (Err fault) = Unit {0}

-- Unless changes of the topology are told, the reply to such a request is the same wherever it stands,
-- and no other reply depends on it or on what was given for it.
abbrev pub OwnReplyAlone : Type 0
OwnReplyAlone =
    (terms : Terms) (desk : Desk) (before after : List Deal) (deal : Deal) → terms.manner ≢ AtChanges
    → IsApart deal.asked.request
    → replies terms desk (before ++ deal ∷ after)
    ≡ replies terms desk before ++ (turn terms fresh_desk deal).reply ∷ replies terms (desk_after terms desk before) after

-- ---- the pages of a cursor

abbrev pub rows_in : Content → List Pair
rows_in (Shows (Page page)) = page.rows
rows_in content = []

-- tests whether a request asks for the next page of a cursor
abbrev pub asks_page : ℤ → Result Request Fault → Bool
asks_page number (Ok (NextPage cursor)) = int_eq cursor number
asks_page number request = false

abbrev pub rows_shown : ℤ → Deal → Reply → List Pair
rows_shown number deal reply = if asks_page number deal.asked.request then rows_in reply.content else []

-- the rows that the next pages of a cursor show among these deals, in order
abbrev pub pages_shown : Terms → Desk → ℤ → List Deal → List Pair
pages_shown terms desk number [] = []
pages_shown terms desk number (deal ∷ deals) =
    rows_shown number deal (turn terms desk deal).reply ++ pages_shown terms (turn terms desk deal).desk number deals

-- the rows that an open cursor has
abbrev pub HasLeft : Option Cursor → List Pair → Type 0
HasLeft None left = Unit {0}
HasLeft (Some cursor) left = left ≡ cursor.rows

-- Rows were shown of what was an open cursor: they are its first, and while it is open it has the others. Of a
-- cursor that isn't open nothing is shown, and it isn't opened again.
abbrev pub ShowsOf : Option Cursor → List Pair → Option Cursor → Type 0
ShowsOf (Some cursor) shown now = (left : List Pair) × (shown ++ left ≡ cursor.rows) × HasLeft now left
ShowsOf None shown now = (shown ≡ []) × (now ≡ None)

-- Whatever else is dealt, the pages of a cursor show its rows from the first one on, each once and in order.
abbrev pub PagesAreRows : Type 0
PagesAreRows =
    (terms : Terms) (desk : Desk) (deals : List Deal) (number : ℕ) → number < desk.next
    → ShowsOf (cursor_at desk.cursors (pos number)) (pages_shown terms desk (pos number) deals)
    (cursor_at (desk_after terms desk deals).cursors (pos number))

-- the deal of a scan whose call was answered with rows
abbrev pub scan_deal : ℤ → ℤ → ℤ → ℤ → List Pair → Deal
scan_deal id cache page minor rows = record {
  asked = record { id = id; request = Ok (Scan cache page) };
  got = Some (Had (record { minor = minor; outcome = Pairs rows }));
}

-- the first page of a scan shows the first of its rows, and the cursor with the next number has the others
abbrev pub FirstPageIsFirst : Type 0
FirstPageIsFirst =
    (terms : Terms) (desk : Desk) (id cache page minor : ℤ) (rows : List Pair)
    → cursor_at desk.cursors (pos desk.next) ≡ None
    → ShowsOf (Some (cursor_for desk page rows))
    (rows_in (turn terms desk (scan_deal id cache page minor rows)).reply.content)
    (cursor_at (turn terms desk (scan_deal id cache page minor rows)).desk.cursors (pos desk.next))

-- ---- desks

-- no more cursors are open than may be, and none has the next number or a later one
pub record IsDesk (desk : Desk) : Type 0 where
  pub few : length desk.cursors ≤ most_cursors
  pub unused : (number : ℕ) → desk.next ≤ number → cursor_at desk.cursors (pos number) ≡ None

abbrev pub DesksStay : Type 0
DesksStay = (terms : Terms) (desk : Desk) (deals : List Deal) → IsDesk desk → IsDesk (desk_after terms desk deals)

abbrev pub FreshIsDesk : Type 0
FreshIsDesk = IsDesk fresh_desk

-- ---- ends

-- What was written of frames that may be cut off is a prefix of them, and with the last call's result left out, all
-- frames were written whole: at most the last entry of a session lacks its whole reply.
abbrev pub LastIsCutOff : Type 0
LastIsCutOff =
    (cfg : SessionCfg) (manner_at : Version → Manner) (bodies : List (List ℕ)) (ran : List Ran) (last : Ran) (output : List ℕ)
    → handed (ran ++ last ∷ []) ≡ calls (asks bodies)
    → ShowsPart (out_frames cfg manner_at bodies (gots (ran ++ last ∷ []))) output
    → IsPrefix (joined (out_frames cfg manner_at bodies (gots ran))) output

abbrev pub PartIsPrefix : Type 0
PartIsPrefix = (frames : List (List ℕ)) (output : List ℕ) → ShowsPart frames output → IsPrefix output (joined frames)

-- the ends that come after all whole frames of the input were read
abbrev pub IsAfterReading : SessionEnd → Type 0
IsAfterReading (ends.HelloRefused fault) = ⊥
IsAfterReading ends.WriteFault = ⊥
IsAfterReading ends.NoMemory = ⊥
IsAfterReading end = Unit {0}

-- at these the input determines the bodies: they are its whole frames
abbrev pub EndsCut : Type 0
EndsCut =
    (end : SessionEnd) (input : List ℕ) (bodies : List (List ℕ)) (after : List ℕ) → IsAfterReading end
    → Begins client input bodies after → EndsBy end input bodies after → Cut client input bodies after
