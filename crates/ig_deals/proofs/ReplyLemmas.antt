-- Replies to longer lists of deals, and the frames of a session.
use Rattle.std.specs.Prelude.{◌&&◌, nat_le}
use Rattle.std.proofs.Common.{None, Some, ◌≡◌, ℕ, ℤ, pos, Bool, true, false, if◌then◌else◌, List, [], ◌∷◌, ◌++◌, map, length, Option, Result, Ok, Err, refl, sym, ap, ◌∙◌}
use Rattle.std.proofs.lemmas.List.{map-append}
use Rattle.ig_wire.specs.declared.version.Version.{Version}
use Rattle.ig_wire.specs.declared.hello.Hello.{Hello}
use Rattle.ig_wire.specs.declared.head.Fault.{Fault}
use Rattle.ig_wire.specs.declared.reason.Reason.TheVariants as reason
use Rattle.ig_wire.specs.Limits.{most_cursors}
use Rattle.ig_caches.specs.declared.call.Pair.{Pair}
use Rattle.ig_caches.specs.declared.call.Call.TheVariants as call
use Rattle.ig_caches.specs.declared.answer.Answer.{Answer}
use Rattle.ig_caches.specs.declared.answer.Outcome.TheVariants as outcome
use Rattle.ig_caches.specs.declared.request.Shown.TheVariants.{Out}
use Rattle.ig_caches.specs.declared.request.Request.{Request}
use Rattle.ig_caches.specs.declared.request.Request.TheVariants.{Run, Scan, NextPage, Close}
use Rattle.ig_deals.specs.declared.cfg.SessionCfg.{SessionCfg}
use Rattle.ig_deals.specs.declared.manner.Manner.{Manner}
use Rattle.ig_deals.specs.Hellos.{Greeting, greeting_of, hello_frame}
use Rattle.ig_deals.specs.Asks.{Asked, asks_after, asks}
use Rattle.ig_deals.specs.Deals.{Got, Had, NoMemory, calls, Deal, dealt}
use Rattle.ig_deals.specs.Desk.{Cursor, Desk, fresh_desk, has_more, cursor_at}
use Rattle.ig_deals.specs.Faults.{fault_of}
use Rattle.ig_deals.specs.Replies.{Shows, Fails, Reply, reply_frame, fits, too_long, shortened}
use Rattle.ig_deals.specs.Turns.{Terms, Turn, untold, telling, answers, content_of, page_content, first_page, cursor_for, pairs_in, scan_answer, next_turn, close_turn, turn_for, turn}
use Rattle.ig_deals.specs.OutFrames.{replies, desk_after, reply_frames, terms_at, frames_after, out_frames}
use Rattle.ig_deals.specs.Laws.{IsPrefix}
use Rattle.ig_deals.proofs.DealLemmas.{asks_after-append, dealt-append, deals_stay}

pub replies-append : (terms : Terms) (desk : Desk) (deals more : List Deal)
    → (replies terms desk (deals ++ more) ≡ replies terms desk deals ++ replies terms (desk_after terms desk deals) more)
    × (desk_after terms desk (deals ++ more) ≡ desk_after terms (desk_after terms desk deals) more)
replies-append terms desk [] more = (refl, refl)
replies-append terms desk (deal ∷ deals) more =
    let go = replies-append terms (turn terms desk deal).desk deals more in
    (ap (λ (l : List Reply). (turn terms desk deal).reply ∷ l) go.0, go.1)

pub reply_frames-append : (terms : Terms) (desk : Desk) (deals more : List Deal)
    → reply_frames terms desk (deals ++ more) ≡ reply_frames terms desk deals ++ reply_frames terms (desk_after terms desk deals) more
reply_frames-append terms desk deals more =
    ap (map (reply_frame terms.version)) (replies-append terms desk deals more).0
    ∙ map-append (reply_frame terms.version) (replies terms desk deals) (replies terms (desk_after terms desk deals) more)

-- ---- frames

frames_after-append : (cfg : SessionCfg) (manner_at : Version → Manner) (g : Greeting) (bodies more : List (List ℕ)) (given later : List Got) (hello : Hello)
    → g ≡ Ok hello → length given ≡ length (calls (asks_after g bodies))
    → frames_after cfg manner_at g (asks_after g (bodies ++ more)) (given ++ later)
    ≡ frames_after cfg manner_at g (asks_after g bodies) given
    ++ reply_frames (terms_at cfg manner_at hello.version) (desk_after (terms_at cfg manner_at hello.version) fresh_desk (dealt (asks_after g bodies) given)) (dealt (asks_after g more) later)
frames_after-append cfg manner_at g bodies more given later hello e len =
    let terms : Terms = terms_at cfg manner_at hello.version in
    let one : List Asked = asks_after g bodies in
    let two : List Asked = asks_after g more in
    ap (λ (h : Greeting). frames_after cfg manner_at h (asks_after g (bodies ++ more)) (given ++ later)) e
    ∙ ap (λ (l : List Asked). reply_frames terms fresh_desk (dealt l (given ++ later))) (asks_after-append g bodies more)
    ∙ ap (reply_frames terms fresh_desk) (dealt-append one two given later len)
    ∙ reply_frames-append terms fresh_desk (dealt one given) (dealt two later)
    ∙ ap (λ (h : Greeting). frames_after cfg manner_at h one given ++ reply_frames terms (desk_after terms fresh_desk (dealt one given)) (dealt two later)) (sym e)

pub frames_grow : (cfg : SessionCfg) (manner_at : Version → Manner) (hello : List ℕ) (bodies more : List (List ℕ)) (given later : List Got) (accepted : Hello)
    → greeting_of hello ≡ Ok accepted → length given ≡ length (calls (asks (hello ∷ bodies)))
    → out_frames cfg manner_at (hello ∷ (bodies ++ more)) (given ++ later)
    ≡ out_frames cfg manner_at (hello ∷ bodies) given
    ++ reply_frames (terms_at cfg manner_at accepted.version) (desk_after (terms_at cfg manner_at accepted.version) fresh_desk (dealt (asks (hello ∷ bodies)) given)) (dealt (asks (hello ∷ more)) later)
frames_grow cfg manner_at hello bodies more given later accepted e len =
    ap (λ (l : List (List ℕ)). hello_frame cfg hello ∷ l) (frames_after-append cfg manner_at (greeting_of hello) bodies more given later accepted e len)

frames_stay_after : (cfg : SessionCfg) (manner_at : Version → Manner) (g : Greeting) (bodies more : List (List ℕ)) (given later : List Got)
    → IsPrefix (frames_after cfg manner_at g (asks_after g bodies) given) (frames_after cfg manner_at g (asks_after g (bodies ++ more)) (given ++ later))
frames_stay_after cfg manner_at (Ok hello) bodies more given later =
    let terms : Terms = terms_at cfg manner_at hello.version in
    let one : List Asked = asks_after (Ok hello) bodies in
    let two : List Asked = asks_after (Ok hello) more in
    let stays : IsPrefix (dealt one given) (dealt (one ++ two) (given ++ later)) = deals_stay one two given later in (
      reply_frames terms (desk_after terms fresh_desk (dealt one given)) stays.0,
      sym (reply_frames-append terms fresh_desk (dealt one given) stays.0) ∙ ap (reply_frames terms fresh_desk) stays.1
          ∙ ap (λ (l : List Asked). reply_frames terms fresh_desk (dealt l (given ++ later))) (sym (asks_after-append (Ok hello) bodies more)),
    )
frames_stay_after cfg manner_at (Err fault) bodies more given later = ([], refl)

pub frames_stay : (cfg : SessionCfg) (manner_at : Version → Manner) (bodies more : List (List ℕ)) (given later : List Got)
    → IsPrefix (out_frames cfg manner_at bodies given) (out_frames cfg manner_at (bodies ++ more) (given ++ later))
frames_stay cfg manner_at [] more given later = (out_frames cfg manner_at more (given ++ later), refl)
frames_stay cfg manner_at (hello ∷ bodies) more given later =
    let after : IsPrefix (frames_after cfg manner_at (greeting_of hello) (asks_after (greeting_of hello) bodies) given) (frames_after cfg manner_at (greeting_of hello) (asks_after (greeting_of hello) (bodies ++ more)) (given ++ later)) =
    frames_stay_after cfg manner_at (greeting_of hello) bodies more given later in
    (after.0, ap (λ (l : List (List ℕ)). hello_frame cfg hello ∷ l) after.1)

-- ---- identifiers

id_kept : (v : Version) (reply : Reply) → (shortened v reply).id ≡ reply.id
id_kept v reply = by_length (fits v reply) where
  by_length : (b : Bool) → (if b then reply else too_long reply).id ≡ reply.id
  by_length true = refl
  by_length false = refl

id_either : (b : Bool) (t u : Turn) (id : ℤ) → t.reply.id ≡ id → u.reply.id ≡ id → (if b then t else u).reply.id ≡ id
id_either true t u id d e = d
id_either false t u id d e = e

id_scan : (terms : Terms) (desk : Desk) (id cache page : ℤ) (answer : Answer) (rows : Option (List Pair)) → (scan_answer terms desk id cache page answer rows).reply.id ≡ id
id_scan terms desk id cache page answer (Some rows) =
    let cursor : Cursor = cursor_for desk page rows in
    id_either (has_more cursor && nat_le most_cursors (length desk.cursors)) (answers terms desk id answer.minor (Fails (fault_of reason.TooManyCursors)))
    (first_page terms desk answer.minor cursor (telling terms desk id answer.minor (page_content (Some (pos cursor.number)) cursor))) id
    (id_kept terms.version (telling terms desk id answer.minor (Fails (fault_of reason.TooManyCursors))))
    (id_kept terms.version (telling terms desk id answer.minor (page_content (Some (pos cursor.number)) cursor)))
id_scan terms desk id cache page answer None = id_kept terms.version (telling terms desk id answer.minor (content_of terms.cfg (call.Scan cache) answer.minor answer.outcome))

id_next : (terms : Terms) (desk : Desk) (id number : ℤ) (found : Option Cursor) → (next_turn terms desk id number found).reply.id ≡ id
id_next terms desk id number (Some cursor) = id_kept terms.version (untold id (page_content None cursor))
id_next terms desk id number None = id_kept terms.version (untold id (Fails (fault_of reason.NoResource)))

id_close : (terms : Terms) (desk : Desk) (id number : ℤ) (found : Option Cursor) → (close_turn terms desk id number found).reply.id ≡ id
id_close terms desk id number (Some cursor) = id_kept terms.version (untold id (Shows (Out outcome.Done)))
id_close terms desk id number None = id_kept terms.version (untold id (Fails (fault_of reason.NoResource)))

id_turn : (terms : Terms) (desk : Desk) (id : ℤ) (request : Result Request Fault) (got : Option Got) → (turn_for terms desk id request got).reply.id ≡ id
id_turn terms desk id (Err fault) got = id_kept terms.version (untold id (Fails fault))
id_turn terms desk id (Ok (Run c)) None = id_kept terms.version (untold id (Fails (fault_of reason.NoMemory)))
id_turn terms desk id (Ok (Run c)) (Some NoMemory) = id_kept terms.version (untold id (Fails (fault_of reason.NoMemory)))
id_turn terms desk id (Ok (Run c)) (Some (Had answer)) = id_kept terms.version (telling terms desk id answer.minor (content_of terms.cfg c answer.minor answer.outcome))
id_turn terms desk id (Ok (Scan cache page)) None = id_kept terms.version (untold id (Fails (fault_of reason.NoMemory)))
id_turn terms desk id (Ok (Scan cache page)) (Some NoMemory) = id_kept terms.version (untold id (Fails (fault_of reason.NoMemory)))
id_turn terms desk id (Ok (Scan cache page)) (Some (Had answer)) = id_scan terms desk id cache page answer (pairs_in answer.outcome)
id_turn terms desk id (Ok (NextPage cursor)) got = id_next terms desk id cursor (cursor_at desk.cursors cursor)
id_turn terms desk id (Ok (Close resource)) got = id_close terms desk id resource (cursor_at desk.cursors resource)

turn_id : (terms : Terms) (desk : Desk) (deal : Deal) → (turn terms desk deal).reply.id ≡ deal.asked.id
unfolding turn
turn_id terms desk deal = id_turn terms desk deal.asked.id deal.asked.request deal.got

pub one_reply_each : (terms : Terms) (desk : Desk) (deals : List Deal) → map (λ (r : Reply). r.id) (replies terms desk deals) ≡ map (λ (d : Deal). d.asked.id) deals
one_reply_each terms desk [] = refl
one_reply_each terms desk (deal ∷ deals) =
    ap (λ (i : ℤ). i ∷ map (λ (r : Reply). r.id) (replies terms (turn terms desk deal).desk deals)) (turn_id terms desk deal)
    ∙ ap (λ (l : List ℤ). deal.asked.id ∷ l) (one_reply_each terms (turn terms desk deal).desk deals)
