-- What each step keeps of what holds of every session.
use Rattle.std.proofs.Common.{◌≡◌, ℕ, suc, ◌+◌, ◌<◌, ◌≤◌, ℤ, List, [], ◌∷◌, ◌++◌, length, drop, pos, Option, None, Some, Result, Ok, Err, refl, sym, ap, ◌∙◌, subst, arith, length-append}
use Rattle.std.specs.Prelude.{Bool, true, false, ◌&&◌, nat_le, nat_lt, if◌then◌else◌}
use Rattle.std.proofs.lemmas.List.{length-drop}
use Rattle.ig_base.specs.Frames.{client, max_body, Front, Body, Bad, Incomplete}
use Rattle.ig_base.proofs.FrameLemmas.{front-inside}
use Rattle.ig_frame.specs.Streams.{Stream, front_at, place_of, stream_after, stream_after_frame}
use Rattle.ig_frame.proofs.StreamLemmas.{stream_after_frame-found}
use Rattle.ig_wire.specs.declared.head.Fault.{Fault}
use Rattle.ig_wire.specs.declared.reason.Reason.TheVariants as reason
use Rattle.ig_wire.specs.Limits.{most_cursors}
use Rattle.ig_caches.specs.declared.answer.Answer.{Answer}
use Rattle.ig_caches.specs.declared.call.Pair.{Pair}
use Rattle.ig_caches.specs.declared.request.Request.{Request}
use Rattle.ig_caches.specs.declared.request.Request.TheVariants.{Run, Scan, NextPage, Close}
use Rattle.ig_deals.specs.declared.cfg.SessionCfg.{SessionCfg}
use Rattle.ig_deals.specs.Asks.{Asked}
use Rattle.ig_deals.specs.Deals.{Got, Had, NoMemory, Deal}
use Rattle.ig_deals.specs.Desk.{Cursor, Desk, has_more, cursor_at}
use Rattle.ig_deals.specs.Faults.{fault_of}
use Rattle.ig_deals.specs.Hellos.{Greeting}
use Rattle.ig_deals.specs.Laws.{IsDesk}
use Rattle.ig_deals.specs.Replies.{Fails, Reply}
use Rattle.ig_deals.specs.Turns.{Terms, answers, telling, page_content, first_page, cursor_for, pairs_in, scan_answer, next_turn, close_turn, turn_for, turn}
use Rattle.ig_deals.proofs.DeskLemmas.{fresh_is_desk, desks_stay}
use Rattle.ig_replies.specs.declared.terms.Terms.{Terms as HeldTerms}
use Rattle.ig_replies.specs.RunTerms.{AreTerms}
use Rattle.ig_replies.specs.Showing.{Waiting, frames_when, after_gone, frames_and, after_push}
use Rattle.ig_replies.specs.Turned.{HasNumbers}
use Rattle.ig_session.specs.Cfg.{IsCfg}
use Rattle.ig_session.specs.declared.phase.Phase.{Phase}
use Rattle.ig_session.specs.declared.phase.Phase.TheVariants.{BeforeHello, Open, Refused, OutOfMemory}
use Rattle.ig_session.specs.declared.awaited.Awaited.{Awaited}
use Rattle.ig_session.specs.States.{State, new_state}
use Rattle.ig_session.specs.Comings.{Asks, Greets, coming, least_in}
use Rattle.ig_session.specs.Soundness.{most_fed, IsSoundPhase, IsSound}
use Rattle.ig_session.specs.Steps.{fed, passed, written, out_with, CanDraw}
use Rattle.ig_session.proofs.ComingLemmas.{HelloIn, hello_comes, RequestIn, request_comes}

-- ---- what waits

abbrev first_or_next : Bool → List ℕ → List (List ℕ) → ℕ → Waiting
first_or_next first frame frames gone = if first then record { frames = frame ∷ frames; gone = gone } else record { frames = frames; gone = 0 }

idle_by : (first : Bool) (frame : List ℕ) (frames : List (List ℕ)) (gone : ℕ) → (first_or_next first frame frames gone).frames ≡ [] → (first_or_next first frame frames gone).gone ≡ 0
idle_by true frame frames gone e = absurd cc
idle_by false frame frames gone e = refl

-- where no frame is left, nothing is gone
frames_idle : (frames : List (List ℕ)) (gone : ℕ) → (frames_when frames gone).frames ≡ [] → (frames_when frames gone).gone ≡ 0
frames_idle [] gone e = refl
frames_idle (frame ∷ frames) gone e = idle_by (nat_lt gone (length frame)) frame frames gone e

pub gone_idle : (w : Waiting) (n : ℕ) → (after_gone w n).frames ≡ [] → (after_gone w n).gone ≡ 0
gone_idle w n e = frames_idle w.frames (w.gone + n) e

and_idle : (frames : List (List ℕ)) (gone : ℕ) (frame : List ℕ) → (frames_and frames gone frame).frames ≡ [] → (frames_and frames gone frame).gone ≡ 0
and_idle [] gone frame e = refl
and_idle (first ∷ frames) gone frame e = absurd cc

pub push_idle : (w : Waiting) (frame : List ℕ) → (after_push w frame).frames ≡ [] → (after_push w frame).gone ≡ 0
push_idle w frame e = and_idle w.frames w.gone frame e

-- ---- steps

pub new_sound : (cfg : SessionCfg) → IsCfg cfg → IsSound (new_state cfg)
new_sound cfg is = record {
  cfg = is;
  limit = refl;
  fed = omega arith;
  phase = refl;
  desk = fresh_is_desk;
  cursors = omega arith;
  calls = omega arith;
  idle = λ none. refl;
}

pub fed_sound : (s : State) (piece : List ℕ) → s.stream.place + length s.stream.rest + length piece ≤ most_fed → IsSound s → IsSound (fed s piece)
fed_sound s piece le sound = record {
  cfg = sound.cfg;
  limit = sound.limit;
  fed = omega (arith, le, length-append s.stream.rest piece);
  phase = sound.phase;
  desk = sound.desk;
  cursors = sound.cursors;
  calls = sound.calls;
  idle = sound.idle;
}

pub waiting_sound : (s : State) (waiting : Waiting) → (waiting.frames ≡ [] → waiting.gone ≡ 0) → IsSound s → IsSound (record s { waiting = waiting })
waiting_sound s waiting idle sound = record {
  cfg = sound.cfg;
  limit = sound.limit;
  fed = sound.fed;
  phase = sound.phase;
  desk = sound.desk;
  cursors = sound.cursors;
  calls = sound.calls;
  idle = idle;
}

pub written_sound : (s : State) (n : ℕ) → IsSound s → IsSound (written s n)
written_sound s n sound = waiting_sound s (after_gone s.waiting n) (gone_idle s.waiting n) sound

pub pushed_sound : (s : State) (frame : List ℕ) → IsSound s → IsSound (record s { waiting = after_push s.waiting frame })
pushed_sound s frame sound = waiting_sound s (after_push s.waiting frame) (push_idle s.waiting frame) sound

pub phase_sound : (s : State) (phase : Phase) → IsSoundPhase phase s.cfg s.out → IsSound s → IsSound (record s { phase = phase })
phase_sound s phase is sound = record {
  cfg = sound.cfg;
  limit = sound.limit;
  fed = sound.fed;
  phase = is;
  desk = sound.desk;
  cursors = sound.cursors;
  calls = sound.calls;
  idle = sound.idle;
}

pub desk_sound : (s : State) (desk : Desk) → IsDesk desk → desk.next + length s.out ≤ s.stream.place + 1 → IsSound s → IsSound (record s { desk = desk })
desk_sound s desk is le sound = record {
  cfg = sound.cfg;
  limit = sound.limit;
  fed = sound.fed;
  phase = sound.phase;
  desk = is;
  cursors = le;
  calls = sound.calls;
  idle = sound.idle;
}

-- ---- a frame was read

-- the stream has moved on, within what was fed
pub record MovesOn (s stream : Stream) : Type 0 where
  pub limit : stream.limit ≡ s.limit
  pub within : stream.place + length stream.rest ≤ s.place + length s.rest
  pub further : s.place ≤ stream.place

moves_found : (s : Stream) (least : ℕ) (found : Front) → front_at least s ≡ found → s.place + length s.rest ≤ most_fed → MovesOn s (stream_after s found)
moves_found s least (Body body rest) e fed =
    let inside : (4 + length body ≤ length s.rest) × (drop (4 + length body) s.rest ≡ rest) = front-inside least s.limit s.rest body rest e in
    let len : length rest + (4 + length body) ≡ length s.rest = omega (arith, inside.0, length-drop (4 + length body) s.rest, ap length inside.1) in
    record { limit = refl; within = omega (arith, len); further = omega (arith, len, fed) }
moves_found s least (Bad n) e fed = record { limit = refl; within = omega arith; further = omega arith }
moves_found s least (Incomplete missing) e fed = record { limit = refl; within = omega arith; further = omega arith }

pub moves : (s : Stream) (least : ℕ) → s.place + length s.rest ≤ most_fed → MovesOn s (stream_after_frame least s)
unfolding stream_after_frame
moves s least fed = moves_found s least (front_at least s) refl fed

pub passed_sound : (s : State) → IsSound s → IsSound (passed s)
passed_sound s sound =
    let on : MovesOn s.stream (stream_after_frame (least_in s.phase) s.stream) = moves s.stream (least_in s.phase) sound.fed in
    record {
      cfg = sound.cfg;
      limit = on.limit ∙ sound.limit;
      fed = omega (arith, on.within, sound.fed);
      phase = sound.phase;
      desk = sound.desk;
      cursors = omega (arith, on.further, sound.cursors);
      calls = omega (arith, on.further, sound.calls);
      idle = sound.idle;
    }

-- a whole frame has at least the four bytes of its length
pub moves_further : (s : Stream) (least : ℕ) (body rest : List ℕ) → front_at least s ≡ Body body rest → s.place + length s.rest ≤ most_fed
    → s.place + 4 ≤ (stream_after_frame least s).place
moves_further s least body rest found fed =
    let inside : (4 + length body ≤ length s.rest) × (drop (4 + length body) s.rest ≡ rest) = front-inside least s.limit s.rest body rest found in
    let place : (stream_after_frame least s).place ≡ place_of (s.place + 4 + length body) = ap (λ (t : Stream). t.place) (stream_after_frame-found least s body rest found) in
    omega (arith, inside.0, place, fed)

-- what a whole request comes from
pub asks_further : (s : State) (terms : HeldTerms) (asked : Asked) → coming s ≡ Asks terms asked → IsSound s → s.stream.place + 4 ≤ (passed s).stream.place
asks_further s terms asked comes sound =
    let at : RequestIn s s.phase terms asked = request_comes s terms asked comes in
    let found : front_at (least_in s.phase) s.stream ≡ Body at.body at.rest = ap (λ (p : Phase). front_at (least_in p) s.stream) at.is_open ∙ at.found_is in
    moves_further s.stream (least_in s.phase) at.body at.rest found sound.fed

-- ---- phases

sound_open : (phase : Phase) (terms : HeldTerms) (cfg : SessionCfg) (out more : List Awaited) → phase ≡ Open terms → IsSoundPhase phase cfg out → IsSoundPhase phase cfg more
sound_open phase terms cfg out more is h =
    subst (λ (p : Phase). IsSoundPhase p cfg more) (sym is) (subst (λ (p : Phase). IsSoundPhase p cfg out) is h)

pub terms_sound : (s : State) (phase : Phase) (terms : HeldTerms) → s.phase ≡ phase → phase ≡ Open terms → IsSound s → AreTerms terms × (terms.cfg ≡ s.cfg)
terms_sound s phase terms e is sound = subst (λ (p : Phase). IsSoundPhase p s.cfg s.out) (e ∙ is) sound.phase

-- before the hello no call is out
pub none_before : (s : State) (phase : Phase) → phase ≡ BeforeHello → s.phase ≡ phase → IsSound s → s.out ≡ []
none_before s phase is e sound = subst (λ (p : Phase). IsSoundPhase p s.cfg s.out) (e ∙ is) sound.phase

-- ---- calls that are out

pub out_sound : (s : State) (awaited : Awaited) (terms : HeldTerms) (asked : Asked) → coming s ≡ Asks terms asked → IsSound s → IsSound (out_with awaited s)
out_sound s awaited terms asked comes sound =
    let at : RequestIn s s.phase terms asked = request_comes s terms asked comes in
    let now : IsSound (passed s) = passed_sound s sound in
    let further : s.stream.place + 4 ≤ (passed s).stream.place = asks_further s terms asked comes sound in
    record {
      cfg = sound.cfg;
      limit = now.limit;
      fed = now.fed;
      phase = sound_open s.phase terms s.cfg s.out (s.out ++ awaited ∷ []) at.is_open sound.phase;
      desk = sound.desk;
      cursors = omega (arith, further, sound.cursors, length-append s.out (awaited ∷ []));
      calls = omega (arith, further, sound.calls);
      idle = sound.idle;
    }

fewer_phase : (phase : Phase) (cfg : SessionCfg) (out less : List Awaited) → (out ≡ [] → less ≡ []) → IsSoundPhase phase cfg out → IsSoundPhase phase cfg less
fewer_phase BeforeHello cfg out less none is = none is
fewer_phase (Open terms) cfg out less none is = is
fewer_phase (Refused fault) cfg out less none is = none is
fewer_phase OutOfMemory cfg out less none is = tt

no_fewer : (out less : List Awaited) → length less ≤ length out → out ≡ [] → less ≡ []
no_fewer out [] le none = refl
no_fewer out (a ∷ less) le none = absurd (omega (arith, le, ap length none))

-- fewer calls are out
pub fewer_sound : (s : State) (less : List Awaited) → length less ≤ length s.out → IsSound s → IsSound (record s { out = less })
fewer_sound s less le sound = record {
  cfg = sound.cfg;
  limit = sound.limit;
  fed = sound.fed;
  phase = fewer_phase s.phase s.cfg s.out less (no_fewer s.out less le) sound.phase;
  desk = sound.desk;
  cursors = omega (arith, le, sound.cursors);
  calls = sound.calls;
  idle = sound.idle;
}

-- and then a cursor's number may be drawn
pub fewer_draw : (s : State) (less : List Awaited) → length less < length s.out → IsSound s → CanDraw (record s { out = less })
fewer_draw s less lt sound = omega (arith, lt, sound.cursors)

-- there are numbers left
pub has_numbers : (s : State) → IsSound s → HasNumbers s.desk
has_numbers s sound = record { kept = sound.desk; left = omega (arith, sound.cursors, sound.fed) }

-- ---- the desk after a turn

scanned_next : (b : Bool) (terms : Terms) (desk : Desk) (id minor : ℤ) (cursor : Cursor) (page : Reply)
    → (if b then answers terms desk id minor (Fails (fault_of reason.TooManyCursors)) else first_page terms desk minor cursor page).desk.next ≤ desk.next + 1
scanned_next true terms desk id minor cursor page = omega arith
scanned_next false terms desk id minor cursor page = omega arith

scan_next : (terms : Terms) (desk : Desk) (id cache page : ℤ) (answer : Answer) (rows : Option (List Pair)) → (scan_answer terms desk id cache page answer rows).desk.next ≤ desk.next + 1
scan_next terms desk id cache page answer None = omega arith
scan_next terms desk id cache page answer (Some rows) =
    let cursor : Cursor = cursor_for desk page rows in
    scanned_next (has_more cursor && nat_le most_cursors (length desk.cursors)) terms desk id answer.minor cursor
    (telling terms desk id answer.minor (page_content (Some (pos cursor.number)) cursor))

paged_next : (terms : Terms) (desk : Desk) (id number : ℤ) (cursor : Option Cursor) → (next_turn terms desk id number cursor).desk.next ≡ desk.next
paged_next terms desk id number None = refl
paged_next terms desk id number (Some cursor) = refl

closed_next : (terms : Terms) (desk : Desk) (id number : ℤ) (cursor : Option Cursor) → (close_turn terms desk id number cursor).desk.next ≡ desk.next
closed_next terms desk id number None = refl
closed_next terms desk id number (Some cursor) = refl

next_for : (terms : Terms) (desk : Desk) (id : ℤ) (request : Result Request Fault) (got : Option Got) → (turn_for terms desk id request got).desk.next ≤ desk.next + 1
next_for terms desk id (Err fault) got = omega arith
next_for terms desk id (Ok (Run c)) None = omega arith
next_for terms desk id (Ok (Run c)) (Some NoMemory) = omega arith
next_for terms desk id (Ok (Run c)) (Some (Had answer)) = omega arith
next_for terms desk id (Ok (Scan cache page)) None = omega arith
next_for terms desk id (Ok (Scan cache page)) (Some NoMemory) = omega arith
next_for terms desk id (Ok (Scan cache page)) (Some (Had answer)) = scan_next terms desk id cache page answer (pairs_in answer.outcome)
next_for terms desk id (Ok (NextPage k)) got = omega (arith, paged_next terms desk id k (cursor_at desk.cursors k))
next_for terms desk id (Ok (Close k)) got = omega (arith, closed_next terms desk id k (cursor_at desk.cursors k))

-- a turn draws at most one number
pub turn_next : (terms : Terms) (desk : Desk) (deal : Deal) → (turn terms desk deal).desk.next ≤ desk.next + 1
unfolding turn
turn_next terms desk deal = next_for terms desk deal.asked.id deal.asked.request deal.got

-- a next page and closing draw none
pub page_next : (terms : Terms) (desk : Desk) (id k : ℤ) (got : Option Got) → (turn_for terms desk id (Ok (NextPage k)) got).desk.next ≡ desk.next
page_next terms desk id k got = paged_next terms desk id k (cursor_at desk.cursors k)

pub close_next : (terms : Terms) (desk : Desk) (id k : ℤ) (got : Option Got) → (turn_for terms desk id (Ok (Close k)) got).desk.next ≡ desk.next
close_next terms desk id k got = closed_next terms desk id k (cursor_at desk.cursors k)

pub turn_is_desk : (terms : Terms) (desk : Desk) (deal : Deal) → IsDesk desk → IsDesk (turn terms desk deal).desk
turn_is_desk terms desk deal is = desks_stay terms desk (deal ∷ []) is

-- the desk after a turn that may draw
pub turn_sound : (s : State) (terms : Terms) (deal : Deal) → CanDraw s → IsSound s → IsSound (record s { desk = (turn terms s.desk deal).desk })
turn_sound s terms deal draw sound =
    desk_sound s (turn terms s.desk deal).desk (turn_is_desk terms s.desk deal sound.desk) (omega (arith, turn_next terms s.desk deal, draw)) sound

-- the desk after a turn that draws none
pub undrawn_sound : (s : State) (terms : Terms) (deal : Deal) → (turn terms s.desk deal).desk.next ≡ s.desk.next → IsSound s
    → IsSound (record s { desk = (turn terms s.desk deal).desk })
undrawn_sound s terms deal same sound =
    desk_sound s (turn terms s.desk deal).desk (turn_is_desk terms s.desk deal sound.desk) (omega (arith, same, sound.cursors)) sound
