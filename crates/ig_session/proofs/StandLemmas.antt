-- What each step keeps of what a session stands for.
use Rattle.std.proofs.Common.{◌≡◌, ℕ, ◌≤◌, List, [], ◌∷◌, ◌++◌, length, take, drop, Option, None, Some, Ok, refl, sym, ap, ◌∙◌, subst, arith, append-nil, append_assoc}
use Rattle.std.proofs.lemmas.List.{take-append-drop}
use Rattle.ig_base.specs.Numbers.{AreBytes}
use Rattle.ig_base.specs.Frames.{client, max_body, least_after, Begins, Frame, front, Body}
use Rattle.ig_base.proofs.FrameLemmas.{front-reads, Begins-start, Begins-more, Begins-next, rest_bytes, append_bytes}
use Rattle.ig_wire.specs.declared.hello.Hello.{Hello}
use Rattle.ig_frame.specs.Streams.{Stream, HandedOut, front_at, stream_after_frame}
use Rattle.ig_frame.proofs.StreamLemmas.{HandedOut-passed, stream_after_frame-found}
use Rattle.ig_caches.specs.declared.call.Call.{Call}
use Rattle.ig_deals.specs.declared.cfg.SessionCfg.{SessionCfg}
use Rattle.ig_deals.specs.Hellos.{Greeting, greeting_of, hello_frame}
use Rattle.ig_deals.specs.Asks.{Asked, asked_in, asks_after, asks}
use Rattle.ig_deals.specs.Deals.{Got, Ran, handed, call_for, calls, Deal, deal_next, dealt}
use Rattle.ig_deals.specs.Desk.{fresh_desk}
use Rattle.ig_deals.specs.Telling.{session_manner}
use Rattle.ig_deals.specs.Replies.{reply_frame}
use Rattle.ig_deals.specs.Turns.{Terms, turn}
use Rattle.ig_deals.specs.OutFrames.{desk_after, reply_frames, terms_at, frames_after, out_frames}
use Rattle.ig_deals.specs.Serves.{joined, ShowsPart}
use Rattle.std.proofs.lemmas.Grind.{flat_map-append}
use Rattle.ig_deals.proofs.DealLemmas.{asks-append, dealt-append}
use Rattle.ig_deals.proofs.ReplyLemmas.{replies-append, reply_frames-append}
use Rattle.ig_replies.specs.Showing.{Waiting, left_of, frames_and, after_push}
use Rattle.ig_session.specs.declared.phase.Phase.{Phase}
use Rattle.ig_session.specs.States.{State, new_state}
use Rattle.ig_session.specs.Comings.{least_in}
use Rattle.ig_session.specs.Steps.{fed, passed}
use Rattle.ig_session.specs.StandsFor.{first_gone, ShowsSoFar, Stands}

-- ---- the input

pub new_stands : (cfg : SessionCfg) → Stands (new_state cfg) [] [] [] []
new_stands cfg = record {
  bodies = [];
  read = record { begins = Begins-start client []; place = refl };
  are_bytes = λ i. omega arith;
  settled = [];
  pending = [];
  asked = refl;
  handed_out = refl;
  awaited = (refl, refl);
  count = refl;
  phase = (refl, refl);
  shows = record { shown = []; frames_are = refl; output_is = refl };
  one = omega arith;
}

pub fed_stands : (s : State) (input piece : List ℕ) (ran : List Ran) (out : List Call) (output : List ℕ) → AreBytes piece
    → Stands s input ran out output → Stands (fed s piece) (input ++ piece) ran out output
fed_stands s input piece ran out output are stood = record {
  bodies = stood.bodies;
  read = record { begins = Begins-more stood.read.begins piece; place = stood.read.place };
  are_bytes = append_bytes s.stream.rest piece stood.are_bytes are;
  settled = stood.settled;
  pending = stood.pending;
  asked = stood.asked;
  handed_out = stood.handed_out;
  awaited = stood.awaited;
  count = stood.count;
  phase = stood.phase;
  shows = stood.shows;
  one = stood.one;
}

-- a body was read
pub record Reads (s : State) (input : List ℕ) (bodies : List (List ℕ)) : Type 0 where
  pub read : HandedOut client (passed s).stream input bodies
  pub are_bytes : AreBytes (passed s).stream.rest

pub reads_body : (s : State) (input : List ℕ) (bodies : List (List ℕ)) (body rest : List ℕ) (phase : Phase) → s.phase ≡ phase → s.stream.limit ≡ max_body
    → least_in phase ≡ least_after client bodies → AreBytes s.stream.rest → HandedOut client s.stream input bodies
    → front_at (least_in phase) s.stream ≡ Body body rest → Reads s input (bodies ++ body ∷ [])
reads_body s input bodies body rest phase is limit least are handed found =
    let here : front (least_in phase) max_body s.stream.rest ≡ Body body rest = ap (λ (n : ℕ). front (least_in phase) n s.stream.rest) (sym limit) ∙ found in
    let next : front (least_after client bodies) max_body s.stream.rest ≡ Body body rest = ap (λ (n : ℕ). front n max_body s.stream.rest) (sym least) ∙ here in
    let begins : Begins client input (bodies ++ body ∷ []) rest = Begins-next client input s.stream.rest body rest bodies are handed.begins next in
    let after : stream_after_frame (least_in s.phase) s.stream ≡ stream_after_frame (least_in phase) s.stream = ap (λ (p : Phase). stream_after_frame (least_in p) s.stream) is in
    let rest_is : (stream_after_frame (least_in s.phase) s.stream).rest ≡ rest = ap (λ (t : Stream). t.rest) (after ∙ stream_after_frame-found (least_in phase) s.stream body rest found) in
    let spelled : s.stream.rest ≡ Frame body ++ rest = (front-reads (least_in phase) max_body s.stream.rest body rest are here).1 in
    record {
      read = subst (λ (t : Stream). HandedOut client t input (bodies ++ body ∷ [])) (sym after) (HandedOut-passed client s.stream input body rest bodies (least_in phase) handed found begins);
      are_bytes = subst AreBytes (sym rest_is) (rest_bytes (Frame body) rest (subst AreBytes spelled are));
    }

-- ---- the output

pub joined-append : (xs ys : List (List ℕ)) → joined (xs ++ ys) ≡ joined xs ++ joined ys
joined-append xs ys = flat_map-append (λ f. f) xs ys

-- what is gone and what is left of frames are all their bytes
pub gone_and_left : (frames : List (List ℕ)) (gone : ℕ) → first_gone frames gone ++ left_of frames gone ≡ joined frames
gone_and_left [] gone = refl
gone_and_left (frame ∷ frames) gone =
    sym (append_assoc (take gone frame) (drop gone frame) (joined frames)) ∙ ap (λ (l : List ℕ). l ++ joined frames) (take-append-drop gone frame)

-- where none waits, the frames were written whole
none_left : (frames : List (List ℕ)) (w : Waiting) (output : List ℕ) → w.frames ≡ [] → (so : ShowsSoFar frames w output) → (frames ≡ so.shown) × (output ≡ joined so.shown)
none_left frames w output none so = (
  so.frames_are ∙ ap (λ (l : List (List ℕ)). so.shown ++ l) none ∙ append-nil so.shown,
  so.output_is ∙ ap (λ (l : List (List ℕ)). joined so.shown ++ first_gone l w.gone) none ∙ append-nil (joined so.shown),
)

-- a frame is added where none waits
pub push_shows : (frames : List (List ℕ)) (w : Waiting) (frame output : List ℕ) → w.frames ≡ [] → ShowsSoFar frames w output
    → ShowsSoFar (frames ++ frame ∷ []) (after_push w frame) output
push_shows frames w frame output none so =
    let whole = none_left frames w output none so in
    subst (λ (v : Waiting). ShowsSoFar (frames ++ frame ∷ []) v output) (sym (ap (λ (l : List (List ℕ)). frames_and l w.gone frame) none)) (record {
      shown = so.shown;
      frames_are = ap (λ (l : List (List ℕ)). l ++ frame ∷ []) whole.0;
      output_is = whole.1 ∙ sym (append-nil (joined so.shown));
    })

-- it is the only one then
pub push_alone : (w : Waiting) (frame : List ℕ) → w.frames ≡ [] → length (after_push w frame).frames ≡ 1
push_alone w frame none = ap (λ (l : List (List ℕ)). length (frames_and l w.gone frame).frames) none

pub all_shown : (frames : List (List ℕ)) (w : Waiting) (output : List ℕ) → w.frames ≡ [] → ShowsSoFar frames w output → output ≡ joined frames
all_shown frames w output none so = let whole = none_left frames w output none so in whole.1 ∙ ap joined (sym whole.0)

-- frames of which at most the last waits may be cut off
pub may_be_cut : (frames : List (List ℕ)) (w : Waiting) (output : List ℕ) → length w.frames ≤ 1 → ShowsSoFar frames w output → ShowsPart frames output
may_be_cut frames w output one so = record {
  whole = so.shown;
  last = w.frames;
  prefix = first_gone w.frames w.gone;
  missing = left_of w.frames w.gone;
  frames_are = so.frames_are;
  at_most_one = one;
  cut = sym (gone_and_left w.frames w.gone);
  output_is = so.output_is;
}

-- frames were written whole, and one more is lost
pub one_lost : (frames : List (List ℕ)) (frame output : List ℕ) → output ≡ joined frames → ShowsPart (frames ++ frame ∷ []) output
one_lost frames frame output e = record {
  whole = frames;
  last = frame ∷ [];
  prefix = [];
  missing = joined (frame ∷ []);
  frames_are = refl;
  at_most_one = omega arith;
  cut = refl;
  output_is = e ∙ sym (append-nil (joined frames));
}

-- ---- deals of an open session

-- the frames of an open session, by what was asked
pub open_frames : (cfg : SessionCfg) (hello : List ℕ) (requests : List (List ℕ)) (accepted : Hello) (given : List Got) → greeting_of hello ≡ Ok accepted
    → out_frames cfg session_manner (hello ∷ requests) given
    ≡ hello_frame cfg hello ∷ reply_frames (terms_at cfg session_manner accepted.version) fresh_desk (dealt (asks (hello ∷ requests)) given)
open_frames cfg hello requests accepted given greets =
    ap (λ (g : Greeting). hello_frame cfg hello ∷ frames_after cfg session_manner g (asks_after (greeting_of hello) requests) given) greets

-- one more body asks one thing more
pub asks_one : (hello : List ℕ) (requests : List (List ℕ)) (body : List ℕ) (accepted : Hello) → greeting_of hello ≡ Ok accepted
    → asks (hello ∷ (requests ++ body ∷ [])) ≡ asks (hello ∷ requests) ++ asked_in accepted.version body ∷ []
asks_one hello requests body accepted greets =
    asks-append hello requests (body ∷ []) ∙ ap (λ (g : Greeting). asks (hello ∷ requests) ++ asks_after g (body ∷ [])) greets

-- a request whose call has no result yet is not dealt
pub dealt_pending : (settled : List Asked) (asked : Asked) (call : Call) (given : List Got) → call_for asked.request ≡ Some call → length given ≡ length (calls settled)
    → dealt (settled ++ asked ∷ []) given ≡ dealt settled given
dealt_pending settled asked call given is len =
    ap (dealt (settled ++ asked ∷ [])) (sym (append-nil given)) ∙ dealt-append settled (asked ∷ []) given [] len
    ∙ ap (λ (c : Option Call). dealt settled given ++ deal_next asked c [] (dealt [])) is ∙ append-nil (dealt settled given)

-- with its result it is
pub dealt_answered : (settled : List Asked) (asked : Asked) (call : Call) (given : List Got) (got : Got) → call_for asked.request ≡ Some call → length given ≡ length (calls settled)
    → dealt (settled ++ asked ∷ []) (given ++ got ∷ []) ≡ dealt settled given ++ record { asked = asked; got = Some got } ∷ []
dealt_answered settled asked call given got is len =
    dealt-append settled (asked ∷ []) given (got ∷ []) len ∙ ap (λ (c : Option Call). dealt settled given ++ deal_next asked c (got ∷ []) (dealt [])) is

-- a request without a call is dealt at once
pub dealt_settled : (settled : List Asked) (asked : Asked) (given : List Got) → call_for asked.request ≡ None → length given ≡ length (calls settled)
    → dealt (settled ++ asked ∷ []) given ≡ dealt settled given ++ record { asked = asked; got = None } ∷ []
dealt_settled settled asked given is len =
    ap (dealt (settled ++ asked ∷ [])) (sym (append-nil given)) ∙ dealt-append settled (asked ∷ []) given [] len
    ∙ ap (λ (c : Option Call). dealt settled given ++ deal_next asked c [] (dealt [])) is

-- one more deal adds the frame of its turn, and leaves its desk
pub one_more_turn : (terms : Terms) (deals : List Deal) (deal : Deal)
    → (reply_frames terms fresh_desk (deals ++ deal ∷ []) ≡ reply_frames terms fresh_desk deals ++ reply_frame terms.version (turn terms (desk_after terms fresh_desk deals) deal).reply ∷ [])
    × (desk_after terms fresh_desk (deals ++ deal ∷ []) ≡ (turn terms (desk_after terms fresh_desk deals) deal).desk)
one_more_turn terms deals deal = (reply_frames-append terms fresh_desk deals (deal ∷ []), (replies-append terms fresh_desk deals (deal ∷ [])).1)
