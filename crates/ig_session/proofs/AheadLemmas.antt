-- What each step keeps of what a session stands for whose calls are answered in any order: the input and the output.
use Rattle.std.proofs.Common.{◌≡◌, inl, inr, ℕ, ◌+◌, ◌<◌, ◌≤◌, List, [], ◌∷◌, ◌++◌, map, length, take, drop, Option, Some, Ok, Err, refl, sym, ap, ◌∙◌, subst, length-append, arith, append-nil, append_assoc}
use Rattle.std.specs.Prelude.{Contains, slice_get, min, nat_lt}
use Rattle.std.proofs.lemmas.Bool.{le-ltb, lt-ltb, cond-true, cond-false, cases_lt}
use Rattle.std.proofs.lemmas.List.{length-map, length-take, length-drop, take-take, take_all, take-append-drop, drop-drop, map-append}
use Rattle.ig_base.specs.Numbers.{AreBytes}
use Rattle.ig_base.specs.Frames.{client}
use Rattle.ig_base.proofs.FrameLemmas.{Begins-start, Begins-more, append_bytes}
use Rattle.ig_wire.specs.declared.version.Version.{Version}
use Rattle.ig_wire.specs.declared.hello.Hello.{Hello}
use Rattle.ig_deals.specs.declared.cfg.SessionCfg.{SessionCfg}
use Rattle.ig_deals.specs.Hellos.{Greeting, greeting_of, hello_frame}
use Rattle.ig_deals.specs.Asks.{Asked, asks}
use Rattle.ig_deals.specs.Deals.{Got, Deal}
use Rattle.ig_deals.specs.Desk.{Desk, fresh_desk}
use Rattle.ig_deals.specs.Telling.{crew_manner}
use Rattle.ig_deals.specs.Replies.{reply_frame}
use Rattle.ig_deals.specs.Turns.{Terms, turn}
use Rattle.ig_deals.specs.OutFrames.{replies, desk_after, reply_frames, terms_at}
use Rattle.ig_deals.specs.Laws.{IsApart}
use Rattle.ig_deals.proofs.ApartLemmas.{own_reply}
use Rattle.ig_deals.proofs.ReplyLemmas.{reply_frames-append}
use Rattle.ig_replies.specs.Showing.{Waiting, piece_shown, after_gone, frames_and, after_push}
use Rattle.ig_session.specs.declared.phase.Phase.{Phase}
use Rattle.ig_session.specs.declared.phase.Phase.TheVariants.{BeforeHello, Open, Refused, OutOfMemory}
use Rattle.ig_session.specs.declared.awaited.Awaited.{Awaited}
use Rattle.ig_session.specs.States.{State, new_state}
use Rattle.ig_session.specs.Steps.{fed, written}
use Rattle.ig_session.specs.StandsFor.{ShowsSoFar}
use Rattle.ig_session.specs.StandsAhead.{HandedAhead, given_so_far, dealt_ahead, IsDue, AreCounted, in_order, frames_ahead, out_ahead, StandsAhead}
use Rattle.ig_session.proofs.WriteLemmas.{written_shows, fewer_wait}
use Rattle.ig_session.proofs.ApartLemmas.{crew_tells}
use Rattle.ig_session.proofs.PlaceLemmas.{at_end, at_other, at_first, in_order_same, in_order_more}

-- ---- the input

no_deal : (before after : List Deal) (deal : Deal) → [] ≡ before ++ deal ∷ after → ⊥
no_deal [] after deal e = cc
no_deal (first ∷ before) after deal e = cc

no_due : (place : ℕ) → IsDue (slice_get [] place) → ⊥
no_due place due = due

pub new_stands_ahead : (limit : ℕ) (cfg : SessionCfg) → StandsAhead limit (new_state cfg) [] [] [] []
new_stands_ahead limit cfg = record {
  bodies = [];
  read = record { begins = Begins-start client []; place = refl };
  are_bytes = λ i. omega arith;
  handed_out = refl;
  out = refl;
  count = refl;
  phase = (refl, refl);
  alone = λ before after deal e looks due. absurd (no_deal before after deal e);
  order_is = tt;
  each = λ place due. absurd (no_due place due);
  counted = (omega arith, omega arith);
  shows = record { shown = []; frames_are = refl; output_is = refl };
}

pub fed_stands_ahead : (limit : ℕ) (s : State) (input piece : List ℕ) (ran : List HandedAhead) (order output : List ℕ) → AreBytes piece
    → StandsAhead limit s input ran order output → StandsAhead limit (fed s piece) (input ++ piece) ran order output
fed_stands_ahead limit s input piece ran order output are stood = record {
  bodies = stood.bodies;
  read = record { begins = Begins-more stood.read.begins piece; place = stood.read.place };
  are_bytes = append_bytes s.stream.rest piece stood.are_bytes are;
  handed_out = stood.handed_out;
  out = stood.out;
  count = stood.count;
  phase = stood.phase;
  alone = stood.alone;
  order_is = stood.order_is;
  each = stood.each;
  counted = stood.counted;
  shows = stood.shows;
}

-- ---- what is written

-- no more frames wait than before
counted_fewer : (limit : ℕ) (phase : Phase) (out : List Awaited) (before now : ℕ) (deals : List Deal) (order : List ℕ) → now ≤ before → AreCounted limit phase out before deals order → AreCounted limit phase out now deals order
counted_fewer limit BeforeHello out before now deals order le h = (h.0, omega (arith, h.1, le))
counted_fewer limit (Open terms) out before now deals order le h = (h.0, omega (arith, h.1, le))
counted_fewer limit (Refused fault) out before now deals order le h = (h.0, omega (arith, h.1, le))
counted_fewer limit OutOfMemory out before now deals order le h = omega (arith, h, le)

pub written_stands_ahead : (limit : ℕ) (s : State) (input : List ℕ) (ran : List HandedAhead) (order output : List ℕ) (n : ℕ) → n ≤ length (piece_shown s.waiting)
    → StandsAhead limit s input ran order output → StandsAhead limit (written s n) input ran order (output ++ take n (piece_shown s.waiting))
written_stands_ahead limit s input ran order output n le stood = record {
  bodies = stood.bodies;
  read = stood.read;
  are_bytes = stood.are_bytes;
  handed_out = stood.handed_out;
  out = stood.out;
  count = stood.count;
  phase = stood.phase;
  alone = stood.alone;
  order_is = stood.order_is;
  each = stood.each;
  counted = counted_fewer limit s.phase s.out (length s.waiting.frames) (length (after_gone s.waiting n).frames) (dealt_ahead (asks stood.bodies) (given_so_far ran)) order
      (fewer_wait s.waiting.frames (s.waiting.gone + n)) stood.counted;
  shows = written_shows (out_ahead s.cfg stood.bodies (dealt_ahead (asks stood.bodies) (given_so_far ran)) order) s.waiting.frames s.waiting.gone n output le stood.shows;
}

-- a frame waits after the others
pushed : (frames waiting : List (List ℕ)) (gone : ℕ) (frame output : List ℕ) → ShowsSoFar frames (record { frames = waiting; gone = gone }) output → ShowsSoFar (frames ++ frame ∷ []) (frames_and waiting gone frame) output
pushed frames [] gone frame output so = record {
  shown = so.shown;
  frames_are = ap (λ (l : List (List ℕ)). l ++ frame ∷ []) (so.frames_are ∙ append-nil so.shown);
  output_is = so.output_is;
}
pushed frames (first ∷ others) gone frame output so = record {
  shown = so.shown;
  frames_are = ap (λ (l : List (List ℕ)). l ++ frame ∷ []) so.frames_are ∙ append_assoc so.shown (first ∷ others) (frame ∷ []);
  output_is = so.output_is;
}

-- one more frame is shown
pub one_more_shown : (frames more : List (List ℕ)) (w : Waiting) (frame output : List ℕ) → more ≡ frames ++ frame ∷ [] → ShowsSoFar frames w output → ShowsSoFar more (after_push w frame) output
one_more_shown frames more w frame output e so = subst (λ (l : List (List ℕ)). ShowsSoFar l (after_push w frame) output) (sym e) (pushed frames w.frames w.gone frame output so)

-- and one more waits
pub one_more_waits : (w : Waiting) (frame : List ℕ) → length (after_push w frame).frames ≡ length w.frames + 1
one_more_waits w frame = by w.frames where
  by : (frames : List (List ℕ)) → length (frames_and frames w.gone frame).frames ≡ length frames + 1
  by [] = refl
  by (first ∷ frames) = omega (arith, length-append frames (frame ∷ []))

-- ---- the frames of replies

pub length_frames : (terms : Terms) (desk : Desk) (deals : List Deal) → length (reply_frames terms desk deals) ≡ length deals
length_frames terms desk deals = length-map (replies terms desk deals) (reply_frame terms.version) ∙ as_many desk deals where
  as_many : (desk : Desk) (deals : List Deal) → length (replies terms desk deals) ≡ length deals
  as_many desk [] = refl
  as_many desk (deal ∷ deals) = omega (arith, as_many (turn terms desk deal).desk deals)

-- the terms of a session whose calls are answered in any order
abbrev pub ahead_terms : SessionCfg → Version → Terms
ahead_terms cfg v = terms_at cfg crew_manner v

abbrev pub frames_at : SessionCfg → Version → List Deal → List (List ℕ)
frames_at cfg v deals = reply_frames (ahead_terms cfg v) fresh_desk deals

-- the frame of a reply that depends on no desk
abbrev pub own_frame : SessionCfg → Version → Deal → List ℕ
own_frame cfg v deal = reply_frame v (turn (ahead_terms cfg v) fresh_desk deal).reply

-- the frames around that of a request which looks at no cursor
pub frames_around : (cfg : SessionCfg) (v : Version) (before after : List Deal) (deal : Deal) → IsApart deal.asked.request
    → frames_at cfg v (before ++ deal ∷ after)
    ≡ frames_at cfg v before ++ own_frame cfg v deal ∷ reply_frames (ahead_terms cfg v) (desk_after (ahead_terms cfg v) fresh_desk before) after
frames_around cfg v before after deal is =
    ap (map (reply_frame v)) (own_reply (ahead_terms cfg v) fresh_desk before after deal (crew_tells v) is)
    ∙ map-append (reply_frame v) (replies (ahead_terms cfg v) fresh_desk before)
    ((turn (ahead_terms cfg v) fresh_desk deal).reply ∷ replies (ahead_terms cfg v) (desk_after (ahead_terms cfg v) fresh_desk before) after)

-- its place
pub frame_there : (cfg : SessionCfg) (v : Version) (before after : List Deal) (deal : Deal) → IsApart deal.asked.request
    → slice_get (frames_at cfg v (before ++ deal ∷ after)) (length before) ≡ Some (own_frame cfg v deal)
frame_there cfg v before after deal is =
    let later : List (List ℕ) = reply_frames (ahead_terms cfg v) (desk_after (ahead_terms cfg v) fresh_desk before) after in
    ap (λ (l : List (List ℕ)). slice_get l (length before)) (frames_around cfg v before after deal is)
    ∙ ap (slice_get (frames_at cfg v before ++ own_frame cfg v deal ∷ later)) (sym (length_frames (ahead_terms cfg v) fresh_desk before))
    ∙ at_end (frames_at cfg v before) (own_frame cfg v deal) later

-- the others are the same, whatever was given for it
pub frames_beside : (cfg : SessionCfg) (v : Version) (before after : List Deal) (asked : Asked) (one other : Option Got) (place : ℕ) → IsApart asked.request → (place ≡ length before → ⊥)
    → slice_get (frames_at cfg v (before ++ record { asked = asked; got = one } ∷ after)) place ≡ slice_get (frames_at cfg v (before ++ record { asked = asked; got = other } ∷ after)) place
frames_beside cfg v before after asked one other place is never =
    let later : List (List ℕ) = reply_frames (ahead_terms cfg v) (desk_after (ahead_terms cfg v) fresh_desk before) after in
    ap (λ (l : List (List ℕ)). slice_get l place) (frames_around cfg v before after (record { asked = asked; got = one }) is)
    ∙ at_other (frames_at cfg v before) (own_frame cfg v (record { asked = asked; got = one })) (own_frame cfg v (record { asked = asked; got = other })) later place
    (λ e. never (e ∙ length_frames (ahead_terms cfg v) fresh_desk before))
    ∙ sym (ap (λ (l : List (List ℕ)). slice_get l place) (frames_around cfg v before after (record { asked = asked; got = other }) is))

-- a last deal changes no frame before it
pub frames_first : (cfg : SessionCfg) (v : Version) (before : List Deal) (deal : Deal) (place : ℕ) → place < length before
    → slice_get (frames_at cfg v (before ++ deal ∷ [])) place ≡ slice_get (frames_at cfg v before) place
frames_first cfg v before deal place less =
    ap (λ (l : List (List ℕ)). slice_get l place) (reply_frames-append (ahead_terms cfg v) fresh_desk before (deal ∷ []))
    ∙ at_first (frames_at cfg v before) (reply_frames (ahead_terms cfg v) (desk_after (ahead_terms cfg v) fresh_desk before) (deal ∷ [])) place
    (omega (arith, less, length_frames (ahead_terms cfg v) fresh_desk before))

-- its own frame
pub frame_last : (cfg : SessionCfg) (v : Version) (before : List Deal) (deal : Deal)
    → slice_get (frames_at cfg v (before ++ deal ∷ [])) (length before) ≡ Some (reply_frame v (turn (ahead_terms cfg v) (desk_after (ahead_terms cfg v) fresh_desk before) deal).reply)
frame_last cfg v before deal =
    let frame : List ℕ = reply_frame v (turn (ahead_terms cfg v) (desk_after (ahead_terms cfg v) fresh_desk before) deal).reply in
    ap (λ (l : List (List ℕ)). slice_get l (length before)) (reply_frames-append (ahead_terms cfg v) fresh_desk before (deal ∷ []))
    ∙ ap (slice_get (frames_at cfg v before ++ frame ∷ [])) (sym (length_frames (ahead_terms cfg v) fresh_desk before))
    ∙ at_end (frames_at cfg v before) frame []

-- ---- the whole output

-- where the frames in the order are the same, so is all that is shown
pub same_shown : (cfg : SessionCfg) (bodies : List (List ℕ)) (deals now : List Deal) (order : List ℕ)
    → ((v : Version) (place : ℕ) → Contains order place → slice_get (frames_at cfg v deals) place ≡ slice_get (frames_at cfg v now) place)
    → out_ahead cfg bodies deals order ≡ out_ahead cfg bodies now order
same_shown cfg [] deals now order same = refl
same_shown cfg (hello ∷ bodies) deals now order same = ap (λ (l : List (List ℕ)). hello_frame cfg hello ∷ l) (by_greeting (greeting_of hello)) where
  by_greeting : (g : Greeting) → frames_ahead cfg g deals order ≡ frames_ahead cfg g now order
  by_greeting (Ok accepted) = in_order_same (frames_at cfg accepted.version deals) (frames_at cfg accepted.version now) order (same accepted.version)
  by_greeting (Err fault) = refl

-- what an open session shows
pub open_shown : (cfg : SessionCfg) (hello : List ℕ) (requests bodies : List (List ℕ)) (accepted : Hello) (deals : List Deal) (order : List ℕ) → bodies ≡ hello ∷ requests → greeting_of hello ≡ Ok accepted
    → out_ahead cfg bodies deals order ≡ hello_frame cfg hello ∷ in_order (frames_at cfg accepted.version deals) order
open_shown cfg hello requests bodies accepted deals order e greets =
    ap (λ (l : List (List ℕ)). out_ahead cfg l deals order) e ∙ ap (λ (g : Greeting). hello_frame cfg hello ∷ frames_ahead cfg g deals order) greets

-- one more reply stands last in the order
pub open_shown_more : (cfg : SessionCfg) (hello : List ℕ) (requests bodies : List (List ℕ)) (accepted : Hello) (deals : List Deal) (order : List ℕ) (place : ℕ) (frame : List ℕ)
    → bodies ≡ hello ∷ requests → greeting_of hello ≡ Ok accepted → slice_get (frames_at cfg accepted.version deals) place ≡ Some frame
    → out_ahead cfg bodies deals (order ++ place ∷ []) ≡ out_ahead cfg bodies deals order ++ frame ∷ []
open_shown_more cfg hello requests bodies accepted deals order place frame e greets at =
    open_shown cfg hello requests bodies accepted deals (order ++ place ∷ []) e greets
    ∙ ap (λ (l : List (List ℕ)). hello_frame cfg hello ∷ l) (in_order_more (frames_at cfg accepted.version deals) order place frame at)
    ∙ ap (λ (l : List (List ℕ)). l ++ frame ∷ []) (sym (open_shown cfg hello requests bodies accepted deals order e greets))
