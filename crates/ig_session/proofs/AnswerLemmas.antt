-- An answer keeps what a session stands for.
use Rattle.std.proofs.Common.{◌≡◌, ℕ, ◌+◌, ◌≤◌, List, [], ◌∷◌, ◌++◌, length, Option, Some, refl, sym, ap, ◌∙◌, subst, arith, append-nil, length-append}
use Rattle.std.proofs.lemmas.List.{map-append}
use Rattle.std.specs.Prelude.{Bool, cond}
use Rattle.std.proofs.lemmas.Bool.{eq-eqb}
use Rattle.std.specs.List.{cons_option}
use Rattle.ig_base.specs.Numbers.{AreBytes}
use Rattle.ig_base.specs.Frames.{client}
use Rattle.ig_frame.specs.Streams.{Stream, HandedOut}
use Rattle.ig_caches.specs.declared.call.Call.{Call}
use Rattle.ig_deals.specs.declared.cfg.SessionCfg.{SessionCfg}
use Rattle.ig_deals.specs.Hellos.{Greeting, hello_frame}
use Rattle.ig_deals.specs.Asks.{Asked, asks_after, asks}
use Rattle.ig_deals.specs.Deals.{Got, Ran, handed, gots, call_for, calls, Deal, dealt}
use Rattle.ig_deals.specs.Desk.{Desk, fresh_desk}
use Rattle.ig_deals.specs.Telling.{session_manner}
use Rattle.ig_deals.specs.Replies.{reply_frame}
use Rattle.ig_deals.specs.Turns.{Terms, Turn, turn}
use Rattle.ig_deals.specs.OutFrames.{desk_after, reply_frames, terms_at, out_frames}
use Rattle.ig_deals.specs.Serves.{ShowsPart}
use Rattle.ig_deals.proofs.DealLemmas.{calls-append, given_for}
use Rattle.ig_replies.specs.declared.terms.Terms.{Terms as HeldTerms}
use Rattle.ig_replies.specs.RunTerms.{terms_of}
use Rattle.ig_replies.specs.Showing.{Waiting, after_push}
use Rattle.ig_session.specs.declared.phase.Phase.{Phase}
use Rattle.ig_session.specs.declared.phase.Phase.TheVariants.{BeforeHello, Open, Refused, OutOfMemory}
use Rattle.ig_session.specs.declared.awaited.Awaited.{Awaited}
use Rattle.ig_session.specs.Awaiting.{awaited_of, deal_of, without_nth}
use Rattle.ig_session.specs.States.{State}
use Rattle.ig_session.specs.Steps.{first_out, settled_in, answered_at, answered, IsSpent}
use Rattle.ig_session.specs.StandsFor.{ShowsIn, ShowsSoFar, IsIn, IsOpenAt, AwaitFrom, Stands}
use Rattle.ig_session.proofs.StandLemmas.{push_alone, push_shows, all_shown, one_lost, open_frames, dealt_pending, dealt_answered, one_more_turn}
use Rattle.ig_session.proofs.AskLemmas.{open_in, in_open, shows_open, open_shows, nothing_pending}
use Rattle.ig_session.proofs.KeptLemmas.{kept_turn}

-- the only call that is out, and its request
pub record OneOut (nth : ℕ) (out : List Awaited) (pending : List Asked) (call : Call) : Type 0 where
  pub asked : Asked
  pub out_is : out ≡ awaited_of nth asked ∷ []
  pub pending_is : pending ≡ asked ∷ []
  pub has_call : call_for asked.request ≡ Some call

one_out : (nth : ℕ) (out : List Awaited) (pending : List Asked) (call : Call) → AwaitFrom nth out pending (call ∷ []) → OneOut nth out pending call
one_out nth [] pending call awaited = let none = awaited.1 in absurd cc
one_out nth (a ∷ later) pending call awaited =
    let calls_are = awaited.5 in
    let same : call ≡ awaited.2 = cc in
    let none : awaited.3 ≡ [] = cc in
    let rest = nothing_pending (nth + 1) later awaited.1 (subst (λ (l : List Call). AwaitFrom (nth + 1) later awaited.1 l) none awaited.8) in
    record {
      asked = awaited.0;
      out_is = ap (λ (x : Awaited). x ∷ later) awaited.7 ∙ ap (λ (l : List Awaited). awaited_of nth awaited.0 ∷ l) rest.0;
      pending_is = awaited.4 ∙ ap (λ (l : List Asked). awaited.0 ∷ l) rest.1;
      has_call = awaited.6 ∙ ap Some (sym same);
    }

-- a call is out only of an open session
open_phase : (phase : Phase) (cfg : SessionCfg) (desk : Desk) (out : List Awaited) (bodies : List (List ℕ)) (ran : List Ran) (settled : List Asked) (asked : Asked) (a : Awaited)
    → IsIn phase cfg desk out bodies ran → asks bodies ≡ settled ++ asked ∷ [] → out ≡ a ∷ [] → (terms : HeldTerms) × (phase ≡ Open terms)
open_phase BeforeHello cfg desk out bodies ran settled asked a is all one = absurd (no_request settled asked (sym (ap asks is.0) ∙ all)) where
  no_request : (xs : List Asked) (x : Asked) → [] ≡ xs ++ x ∷ [] → ⊥
  no_request [] x e = cc
  no_request (y ∷ xs) x e = cc
open_phase (Open terms) cfg desk out bodies ran settled asked a is all one = (terms, refl)
open_phase (Refused fault) cfg desk out bodies ran settled asked a is all one =
    absurd (no_request settled asked (sym (ap (λ (g : Greeting). asks_after g []) is.2) ∙ sym (ap asks is.1) ∙ all)) where
      no_request : (xs : List Asked) (x : Asked) → [] ≡ xs ++ x ∷ [] → ⊥
      no_request [] x e = cc
      no_request (y ∷ xs) x e = cc
open_phase OutOfMemory cfg desk out bodies ran settled asked a is all one = absurd cc

-- without its only call, none is out
none_left : (a : Awaited) → without_nth (a ∷ []) a.nth ≡ []
none_left a = ap (λ (b : Bool). cond b [] (a ∷ [])) (eq-eqb a.nth a.nth refl)

module _ (s : State) (input : List ℕ) (ran : List Ran) (call : Call) (got : Got) (output : List ℕ) (stood : Stands s input ran (call ∷ []) output) where
  abbrev it : OneOut (length ran) s.out stood.pending call
  it = one_out (length ran) s.out stood.pending call stood.awaited

  abbrev last : Ran
  last = record { call = call; got = got }

  all : asks stood.bodies ≡ stood.settled ++ it.asked ∷ []
  all = stood.asked ∙ ap (λ (l : List Asked). stood.settled ++ l) it.pending_is

  abbrev phase : (terms : HeldTerms) × (s.phase ≡ Open terms)
  phase = open_phase s.phase s.cfg s.desk s.out stood.bodies ran stood.settled it.asked (awaited_of (length ran) it.asked) stood.phase all it.out_is

  abbrev is_open : IsOpenAt (terms_of phase.0) s.cfg s.desk stood.bodies ran
  is_open = open_in s.phase phase.0 s.cfg s.desk s.out stood.bodies ran phase.1 stood.phase

  none_waits : s.waiting.frames ≡ []
  none_waits = no_frames s.waiting.frames (omega (arith, ap length it.out_is, stood.one)) where
    no_frames : (l : List (List ℕ)) → length l ≤ 0 → l ≡ []
    no_frames [] le = refl
    no_frames (x ∷ l) le = absurd (omega (arith, le))

  given_is : length (gots ran) ≡ length (calls stood.settled)
  given_is = given_for ran stood.settled stood.handed_out

  gots_are : gots (ran ++ last ∷ []) ≡ gots ran ++ got ∷ []
  gots_are = map-append (λ (r : Ran). r.got) ran (last ∷ [])

  handed_are : handed (ran ++ last ∷ []) ≡ calls (stood.settled ++ it.asked ∷ [])
  handed_are = map-append (λ (r : Ran). r.call) ran (last ∷ []) ∙ ap (λ (l : List Call). l ++ call ∷ []) stood.handed_out
      ∙ sym (calls-append stood.settled (it.asked ∷ []) ∙ ap (λ (c : Option Call). calls stood.settled ++ cons_option c []) it.has_call)

  abbrev own : Terms
  own = terms_at s.cfg session_manner is_open.accepted.version

  abbrev deals : List Deal
  deals = dealt stood.settled (gots ran)

  abbrev deal : Deal
  deal = record { asked = it.asked; got = Some got }

  before : dealt (asks stood.bodies) (gots ran) ≡ deals
  before = ap (λ (l : List Asked). dealt l (gots ran)) all ∙ dealt_pending stood.settled it.asked call (gots ran) it.has_call given_is

  now : dealt (asks stood.bodies) (gots (ran ++ last ∷ [])) ≡ deals ++ deal ∷ []
  now = ap (λ (l : List Asked). dealt l (gots (ran ++ last ∷ []))) all ∙ ap (dealt (stood.settled ++ it.asked ∷ [])) gots_are
      ∙ dealt_answered stood.settled it.asked call (gots ran) got it.has_call given_is

  desk_is : s.desk ≡ desk_after own fresh_desk deals
  desk_is = is_open.desk_is ∙ ap (λ (t : Terms). desk_after t fresh_desk (dealt (asks stood.bodies) (gots ran))) is_open.terms_are ∙ ap (desk_after own fresh_desk) before

  frames_by : (given : List Got) (ds : List Deal) → dealt (asks stood.bodies) given ≡ ds → out_frames s.cfg session_manner stood.bodies given ≡ hello_frame s.cfg is_open.hello ∷ reply_frames own fresh_desk ds
  frames_by given ds e = ap (λ (l : List (List ℕ)). out_frames s.cfg session_manner l given) is_open.bodies_are
      ∙ open_frames s.cfg is_open.hello is_open.requests is_open.accepted given is_open.greets
      ∙ ap (λ (l : List (List ℕ)). hello_frame s.cfg is_open.hello ∷ reply_frames own fresh_desk (dealt (asks l) given)) (sym is_open.bodies_are)
      ∙ ap (λ (l : List Deal). hello_frame s.cfg is_open.hello ∷ reply_frames own fresh_desk l) e

  -- the frame that is added
  abbrev frame : List ℕ
  frame = reply_frame own.version (turn own (desk_after own fresh_desk deals) deal).reply

  frames_now : out_frames s.cfg session_manner stood.bodies (gots (ran ++ last ∷ [])) ≡ out_frames s.cfg session_manner stood.bodies (gots ran) ++ frame ∷ []
  frames_now = frames_by (gots (ran ++ last ∷ [])) (deals ++ deal ∷ []) now
      ∙ ap (λ (l : List (List ℕ)). hello_frame s.cfg is_open.hello ∷ l) (one_more_turn own deals deal).0
      ∙ ap (λ (l : List (List ℕ)). l ++ frame ∷ []) (sym (frames_by (gots ran) deals before))

  shows_before : ShowsSoFar (out_frames s.cfg session_manner stood.bodies (gots ran)) s.waiting output
  shows_before = shows_open s.phase phase.0 (out_frames s.cfg session_manner stood.bodies (gots ran)) s.waiting output phase.1 stood.shows

  -- an answer whose reply is lost: the frames before were written whole
  pub lost_stands : (new : State) → IsSpent s new [] → Stands new input (ran ++ last ∷ []) [] output
  lost_stands new spent = record {
    bodies = stood.bodies;
    read = subst (λ (t : Stream). HandedOut client t input stood.bodies) (sym spent.stream) stood.read;
    are_bytes = subst (λ (t : Stream). AreBytes t.rest) (sym spent.stream) stood.are_bytes;
    settled = stood.settled ++ it.asked ∷ [];
    pending = [];
    asked = all ∙ sym (append-nil (stood.settled ++ it.asked ∷ []));
    handed_out = handed_are;
    awaited = subst (λ (l : List Awaited). AwaitFrom (length (ran ++ last ∷ [])) l [] []) (sym spent.out_are) (refl, refl);
    count = omega (arith, spent.handed, stood.count, ap length it.out_is, ap length spent.out_are, length-append ran (last ∷ []));
    phase = subst (λ (p : Phase). IsIn p new.cfg new.desk new.out stood.bodies (ran ++ last ∷ [])) (sym spent.phase) spent.out_are;
    shows = subst (λ (p : Phase). ShowsIn p (out_frames new.cfg session_manner stood.bodies (gots (ran ++ last ∷ []))) new.waiting output) (sym spent.phase) (
      ap (λ (w : Waiting). w.frames) spent.waiting ∙ none_waits,
      subst (λ (c : SessionCfg). ShowsPart (out_frames c session_manner stood.bodies (gots (ran ++ last ∷ []))) output) (sym spent.cfg)
          (subst (λ (l : List (List ℕ)). ShowsPart l output) (sym frames_now)
          (one_lost (out_frames s.cfg session_manner stood.bodies (gots ran)) frame output (all_shown (out_frames s.cfg session_manner stood.bodies (gots ran)) s.waiting output none_waits shows_before))),
    );
    one = omega (arith, ap length spent.out_are, ap (λ (w : Waiting). length w.frames) spent.waiting, ap length none_waits);
  }

  -- the state after the answer
  answered_is : answered s got ≡ settled_in (Open phase.0) (record s { out = [] }) (awaited_of (length ran) it.asked) got
  answered_is =
      ap (λ (l : List Awaited). answered_at (first_out l) s got) it.out_is
      ∙ ap (λ (l : List Awaited). settled_in s.phase (record s { out = without_nth l (length ran) }) (awaited_of (length ran) it.asked) got) it.out_is
      ∙ ap (λ (l : List Awaited). settled_in s.phase (record s { out = l }) (awaited_of (length ran) it.asked) got) (none_left (awaited_of (length ran) it.asked))
      ∙ ap (λ (p : Phase). settled_in p (record s { out = [] }) (awaited_of (length ran) it.asked) got) phase.1

  -- its turn
  turn_is : turn (terms_of phase.0) s.desk (deal_of (awaited_of (length ran) it.asked) got) ≡ turn own (desk_after own fresh_desk deals) deal
  turn_is = kept_turn (terms_of phase.0) s.desk (length ran) it.asked call got it.has_call
      ∙ ap (λ (t : Terms). turn t s.desk deal) is_open.terms_are ∙ ap (λ (d : Desk). turn own d deal) desk_is

  version_is : phase.0.version ≡ own.version
  version_is = ap (λ (t : Terms). t.version) is_open.terms_are

  pub answered_stands : Stands (answered s got) input (ran ++ last ∷ []) [] output
  answered_stands =
      let shown : List ℕ = reply_frame phase.0.version (turn (terms_of phase.0) s.desk (deal_of (awaited_of (length ran) it.asked) got)).reply in
      let shown_is : frame ≡ shown = sym (ap (λ v. reply_frame v (turn (terms_of phase.0) s.desk (deal_of (awaited_of (length ran) it.asked) got)).reply) version_is
      ∙ ap (λ (t : Turn). reply_frame own.version t.reply) turn_is) in
      subst (λ (n : State). Stands n input (ran ++ last ∷ []) [] output) (sym answered_is) (record {
        bodies = stood.bodies;
        read = stood.read;
        are_bytes = stood.are_bytes;
        settled = stood.settled ++ it.asked ∷ [];
        pending = [];
        asked = all ∙ sym (append-nil (stood.settled ++ it.asked ∷ []));
        handed_out = handed_are;
        awaited = (refl, refl);
        count = omega (arith, stood.count, ap length it.out_is, length-append ran (last ∷ []));
        phase = in_open s.phase phase.0 s.cfg (turn (terms_of phase.0) s.desk (deal_of (awaited_of (length ran) it.asked) got)).desk [] stood.bodies (ran ++ last ∷ []) phase.1 (record {
          hello = is_open.hello;
          requests = is_open.requests;
          bodies_are = is_open.bodies_are;
          accepted = is_open.accepted;
          greets = is_open.greets;
          terms_are = is_open.terms_are;
          desk_is = ap (λ (t : Turn). t.desk) turn_is ∙ sym (one_more_turn own deals deal).1
              ∙ ap (λ (t : Terms). desk_after t fresh_desk (deals ++ deal ∷ [])) (sym is_open.terms_are) ∙ ap (desk_after (terms_of phase.0) fresh_desk) (sym now);
        });
        shows = open_shows s.phase phase.0 (out_frames s.cfg session_manner stood.bodies (gots (ran ++ last ∷ []))) (after_push s.waiting shown) output phase.1
            (subst (λ (l : List (List ℕ)). ShowsSoFar l (after_push s.waiting shown) output) (sym (frames_now ∙ ap (λ (f : List ℕ). out_frames s.cfg session_manner stood.bodies (gots ran) ++ f ∷ []) shown_is))
            (push_shows (out_frames s.cfg session_manner stood.bodies (gots ran)) s.waiting shown output none_waits shows_before));
        one = let size : length (after_push s.waiting shown).frames ≡ 1 = push_alone s.waiting shown none_waits in omega (arith, size);
      })
