-- Reading a request keeps what a session stands for.
use Rattle.std.proofs.Common.{◌≡◌, ℕ, List, [], ◌∷◌, ◌++◌, length, Option, None, Some, refl, sym, ap, ◌∙◌, subst, arith, append-nil, length-append}
use Rattle.ig_base.specs.Frames.{client, least_after}
use Rattle.ig_caches.specs.declared.call.Call.{Call}
use Rattle.ig_deals.specs.declared.cfg.SessionCfg.{SessionCfg}
use Rattle.ig_deals.specs.Hellos.{hello_frame}
use Rattle.ig_deals.specs.Asks.{Asked, asked_in, asks}
use Rattle.ig_deals.specs.Deals.{Ran, gots, call_for, calls, Deal, dealt}
use Rattle.ig_deals.specs.Desk.{Desk, fresh_desk}
use Rattle.ig_deals.specs.Telling.{session_manner}
use Rattle.ig_deals.specs.Replies.{reply_frame}
use Rattle.ig_deals.specs.Turns.{Terms, Turn, turn}
use Rattle.ig_deals.specs.OutFrames.{desk_after, reply_frames, terms_at, out_frames}
use Rattle.std.specs.List.{cons_option}
use Rattle.ig_deals.proofs.DealLemmas.{calls-append, given_for}
use Rattle.ig_replies.specs.declared.terms.Terms.{Terms as HeldTerms}
use Rattle.ig_replies.specs.RunTerms.{terms_of}
use Rattle.ig_replies.specs.Showing.{Waiting, after_push}
use Rattle.ig_session.specs.declared.phase.Phase.{Phase}
use Rattle.ig_session.specs.declared.phase.Phase.TheVariants.{Open}
use Rattle.ig_session.specs.declared.awaited.Awaited.{Awaited}
use Rattle.ig_session.specs.Awaiting.{awaited_of}
use Rattle.ig_session.specs.States.{State}
use Rattle.ig_session.specs.Comings.{Asks, coming}
use Rattle.ig_session.specs.Steps.{settled, handed_out}
use Rattle.ig_session.specs.Soundness.{IsSound}
use Rattle.ig_session.specs.StandsFor.{ShowsIn, ShowsSoFar, IsIn, IsOpenAt, AwaitFrom, Stands}
use Rattle.ig_session.proofs.ComingLemmas.{RequestIn, comes_as, request_comes}
use Rattle.ig_session.proofs.StandLemmas.{push_alone, Reads, reads_body, push_shows, open_frames, asks_one, dealt_pending, dealt_settled, one_more_turn}

pub open_in : (phase : Phase) (terms : HeldTerms) (cfg : SessionCfg) (desk : Desk) (out : List Awaited) (bodies : List (List ℕ)) (ran : List Ran) → phase ≡ Open terms
    → IsIn phase cfg desk out bodies ran → IsOpenAt (terms_of terms) cfg desk bodies ran
open_in phase terms cfg desk out bodies ran is h = subst (λ (p : Phase). IsIn p cfg desk out bodies ran) is h

pub in_open : (phase : Phase) (terms : HeldTerms) (cfg : SessionCfg) (desk : Desk) (out : List Awaited) (bodies : List (List ℕ)) (ran : List Ran) → phase ≡ Open terms
    → IsOpenAt (terms_of terms) cfg desk bodies ran → IsIn phase cfg desk out bodies ran
in_open phase terms cfg desk out bodies ran is h = subst (λ (p : Phase). IsIn p cfg desk out bodies ran) (sym is) h

pub shows_open : (phase : Phase) (terms : HeldTerms) (frames : List (List ℕ)) (w : Waiting) (output : List ℕ) → phase ≡ Open terms → ShowsIn phase frames w output → ShowsSoFar frames w output
shows_open phase terms frames w output is h = subst (λ (p : Phase). ShowsIn p frames w output) is h

pub open_shows : (phase : Phase) (terms : HeldTerms) (frames : List (List ℕ)) (w : Waiting) (output : List ℕ) → phase ≡ Open terms → ShowsSoFar frames w output → ShowsIn phase frames w output
open_shows phase terms frames w output is h = subst (λ (p : Phase). ShowsIn p frames w output) (sym is) h

-- where no call is out, no request is pending
pub nothing_pending : (nth : ℕ) (out : List Awaited) (pending : List Asked) → AwaitFrom nth out pending [] → (out ≡ []) × (pending ≡ [])
nothing_pending nth [] pending awaited = (refl, awaited.0)
nothing_pending nth (a ∷ out) pending awaited = let one = awaited.5 in absurd cc

-- the bodies of an open session have the least length of requests
pub least_open : (bodies : List (List ℕ)) (hello : List ℕ) (requests : List (List ℕ)) → bodies ≡ hello ∷ requests → client.later ≡ least_after client bodies
least_open bodies hello requests e = ap (least_after client) (sym e)

-- what holds of the state where a request comes next
module _ (s : State) (input : List ℕ) (ran : List Ran) (output : List ℕ) (terms : HeldTerms) (asked : Asked) (sound : IsSound s) (comes : coming s ≡ Asks terms asked) (stood : Stands s input ran [] output) where
  abbrev at : RequestIn s s.phase terms asked
  at = request_comes s terms asked comes

  none_waits : s.waiting.frames ≡ []
  none_waits = (comes_as s (Asks terms asked) (λ never. cc) comes).none_waits

  abbrev is_open : IsOpenAt (terms_of terms) s.cfg s.desk stood.bodies ran
  is_open = open_in s.phase terms s.cfg s.desk s.out stood.bodies ran at.is_open stood.phase

  none : (s.out ≡ []) × (stood.pending ≡ [])
  none = nothing_pending (length ran) s.out stood.pending stood.awaited

  reads : Reads s input (stood.bodies ++ at.body ∷ [])
  reads = reads_body s input stood.bodies at.body at.rest (Open terms) at.is_open sound.limit
      (least_open stood.bodies is_open.hello is_open.requests is_open.bodies_are) stood.are_bytes stood.read at.found_is

  -- what was asked before, and now
  before : asks stood.bodies ≡ stood.settled
  before = stood.asked ∙ ap (λ (l : List Asked). stood.settled ++ l) none.1 ∙ append-nil stood.settled

  version_is : (terms_of terms).version ≡ is_open.accepted.version
  version_is = ap (λ (t : Terms). t.version) is_open.terms_are

  now : asks (stood.bodies ++ at.body ∷ []) ≡ stood.settled ++ asked ∷ []
  now = ap (λ (l : List (List ℕ)). asks (l ++ at.body ∷ [])) is_open.bodies_are
      ∙ asks_one is_open.hello is_open.requests at.body is_open.accepted is_open.greets
      ∙ ap (λ (l : List (List ℕ)). asks l ++ asked_in is_open.accepted.version at.body ∷ []) (sym is_open.bodies_are)
      ∙ ap (λ (l : List Asked). l ++ asked_in is_open.accepted.version at.body ∷ []) before
      ∙ ap (λ (a : Asked). stood.settled ++ a ∷ []) (ap (λ v. asked_in v at.body) (sym version_is) ∙ at.asks)

  given_is : length (gots ran) ≡ length (calls stood.settled)
  given_is = given_for ran stood.settled stood.handed_out

  abbrev own : Terms
  own = terms_at s.cfg session_manner is_open.accepted.version

  abbrev deals : List Deal
  deals = dealt stood.settled (gots ran)

  desk_is : s.desk ≡ desk_after own fresh_desk deals
  desk_is = is_open.desk_is ∙ ap (λ (t : Terms). desk_after t fresh_desk (dealt (asks stood.bodies) (gots ran))) is_open.terms_are
      ∙ ap (λ (l : List Asked). desk_after own fresh_desk (dealt l (gots ran))) before

  -- the frames of these bodies, by what they ask
  frames_by : (requests : List (List ℕ)) (all : List Asked) → asks (is_open.hello ∷ requests) ≡ all → out_frames s.cfg session_manner (is_open.hello ∷ requests) (gots ran) ≡ hello_frame s.cfg is_open.hello ∷ reply_frames own fresh_desk (dealt all (gots ran))
  frames_by requests all e = open_frames s.cfg is_open.hello requests is_open.accepted (gots ran) is_open.greets
      ∙ ap (λ (l : List Asked). hello_frame s.cfg is_open.hello ∷ reply_frames own fresh_desk (dealt l (gots ran))) e

  frames_before : out_frames s.cfg session_manner stood.bodies (gots ran) ≡ hello_frame s.cfg is_open.hello ∷ reply_frames own fresh_desk deals
  frames_before = ap (λ (l : List (List ℕ)). out_frames s.cfg session_manner l (gots ran)) is_open.bodies_are
      ∙ frames_by is_open.requests stood.settled (ap asks (sym is_open.bodies_are) ∙ before)

  frames_now : (deals' : List Deal) → dealt (stood.settled ++ asked ∷ []) (gots ran) ≡ deals' → out_frames s.cfg session_manner (stood.bodies ++ at.body ∷ []) (gots ran) ≡ hello_frame s.cfg is_open.hello ∷ reply_frames own fresh_desk deals'
  frames_now deals' e = ap (λ (l : List (List ℕ)). out_frames s.cfg session_manner (l ++ at.body ∷ []) (gots ran)) is_open.bodies_are
      ∙ frames_by (is_open.requests ++ at.body ∷ []) (stood.settled ++ asked ∷ []) (ap (λ (l : List (List ℕ)). asks (l ++ at.body ∷ [])) (sym is_open.bodies_are) ∙ now)
      ∙ ap (λ (l : List Deal). hello_frame s.cfg is_open.hello ∷ reply_frames own fresh_desk l) e

  bodies_now : stood.bodies ++ at.body ∷ [] ≡ is_open.hello ∷ (is_open.requests ++ at.body ∷ [])
  bodies_now = ap (λ (l : List (List ℕ)). l ++ at.body ∷ []) is_open.bodies_are

  shows_before : ShowsSoFar (hello_frame s.cfg is_open.hello ∷ reply_frames own fresh_desk deals) s.waiting output
  shows_before = subst (λ (l : List (List ℕ)). ShowsSoFar l s.waiting output) frames_before
      (shows_open s.phase terms (out_frames s.cfg session_manner stood.bodies (gots ran)) s.waiting output at.is_open stood.shows)

  -- a request whose call is out changes no reply
  pub handed_stands : (call : Call) → call_for asked.request ≡ Some call → Stands (handed_out s asked) input ran (call ∷ []) output
  handed_stands call is =
      let same : dealt (stood.settled ++ asked ∷ []) (gots ran) ≡ deals = dealt_pending stood.settled asked call (gots ran) is given_is in
      let awaits : AwaitFrom (length ran) (awaited_of s.handed asked ∷ []) (asked ∷ []) (call ∷ []) =
      (asked, [], call, [], refl, refl, is, ap (λ (n : ℕ). awaited_of n asked) (stood.count ∙ omega (arith, ap length none.0)), (refl, refl)) in
      record {
        bodies = stood.bodies ++ at.body ∷ [];
        read = reads.read;
        are_bytes = reads.are_bytes;
        settled = stood.settled;
        pending = asked ∷ [];
        asked = now;
        handed_out = stood.handed_out;
        awaited = subst (λ (l : List Awaited). AwaitFrom (length ran) (l ++ awaited_of s.handed asked ∷ []) (asked ∷ []) (call ∷ [])) (sym none.0) awaits;
        count = omega (arith, stood.count, length-append s.out (awaited_of s.handed asked ∷ []));
        phase = in_open s.phase terms s.cfg s.desk (s.out ++ awaited_of s.handed asked ∷ []) (stood.bodies ++ at.body ∷ []) ran at.is_open (record {
          hello = is_open.hello;
          requests = is_open.requests ++ at.body ∷ [];
          bodies_are = bodies_now;
          accepted = is_open.accepted;
          greets = is_open.greets;
          terms_are = is_open.terms_are;
          desk_is = desk_is ∙ ap (λ (t : Terms). desk_after t fresh_desk deals) (sym is_open.terms_are)
              ∙ ap (desk_after (terms_of terms) fresh_desk) (sym same ∙ ap (λ (l : List Asked). dealt l (gots ran)) (sym now));
        });
        shows = open_shows s.phase terms (out_frames s.cfg session_manner (stood.bodies ++ at.body ∷ []) (gots ran)) s.waiting output at.is_open
            (subst (λ (l : List (List ℕ)). ShowsSoFar l s.waiting output) (sym (frames_now deals same)) shows_before);
        one = omega (arith, ap length none.0, ap length none_waits, length-append s.out (awaited_of s.handed asked ∷ []));
      }

  -- a request without a call is replied at once
  pub settled_stands : call_for asked.request ≡ None → Stands (settled terms s asked) input ran [] output
  settled_stands is =
      let deal : Deal = record { asked = asked; got = None } in
      let more : dealt (stood.settled ++ asked ∷ []) (gots ran) ≡ deals ++ deal ∷ [] = dealt_settled stood.settled asked (gots ran) is given_is in
      let turns = one_more_turn own deals deal in
      let here : turn (terms_of terms) s.desk deal ≡ turn own (desk_after own fresh_desk deals) deal =
      ap (λ (t : Terms). turn t s.desk deal) is_open.terms_are ∙ ap (λ (d : Desk). turn own d deal) desk_is in
      let frame : List ℕ = reply_frame terms.version (turn (terms_of terms) s.desk deal).reply in
      let frame_is : frame ≡ reply_frame own.version (turn own (desk_after own fresh_desk deals) deal).reply =
      ap (λ v. reply_frame v (turn (terms_of terms) s.desk deal).reply) version_is ∙ ap (λ (t : Turn). reply_frame own.version t.reply) here in
      let frames_are : hello_frame s.cfg is_open.hello ∷ reply_frames own fresh_desk (deals ++ deal ∷ []) ≡ (hello_frame s.cfg is_open.hello ∷ reply_frames own fresh_desk deals) ++ frame ∷ [] =
      ap (λ (l : List (List ℕ)). hello_frame s.cfg is_open.hello ∷ l) (turns.0 ∙ ap (λ (f : List ℕ). reply_frames own fresh_desk deals ++ f ∷ []) (sym frame_is)) in
      record {
        bodies = stood.bodies ++ at.body ∷ [];
        read = reads.read;
        are_bytes = reads.are_bytes;
        settled = stood.settled ++ asked ∷ [];
        pending = [];
        asked = now ∙ sym (append-nil (stood.settled ++ asked ∷ []));
        handed_out = stood.handed_out ∙ sym (calls-append stood.settled (asked ∷ []) ∙ ap (λ (c : Option Call). calls stood.settled ++ cons_option c []) is ∙ append-nil (calls stood.settled));
        awaited = subst (λ (l : List Awaited). AwaitFrom (length ran) l [] []) (sym none.0) (refl, refl);
        count = stood.count;
        phase = in_open s.phase terms s.cfg (turn (terms_of terms) s.desk deal).desk s.out (stood.bodies ++ at.body ∷ []) ran at.is_open (record {
          hello = is_open.hello;
          requests = is_open.requests ++ at.body ∷ [];
          bodies_are = bodies_now;
          accepted = is_open.accepted;
          greets = is_open.greets;
          terms_are = is_open.terms_are;
          desk_is = ap (λ (t : Turn). t.desk) here ∙ sym turns.1 ∙ ap (λ (t : Terms). desk_after t fresh_desk (deals ++ deal ∷ [])) (sym is_open.terms_are)
              ∙ ap (desk_after (terms_of terms) fresh_desk) (sym more ∙ ap (λ (l : List Asked). dealt l (gots ran)) (sym now));
        });
        shows = open_shows s.phase terms (out_frames s.cfg session_manner (stood.bodies ++ at.body ∷ []) (gots ran)) (after_push s.waiting frame) output at.is_open
            (subst (λ (l : List (List ℕ)). ShowsSoFar l (after_push s.waiting frame) output) (sym (frames_now (deals ++ deal ∷ []) more ∙ frames_are))
            (push_shows (hello_frame s.cfg is_open.hello ∷ reply_frames own fresh_desk deals) s.waiting frame output none_waits shows_before));
        one = let size : length (settled terms s asked).waiting.frames ≡ 1 = push_alone s.waiting frame none_waits in omega (arith, ap length none.0, size);
      }
