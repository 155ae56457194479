-- Reading the hello keeps what a session stands for.
use Rattle.std.proofs.Common.{◌≡◌, ℕ, List, [], ◌∷◌, ◌++◌, length, Ok, Err, refl, sym, ap, ◌∙◌, subst, arith}
use Rattle.ig_base.specs.Frames.{client, least_after}
use Rattle.ig_wire.specs.declared.hello.Hello.{Hello}
use Rattle.ig_wire.specs.declared.hello.HelloFault.{HelloFault}
use Rattle.ig_caches.specs.declared.call.Call.{Call}
use Rattle.ig_deals.specs.declared.cfg.SessionCfg.{SessionCfg}
use Rattle.ig_deals.specs.Hellos.{Greeting, greeting_of}
use Rattle.ig_deals.specs.Asks.{Asked, asks_after, asks}
use Rattle.ig_deals.specs.Deals.{Got, Ran, gots, calls, dealt}
use Rattle.ig_deals.specs.Desk.{Desk, fresh_desk}
use Rattle.ig_deals.specs.Telling.{session_manner}
use Rattle.ig_deals.specs.OutFrames.{desk_after, terms_at, frames_after, out_frames}
use Rattle.ig_replies.specs.Showing.{Waiting, after_push}
use Rattle.ig_session.specs.declared.phase.Phase.{Phase}
use Rattle.ig_session.specs.declared.phase.Phase.TheVariants.{BeforeHello}
use Rattle.ig_session.specs.declared.awaited.Awaited.{Awaited}
use Rattle.ig_session.specs.States.{State}
use Rattle.ig_session.specs.Comings.{Greets, coming}
use Rattle.ig_session.specs.Steps.{greeting_frame, opened, refused}
use Rattle.ig_session.specs.Soundness.{IsSound}
use Rattle.ig_session.specs.StandsFor.{ShowsIn, ShowsSoFar, IsIn, AwaitFrom, Stands}
use Rattle.ig_session.proofs.ComingLemmas.{HelloIn, comes_as, hello_comes}
use Rattle.ig_session.proofs.StandLemmas.{push_alone, Reads, reads_body, push_shows}

-- before the hello no body was read
pub no_bodies : (phase : Phase) (cfg : SessionCfg) (desk : Desk) (out : List Awaited) (bodies : List (List ℕ)) (ran : List Ran) → phase ≡ BeforeHello → IsIn phase cfg desk out bodies ran
    → (bodies ≡ []) × (desk ≡ fresh_desk)
no_bodies phase cfg desk out bodies ran is h = subst (λ (p : Phase). IsIn p cfg desk out bodies ran) is h

pub shows_before : (phase : Phase) (frames : List (List ℕ)) (w : Waiting) (output : List ℕ) → phase ≡ BeforeHello → ShowsIn phase frames w output → ShowsSoFar frames w output
shows_before phase frames w output is h = subst (λ (p : Phase). ShowsIn p frames w output) is h

-- after the hello alone, its reply is all that is shown
hello_shown : (cfg : SessionCfg) (hello : List ℕ) (greeting : Greeting) (given : List Got) → greeting_of hello ≡ greeting → out_frames cfg session_manner (hello ∷ []) given ≡ greeting_frame cfg greeting ∷ []
hello_shown cfg hello (Ok accepted) given is = ap (λ (g : Greeting). greeting_frame cfg g ∷ frames_after cfg session_manner g (asks_after g []) given) is
hello_shown cfg hello (Err fault) given is = ap (λ (g : Greeting). greeting_frame cfg g ∷ frames_after cfg session_manner g (asks_after g []) given) is

-- nothing was asked by the hello
pub hello_asks : (hello : List ℕ) (greeting : Greeting) → greeting_of hello ≡ greeting → asks (hello ∷ []) ≡ []
hello_asks hello (Ok accepted) is = ap (λ (g : Greeting). asks_after g []) is
hello_asks hello (Err fault) is = ap (λ (g : Greeting). asks_after g []) is

append_none : (xs ys : List Asked) → xs ++ ys ≡ [] → (xs ≡ []) × (ys ≡ [])
append_none [] ys e = (refl, e)
append_none (x ∷ xs) ys e = absurd cc

-- where no request is pending, no call is out
pub nothing_awaited : (nth : ℕ) (out : List Awaited) (pending : List Asked) (calls_out : List Call) → AwaitFrom nth out pending calls_out → pending ≡ [] → out ≡ []
nothing_awaited nth [] pending calls_out awaited none = refl
nothing_awaited nth (a ∷ out) pending calls_out awaited none = let one = awaited.4 in absurd cc

-- what holds of the state after a hello, whichever way it was answered
module _ (s : State) (input : List ℕ) (ran : List Ran) (output : List ℕ) (greeting : Greeting) (sound : IsSound s) (comes : coming s ≡ Greets greeting) (stood : Stands s input ran [] output) where
  abbrev at : HelloIn s s.phase greeting
  at = hello_comes s greeting comes

  none_waits : s.waiting.frames ≡ []
  none_waits = (comes_as s (Greets greeting) (λ never. cc) comes).none_waits

  before : (stood.bodies ≡ []) × (s.desk ≡ fresh_desk)
  before = no_bodies s.phase s.cfg s.desk s.out stood.bodies ran at.before stood.phase

  reads : Reads s input (at.body ∷ [])
  reads = subst (λ (l : List (List ℕ)). Reads s input (l ++ at.body ∷ [])) before.0
      (reads_body s input stood.bodies at.body at.rest BeforeHello at.before sound.limit (ap (least_after client) (sym before.0)) stood.are_bytes stood.read at.found_is)

  shows : ShowsSoFar (greeting_frame s.cfg greeting ∷ []) (after_push s.waiting (greeting_frame s.cfg greeting)) output
  shows = push_shows [] s.waiting (greeting_frame s.cfg greeting) output none_waits
      (subst (λ (l : List (List ℕ)). ShowsSoFar (out_frames s.cfg session_manner l (gots ran)) s.waiting output) before.0
      (shows_before s.phase (out_frames s.cfg session_manner stood.bodies (gots ran)) s.waiting output at.before stood.shows))

  none_asked : asks (at.body ∷ []) ≡ []
  none_asked = hello_asks at.body greeting at.greets

  -- no call was handed out before
  none_settled : (stood.settled ≡ []) × (stood.pending ≡ [])
  none_settled = append_none stood.settled stood.pending (sym stood.asked ∙ ap asks before.0)

  none_out : s.out ≡ []
  none_out = nothing_awaited (length ran) s.out stood.pending [] stood.awaited none_settled.1

  -- after an accepted hello the session is open
  pub opened_stands : (accepted : Hello) → greeting ≡ Ok accepted → Stands (opened accepted.version (session_manner accepted.version) s) input ran [] output
  opened_stands accepted is = record {
    bodies = at.body ∷ [];
    read = reads.read;
    are_bytes = reads.are_bytes;
    settled = [];
    pending = [];
    asked = none_asked;
    handed_out = stood.handed_out ∙ ap calls none_settled.0;
    awaited = subst (λ (l : List Awaited). AwaitFrom (length ran) l [] []) (sym none_out) (refl, refl);
    count = stood.count;
    phase = record {
      hello = at.body;
      requests = [];
      bodies_are = refl;
      accepted = accepted;
      greets = at.greets ∙ is;
      terms_are = refl;
      desk_is = before.1 ∙ ap (λ (l : List Asked). desk_after (terms_at s.cfg session_manner accepted.version) fresh_desk (dealt l (gots ran))) (sym none_asked);
    };
    shows = subst (λ (l : List (List ℕ)). ShowsSoFar l (after_push s.waiting (greeting_frame s.cfg (Ok accepted))) output) (sym (hello_shown s.cfg at.body (Ok accepted) (gots ran) (at.greets ∙ is)))
        (subst (λ (g : Greeting). ShowsSoFar (greeting_frame s.cfg g ∷ []) (after_push s.waiting (greeting_frame s.cfg g)) output) is shows);
    one = let size : length (opened accepted.version (session_manner accepted.version) s).waiting.frames ≡ 1 = push_alone s.waiting (greeting_frame s.cfg (Ok accepted)) none_waits in omega (arith, ap length none_out, size);
  }

  -- after a refused one it reads no more
  pub refused_stands : (fault : HelloFault) → greeting ≡ Err fault → Stands (refused fault s) input ran [] output
  refused_stands fault is = record {
    bodies = at.body ∷ [];
    read = reads.read;
    are_bytes = reads.are_bytes;
    settled = [];
    pending = [];
    asked = none_asked;
    handed_out = stood.handed_out ∙ ap calls none_settled.0;
    awaited = subst (λ (l : List Awaited). AwaitFrom (length ran) l [] []) (sym none_out) (refl, refl);
    count = stood.count;
    phase = (at.body, refl, at.greets ∙ is);
    shows = subst (λ (l : List (List ℕ)). ShowsSoFar l (after_push s.waiting (greeting_frame s.cfg (Err fault))) output) (sym (hello_shown s.cfg at.body (Err fault) (gots ran) (at.greets ∙ is)))
        (subst (λ (g : Greeting). ShowsSoFar (greeting_frame s.cfg g ∷ []) (after_push s.waiting (greeting_frame s.cfg g)) output) is shows);
    one = let size : length (refused fault s).waiting.frames ≡ 1 = push_alone s.waiting (greeting_frame s.cfg (Err fault)) none_waits in omega (arith, ap length none_out, size);
  }
