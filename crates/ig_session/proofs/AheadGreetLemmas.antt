-- Reading the hello keeps what a session stands for whose calls are answered in any order.
use Rattle.std.proofs.Common.{◌≡◌, ℕ, List, [], ◌∷◌, ◌++◌, Ok, Err, refl, sym, ap, ◌∙◌, subst, arith, ◌+◌, ◌<◌, ◌≤◌, length}
use Rattle.ig_base.specs.Numbers.{AreBytes}
use Rattle.ig_base.specs.Frames.{client, least_after}
use Rattle.ig_wire.specs.declared.hello.Hello.{Hello}
use Rattle.ig_wire.specs.declared.hello.HelloFault.{HelloFault}
use Rattle.ig_frame.specs.Streams.{Stream, HandedOut}
use Rattle.ig_deals.specs.declared.cfg.SessionCfg.{SessionCfg}
use Rattle.ig_deals.specs.Hellos.{Greeting, greeting_of, hello_frame}
use Rattle.ig_deals.specs.Asks.{Asked, asks}
use Rattle.ig_deals.specs.Deals.{Deal, calls}
use Rattle.ig_deals.specs.Desk.{Desk, fresh_desk}
use Rattle.ig_deals.specs.Telling.{crew_manner}
use Rattle.ig_replies.specs.Showing.{Waiting, after_push}
use Rattle.ig_session.specs.declared.phase.Phase.{Phase}
use Rattle.ig_session.specs.declared.phase.Phase.TheVariants.{BeforeHello}
use Rattle.ig_session.specs.States.{State}
use Rattle.ig_session.specs.Soundness.{IsSound}
use Rattle.ig_session.specs.Comings.{Greets, coming}
use Rattle.ig_session.specs.Steps.{passed, greeting_frame, opened, refused}
use Rattle.ig_session.specs.StandsFor.{ShowsSoFar}
use Rattle.ig_session.specs.StandsAhead.{HandedAhead, given_so_far, dealt_ahead, out_among, IsOrder, HasEach, AreCounted, frames_ahead, out_ahead, IsInAhead, StandsAhead}
use Rattle.ig_session.proofs.ComingLemmas.{comes_as, HelloIn, hello_comes}
use Rattle.ig_session.proofs.StandLemmas.{Reads, reads_body, push_alone}
use Rattle.ig_session.proofs.GreetLemmas.{hello_asks}
use Rattle.ig_session.proofs.AheadLemmas.{one_more_shown}
use Rattle.ig_session.proofs.StandsByLemmas.{counted_in, stands_by}

-- ---- the hello

no_body : (phase : Phase) (cfg : SessionCfg) (desk : Desk) (bodies : List (List ℕ)) (deals : List Deal) → phase ≡ BeforeHello → IsInAhead phase cfg desk bodies deals → (bodies ≡ []) × (desk ≡ fresh_desk)
no_body phase cfg desk bodies deals is h = subst (λ (p : Phase). IsInAhead p cfg desk bodies deals) is h

no_order : (order : List ℕ) → IsOrder [] order → order ≡ []
no_order [] is = refl
no_order (place ∷ order) is = absurd is.0.due

module _ (limit : ℕ) (s : State) (input : List ℕ) (ran : List HandedAhead) (order output : List ℕ) (greeting : Greeting) (sound : IsSound s) (comes : coming s ≡ Greets greeting) (room : length s.out < limit) (stood : StandsAhead limit s input ran order output) where
  abbrev at : HelloIn s s.phase greeting
  at = hello_comes s greeting comes

  before : (stood.bodies ≡ []) × (s.desk ≡ fresh_desk)
  before = no_body s.phase s.cfg s.desk stood.bodies (dealt_ahead (asks stood.bodies) (given_so_far ran)) at.before stood.phase

  none_dealt : dealt_ahead (asks stood.bodies) (given_so_far ran) ≡ []
  none_dealt = ap (λ (l : List (List ℕ)). dealt_ahead (asks l) (given_so_far ran)) before.0

  reads : Reads s input (at.body ∷ [])
  reads = subst (λ (l : List (List ℕ)). Reads s input (l ++ at.body ∷ [])) before.0
      (reads_body s input stood.bodies at.body at.rest BeforeHello at.before sound.limit (ap (least_after client) (sym before.0)) stood.are_bytes stood.read at.found_is)

  none_asked : asks (at.body ∷ []) ≡ []
  none_asked = hello_asks at.body greeting at.greets

  none_ordered : order ≡ []
  none_ordered = no_order order (subst (λ (l : List Deal). IsOrder l order) none_dealt stood.order_is)

  -- nothing was shown before, and the reply to the hello is all that is shown now
  shows : ShowsSoFar (out_ahead s.cfg (at.body ∷ []) [] order) (after_push s.waiting (greeting_frame s.cfg greeting)) output
  shows = one_more_shown [] (out_ahead s.cfg (at.body ∷ []) [] order) s.waiting (greeting_frame s.cfg greeting) output
      (ap (out_ahead s.cfg (at.body ∷ []) []) none_ordered ∙ hello_alone (greeting_of at.body) ∙ ap (λ (g : Greeting). greeting_frame s.cfg g ∷ []) at.greets)
      (subst (λ (l : List (List ℕ)). ShowsSoFar (out_ahead s.cfg l (dealt_ahead (asks stood.bodies) (given_so_far ran)) order) s.waiting output) before.0 stood.shows) where
        hello_alone : (g : Greeting) → hello_frame s.cfg at.body ∷ frames_ahead s.cfg g [] [] ≡ hello_frame s.cfg at.body ∷ []
        hello_alone (Ok accepted) = refl
        hello_alone (Err fault) = refl

  -- the reply to the hello is the only one that waits
  counted_now : (frame : List ℕ) → (0 ≡ length order + length s.out) × (length s.out + length (after_push s.waiting frame).frames ≤ limit)
  counted_now frame =
      let before_it = counted_in limit s.phase s.out (length s.waiting.frames) (dealt_ahead (asks stood.bodies) (given_so_far ran)) order at.before stood.counted in
      let alone : length (after_push s.waiting frame).frames ≡ 1 = push_alone s.waiting frame (comes_as s (Greets greeting) (λ never. cc) comes).none_waits in
      (ap length (sym none_dealt) ∙ before_it.0, omega (arith, room, alone))

  -- whichever phase the hello leads to
  greeted_stands : (now : State) → now.stream ≡ (passed s).stream → now.out ≡ s.out → now.handed ≡ s.handed → now.cfg ≡ s.cfg → now.waiting ≡ after_push s.waiting (greeting_frame s.cfg greeting)
      → IsInAhead now.phase now.cfg now.desk (at.body ∷ []) [] → HasEach now.phase [] order → AreCounted limit now.phase now.out (length now.waiting.frames) [] order → StandsAhead limit now input ran order output
  greeted_stands now stream out handed cfg waiting phase each counted = stands_by limit now input ran order output (at.body ∷ []) [] (record {
    read = subst (λ (t : Stream). HandedOut client t input (at.body ∷ [])) (sym stream) reads.read;
    are_bytes = subst (λ (t : Stream). AreBytes t.rest) (sym stream) reads.are_bytes;
    handed = stood.handed_out ∙ ap (λ (l : List (List ℕ)). calls (asks l)) before.0 ∙ ap calls (sym none_asked);
    dealt = ap (λ (l : List Asked). dealt_ahead l (given_so_far ran)) none_asked;
    out = out ∙ stood.out ∙ ap (out_among 0) none_dealt;
    count = handed ∙ stood.count;
    phase = phase;
    alone = λ first later deal e looks due. absurd (no_deal first later deal e);
    order_is = subst (λ (l : List Deal). IsOrder l order) none_dealt stood.order_is;
    each = each;
    counted = counted;
    shows = subst (λ (w : Waiting). ShowsSoFar (out_ahead now.cfg (at.body ∷ []) [] order) w output) (sym waiting)
        (subst (λ (c : SessionCfg). ShowsSoFar (out_ahead c (at.body ∷ []) [] order) (after_push s.waiting (greeting_frame s.cfg greeting)) output) (sym cfg) shows);
  }) where
    no_deal : (first later : List Deal) (deal : Deal) → [] ≡ first ++ deal ∷ later → ⊥
    no_deal [] later deal e = cc
    no_deal (d ∷ first) later deal e = cc

  pub opened_stands_ahead : (accepted : Hello) → greeting ≡ Ok accepted → StandsAhead limit (opened accepted.version (crew_manner accepted.version) s) input ran order output
  opened_stands_ahead accepted is = greeted_stands (opened accepted.version (crew_manner accepted.version) s) refl refl refl refl
      (ap (λ (g : Greeting). after_push s.waiting (greeting_frame s.cfg g)) (sym is)) (record {
        hello = at.body;
        requests = [];
        bodies_are = refl;
        accepted = accepted;
        greets = at.greets ∙ is;
        terms_are = refl;
        desk_is = before.1;
      }) (λ place due. absurd due) (counted_now (greeting_frame s.cfg (Ok accepted)))

  pub refused_stands_ahead : (fault : HelloFault) → greeting ≡ Err fault → StandsAhead limit (refused fault s) input ran order output
  refused_stands_ahead fault is = greeted_stands (refused fault s) refl refl refl refl
      (ap (λ (g : Greeting). after_push s.waiting (greeting_frame s.cfg g)) (sym is)) (at.body, refl, at.greets ∙ is) (λ place due. absurd due) (counted_now (greeting_frame s.cfg (Err fault)))
