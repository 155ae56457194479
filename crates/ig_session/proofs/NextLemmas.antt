-- The steps and the answers of a session, from what its parts did.
use Rattle.std.proofs.Common.{◌≡◌, ℕ, ◌+◌, Bool, true, false, List, [], ◌∷◌, length, Option, None, Some, Result, Ok, Err, refl, sym, ap, ◌∙◌, subst}
use Rattle.std.specs.Prelude.{if◌then◌else◌}
use Rattle.ig_wire.specs.declared.version.Version.{Version}
use Rattle.ig_wire.specs.declared.hello.Hello.{Hello}
use Rattle.ig_wire.specs.declared.hello.HelloFault.{HelloFault}
use Rattle.ig_wire.specs.Versions.{has_flags}
use Rattle.ig_caches.specs.declared.call.Call.{Call}
use Rattle.ig_deals.specs.declared.manner.Manner.{Manner}
use Rattle.ig_deals.specs.declared.manner.Manner.TheVariants.{Never, AtChanges, Always}
use Rattle.ig_deals.specs.Asks.{Asked}
use Rattle.ig_deals.specs.Deals.{Got}
use Rattle.ig_deals.specs.Telling.{session_manner, crew_manner}
use Rattle.ig_replies.specs.declared.terms.Terms.{Terms}
use Rattle.ig_session.specs.declared.step.Step.TheVariants as steps
use Rattle.ig_session.specs.declared.step.Ahead.TheVariants as ahead
use Rattle.ig_session.specs.declared.awaited.Awaited.{Awaited}
use Rattle.ig_session.specs.Awaiting.{awaited_at, without_nth}
use Rattle.ig_session.specs.States.{State}
use Rattle.ig_session.specs.Comings.{Greets, Asks, coming}
use Rattle.ig_session.specs.Steps.{opened, refused, Takes, asked_next, step_to, next_step, settled_in, answered_at}
use Rattle.ig_session.specs.StepsAhead.{asked_ahead, step_on, answered_nth}
use Rattle.ig_session.proofs.NthLemmas.{found_nth}

-- ---- manners

silent_by : (b : Bool) (m : Manner) → b ≡ false → (if b then m else Never) ≡ Never
silent_by true m e = absurd cc
silent_by false m e = refl

pub silent_session : (v : Version) (m : Manner) → m ≡ session_manner v → has_flags v ≡ false → m ≡ Never
silent_session v m is silent = is ∙ silent_by (has_flags v) AtChanges silent

pub silent_crew : (v : Version) (m : Manner) → m ≡ crew_manner v → has_flags v ≡ false → m ≡ Never
silent_crew v m is silent = is ∙ silent_by (has_flags v) Always silent

-- ---- one step, where calls are answered in order

pub opened_next : (s new : State) (hello : Hello) (m : Manner) → m ≡ session_manner hello.version → new ≡ opened hello.version m s → Greets (Ok hello) ≡ coming s → (steps.Out, new) ≡ next_step s
opened_next s new hello m is e comes = ap (λ (n : State). (steps.Out, n)) (e ∙ ap (λ (x : Manner). opened hello.version x s) is) ∙ ap (step_to s) comes

pub refused_next : (s new : State) (fault : HelloFault) → new ≡ refused fault s → Greets (Err fault) ≡ coming s → (steps.Out, new) ≡ next_step s
refused_next s new fault e comes = ap (λ (n : State). (steps.Out, n)) e ∙ ap (step_to s) comes

pub run_next : (s new : State) (terms : Terms) (asked : Asked) (call : Call) → Takes terms asked (Some call) s new → Asks terms asked ≡ coming s → (steps.Run call, new) ≡ next_step s
run_next s new terms asked call takes comes =
    ap (λ (n : State). (steps.Run call, n)) takes.2 ∙ sym (ap (asked_next terms s asked) takes.0) ∙ ap (step_to s) comes

pub out_next : (s new : State) (terms : Terms) (asked : Asked) → Takes terms asked None s new → Asks terms asked ≡ coming s → (steps.Out, new) ≡ next_step s
out_next s new terms asked takes comes =
    ap (λ (n : State). (steps.Out, n)) takes.1 ∙ sym (ap (asked_next terms s asked) takes.0) ∙ ap (step_to s) comes

-- ---- one step, where several calls may be out

pub opened_on : (s new : State) (hello : Hello) (m : Manner) → m ≡ crew_manner hello.version → new ≡ opened hello.version m s → (ahead.Out, new) ≡ step_on s (Greets (Ok hello))
opened_on s new hello m is e = ap (λ (n : State). (ahead.Out, n)) (e ∙ ap (λ (x : Manner). opened hello.version x s) is)

pub refused_on : (s new : State) (fault : HelloFault) → new ≡ refused fault s → (ahead.Out, new) ≡ step_on s (Greets (Err fault))
refused_on s new fault e = ap (λ (n : State). (ahead.Out, n)) e

pub run_on : (s new : State) (nth : ℕ) (terms : Terms) (asked : Asked) (call : Call) → nth ≡ s.handed → Takes terms asked (Some call) s new → (ahead.Run nth call, new) ≡ step_on s (Asks terms asked)
run_on s new nth terms asked call is takes =
    ap (λ (k : ℕ). (ahead.Run k call, new)) is ∙ ap (λ (n : State). (ahead.Run s.handed call, n)) takes.2 ∙ sym (ap (asked_ahead terms s asked) takes.0)

pub out_on : (s new : State) (terms : Terms) (asked : Asked) → Takes terms asked None s new → (ahead.Out, new) ≡ step_on s (Asks terms asked)
out_on s new terms asked takes = ap (λ (n : State). (ahead.Out, n)) takes.1 ∙ sym (ap (asked_ahead terms s asked) takes.0)

-- ---- an answer

pub nth_answered : (s : State) (nth : ℕ) (awaited : Awaited) (got : Got) → awaited_at s.out nth ≡ Some awaited
    → answered_nth s nth got ≡ settled_in s.phase (record s { out = without_nth s.out nth }) awaited got
nth_answered s nth awaited got e =
    ap (λ (o : Option Awaited). answered_at o s got) e
    ∙ ap (λ (n : ℕ). settled_in s.phase (record s { out = without_nth s.out n }) awaited got) (found_nth nth s.out awaited e)
