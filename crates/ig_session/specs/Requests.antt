-- Requests that can be served.
use Rattle.std.specs.Prelude.{◌≡◌, ℤ, Result, Ok, Err}
use Rattle.std.specs.Result.{result_map_both}
use Rattle.ig_wire.specs.declared.ask.AskFault.{AskFault}
use Rattle.ig_caches.specs.declared.request.Request.{Request}
use Rattle.ig_caches.specs.declared.request.Request.TheVariants.{Run}
use Rattle.ig_caches.specs.IsRunnable.{IsRunnable}
use Rattle.ig_deals.specs.Faults.{refusal_of}
use Rattle.ig_deals.specs.Hellos.{Greeting}
use Rattle.ig_deals.specs.Asks.{Asked}
use Rattle.ig_replies.specs.declared.terms.Terms.{Terms}
use Rattle.ig_session.specs.States.{State}
use Rattle.ig_deals.specs.declared.end.SessionEnd.{SessionEnd}
use Rattle.ig_session.specs.declared.coming.Coming.{Coming as HeldComing}
use Rattle.ig_session.specs.declared.coming.Coming.TheVariants as held
use Rattle.ig_session.specs.declared.step.Step.{Step}
use Rattle.ig_session.specs.declared.step.Step.TheVariants as steps
use Rattle.ig_session.specs.declared.step.Ahead.{Ahead}
use Rattle.ig_session.specs.declared.step.Ahead.TheVariants as ahead
use Rattle.ig_session.specs.Comings.{Coming, Replies, Stops, Misses, Greets, Asks, coming}

-- the call of a request may be run
abbrev pub CanServe : Request → Type 0
CanServe (Run call) = IsRunnable call
CanServe request = Unit {0}

-- what the code found to come next
abbrev pub asked_said : ℤ → Result Request AskFault → Asked
asked_said id asked = record { id = id; request = result_map_both (λ r. r) refusal_of asked }

abbrev pub coming_said : HeldComing → Coming
coming_said held.Replies = Replies
coming_said (held.Stops end) = Stops end
coming_said (held.Misses missing) = Misses missing
coming_said (held.Greets greeting) = Greets greeting
coming_said (held.Asks terms id asked) = Asks terms (asked_said id asked)

-- a call that is handed out may be run
abbrev pub HandsRunnable : Step → Type 0
HandsRunnable (steps.Run call) = IsRunnable call
HandsRunnable step = Unit {0}

abbrev pub HandsRunnableAhead : Ahead → Type 0
HandsRunnableAhead (ahead.Run nth call) = IsRunnable call
HandsRunnableAhead step = Unit {0}

abbrev pub CanServeAsked : Result Request AskFault → Type 0
CanServeAsked (Ok request) = CanServe request
CanServeAsked (Err fault) = Unit {0}

abbrev pub IsServable : HeldComing → Type 0
IsServable (held.Asks terms id asked) = CanServeAsked asked
IsServable next = Unit {0}

-- a whole hello comes next
abbrev pub ComesHello : State → Type 0
ComesHello s = (greeting : Greeting) × (coming s ≡ Greets greeting)

-- a whole request comes next
abbrev pub ComesAny : State → Type 0
ComesAny s = (terms : Terms) × (asked : Asked) × (coming s ≡ Asks terms asked)

-- the same of this request, whose call may be run
pub record ComesRequest (s : State) (terms : Terms) (id : ℤ) (asked : Result Request AskFault) : Type 0 where
  pub comes : coming s ≡ Asks terms (asked_said id asked)
  pub serves : CanServeAsked asked
