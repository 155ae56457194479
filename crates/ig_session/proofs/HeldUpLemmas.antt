-- The steps of a session of which several calls may be out.
use Rattle.std.proofs.Common.{◌≡◌, ◌⊎◌, ℕ, Bool, true, false, List, [], ◌∷◌, Result, Ok, Err, refl, sym, ap, ◌∙◌, subst, inl, inr}
use Rattle.std.specs.Prelude.{◌&&◌, ◌||◌, if◌then◌else◌, IfOk}
use Rattle.std.proofs.lemmas.Bool.{cases_Bool}
use Rattle.ig_base.specs.Frames.{client, Front, Body, Bad, Incomplete}
use Rattle.ig_frame.specs.Streams.{front_at}
use Rattle.ig_deals.specs.declared.end.SessionEnd.{SessionEnd}
use Rattle.ig_deals.specs.declared.end.SessionEnd.TheVariants as ends
use Rattle.ig_deals.specs.Asks.{Asked, asked_in}
use Rattle.ig_deals.specs.Hellos.{Greeting, greeting_of}
use Rattle.ig_replies.specs.declared.terms.Terms.{Terms}
use Rattle.ig_session.specs.declared.phase.Phase.{Phase}
use Rattle.ig_session.specs.declared.phase.Phase.TheVariants.{BeforeHello, Open, Refused, OutOfMemory}
use Rattle.ig_session.specs.declared.step.Ahead.{Ahead}
use Rattle.ig_session.specs.declared.step.Ahead.TheVariants as steps
use Rattle.ig_session.specs.declared.awaited.Awaited.{Awaited}
use Rattle.ig_session.specs.States.{State}
use Rattle.ig_session.specs.Comings.{Coming, Replies, Stops, Misses, Greets, Asks, found, coming_in, coming}
use Rattle.ig_session.specs.Requests.{HandsRunnableAhead}
use Rattle.ig_session.specs.StepsAhead.{waits_for_all, has_out, is_full, is_held_up, step_on, step_ahead_to, step_ahead, stop_or_wait}
use Rattle.ig_session.proofs.LookLemmas.{replies_first, next_by_phase}

-- ---- no more calls may be out

module _ (limit : ℕ) (s : State) (full : is_full limit s.out ≡ true) where
  held_up : (next : Coming) → is_held_up limit s.out next ≡ true
  held_up next = ap (λ (b : Bool). b || (has_out s.out && waits_for_all next)) full

  waits_now : (next : Coming) → (if is_held_up limit s.out next then (steps.Wait, s) else step_on s next) ≡ (steps.Wait, s)
  waits_now next = ap (λ (b : Bool). if b then (steps.Wait, s) else step_on s next) (held_up next)

  full_hello : (f : Front) → step_ahead_to limit s (found s (λ hello. Greets (greeting_of hello)) f) ≡ (steps.Wait, s)
  full_hello (Body body rest) = waits_now (Greets (greeting_of body))
  full_hello (Bad n) = waits_now (Stops (ends.BadFrame s.stream.place n))
  full_hello (Incomplete missing) = waits_now (Misses missing)

  full_request : (terms : Terms) (f : Front) → step_ahead_to limit s (found s (λ body. Asks terms (asked_in terms.version body)) f) ≡ (steps.Wait, s)
  full_request terms (Body body rest) = waits_now (Asks terms (asked_in terms.version body))
  full_request terms (Bad n) = waits_now (Stops (ends.BadFrame s.stream.place n))
  full_request terms (Incomplete missing) = waits_now (Misses missing)

  full_phase : (phase : Phase) → step_ahead_to limit s (coming_in s phase) ≡ (stop_or_wait phase, s)
  full_phase BeforeHello = full_hello (front_at client.first s.stream)
  full_phase (Open terms) = full_request terms (front_at client.later s.stream)
  full_phase (Refused fault) = waits_now (Stops (ends.HelloRefused fault))
  full_phase OutOfMemory = refl

-- nothing waits: the session stops, or an answer is awaited
pub full_steps : (limit : ℕ) (s : State) → s.waiting.frames ≡ [] → is_full limit s.out ≡ true → (stop_or_wait s.phase, s) ≡ step_ahead limit s
full_steps limit s none full = sym (ap (step_ahead_to limit s) (next_by_phase s s.phase none refl) ∙ full_phase limit s full s.phase)

-- ---- all calls are waited for

some_out : (out : List Awaited) → (out ≡ [] → ⊥) → has_out out ≡ true
some_out [] some = absurd (some refl)
some_out (a ∷ out) some = refl

none_out : (out : List Awaited) → out ≡ [] → has_out out ≡ false
none_out [] none = refl
none_out (a ∷ out) none = absurd cc

or_true : (a b : Bool) → b ≡ true → (a || b) ≡ true
or_true true b h = refl
or_true false b h = h

module _ (limit : ℕ) (s : State) where
  both_hold : (next : Coming) → has_out s.out ≡ true → waits_for_all next ≡ true → is_held_up limit s.out next ≡ true
  both_hold next out waits = or_true (is_full limit s.out) (has_out s.out && waits_for_all next) (ap (λ (b : Bool). b && waits_for_all next) out ∙ waits)

  waits_then : (next : Coming) → has_out s.out ≡ true → waits_for_all next ≡ true → (if is_held_up limit s.out next then (steps.Wait, s) else step_on s next) ≡ (steps.Wait, s)
  waits_then next out waits = ap (λ (b : Bool). if b then (steps.Wait, s) else step_on s next) (both_hold next out waits)

  all_awaited : (next : Coming) → has_out s.out ≡ true → waits_for_all next ≡ true → step_ahead_to limit s next ≡ (steps.Wait, s)
  all_awaited Replies out waits = absurd cc
  all_awaited (Stops ends.NoMemory) out waits = absurd cc
  all_awaited (Stops ends.Ended) out waits = waits_then (Stops ends.Ended) out waits
  all_awaited (Stops (ends.Truncated missing)) out waits = waits_then (Stops (ends.Truncated missing)) out waits
  all_awaited (Stops (ends.BadFrame place n)) out waits = waits_then (Stops (ends.BadFrame place n)) out waits
  all_awaited (Stops (ends.HelloRefused fault)) out waits = waits_then (Stops (ends.HelloRefused fault)) out waits
  all_awaited (Stops ends.ReadFault) out waits = waits_then (Stops ends.ReadFault) out waits
  all_awaited (Stops ends.WriteFault) out waits = waits_then (Stops ends.WriteFault) out waits
  all_awaited (Stops ends.ByteLimit) out waits = waits_then (Stops ends.ByteLimit) out waits
  all_awaited (Misses missing) out waits = absurd cc
  all_awaited (Greets greeting) out waits = absurd cc
  all_awaited (Asks terms asked) out waits = waits_then (Asks terms asked) out waits

  -- ---- it goes on

  free : (next : Coming) → is_full limit s.out ≡ false → (has_out s.out && waits_for_all next) ≡ false → is_held_up limit s.out next ≡ false
  free next full none = ap (λ (b : Bool). b || (has_out s.out && waits_for_all next)) full ∙ none

  goes_then : (next : Coming) → is_full limit s.out ≡ false → (has_out s.out && waits_for_all next) ≡ false
      → (if is_held_up limit s.out next then (steps.Wait, s) else step_on s next) ≡ step_on s next
  goes_then next full none = ap (λ (b : Bool). if b then (steps.Wait, s) else step_on s next) (free next full none)

  goes_on : (next : Coming) → is_full limit s.out ≡ false → (has_out s.out && waits_for_all next) ≡ false → step_ahead_to limit s next ≡ step_on s next
  goes_on Replies full none = refl
  goes_on (Stops ends.NoMemory) full none = refl
  goes_on (Stops ends.Ended) full none = goes_then (Stops ends.Ended) full none
  goes_on (Stops (ends.Truncated missing)) full none = goes_then (Stops (ends.Truncated missing)) full none
  goes_on (Stops (ends.BadFrame place n)) full none = goes_then (Stops (ends.BadFrame place n)) full none
  goes_on (Stops (ends.HelloRefused fault)) full none = goes_then (Stops (ends.HelloRefused fault)) full none
  goes_on (Stops ends.ReadFault) full none = goes_then (Stops ends.ReadFault) full none
  goes_on (Stops ends.WriteFault) full none = goes_then (Stops ends.WriteFault) full none
  goes_on (Stops ends.ByteLimit) full none = goes_then (Stops ends.ByteLimit) full none
  goes_on (Misses missing) full none = goes_then (Misses missing) full none
  goes_on (Greets greeting) full none = goes_then (Greets greeting) full none
  goes_on (Asks terms asked) full none = goes_then (Asks terms asked) full none

-- some call is out, and what comes next waits for all
pub awaits_all : (limit : ℕ) (s : State) (next : Coming) → next ≡ coming s → (s.out ≡ [] → ⊥) → waits_for_all next ≡ true → (steps.Wait, s) ≡ step_ahead limit s
awaits_all limit s next is some waits = sym (ap (step_ahead_to limit s) (sym is) ∙ all_awaited limit s next (some_out s.out some) waits)

-- replies wait, or no more than the limit of calls is out
pub steps_on : (limit : ℕ) (s : State) (next : Coming) → next ≡ coming s → (s.waiting.frames ≡ [] → is_full limit s.out ≡ false) → ((s.out ≡ [] → ⊥) → waits_for_all next ≡ false) → step_ahead limit s ≡ step_on s next
steps_on limit s next is full waits = elim (cases_none s.waiting.frames) [
  | inl none ↦ ap (step_ahead_to limit s) (sym is) ∙ goes_on limit s next (full none) (no_wait s.out waits)
  | inr some ↦
      let first : next ≡ Replies = is ∙ replies_first s some in
      ap (step_ahead_to limit s) (sym is) ∙ ap (step_ahead_to limit s) first ∙ sym (ap (step_on s) first)
] where
  cases_none : (frames : List (List ℕ)) → (frames ≡ []) ⊎ (frames ≡ [] → ⊥)
  cases_none [] = inl refl
  cases_none (frame ∷ frames) = inr (λ e. cc)

  no_wait : (out : List Awaited) → ((out ≡ [] → ⊥) → waits_for_all next ≡ false) → (has_out out && waits_for_all next) ≡ false
  no_wait [] waits = refl
  no_wait (a ∷ out) waits = waits (λ e. cc)

-- ---- as the code answers

pub full_answer : (limit : ℕ) (s : State) (answer : Ahead) → answer ≡ stop_or_wait s.phase → s.waiting.frames ≡ [] → is_full limit s.out ≡ true → (answer, s) ≡ step_ahead limit s
full_answer limit s answer is none full = ap (λ (a : Ahead). (a, s)) is ∙ full_steps limit s none full

waits_by : (phase : Phase) → HandsRunnableAhead (stop_or_wait phase)
waits_by BeforeHello = tt
waits_by (Open terms) = tt
waits_by (Refused fault) = tt
waits_by OutOfMemory = tt

-- no call is handed out
pub waits_runnable : (phase : Phase) (answer : Ahead) → answer ≡ stop_or_wait phase → HandsRunnableAhead answer
waits_runnable phase answer is = subst HandsRunnableAhead (sym is) (waits_by phase)

pub goes_on_as : {E : Type 0} (result : Result Ahead E) (limit : ℕ) (s new : State) (next : Coming) → step_ahead limit s ≡ step_on s next
    → IfOk result (λ answer. (answer, new) ≡ step_on s next) → IfOk result (λ answer. (answer, new) ≡ step_ahead limit s)
goes_on_as (Ok answer) limit s new next same given = given ∙ sym same
goes_on_as (Err lack) limit s new next same given = tt
