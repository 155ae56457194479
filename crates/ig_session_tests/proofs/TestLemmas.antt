-- Calls that are out, after each call on a session.
use Rattle.std.proofs.Common.{◌≡◌, ℕ, Bool, true, false, List, [], ◌∷◌, ◌++◌, Option, None, Some, Result, Ok, Err, refl, sym, ap, ◌∙◌, subst, inl, inr, eq-eqb, eqb-true}
use Rattle.std.specs.Prelude.{◌≢◌, length, IsSome, is_some, IfOk, OnOk, if◌then◌else◌}
use Rattle.std.specs.Option.{option_or}
use Rattle.std.proofs.lemmas.Bool.{cases_Bool, cond-true, cond-false}
use Rattle.std.proofs.lemmas.List.Folds.{find-append}
use Rattle.ig_caches.specs.declared.call.Call.{Call}
use Rattle.ig_deals.specs.declared.end.SessionEnd.TheVariants as ends
use Rattle.ig_deals.specs.Asks.{Asked}
use Rattle.ig_deals.specs.Deals.{Got, call_for}
use Rattle.ig_replies.specs.declared.terms.Terms.{Terms}
use Rattle.ig_session.specs.declared.phase.Phase.{Phase}
use Rattle.ig_session.specs.declared.phase.Phase.TheVariants.{BeforeHello, Open, Refused, OutOfMemory}
use Rattle.ig_session.specs.declared.step.Ahead.{Ahead}
use Rattle.ig_session.specs.declared.step.Ahead.TheVariants as steps
use Rattle.ig_session.specs.declared.awaited.Awaited.{Awaited}
use Rattle.ig_session.specs.Awaiting.{awaited_of, has_nth, awaited_at, without_nth}
use Rattle.ig_session.specs.States.{State}
use Rattle.ig_session.specs.Comings.{Coming, Replies, Stops, Misses, Greets, Asks, coming}
use Rattle.ig_session.specs.Steps.{settled_in, answered_at, answered}
use Rattle.ig_session.specs.StepsAhead.{is_held_up, asked_ahead, step_on, step_ahead_to, step_ahead, answered_nth}
use Rattle.ig_session.proofs.NthLemmas.{found_nth}
use Rattle.ig_session.proofs.ProgressLemmas.{answered_step}

-- ---- calls by their numbers

some_or : {A : Type 0} (a b : Option A) → IsSome a → IsSome (option_or a b)
some_or None b some = absurd cc
some_or (Some x) b some = refl

or_some : {A : Type 0} (a b : Option A) → IsSome b → IsSome (option_or a b)
or_some None b some = some
or_some (Some x) b some = refl

more_out : (out more : List Awaited) (n : ℕ) → IsSome (awaited_at out n) → IsSome (awaited_at (out ++ more) n)
more_out out more n some = subst IsSome (sym (find-append (has_nth n) out more)) (some_or (awaited_at out n) (awaited_at more n) some)

last_out : (out : List Awaited) (a : Awaited) (n : ℕ) → a.nth ≡ n → IsSome (awaited_at (out ++ a ∷ []) n)
last_out out a n e =
    subst IsSome (sym (find-append (has_nth n) out (a ∷ [])))
    (or_some (awaited_at out n) (awaited_at (a ∷ []) n) (ap is_some (cond-true (has_nth n a) (Some a) (awaited_at [] n) (eq-eqb a.nth n e))))

-- the call with another number was answered
other_out : (out : List Awaited) (nth n : ℕ) → n ≢ nth → awaited_at (without_nth out nth) n ≡ awaited_at out n
other_out [] nth n other = refl
other_out (a ∷ out) nth n other = elim (cases_Bool (has_nth nth a)) [
  | inl here ↦
      ap (λ (l : List Awaited). awaited_at l n) (cond-true (has_nth nth a) out (a ∷ without_nth out nth) here)
      ∙ sym (cond-false (has_nth n a) (Some a) (awaited_at out n) (not_here (has_nth n a) refl here))
  | inr later ↦
      ap (λ (l : List Awaited). awaited_at l n) (cond-false (has_nth nth a) out (a ∷ without_nth out nth) later)
      ∙ ap (λ (o : Option Awaited). if has_nth n a then Some a else o) (other_out out nth n other)
] where
  not_here : (b : Bool) → has_nth n a ≡ b → has_nth nth a ≡ true → has_nth n a ≡ false
  not_here true e here = absurd (other (sym (eqb-true a.nth n e) ∙ eqb-true a.nth nth here))
  not_here false e here = e

-- ---- the next step

-- the calls that are out stay out
abbrev pub StaysOut : State → State → Type 0
StaysOut s new = (n : ℕ) → IsSome (awaited_at s.out n) → IsSome (awaited_at new.out n)

module _ (limit : ℕ) (s : State) where
  asked_stays : (terms : Terms) (asked : Asked) (call : Option Call) → StaysOut s (asked_ahead terms s asked call).1
  asked_stays terms asked None = λ n some. some
  asked_stays terms asked (Some call) = λ n some. more_out s.out (awaited_of s.handed asked ∷ []) n some

  on_stays : (next : Coming) → StaysOut s (step_on s next).1
  on_stays Replies = λ n some. some
  on_stays (Stops end) = λ n some. some
  on_stays (Misses missing) = λ n some. some
  on_stays (Greets (Ok hello)) = λ n some. some
  on_stays (Greets (Err fault)) = λ n some. some
  on_stays (Asks terms asked) = asked_stays terms asked (call_for asked.request)

  held_stays : (held : Bool) (next : Coming) → StaysOut s (if held then (steps.Wait, s) else step_on s next).1
  held_stays true next = λ n some. some
  held_stays false next = on_stays next

  step_stays : (next : Coming) → StaysOut s (step_ahead_to limit s next).1
  step_stays Replies = on_stays Replies
  step_stays (Stops ends.NoMemory) = on_stays (Stops ends.NoMemory)
  step_stays (Stops ends.Ended) = held_stays (is_held_up limit s.out (Stops ends.Ended)) (Stops ends.Ended)
  step_stays (Stops (ends.Truncated missing)) = held_stays (is_held_up limit s.out (Stops (ends.Truncated missing))) (Stops (ends.Truncated missing))
  step_stays (Stops (ends.BadFrame place n)) = held_stays (is_held_up limit s.out (Stops (ends.BadFrame place n))) (Stops (ends.BadFrame place n))
  step_stays (Stops (ends.HelloRefused fault)) = held_stays (is_held_up limit s.out (Stops (ends.HelloRefused fault))) (Stops (ends.HelloRefused fault))
  step_stays (Stops ends.ReadFault) = held_stays (is_held_up limit s.out (Stops ends.ReadFault)) (Stops ends.ReadFault)
  step_stays (Stops ends.WriteFault) = held_stays (is_held_up limit s.out (Stops ends.WriteFault)) (Stops ends.WriteFault)
  step_stays (Stops ends.ByteLimit) = held_stays (is_held_up limit s.out (Stops ends.ByteLimit)) (Stops ends.ByteLimit)
  step_stays (Misses missing) = held_stays (is_held_up limit s.out (Misses missing)) (Misses missing)
  step_stays (Greets greeting) = held_stays (is_held_up limit s.out (Greets greeting)) (Greets greeting)
  step_stays (Asks terms asked) = held_stays (is_held_up limit s.out (Asks terms asked)) (Asks terms asked)

  pub ahead_stays : (new : State) (answer : Ahead) → (answer, new) ≡ step_ahead limit s → StaysOut s new
  ahead_stays new answer e = subst (λ (p : Ahead × State). StaysOut s p.1) (sym e) (step_stays (coming s))

  -- ---- a call that was handed out

  -- where a call is handed out, it is out
  abbrev HandsOut : Ahead × State → Type 0
  HandsOut p = (nth : ℕ) (call : Call) → p.0 ≡ steps.Run nth call → IsSome (awaited_at p.1.out nth)

  asked_hands : (terms : Terms) (asked : Asked) (call : Option Call) → HandsOut (asked_ahead terms s asked call)
  asked_hands terms asked None = λ nth call e. absurd cc
  asked_hands terms asked (Some own) = λ nth call e. let same : s.handed ≡ nth = cc in last_out s.out (awaited_of s.handed asked) nth same

  on_hands : (next : Coming) → HandsOut (step_on s next)
  on_hands Replies = λ nth call e. absurd cc
  on_hands (Stops end) = λ nth call e. absurd cc
  on_hands (Misses missing) = λ nth call e. absurd cc
  on_hands (Greets (Ok hello)) = λ nth call e. absurd cc
  on_hands (Greets (Err fault)) = λ nth call e. absurd cc
  on_hands (Asks terms asked) = asked_hands terms asked (call_for asked.request)

  held_hands : (held : Bool) (next : Coming) → HandsOut (if held then (steps.Wait, s) else step_on s next)
  held_hands true next = λ nth call e. absurd cc
  held_hands false next = on_hands next

  step_hands : (next : Coming) → HandsOut (step_ahead_to limit s next)
  step_hands Replies = on_hands Replies
  step_hands (Stops ends.NoMemory) = on_hands (Stops ends.NoMemory)
  step_hands (Stops ends.Ended) = held_hands (is_held_up limit s.out (Stops ends.Ended)) (Stops ends.Ended)
  step_hands (Stops (ends.Truncated missing)) = held_hands (is_held_up limit s.out (Stops (ends.Truncated missing))) (Stops (ends.Truncated missing))
  step_hands (Stops (ends.BadFrame place n)) = held_hands (is_held_up limit s.out (Stops (ends.BadFrame place n))) (Stops (ends.BadFrame place n))
  step_hands (Stops (ends.HelloRefused fault)) = held_hands (is_held_up limit s.out (Stops (ends.HelloRefused fault))) (Stops (ends.HelloRefused fault))
  step_hands (Stops ends.ReadFault) = held_hands (is_held_up limit s.out (Stops ends.ReadFault)) (Stops ends.ReadFault)
  step_hands (Stops ends.WriteFault) = held_hands (is_held_up limit s.out (Stops ends.WriteFault)) (Stops ends.WriteFault)
  step_hands (Stops ends.ByteLimit) = held_hands (is_held_up limit s.out (Stops ends.ByteLimit)) (Stops ends.ByteLimit)
  step_hands (Misses missing) = held_hands (is_held_up limit s.out (Misses missing)) (Misses missing)
  step_hands (Greets greeting) = held_hands (is_held_up limit s.out (Greets greeting)) (Greets greeting)
  step_hands (Asks terms asked) = held_hands (is_held_up limit s.out (Asks terms asked)) (Asks terms asked)

  pub ahead_hands : (new : State) (nth : ℕ) (call : Call) → (steps.Run nth call, new) ≡ step_ahead limit s → IsSome (awaited_at new.out nth)
  ahead_hands new nth call e =
      ap (λ (p : Ahead × State). is_some (awaited_at p.1.out nth)) e ∙ step_hands (coming s) nth call (sym (ap (λ (p : Ahead × State). p.0) e))

-- ---- an answer

-- the calls with other numbers stay out
abbrev pub OthersStay : ℕ → State → State → Type 0
OthersStay nth s new = (n : ℕ) → n ≢ nth → IsSome (awaited_at s.out n) → IsSome (awaited_at new.out n)

without_stays : (s new : State) (nth : ℕ) → new.out ≡ without_nth s.out nth → OthersStay nth s new
without_stays s new nth is n other some = ap (λ (l : List Awaited). is_some (awaited_at l n)) is ∙ ap is_some (other_out s.out nth n other) ∙ some

settled_out : (phase : Phase) (s : State) (awaited : Awaited) (got : Got) → (settled_in phase s awaited got).out ≡ s.out
settled_out BeforeHello s awaited got = refl
settled_out (Open terms) s awaited got = refl
settled_out (Refused fault) s awaited got = refl
settled_out OutOfMemory s awaited got = refl

pub answered_stays : (s new : State) (nth : ℕ) (got : Got) → new ≡ answered_nth s nth got → OthersStay nth s new
answered_stays s new nth got e = by (awaited_at s.out nth) refl where
  by : (o : Option Awaited) → awaited_at s.out nth ≡ o → OthersStay nth s new
  by None is = λ n other some. subst (λ (t : State). IsSome (awaited_at t.out n)) (sym (e ∙ ap (λ (o : Option Awaited). answered_at o s got) is)) some
  by (Some awaited) is = without_stays s new nth
      (ap (λ (t : State). t.out) (e ∙ ap (λ (o : Option Awaited). answered_at o s got) is) ∙ settled_out s.phase (record s { out = without_nth s.out awaited.nth }) awaited got
      ∙ ap (without_nth s.out) (found_nth nth s.out awaited is))

-- ---- the only call that is out

-- it was answered, so none is out
pub answered_none : {E : Type 0} (s new : State) (got : Got) (r : Result (Unit {0}) E) → length s.out ≡ 1 → OnOk r (new ≡ answered s got) → IfOk r (λ done. new.out ≡ [])
answered_none s new got (Ok done) one e = ap (λ (t : State). t.out) e ∙ (answered_step s got one).out
answered_none s new got (Err lack) one e = tt
