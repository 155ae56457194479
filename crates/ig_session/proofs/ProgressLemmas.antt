-- How far each step gets: bytes are read, or what waits is written.
use Rattle.std.proofs.Common.{◌≡◌, ℕ, ◌+◌, ◌-◌, ◌<◌, ◌≤◌, inl, inr, Bool, true, false, List, [], ◌∷◌, ◌++◌, length, drop, Option, None, Some, Result, Ok, Err, refl, sym, ap, ◌∙◌, subst, arith, length-append, eq-eqb}
use Rattle.std.specs.Prelude.{◌==◌, if◌then◌else◌}
use Rattle.std.proofs.lemmas.List.{length-drop}
use Rattle.ig_base.specs.Frames.{client, Front, Body, Bad, Incomplete}
use Rattle.ig_base.proofs.FrameLemmas.{front-inside}
use Rattle.ig_frame.specs.Streams.{Stream, front_at, place_of, stream_after_frame}
use Rattle.ig_frame.proofs.StreamLemmas.{stream_after_frame-found}
use Rattle.ig_caches.specs.declared.call.Call.{Call}
use Rattle.ig_deals.specs.Asks.{Asked, asked_in}
use Rattle.ig_deals.specs.Deals.{Got, call_for}
use Rattle.ig_deals.specs.Hellos.{Greeting, greeting_of}
use Rattle.ig_deals.specs.Telling.{session_manner}
use Rattle.ig_replies.specs.declared.terms.Terms.{Terms}
use Rattle.ig_replies.specs.Showing.{Waiting, waiting_none, frames_and, after_push}
use Rattle.ig_session.specs.declared.phase.Phase.{Phase}
use Rattle.ig_session.specs.declared.phase.Phase.TheVariants.{BeforeHello, Open, Refused, OutOfMemory}
use Rattle.ig_session.specs.declared.step.Step.{Step}
use Rattle.ig_session.specs.declared.step.Step.TheVariants as steps
use Rattle.ig_session.specs.declared.awaited.Awaited.{Awaited}
use Rattle.ig_session.specs.Awaiting.{without_nth}
use Rattle.ig_session.specs.States.{State}
use Rattle.ig_session.specs.Comings.{Coming, Replies, Stops, Misses, Greets, Asks, found, coming, waits, coming_in, least_in}
use Rattle.ig_session.specs.Steps.{passed, greeted, asked_next, step_to, next_step, settled_in, answered_in, answered_at, first_out, answered}
use Rattle.ig_session.proofs.ComingLemmas.{ComesAs, comes_as, HelloIn, hello_comes, RequestIn, request_comes}

-- what is left to do: bytes to read, and frames to write
abbrev pub to_do : State → ℕ
to_do s = length s.stream.rest + length s.waiting.frames

-- ---- a frame was read

shorter : (s : Stream) (least : ℕ) (body rest : List ℕ) → front_at least s ≡ Body body rest → length (stream_after_frame least s).rest + 4 ≤ length s.rest
shorter s least body rest found =
    let inside : (4 + length body ≤ length s.rest) × (drop (4 + length body) s.rest ≡ rest) = front-inside least s.limit s.rest body rest found in
    let is : (stream_after_frame least s).rest ≡ rest = ap (λ (t : Stream). t.rest) (stream_after_frame-found least s body rest found) in
    omega (arith, ap length is, inside.0, length-drop (4 + length body) s.rest, ap length inside.1)

hello_shorter : (s : State) (greeting : Greeting) → coming s ≡ Greets greeting → length (passed s).stream.rest + 4 ≤ length s.stream.rest
hello_shorter s greeting comes =
    let at : HelloIn s s.phase greeting = hello_comes s greeting comes in
    shorter s.stream (least_in s.phase) at.body at.rest (ap (λ (p : Phase). front_at (least_in p) s.stream) at.before ∙ at.found_is)

request_shorter : (s : State) (terms : Terms) (asked : Asked) → coming s ≡ Asks terms asked → length (passed s).stream.rest + 4 ≤ length s.stream.rest
request_shorter s terms asked comes =
    let at : RequestIn s s.phase terms asked = request_comes s terms asked comes in
    shorter s.stream (least_in s.phase) at.body at.rest (ap (λ (p : Phase). front_at (least_in p) s.stream) at.is_open ∙ at.found_is)

-- ---- one step

-- a step without a call: either something waits, or bytes were read
pub record Goes (s new : State) : Type 0 where
  pub out : new.out ≡ s.out
  pub cfg : new.cfg ≡ s.cfg
  pub less : length new.stream.rest < to_do s

-- a call is out, and nothing waits
pub record HandsOut (s new : State) : Type 0 where
  pub out : length new.out ≡ length s.out + 1
  pub cfg : new.cfg ≡ s.cfg
  pub less : length new.stream.rest + 4 ≤ length s.stream.rest
  pub none : new.waiting.frames ≡ []

some_wait : (s : State) → coming s ≡ Replies → 0 < length s.waiting.frames
unfolding coming
some_wait s comes = by s.waiting.frames comes where
  by_phase : (phase : Phase) → coming_in s phase ≡ Replies → ⊥
  by_phase BeforeHello e = by_front (front_at client.first s.stream) e where
    by_front : (f : Front) → found s (λ hello. Greets (greeting_of hello)) f ≡ Replies → ⊥
    by_front (Body body rest) e = cc
    by_front (Bad n) e = cc
    by_front (Incomplete missing) e = cc
  by_phase (Open terms) e = by_front (front_at client.later s.stream) e where
    by_front : (f : Front) → found s (λ body. Asks terms (asked_in terms.version body)) f ≡ Replies → ⊥
    by_front (Body body rest) e = cc
    by_front (Bad n) e = cc
    by_front (Incomplete missing) e = cc
  by_phase (Refused fault) e = cc
  by_phase OutOfMemory e = cc

  by : (frames : List (List ℕ)) → (if waits frames then Replies else coming_in s s.phase) ≡ Replies → 0 < length frames
  by [] e = absurd (by_phase s.phase e)
  by (frame ∷ frames) e = omega arith

greeted_goes : (s : State) (greeting : Greeting) → coming s ≡ Greets greeting → Goes s (greeted session_manner s greeting)
greeted_goes s (Ok hello) comes = record { out = refl; cfg = refl; less = omega (arith, hello_shorter s (Ok hello) comes) }
greeted_goes s (Err fault) comes = record { out = refl; cfg = refl; less = omega (arith, hello_shorter s (Err fault) comes) }

asked_goes : (s new : State) (terms : Terms) (asked : Asked) (call : Option Call) → coming s ≡ Asks terms asked → (steps.Out, new) ≡ asked_next terms s asked call → Goes s new
asked_goes s new terms asked (Some call) comes e = let steps_are = ap (λ (p : Step × State). p.0) e in absurd cc
asked_goes s new terms asked None comes e =
    let is = ap (λ (p : Step × State). p.1) e in
    subst (Goes s) (sym is) (record { out = refl; cfg = refl; less = omega (arith, request_shorter s terms asked comes) })

out_goes : (s new : State) (next : Coming) → coming s ≡ next → (steps.Out, new) ≡ step_to s next → Goes s new
out_goes s new Replies comes e =
    let is = ap (λ (p : Step × State). p.1) e in subst (Goes s) (sym is) (record { out = refl; cfg = refl; less = omega (arith, some_wait s comes) })
out_goes s new (Stops end) comes e = let steps_are = ap (λ (p : Step × State). p.0) e in absurd cc
out_goes s new (Misses missing) comes e = let steps_are = ap (λ (p : Step × State). p.0) e in absurd cc
out_goes s new (Greets greeting) comes e = let is = ap (λ (p : Step × State). p.1) e in subst (Goes s) (sym is) (greeted_goes s greeting comes)
out_goes s new (Asks terms asked) comes e = asked_goes s new terms asked (call_for asked.request) comes e

pub out_step : (s new : State) → (steps.Out, new) ≡ next_step s → Goes s new
out_step s new e = out_goes s new (coming s) refl e

asked_hands : (s new : State) (call : Call) (terms : Terms) (asked : Asked) (o : Option Call) → coming s ≡ Asks terms asked → (steps.Run call, new) ≡ asked_next terms s asked o → HandsOut s new
asked_hands s new call terms asked None comes e = let steps_are = ap (λ (p : Step × State). p.0) e in absurd cc
asked_hands s new call terms asked (Some other) comes e =
    let is = ap (λ (p : Step × State). p.1) e in
    let so : ComesAs s (Asks terms asked) = comes_as s (Asks terms asked) (λ no. cc) comes in
    subst (HandsOut s) (sym is) (record { out = length-append s.out _; cfg = refl; less = request_shorter s terms asked comes; none = so.none_waits })

run_hands : (s new : State) (call : Call) (next : Coming) → coming s ≡ next → (steps.Run call, new) ≡ step_to s next → HandsOut s new
run_hands s new call Replies comes e = let steps_are = ap (λ (p : Step × State). p.0) e in absurd cc
run_hands s new call (Stops end) comes e = let steps_are = ap (λ (p : Step × State). p.0) e in absurd cc
run_hands s new call (Misses missing) comes e = let steps_are = ap (λ (p : Step × State). p.0) e in absurd cc
run_hands s new call (Greets (Ok hello)) comes e = let steps_are = ap (λ (p : Step × State). p.0) e in absurd cc
run_hands s new call (Greets (Err fault)) comes e = let steps_are = ap (λ (p : Step × State). p.0) e in absurd cc
run_hands s new call (Asks terms asked) comes e = asked_hands s new call terms asked (call_for asked.request) comes e

pub run_step : (s new : State) (call : Call) → (steps.Run call, new) ≡ next_step s → HandsOut s new
run_step s new call e = run_hands s new call (coming s) refl e

-- more input is awaited: nothing has changed
more_stays : (s new : State) (missing : ℕ) (next : Coming) → coming s ≡ next → (steps.More missing, new) ≡ step_to s next → (new ≡ s) × (coming s ≡ Misses missing)
more_stays s new missing Replies comes e = let steps_are = ap (λ (p : Step × State). p.0) e in absurd cc
more_stays s new missing (Stops end) comes e = let steps_are = ap (λ (p : Step × State). p.0) e in absurd cc
more_stays s new missing (Misses n) comes e =
    let steps_are = ap (λ (p : Step × State). p.0) e in
    let same : missing ≡ n = cc in (ap (λ (p : Step × State). p.1) e, comes ∙ ap Misses (sym same))
more_stays s new missing (Greets (Ok hello)) comes e = let steps_are = ap (λ (p : Step × State). p.0) e in absurd cc
more_stays s new missing (Greets (Err fault)) comes e = let steps_are = ap (λ (p : Step × State). p.0) e in absurd cc
more_stays s new missing (Asks terms asked) comes e = by (call_for asked.request) e where
  by : (o : Option Call) → (steps.More missing, new) ≡ asked_next terms s asked o → (new ≡ s) × (coming s ≡ Misses missing)
  by None e = let steps_are = ap (λ (p : Step × State). p.0) e in absurd cc
  by (Some call) e = let steps_are = ap (λ (p : Step × State). p.0) e in absurd cc

pub more_step : (s new : State) (missing : ℕ) → (steps.More missing, new) ≡ next_step s → (new ≡ s) × (coming s ≡ Misses missing)
more_step s new missing e = more_stays s new missing (coming s) refl e

-- ---- an answer

-- no call is out any more, and at most one frame more waits
pub record Answers (s new : State) : Type 0 where
  pub out : new.out ≡ []
  pub cfg : new.cfg ≡ s.cfg
  pub stream : new.stream ≡ s.stream
  pub frames : length new.waiting.frames ≤ length s.waiting.frames + 1

one_more : (frames : List (List ℕ)) (gone : ℕ) (frame : List ℕ) → length (frames_and frames gone frame).frames ≤ length frames + 1
one_more [] gone frame = omega arith
one_more (first ∷ frames) gone frame = omega (arith, length-append frames (frame ∷ []))

settled_answers : (phase : Phase) (s : State) (awaited : Awaited) (got : Got) → s.out ≡ [] → Answers s (settled_in phase s awaited got)
settled_answers BeforeHello s awaited got none = record { out = none; cfg = refl; stream = refl; frames = omega arith }
settled_answers (Open terms) s awaited got none = record { out = none; cfg = refl; stream = refl; frames = one_more s.waiting.frames s.waiting.gone _ }
settled_answers (Refused fault) s awaited got none = record { out = none; cfg = refl; stream = refl; frames = omega arith }
settled_answers OutOfMemory s awaited got none = record { out = none; cfg = refl; stream = refl; frames = omega arith }

-- without its only call, none is out
pub only_out : (awaited : Awaited) → without_nth (awaited ∷ []) awaited.nth ≡ []
only_out awaited = by (awaited.nth == awaited.nth) (eq-eqb awaited.nth awaited.nth refl) where
  by : (b : Bool) → b ≡ true → (if b then [] else awaited ∷ []) ≡ []
  by true e = refl
  by false e = absurd cc

pub answered_only : (s : State) (awaited : Awaited) (got : Got) → s.out ≡ awaited ∷ [] → answered s got ≡ settled_in s.phase (record s { out = [] }) awaited got
answered_only s awaited got is =
    ap (λ (l : List Awaited). answered_at (first_out l) (record s { out = l }) got) is
    ∙ ap (λ (l : List Awaited). settled_in s.phase (record s { out = l }) awaited got) (only_out awaited)

answered_one : (s : State) (out : List Awaited) (got : Got) → s.out ≡ out → length out ≡ 1 → Answers s (answered s got)
answered_one s [] got is one = absurd (omega (arith, one))
answered_one s (awaited ∷ []) got is one =
    let answers : Answers (record s { out = [] }) (settled_in s.phase (record s { out = [] }) awaited got) = settled_answers s.phase (record s { out = [] }) awaited got refl in
    subst (Answers s) (sym (answered_only s awaited got is)) (record { out = answers.out; cfg = answers.cfg; stream = answers.stream; frames = answers.frames })
answered_one s (awaited ∷ second ∷ out) got is one = absurd (omega (arith, one))

pub answered_step : (s : State) (got : Got) → length s.out ≡ 1 → Answers s (answered s got)
answered_step s got one = answered_one s s.out got refl one

-- ---- less is left to do

pub out_less : (old mid new : State) → (steps.Out, mid) ≡ next_step old → new ≡ record mid { waiting = waiting_none } → to_do new < to_do old
out_less old mid new e is = omega (arith, ap to_do is, (out_step old mid e).less)

pub run_less : (old mid new : State) (call : Call) (got : Got) → old.out ≡ [] → (steps.Run call, mid) ≡ next_step old → new ≡ answered mid got → (to_do new < to_do old) × (new.out ≡ [])
run_less old mid new call got none e is =
    let hands : HandsOut old mid = run_step old mid call e in
    let answers : Answers mid (answered mid got) = answered_step mid got (omega (arith, hands.out, ap length none)) in (
      omega (arith, ap to_do is, ap (λ (t : Stream). length t.rest) answers.stream, answers.frames, hands.less, ap length hands.none),
      ap (λ (t : State). t.out) is ∙ answers.out,
    )
