-- What comes next, from what the parts of a session are.
use Rattle.std.proofs.Common.{◌≡◌, ℕ, ℤ, List, [], ◌∷◌, if◌then◌else◌, Result, Ok, Err, refl, sym, ap, ◌∙◌}
use Rattle.std.specs.Prelude.{IfOk}
use Rattle.std.specs.Result.{result_map_both}
use Rattle.ig_base.specs.Frames.{client, Front, Body, Bad, Incomplete}
use Rattle.ig_frame.specs.Streams.{front_at}
use Rattle.ig_wire.specs.declared.ask.AskFault.{AskFault}
use Rattle.ig_wire.specs.declared.ask.AskFault.TheVariants as ask
use Rattle.ig_wire.specs.declared.head.Fault.{Fault}
use Rattle.ig_wire.specs.declared.version.Version.{Version}
use Rattle.ig_fields.specs.AskAnswers.{AnswersAs}
use Rattle.ig_caches.specs.declared.request.Request.{Request}
use Rattle.ig_deals.specs.Asks.{Asked, asked_in, id_in, request_in}
use Rattle.ig_deals.specs.Desk.{Desk}
use Rattle.ig_deals.specs.Faults.{refusal_of}
use Rattle.ig_deals.specs.Hellos.{greeting_of}
use Rattle.ig_replies.specs.declared.terms.Terms.{Terms}
use Rattle.ig_session.specs.declared.phase.Phase.{Phase}
use Rattle.ig_session.specs.declared.phase.Phase.TheVariants.{BeforeHello, Open, Refused, OutOfMemory}
use Rattle.ig_session.specs.declared.coming.Coming.{Coming as HeldComing}
use Rattle.ig_session.specs.Comings.{Coming, Replies, Greets, Asks, least_in, waits, found, coming_in, coming}
use Rattle.ig_session.specs.Requests.{asked_said, coming_said}
use Rattle.ig_session.specs.States.{State}

-- ---- what waits comes first

pub replies_first : (s : State) → (s.waiting.frames ≡ [] → ⊥) → coming s ≡ Replies
unfolding coming
replies_first s some = by s.waiting.frames some where
  by : (frames : List (List ℕ)) → (frames ≡ [] → ⊥) → (if waits frames then Replies else coming_in s s.phase) ≡ Replies
  by [] some = absurd (some refl)
  by (frame ∷ frames) some = refl

pub next_by_phase : (s : State) (phase : Phase) → s.waiting.frames ≡ [] → s.phase ≡ phase → coming s ≡ coming_in s phase
unfolding coming
next_by_phase s phase none is = ap (λ (l : List (List ℕ)). if waits l then Replies else coming_in s s.phase) none ∙ ap (coming_in s) is

-- what comes next doesn't depend on the desk
same_found : (s : State) (desk : Desk) (reads : List ℕ → Coming) (f : Front) → found (record s { desk = desk }) reads f ≡ found s reads f
same_found s desk reads (Body body rest) = refl
same_found s desk reads (Bad n) = refl
same_found s desk reads (Incomplete missing) = refl

same_in : (s : State) (desk : Desk) (phase : Phase) → coming_in (record s { desk = desk }) phase ≡ coming_in s phase
same_in s desk BeforeHello = same_found s desk (λ hello. Greets (greeting_of hello)) (front_at client.first s.stream)
same_in s desk (Open terms) = same_found s desk (λ body. Asks terms (asked_in terms.version body)) (front_at client.later s.stream)
same_in s desk (Refused fault) = refl
same_in s desk OutOfMemory = refl

pub same_coming : (s : State) (desk : Desk) → coming (record s { desk = desk }) ≡ coming s
unfolding coming
same_coming s desk = ap (λ (c : Coming). if waits s.waiting.frames then Replies else c) (same_in s desk s.phase)

-- ---- what stands at the place of the stream

pub front_here : (held now : State) (least : ℕ) (phase : Phase) (f : Front) → held ≡ now → least ≡ least_in held.phase → now.phase ≡ phase → front_at least held.stream ≡ f
    → front_at (least_in phase) now.stream ≡ f
front_here held now least phase f is l p e =
    ap (λ (q : Phase). front_at (least_in q) now.stream) (sym p) ∙ sym (ap (λ (s : State). front_at (least_in s.phase) s.stream) is)
    ∙ ap (λ (n : ℕ). front_at n held.stream) (sym l) ∙ e

pub hello_next : (held now : State) (least : ℕ) (f : Front) → held ≡ now → least ≡ least_in held.phase → now.phase ≡ BeforeHello → now.waiting.frames ≡ [] → front_at least held.stream ≡ f
    → found now (λ hello. Greets (greeting_of hello)) f ≡ coming now
hello_next held now least f is l p none e =
    sym (next_by_phase now BeforeHello none p ∙ ap (found now (λ hello. Greets (greeting_of hello))) (front_here held now least BeforeHello f is l p e))

pub request_next : (held now : State) (least : ℕ) (terms : Terms) (f : Front) → held ≡ now → least ≡ least_in held.phase → now.phase ≡ Open terms → now.waiting.frames ≡ []
    → front_at least held.stream ≡ f → found now (λ body. Asks terms (asked_in terms.version body)) f ≡ coming now
request_next held now least terms f is l p none e =
    sym (next_by_phase now (Open terms) none p ∙ ap (found now (λ body. Asks terms (asked_in terms.version body))) (front_here held now least (Open terms) f is l p e))

-- ---- what a request asks

request_said : (expected : Result Request AskFault) (read : Result Request AskFault) → (read ≡ Err ask.NoMemory → ⊥) → AnswersAs expected read
    → result_map_both (λ r. r) refusal_of read ≡ result_map_both (λ r. r) refusal_of expected
request_said expected (Ok r) never answers = ap (result_map_both (λ r. r) refusal_of) (sym answers)
request_said expected (Err ask.NoMemory) never answers = absurd (never refl)
request_said expected (Err ask.NotMine) never answers = ap (result_map_both (λ r. r) refusal_of) (sym answers)
request_said expected (Err (ask.Unread place)) never answers = ap (result_map_both (λ r. r) refusal_of) (sym answers)
request_said expected (Err (ask.Profile profile)) never answers = ap (result_map_both (λ r. r) refusal_of) (sym answers)

pub said_asked : (v : Version) (body : List ℕ) (id : ℤ) (read : Result Request AskFault) → id ≡ id_in body → (read ≡ Err ask.NoMemory → ⊥) → AnswersAs (request_in v body) read
    → asked_said id read ≡ asked_in v body
unfolding asked_in
said_asked v body id read is never answers =
    ap (λ (i : ℤ). asked_said i read) is ∙ ap (λ (r : Result Request Fault). record { id = id_in body; request = r }) (request_said (request_in v body) read never answers)

-- what comes next is what was read
pub if_next : {E : Type 0} (next now : Coming) (read : Result HeldComing E) → next ≡ now → IfOk read (λ said. coming_said said ≡ next) → IfOk read (λ said. coming_said said ≡ now)
if_next next now (Ok said) is e = e ∙ is
if_next next now (Err lack) is e = tt
