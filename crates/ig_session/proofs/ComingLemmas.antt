-- What is known where something comes next.
use Rattle.std.proofs.Common.{◌≡◌, ℕ, List, [], ◌∷◌, if◌then◌else◌, refl, sym, ap, ◌∙◌}
use Rattle.ig_base.specs.Frames.{client, Front, Body, Bad, Incomplete}
use Rattle.ig_frame.specs.Streams.{front_at}
use Rattle.ig_wire.specs.declared.hello.HelloFault.{HelloFault}
use Rattle.ig_deals.specs.Hellos.{Greeting, greeting_of}
use Rattle.ig_deals.specs.Asks.{Asked, asked_in}
use Rattle.ig_replies.specs.declared.terms.Terms.{Terms}
use Rattle.ig_session.specs.declared.phase.Phase.{Phase}
use Rattle.ig_session.specs.declared.phase.Phase.TheVariants.{BeforeHello, Open, Refused, OutOfMemory}
use Rattle.ig_session.specs.States.{State}
use Rattle.ig_session.specs.Comings.{Coming, Replies, Misses, Greets, Asks, found, coming_in, coming, waits, least_in}

-- ---- a hello

pub record HelloIn (s : State) (phase : Phase) (greeting : Greeting) : Type 0 where
  pub before : phase ≡ BeforeHello
  pub body : List ℕ
  pub rest : List ℕ
  pub found_is : front_at client.first s.stream ≡ Body body rest
  pub greets : greeting_of body ≡ greeting

found_hello : (s : State) (f : Front) (greeting : Greeting) → front_at client.first s.stream ≡ f → found s (λ hello. Greets (greeting_of hello)) f ≡ Greets greeting → HelloIn s BeforeHello greeting
found_hello s (Body body rest) greeting is e = record { before = refl; body = body; rest = rest; found_is = is; greets = cc }
found_hello s (Bad n) greeting is e = absurd cc
found_hello s (Incomplete missing) greeting is e = absurd cc

found_other : (s : State) (terms : Terms) (f : Front) (greeting : Greeting) → found s (λ body. Asks terms (asked_in terms.version body)) f ≡ Greets greeting → ⊥
found_other s terms (Body body rest) greeting e = cc
found_other s terms (Bad n) greeting e = cc
found_other s terms (Incomplete missing) greeting e = cc

hello_in : (s : State) (phase : Phase) (greeting : Greeting) → coming_in s phase ≡ Greets greeting → HelloIn s phase greeting
hello_in s BeforeHello greeting e = found_hello s (front_at client.first s.stream) greeting refl e
hello_in s (Open terms) greeting e = absurd (found_other s terms (front_at client.later s.stream) greeting e)
hello_in s (Refused fault) greeting e = absurd cc
hello_in s OutOfMemory greeting e = absurd cc

-- no reply waits
pub record ComesAs (s : State) (next : Coming) : Type 0 where
  pub none_waits : s.waiting.frames ≡ []
  pub by_phase : coming_in s s.phase ≡ next

not_replies : (s : State) (frames : List (List ℕ)) (next : Coming) → s.waiting.frames ≡ frames → (next ≡ Replies → ⊥) → (if waits frames then Replies else coming_in s s.phase) ≡ next → ComesAs s next
not_replies s [] next is never e = record { none_waits = is; by_phase = e }
not_replies s (frame ∷ frames) next is never e = absurd (never (sym e))

pub comes_as : (s : State) (next : Coming) → (next ≡ Replies → ⊥) → coming s ≡ next → ComesAs s next
unfolding coming
comes_as s next never e = not_replies s s.waiting.frames next refl never e

pub hello_comes : (s : State) (greeting : Greeting) → coming s ≡ Greets greeting → HelloIn s s.phase greeting
hello_comes s greeting e = hello_in s s.phase greeting (comes_as s (Greets greeting) (λ never. cc) e).by_phase

-- ---- a request

pub record RequestIn (s : State) (phase : Phase) (terms : Terms) (asked : Asked) : Type 0 where
  pub is_open : phase ≡ Open terms
  pub body : List ℕ
  pub rest : List ℕ
  pub found_is : front_at client.later s.stream ≡ Body body rest
  pub asks : asked_in terms.version body ≡ asked

found_request : (s : State) (here terms : Terms) (f : Front) (asked : Asked) → front_at client.later s.stream ≡ f
    → found s (λ body. Asks here (asked_in here.version body)) f ≡ Asks terms asked → RequestIn s (Open here) terms asked
found_request s here terms (Body body rest) asked is e =
    let same : here ≡ terms = cc in
    let asks : asked_in here.version body ≡ asked = cc in
    record { is_open = ap Open same; body = body; rest = rest; found_is = is; asks = ap (λ (t : Terms). asked_in t.version body) (sym same) ∙ asks }
found_request s here terms (Bad n) asked is e = absurd cc
found_request s here terms (Incomplete missing) asked is e = absurd cc

found_no_request : (s : State) (terms : Terms) (f : Front) (asked : Asked) → found s (λ hello. Greets (greeting_of hello)) f ≡ Asks terms asked → ⊥
found_no_request s terms (Body body rest) asked e = cc
found_no_request s terms (Bad n) asked e = cc
found_no_request s terms (Incomplete missing) asked e = cc

request_in : (s : State) (phase : Phase) (terms : Terms) (asked : Asked) → coming_in s phase ≡ Asks terms asked → RequestIn s phase terms asked
request_in s BeforeHello terms asked e = absurd (found_no_request s terms (front_at client.first s.stream) asked e)
request_in s (Open here) terms asked e = found_request s here terms (front_at client.later s.stream) asked refl e
request_in s (Refused fault) terms asked e = absurd cc
request_in s OutOfMemory terms asked e = absurd cc

pub request_comes : (s : State) (terms : Terms) (asked : Asked) → coming s ≡ Asks terms asked → RequestIn s s.phase terms asked
request_comes s terms asked e = request_in s s.phase terms asked (comes_as s (Asks terms asked) (λ never. cc) e).by_phase

-- ---- more input

pub record MissesIn (s : State) (phase : Phase) (missing : ℕ) : Type 0 where
  pub part : front_at (least_in phase) s.stream ≡ Incomplete missing
  pub goes_on : (phase ≡ OutOfMemory → ⊥) × ((fault : HelloFault) → phase ≡ Refused fault → ⊥)

found_missing : (s : State) (reads : List ℕ → Coming) (f : Front) (missing : ℕ) → ((body : List ℕ) → reads body ≡ Misses missing → ⊥) → found s reads f ≡ Misses missing → f ≡ Incomplete missing
found_missing s reads (Body body rest) missing never e = absurd (never body e)
found_missing s reads (Bad n) missing never e = absurd cc
found_missing s reads (Incomplete n) missing never e = cc

misses_in : (s : State) (phase : Phase) (missing : ℕ) → coming_in s phase ≡ Misses missing → MissesIn s phase missing
misses_in s BeforeHello missing e = record {
  part = found_missing s (λ hello. Greets (greeting_of hello)) (front_at client.first s.stream) missing (λ body never. cc) e;
  goes_on = ((λ never. cc), (λ fault never. cc));
}
misses_in s (Open terms) missing e = record {
  part = found_missing s (λ body. Asks terms (asked_in terms.version body)) (front_at client.later s.stream) missing (λ body never. cc) e;
  goes_on = ((λ never. cc), (λ fault never. cc));
}
misses_in s (Refused fault) missing e = absurd cc
misses_in s OutOfMemory missing e = absurd cc

pub misses : (s : State) (missing : ℕ) → coming s ≡ Misses missing → MissesIn s s.phase missing
misses s missing e = misses_in s s.phase missing (comes_as s (Misses missing) (λ never. cc) e).by_phase
