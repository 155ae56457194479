-- What a session stands for of which several calls may be out, and are answered in any order.
use Rattle.std.specs.Prelude.{◌≡◌, ◌↔◌, ℕ, suc, ◌+◌, ◌≤◌, ◌<◌, Bool, true, false, List, [], ◌∷◌, ◌++◌, map, length, Contains, slice_get, Option, None, Some, Ok, Err}
use Rattle.std.specs.List.{filter_map}
use Rattle.ig_base.specs.Numbers.{AreBytes}
use Rattle.ig_base.specs.Frames.{client}
use Rattle.ig_wire.specs.declared.hello.Hello.{Hello}
use Rattle.ig_frame.specs.Streams.{HandedOut}
use Rattle.ig_caches.specs.declared.call.Call.{Call}
use Rattle.ig_deals.specs.declared.cfg.SessionCfg.{SessionCfg}
use Rattle.ig_deals.specs.Hellos.{Greeting, greeting_of, hello_frame}
use Rattle.ig_deals.specs.Asks.{Asked, asks}
use Rattle.ig_deals.specs.Deals.{Got, Deal, calls, call_for}
use Rattle.ig_deals.specs.Desk.{Desk, fresh_desk}
use Rattle.ig_deals.specs.Telling.{crew_manner}
use Rattle.ig_deals.specs.Turns.{Terms}
use Rattle.ig_deals.specs.OutFrames.{desk_after, reply_frames, terms_at}
use Rattle.ig_deals.specs.Serves.{IsRefused}
use Rattle.ig_replies.specs.RunTerms.{terms_of}
use Rattle.ig_session.specs.declared.phase.Phase.{Phase}
use Rattle.ig_session.specs.declared.phase.Phase.TheVariants.{BeforeHello, Open, Refused, OutOfMemory}
use Rattle.ig_session.specs.declared.awaited.Awaited.{Awaited}
use Rattle.ig_session.specs.Awaiting.{awaited_of}
use Rattle.ig_session.specs.States.{State}
use Rattle.ig_session.specs.StandsFor.{ShowsSoFar}
use Rattle.ig_session.specs.StepsAhead.{is_at_cursors}

-- ---- calls

-- a call that was handed out, and what was given for it, if it isn't out any more
pub record HandedAhead : Type 0 where
  pub call : Call
  pub got : Option Got

abbrev pub given_so_far : List HandedAhead → List (Option Got)
given_so_far ran = map (λ (r : HandedAhead). r.got) ran

-- each request that has a call gets what was given for it, in the order of the requests
abbrev pub deal_ahead : Asked → Option Call → List (Option Got) → (List (Option Got) → List Deal) → List Deal
deal_ahead a None given later = record { asked = a; got = None } ∷ later given
deal_ahead a (Some c) [] later = []
deal_ahead a (Some c) (got ∷ given) later = record { asked = a; got = got } ∷ later given

abbrev pub dealt_ahead : List Asked → List (Option Got) → List Deal
dealt_ahead [] given = []
dealt_ahead (a ∷ more) given = deal_ahead a (call_for a.request) given (dealt_ahead more)

-- ---- calls that are out

abbrev pub out_next : ℕ → Asked → Option Got → List Awaited
out_next nth asked None = awaited_of nth asked ∷ []
out_next nth asked (Some got) = []

abbrev pub out_after : ℕ → Deal → Option Call → (ℕ → List Awaited) → List Awaited
out_after nth deal None later = later nth
out_after nth deal (Some c) later = out_next nth deal.asked deal.got ++ later (suc nth)

-- the calls for which nothing was given yet, in order, by their numbers
abbrev pub out_among : ℕ → List Deal → List Awaited
out_among nth [] = []
out_among nth (deal ∷ deals) = out_after nth deal (call_for deal.asked.request) (λ n. out_among n deals)

-- ---- the order of the replies

-- the request has no call, or its call was answered
abbrev pub is_due : Option Call → Option Got → Bool
is_due None got = true
is_due (Some c) None = false
is_due (Some c) (Some got) = true

abbrev pub IsDue : Option Deal → Type 0
IsDue None = ⊥
IsDue (Some deal) = is_due (call_for deal.asked.request) deal.got ≡ true

-- a scan, a next page and closing look at cursors
abbrev pub LooksAtCursors : Option Deal → Type 0
LooksAtCursors None = ⊥
LooksAtCursors (Some deal) = is_at_cursors deal.asked.request ≡ true

-- Replies to the requests of these places came before, and the one to the request of this place comes next: it is due
-- and didn't come before, and what looks at cursors comes after exactly the requests before it.
pub record ComesNext (deals : List Deal) (before : List ℕ) (place : ℕ) : Type 0 where
  pub due : IsDue (slice_get deals place)
  pub once : ¬ (Contains before place)
  pub behind : LooksAtCursors (slice_get deals place) → (other : ℕ) → Contains before other ↔ (other < place)

-- the replies stand in this order, by the places of their requests, after those of other places
abbrev pub IsOrderAfter : List Deal → List ℕ → List ℕ → Type 0
IsOrderAfter deals before [] = Unit {0}
IsOrderAfter deals before (place ∷ later) = ComesNext deals before place × IsOrderAfter deals (before ++ place ∷ []) later

abbrev pub IsOrder : List Deal → List ℕ → Type 0
IsOrder deals order = IsOrderAfter deals [] order

-- a scan that is out is the last request, and no other call is out
abbrev pub AreScansAlone : List Deal → Type 0
AreScansAlone deals =
    (before after : List Deal) (deal : Deal) → deals ≡ before ++ deal ∷ after → is_at_cursors deal.asked.request ≡ true
    → is_due (call_for deal.asked.request) deal.got ≡ false → (after ≡ []) × (out_among 0 before ≡ [])

-- each reply that is due stands in the order, save where memory ran out
abbrev pub HasEach : Phase → List Deal → List ℕ → Type 0
HasEach OutOfMemory deals order = Unit {0}
HasEach phase deals order = (place : ℕ) → IsDue (slice_get deals place) → Contains order place

-- Each request was replied, or its call is out, and no more calls are out and replies wait than calls may be out. Where memory
-- ran out, no more replies are missing or wait.
abbrev pub AreCounted : ℕ → Phase → List Awaited → ℕ → List Deal → List ℕ → Type 0
AreCounted limit OutOfMemory out waiting deals order = length deals + waiting ≤ length order + limit
AreCounted limit phase out waiting deals order =
    (length deals ≡ length order + length out) × (length out + waiting ≤ limit)

-- the frames of the replies in this order
abbrev pub in_order : List (List ℕ) → List ℕ → List (List ℕ)
in_order frames order = filter_map (slice_get frames) order

-- ---- the output

abbrev pub frames_ahead : SessionCfg → Greeting → List Deal → List ℕ → List (List ℕ)
frames_ahead cfg (Ok hello) deals order =
    in_order (reply_frames (terms_at cfg crew_manner hello.version) fresh_desk deals) order
frames_ahead cfg (Err fault) deals order = []

-- the reply to the hello, and then the replies in this order
abbrev pub out_ahead : SessionCfg → List (List ℕ) → List Deal → List ℕ → List (List ℕ)
out_ahead cfg [] deals order = []
out_ahead cfg (hello ∷ bodies) deals order = hello_frame cfg hello ∷ frames_ahead cfg (greeting_of hello) deals order

-- ---- the phase

pub record IsOpenAhead (terms : Terms) (cfg : SessionCfg) (desk : Desk) (bodies : List (List ℕ)) (deals : List Deal) : Type 0 where
  pub hello : List ℕ
  pub requests : List (List ℕ)
  pub bodies_are : bodies ≡ hello ∷ requests
  pub accepted : Hello
  pub greets : greeting_of hello ≡ Ok accepted
  pub terms_are : terms ≡ terms_at cfg crew_manner accepted.version
  pub desk_is : desk ≡ desk_after terms fresh_desk deals

abbrev pub IsInAhead : Phase → SessionCfg → Desk → List (List ℕ) → List Deal → Type 0
IsInAhead BeforeHello cfg desk bodies deals = (bodies ≡ []) × (desk ≡ fresh_desk)
IsInAhead (Open terms) cfg desk bodies deals = IsOpenAhead (terms_of terms) cfg desk bodies deals
IsInAhead (Refused fault) cfg desk bodies deals = IsRefused bodies fault
IsInAhead OutOfMemory cfg desk bodies deals = Unit {0}

-- ---- the whole

-- The session was fed this input and has read the bodies that it begins with. The calls that they ask for were
-- handed out, each once and in order, and this was given for each that isn't out. The output and what waits
-- are the reply to the hello and the replies that are due, in this order; where memory ran out, some of them may
-- be missing. Up to `limit` calls may be out.
pub record StandsAhead (limit : ℕ) (s : State) (input : List ℕ) (ran : List HandedAhead) (order : List ℕ) (output : List ℕ) : Type 0 where
  pub bodies : List (List ℕ)
  pub read : HandedOut client s.stream input bodies
  pub are_bytes : AreBytes s.stream.rest
  pub handed_out : map (λ (r : HandedAhead). r.call) ran ≡ calls (asks bodies)
  pub out : s.out ≡ out_among 0 (dealt_ahead (asks bodies) (given_so_far ran))
  pub count : s.handed ≡ length ran
  pub phase : IsInAhead s.phase s.cfg s.desk bodies (dealt_ahead (asks bodies) (given_so_far ran))
  pub alone : AreScansAlone (dealt_ahead (asks bodies) (given_so_far ran))
  pub order_is : IsOrder (dealt_ahead (asks bodies) (given_so_far ran)) order
  pub each : HasEach s.phase (dealt_ahead (asks bodies) (given_so_far ran)) order
  pub counted : AreCounted limit s.phase s.out (length s.waiting.frames) (dealt_ahead (asks bodies) (given_so_far ran)) order
  pub shows : ShowsSoFar (out_ahead s.cfg bodies (dealt_ahead (asks bodies) (given_so_far ran)) order) s.waiting output
