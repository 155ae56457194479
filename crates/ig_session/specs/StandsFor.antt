-- What a session stands for whose calls are answered in the order of their requests: the input that it was
-- fed, the calls that were answered, and the output that was written.
use Rattle.std.specs.Prelude.{◌≡◌, ℕ, ◌+◌, ◌≤◌, List, [], ◌∷◌, ◌++◌, length, take, Some, Ok}
use Rattle.ig_base.specs.Numbers.{AreBytes}
use Rattle.ig_base.specs.Frames.{client}
use Rattle.ig_wire.specs.declared.hello.Hello.{Hello}
use Rattle.ig_frame.specs.Streams.{HandedOut}
use Rattle.ig_caches.specs.declared.call.Call.{Call}
use Rattle.ig_deals.specs.declared.cfg.SessionCfg.{SessionCfg}
use Rattle.ig_deals.specs.Hellos.{greeting_of}
use Rattle.ig_deals.specs.Asks.{Asked, asks}
use Rattle.ig_deals.specs.Deals.{Ran, handed, gots, calls, call_for, dealt}
use Rattle.ig_deals.specs.Desk.{Desk, fresh_desk}
use Rattle.ig_deals.specs.Telling.{session_manner}
use Rattle.ig_deals.specs.Turns.{Terms}
use Rattle.ig_deals.specs.OutFrames.{desk_after, terms_at, out_frames}
use Rattle.ig_deals.specs.Serves.{IsRefused, joined, ShowsPart}
use Rattle.ig_replies.specs.RunTerms.{terms_of}
use Rattle.ig_replies.specs.Showing.{Waiting}
use Rattle.ig_session.specs.declared.phase.Phase.{Phase}
use Rattle.ig_session.specs.declared.phase.Phase.TheVariants.{BeforeHello, Open, Refused, OutOfMemory}
use Rattle.ig_session.specs.declared.awaited.Awaited.{Awaited}
use Rattle.ig_session.specs.Awaiting.{awaited_of}
use Rattle.ig_session.specs.States.{State}

-- ---- the output

-- what is gone of the first of these frames
abbrev pub first_gone : List (List ℕ) → ℕ → List ℕ
first_gone [] gone = []
first_gone (frame ∷ frames) gone = take gone frame

-- the first of these frames were written whole, and the others wait, of which the first bytes may be gone
pub record ShowsSoFar (frames : List (List ℕ)) (w : Waiting) (output : List ℕ) : Type 0 where
  pub shown : List (List ℕ)
  pub frames_are : frames ≡ shown ++ w.frames
  pub output_is : output ≡ joined shown ++ first_gone w.frames w.gone

-- where memory ran out, nothing waits, and the last reply may be missing
abbrev pub ShowsIn : Phase → List (List ℕ) → Waiting → List ℕ → Type 0
ShowsIn OutOfMemory frames w output = (w.frames ≡ []) × ShowsPart frames output
ShowsIn phase frames w output = ShowsSoFar frames w output

-- ---- the phase

-- the first body was accepted, the terms are those of its version, and the desk is that after all deals
pub record IsOpenAt (terms : Terms) (cfg : SessionCfg) (desk : Desk) (bodies : List (List ℕ)) (ran : List Ran) : Type 0 where
  pub hello : List ℕ
  pub requests : List (List ℕ)
  pub bodies_are : bodies ≡ hello ∷ requests
  pub accepted : Hello
  pub greets : greeting_of hello ≡ Ok accepted
  pub terms_are : terms ≡ terms_at cfg session_manner accepted.version
  pub desk_is : desk ≡ desk_after terms fresh_desk (dealt (asks bodies) (gots ran))

-- what was read leads to this phase, where these calls are out
abbrev pub IsIn : Phase → SessionCfg → Desk → List Awaited → List (List ℕ) → List Ran → Type 0
IsIn BeforeHello cfg desk out bodies ran = (bodies ≡ []) × (desk ≡ fresh_desk)
IsIn (Open terms) cfg desk out bodies ran = IsOpenAt (terms_of terms) cfg desk bodies ran
IsIn (Refused fault) cfg desk out bodies ran = IsRefused bodies fault
IsIn OutOfMemory cfg desk out bodies ran = out ≡ []

-- ---- calls that are out

-- these requests have these calls, each one, and the session remembers them by their numbers
abbrev pub AwaitFrom : ℕ → List Awaited → List Asked → List Call → Type 0
AwaitFrom nth [] pending out = (pending ≡ []) × (out ≡ [])
AwaitFrom nth (awaited ∷ later) pending out =
    (asked : Asked) × (more : List Asked) × (call : Call) × (others : List Call)
    × (pending ≡ asked ∷ more) × (out ≡ call ∷ others) × (call_for asked.request ≡ Some call)
    × (awaited ≡ awaited_of nth asked) × AwaitFrom (nth + 1) later more others

-- ---- the whole

-- The session was fed this input and has read the bodies that it begins with. The calls that they ask for were
-- handed out, each once and in order: this was given for the first ones, and the others are out. The output and
-- what waits are one reply to each body, in order, but for the requests whose calls are out.
pub record Stands (s : State) (input : List ℕ) (ran : List Ran) (out : List Call) (output : List ℕ) : Type 0 where
  pub bodies : List (List ℕ)
  pub read : HandedOut client s.stream input bodies
  pub are_bytes : AreBytes s.stream.rest
  pub settled : List Asked
  pub pending : List Asked
  pub asked : asks bodies ≡ settled ++ pending
  pub handed_out : handed ran ≡ calls settled
  pub awaited : AwaitFrom (length ran) s.out pending out
  pub count : s.handed ≡ length ran + length s.out
  pub phase : IsIn s.phase s.cfg s.desk s.out bodies ran
  pub shows : ShowsIn s.phase (out_frames s.cfg session_manner bodies (gots ran)) s.waiting output
  pub one : length s.out + length s.waiting.frames ≤ 1
