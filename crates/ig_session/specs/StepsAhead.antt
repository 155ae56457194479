-- What each call on a session leads to, where several calls are out and answers come in any order.
use Rattle.std.specs.Prelude.{ℕ, ◌&&◌, ◌||◌, Bool, true, false, List, [], ◌∷◌, length, nat_le, Option, None, Some, Result, Ok, Err, if◌then◌else◌}
use Rattle.std.specs.List.{list_any}
use Rattle.ig_wire.specs.declared.head.Fault.{Fault}
use Rattle.ig_caches.specs.declared.call.Call.{Call}
use Rattle.ig_caches.specs.declared.request.Request.{Request}
use Rattle.ig_caches.specs.declared.request.Request.TheVariants.{Run}
use Rattle.ig_deals.specs.declared.end.SessionEnd.TheVariants as ends
use Rattle.ig_deals.specs.Asks.{Asked}
use Rattle.ig_deals.specs.Deals.{Got, call_for}
use Rattle.ig_deals.specs.Telling.{crew_manner}
use Rattle.ig_replies.specs.declared.terms.Terms.{Terms}
use Rattle.ig_session.specs.declared.step.Ahead.{Ahead}
use Rattle.ig_session.specs.declared.step.Ahead.TheVariants as steps
use Rattle.ig_session.specs.declared.phase.Phase.{Phase}
use Rattle.ig_session.specs.declared.phase.Phase.TheVariants.{OutOfMemory}
use Rattle.ig_session.specs.declared.awaited.Awaited.{Awaited}
use Rattle.ig_session.specs.Awaiting.{is_scan, awaited_at}
use Rattle.ig_session.specs.Comings.{Coming, Replies, Stops, Misses, Greets, Asks, coming}
use Rattle.ig_session.specs.States.{State}
use Rattle.ig_session.specs.Steps.{greeted, handed_out, settled, answered_at}

-- a scan, a next page and closing look at the cursors, so they wait for the answers of all calls before them
abbrev pub is_at_cursors : Result Request Fault → Bool
is_at_cursors (Ok (Run call)) = false
is_at_cursors (Ok request) = true
is_at_cursors (Err fault) = false

abbrev pub waits_for_all : Coming → Bool
waits_for_all (Stops ends.NoMemory) = false
waits_for_all (Stops end) = true
waits_for_all (Asks terms asked) = is_at_cursors asked.request
waits_for_all other = false

abbrev pub has_out : List Awaited → Bool
has_out [] = false
has_out (awaited ∷ out) = true

-- no call may be handed out besides these
abbrev pub is_full : ℕ → List Awaited → Bool
is_full limit out = nat_le limit (length out) || list_any (λ (a : Awaited). is_scan a.awaits) out

-- answers must come before what comes next
abbrev pub is_held_up : ℕ → List Awaited → Coming → Bool
is_held_up limit out next = is_full limit out || (has_out out && waits_for_all next)

abbrev pub asked_ahead : Terms → State → Asked → Option Call → Ahead × State
asked_ahead terms s asked (Some call) = (steps.Run s.handed call, handed_out s asked)
asked_ahead terms s asked None = (steps.Out, settled terms s asked)

abbrev pub step_on : State → Coming → Ahead × State
step_on s Replies = (steps.Out, s)
step_on s (Stops end) = (steps.Stop end, s)
step_on s (Misses missing) = (steps.More missing, s)
step_on s (Greets greeting) = (steps.Out, greeted crew_manner s greeting)
step_on s (Asks terms asked) = asked_ahead terms s asked (call_for asked.request)

-- replies that wait and the end for a lack of memory come before waiting for answers
abbrev pub step_ahead_to : ℕ → State → Coming → Ahead × State
step_ahead_to limit s Replies = step_on s Replies
step_ahead_to limit s (Stops ends.NoMemory) = step_on s (Stops ends.NoMemory)
step_ahead_to limit s next = if is_held_up limit s.out next then (steps.Wait, s) else step_on s next

-- a session that ran out of memory stops, another one waits for an answer
abbrev pub stop_or_wait : Phase → Ahead
stop_or_wait OutOfMemory = steps.Stop ends.NoMemory
stop_or_wait phase = steps.Wait

abbrev pub step_ahead : ℕ → State → Ahead × State
step_ahead limit s = step_ahead_to limit s (coming s)

-- the call with a number was answered
abbrev pub answered_nth : State → ℕ → Got → State
answered_nth s nth got = answered_at (awaited_at s.out nth) s got
