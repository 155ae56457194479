-- Taking a piece of the input.
use Rattle.std.specs.Io.KnownBytes.{Consumes}
use Rattle.std.proofs.Common.{◌≡◌, ℕ, ◌+◌, ◌<◌, ◌≤◌, List, [], ◌∷◌, ◌++◌, length, Option, None, Some, Ok, Err, refl, sym, ap, ◌∙◌, subst, arith, append-nil, length-append}
use Rattle.ig_base.specs.Numbers.{AreBytes}
use Rattle.std.specs.List.{flat_map}
use Rattle.ig_base.specs.Frames.{max_body, Frame}
use Rattle.ig_link.specs.States.{SourceState, SourceAdvances}
use Rattle.ig_link.specs.ReadsAs.{ReadEnd, ReadFault}
use Rattle.ig_link.proofs.StateLemmas.{SourceAdvances-nothing}
use Rattle.ig_wire.specs.Limits.{most_session_bytes}
use Rattle.ig_deals.specs.Deals.{Ran}
use Rattle.ig_deals.specs.Telling.{session_manner}
use Rattle.ig_deals.specs.Serves.{Runs}
use Rattle.ig_deals.specs.declared.end.SessionEnd.{SessionEnd}
use Rattle.ig_deals.specs.declared.end.SessionEnd.TheVariants as ends
use Rattle.ig_session.specs.declared.phase.Phase.{Phase}
use Rattle.ig_session.specs.declared.phase.Phase.TheVariants.{BeforeHello, Open, Refused, OutOfMemory}
use Rattle.ig_session.specs.States.{State}
use Rattle.ig_caches.specs.declared.call.Call.{Call}
use Rattle.ig_session.specs.Comings.{Coming, Misses, coming, least_in, IsPaused}
use Rattle.ig_session.specs.Soundness.{IsSound}
use Rattle.ig_session.specs.Steps.{fed, end_after, end_at}
use Rattle.ig_session.specs.StandsFor.{Stands}
use Rattle.ig_session.specs.Serving.{HasEnded, IsStillOpen, EndsTaking, TakesPiece}
use Rattle.ig_session.proofs.ComingLemmas.{MissesIn, misses}
use Rattle.ig_session.proofs.FrontLemmas.{incomplete_few}
use Rattle.ig_session.proofs.StandLemmas.{fed_stands}
use Rattle.ig_session.proofs.EndLemmas.{fault_is_end, pause_is_end}

-- an end at which nothing was taken
ends_here : (s : State) (source source' : SourceState) (taken : ℕ) (end : SessionEnd) → SourceAdvances source source' [] → EndsTaking end taken source source'
    → ((input : List ℕ) (ran : List Ran) (output : List ℕ) → length input ≡ taken → Stands s input ran [] output → Runs s.cfg session_manner input output ran end)
    → TakesPiece s s source source' taken (Err end)
ends_here s source source' taken end gives cause runs = record {
  bytes = [];
  gives = gives;
  cause = cause;
  cfg = refl;
  continues = λ input ran output counts stood. subst (λ (l : List ℕ). Runs s.cfg session_manner l output ran end) (sym (append-nil input)) (runs input ran output counts stood);
}

pub takes_limit : (s : State) (source : SourceState) (taken : ℕ) → IsSound s → IsPaused s → taken ≡ most_session_bytes → TakesPiece s s source source taken (Err ends.ByteLimit)
takes_limit s source taken sound paused full = ends_here s source source taken ends.ByteLimit (SourceAdvances-nothing source) (full, refl)
    (λ input ran output counts stood. (pause_is_end s input ran output sound (omega (arith, counts, full)) stood paused.0 paused.1).1 (counts ∙ full))

pub takes_fault : (s : State) (source source' : SourceState) (taken : ℕ) → IsSound s → IsPaused s → taken < most_session_bytes → ReadFault source source' → TakesPiece s s source source' taken (Err ends.ReadFault)
takes_fault s source source' taken sound paused less fault = ends_here s source source' taken ends.ReadFault fault.advances
    (record { ended = fault.is_open; rose = fault.rose; holds_not = fault.holds_not })
    (λ input ran output counts stood. ((pause_is_end s input ran output sound (omega (arith, counts, less)) stood paused.0 paused.1).0 (omega (arith, counts, less))).1)

-- where nothing was left to take, nothing is left
none_left : (old new : Option (List ℕ)) → Consumes old new [] → old ≡ Some [] → new ≡ Some []
none_left None new left e = cc
none_left (Some xs) None left e = absurd left
none_left (Some xs) (Some ys) left e = ap Some (sym left) ∙ e

has_ended : (source source' : SourceState) → ReadEnd source source' → HasEnded source source'
has_ended source source' end = record {
  ended = end.ended;
  counts = end.counts;
  whole = λ holds. none_left source.left source'.left end.advances.left (end.whole holds);
}

-- where the input ends
caused_by : (phase : Phase) (left : List ℕ) (taken missing : ℕ) (source source' : SourceState) → HasEnded source source' → EndsTaking (end_after phase left missing) taken source source'
caused_by BeforeHello left taken missing source source' e = e
caused_by (Open terms) [] taken missing source source' e = e
caused_by (Open terms) (byte ∷ left) taken missing source source' e = e
caused_by (Refused fault) left taken missing source source' e = e
caused_by OutOfMemory left taken missing source source' e = e

pub takes_end : (s : State) (source source' : SourceState) (taken : ℕ) → IsSound s → IsPaused s → taken < most_session_bytes → ReadEnd source source' → TakesPiece s s source source' taken (Err (end_at s (coming s)))
takes_end s source source' taken sound paused less end = ends_here s source source' taken (end_at s (coming s)) end.advances
    (subst (λ (c : Coming). EndsTaking (end_at s c) taken source source') (sym paused.1) (caused_by s.phase s.stream.rest taken paused.0 source source' (has_ended source source' end)))
    (λ input ran output counts stood. ((pause_is_end s input ran output sound (omega (arith, counts, less)) stood paused.0 paused.1).0 (omega (arith, counts, less))).0)

pub takes_bytes : (s : State) (source source' : SourceState) (bytes : List ℕ) (taken taken' : ℕ) → SourceAdvances source source' bytes → IsStillOpen source source' → taken' ≡ taken + length bytes
    → taken < taken' → taken' ≤ most_session_bytes → AreBytes bytes → TakesPiece s (fed s bytes) source source' taken (Ok taken')
takes_bytes s source source' bytes taken taken' gives open_still sum more within are = record {
  bytes = bytes;
  gives = gives;
  cause = (more, within, open_still);
  cfg = refl;
  continues = λ input ran output counts stood. (omega (arith, length-append input bytes, counts, sum), fed_stands s input bytes ran [] output are stood);
}

-- a piece was read, and the session was out of memory for it
pub takes_none : (s : State) (source source' : SourceState) (bytes : List ℕ) (taken : ℕ) → SourceAdvances source source' bytes → IsStillOpen source source' → taken + length bytes ≤ most_session_bytes → AreBytes bytes
    → TakesPiece s s source source' taken (Err ends.NoMemory)
takes_none s source source' bytes taken gives open_still within are = record {
  bytes = bytes;
  gives = gives;
  cause = open_still;
  cfg = refl;
  continues = λ input ran output counts stood.
      (fault_is_end (fed s bytes) (input ++ bytes) ran output (omega (arith, length-append input bytes, counts, within)) (fed_stands s input bytes ran [] output are stood)).1;
}

-- a session that waits for input holds less than the longest frame
pub paused_few : (s : State) → IsSound s → IsPaused s → length s.stream.rest < 4 + max_body
paused_few s sound paused =
    let at : MissesIn s s.phase paused.0 = misses s paused.0 paused.1 in
    let few : length s.stream.rest < 4 + s.stream.limit = incomplete_few (least_in s.phase) s.stream.limit paused.0 s.stream.rest at.part in omega (arith, few, sound.limit)

-- all that was fed was read, or is held
pub all_fed : (s : State) (input : List ℕ) (ran : List Ran) (out : List Call) (output : List ℕ) → length input ≤ most_session_bytes → Stands s input ran out output
    → s.stream.place + length s.stream.rest ≡ length input
all_fed s input ran out output within stood =
    let whole : input ≡ flat_map Frame stood.bodies ++ s.stream.rest = stood.read.begins.whole in
    omega (arith, within, ap length whole, length-append (flat_map Frame stood.bodies) s.stream.rest, stood.read.place)
