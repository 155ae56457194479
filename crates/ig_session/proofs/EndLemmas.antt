-- A session that ends has run to its end.
use Rattle.std.proofs.Common.{◌≡◌, ℕ, ◌+◌, ◌<◌, ◌≤◌, ℤ, List, [], ◌∷◌, ◌++◌, length, Option, None, Some, Ok, refl, sym, ap, ◌∙◌, subst, arith, append-nil, length-append}
use Rattle.std.specs.List.{flat_map}
use Rattle.ig_base.specs.Frames.{client, max_body, least_after, Frame, front, Front, Body, Bad, Incomplete}
use Rattle.ig_wire.specs.declared.hello.Hello.{Hello}
use Rattle.ig_wire.specs.Limits.{most_session_bytes}
use Rattle.ig_frame.specs.Streams.{HandedOut, front_at}
use Rattle.ig_caches.specs.declared.call.Call.{Call}
use Rattle.ig_deals.specs.declared.end.SessionEnd.{SessionEnd}
use Rattle.ig_deals.specs.declared.end.SessionEnd.TheVariants as ends
use Rattle.ig_deals.specs.Hellos.{greeting_of}
use Rattle.ig_deals.specs.Asks.{Asked, asked_in, asks}
use Rattle.ig_deals.specs.Deals.{Ran, handed, gots, call_for, calls}
use Rattle.ig_deals.specs.Telling.{session_manner}
use Rattle.ig_deals.specs.OutFrames.{out_frames}
use Rattle.ig_deals.specs.Serves.{IsAccepted, IsOpen, IsGoing, IsWaiting, EndsBy, Shows, ShowsPart, Runs, joined}
use Rattle.ig_replies.specs.declared.terms.Terms.{Terms}
use Rattle.ig_session.specs.declared.phase.Phase.{Phase}
use Rattle.ig_session.specs.declared.phase.Phase.TheVariants.{BeforeHello, Open, Refused, OutOfMemory}
use Rattle.ig_session.specs.declared.step.Step.TheVariants as steps
use Rattle.ig_session.specs.States.{State}
use Rattle.ig_session.specs.Comings.{Coming, Replies, Stops, Misses, Greets, Asks, least_in, found, coming_in, coming}
use Rattle.ig_session.specs.Steps.{step_to, asked_next, next_step, end_after, end_at}
use Rattle.ig_session.specs.Soundness.{IsSound}
use Rattle.ig_session.specs.StandsFor.{ShowsIn, IsIn, Stands}
use Rattle.ig_session.proofs.ComingLemmas.{comes_as, misses}
use Rattle.ig_session.proofs.StandLemmas.{all_shown}
use Rattle.ig_session.proofs.AskLemmas.{nothing_pending}
use Rattle.ig_session.proofs.StepLemmas.{cut_in}

-- where no call is out, all that are asked for were handed out
pub all_handed : (s : State) (input : List ℕ) (ran : List Ran) (output : List ℕ) → (stood : Stands s input ran [] output) → handed ran ≡ calls (asks stood.bodies)
all_handed s input ran output stood = stood.handed_out ∙ ap calls (sym (append-nil stood.settled)
    ∙ ap (λ (l : List Asked). stood.settled ++ l) (sym (nothing_pending (length ran) s.out stood.pending stood.awaited).1) ∙ sym stood.asked)

runs_to : (s : State) (input : List ℕ) (ran : List Ran) (output : List ℕ) (end : SessionEnd) → length input ≤ most_session_bytes → (stood : Stands s input ran [] output)
    → EndsBy end input stood.bodies s.stream.rest → Shows end (out_frames s.cfg session_manner stood.bodies (gots ran)) output → Runs s.cfg session_manner input output ran end
runs_to s input ran output end within stood by shows = record {
  bodies = stood.bodies;
  after = s.stream.rest;
  within = within;
  begins = stood.read.begins;
  ends_by = by;
  handed_out = all_handed s input ran output stood;
  shows = shows;
}

-- what may be cut off
cut_off : (s : State) (input : List ℕ) (ran : List Ran) (output : List ℕ) → (stood : Stands s input ran [] output) → ShowsPart (out_frames s.cfg session_manner stood.bodies (gots ran)) output
cut_off s input ran output stood = cut_in s.phase (out_frames s.cfg session_manner stood.bodies (gots ran)) s.waiting output (omega (arith, stood.one)) stood.shows

pub fault_is_end : (s : State) (input : List ℕ) (ran : List Ran) (output : List ℕ) → length input ≤ most_session_bytes → Stands s input ran [] output
    → Runs s.cfg session_manner input output ran ends.WriteFault × Runs s.cfg session_manner input output ran ends.NoMemory
fault_is_end s input ran output within stood = (
  runs_to s input ran output ends.WriteFault within stood tt (cut_off s input ran output stood),
  runs_to s input ran output ends.NoMemory within stood tt (cut_off s input ran output stood),
)

-- ---- where the input is waited for, or stops being frames

-- the place where the stream was read to is an offset in the input
pub place_is : (s : State) (input : List ℕ) (bodies : List (List ℕ)) → length input ≤ most_session_bytes → HandedOut client s.stream input bodies → s.stream.place + length s.stream.rest ≡ length input
place_is s input bodies within read = omega (arith, within, read.place, ap length read.begins.whole, length-append (flat_map Frame bodies) s.stream.rest)

-- the bodies that were read in this phase: no hello was refused, and the next body has this least length
pub record Goes (phase : Phase) (bodies : List (List ℕ)) : Type 0 where
  pub going : IsGoing bodies
  pub least : least_in phase ≡ least_after client bodies

pub goes_before : (bodies : List (List ℕ)) → bodies ≡ [] → Goes BeforeHello bodies
goes_before bodies e = record { going = subst IsGoing (sym e) tt; least = ap (least_after client) (sym e) }

pub goes_open : (terms : Terms) (bodies : List (List ℕ)) (hello : List ℕ) (requests : List (List ℕ)) (accepted : Hello) → bodies ≡ hello ∷ requests → greeting_of hello ≡ Ok accepted → Goes (Open terms) bodies
goes_open terms bodies hello requests accepted e greets = record {
  going = subst IsGoing (sym e) (subst IsAccepted (sym greets) tt);
  least = ap (least_after client) (sym e);
}

pub here : (s : State) (phase : Phase) (bodies : List (List ℕ)) (f : Front) → s.stream.limit ≡ max_body → Goes phase bodies → front_at (least_in phase) s.stream ≡ f → front (least_after client bodies) max_body s.stream.rest ≡ f
here s phase bodies f limit goes e =
    ap (λ (n : ℕ). front n max_body s.stream.rest) (sym goes.least) ∙ ap (λ (n : ℕ). front (least_in phase) n s.stream.rest) (sym limit) ∙ e

-- a stop at a length out of range
pub found_stop : (s : State) (reads : List ℕ → Coming) (f : Front) (end : SessionEnd) → ((body : List ℕ) → reads body ≡ Stops end → ⊥) → found s reads f ≡ Stops end
    → (n : ℤ) × (f ≡ Bad n) × (end ≡ ends.BadFrame s.stream.place n)
found_stop s reads (Body body rest) end never e = absurd (never body e)
found_stop s reads (Bad n) end never e = let same : ends.BadFrame s.stream.place n ≡ end = cc in (n, refl, sym same)
found_stop s reads (Incomplete missing) end never e = absurd cc

module _ (s : State) (input : List ℕ) (ran : List Ran) (output : List ℕ) (sound : IsSound s) (within : length input ≤ most_session_bytes) (stood : Stands s input ran [] output) where
  abbrev frames : List (List ℕ)
  frames = out_frames s.cfg session_manner stood.bodies (gots ran)

  stops_bad : (phase : Phase) (end : SessionEnd) → s.waiting.frames ≡ [] → output ≡ joined frames → Goes phase stood.bodies
      → (n : ℤ) × (front_at (least_in phase) s.stream ≡ Bad n) × (end ≡ ends.BadFrame s.stream.place n) → Runs s.cfg session_manner input output ran end
  stops_bad phase end none whole goes at = subst (λ (e : SessionEnd). Runs s.cfg session_manner input output ran e) (sym at.2)
      (runs_to s input ran output (ends.BadFrame s.stream.place at.0) within stood
      (goes.going, place_is s input stood.bodies within stood.read, here s phase stood.bodies (Bad at.0) sound.limit goes at.1) whole)

  stops_in : (phase : Phase) (end : SessionEnd) → s.waiting.frames ≡ [] → IsIn phase s.cfg s.desk s.out stood.bodies ran → ShowsIn phase frames s.waiting output → coming_in s phase ≡ Stops end
      → Runs s.cfg session_manner input output ran end
  stops_in BeforeHello end none is so e = stops_bad BeforeHello end none (all_shown frames s.waiting output none so) (goes_before stood.bodies is.0)
      (found_stop s (λ hello. Greets (greeting_of hello)) (front_at client.first s.stream) end (λ body never. cc) e)
  stops_in (Open terms) end none is so e = stops_bad (Open terms) end none (all_shown frames s.waiting output none so)
      (goes_open terms stood.bodies is.hello is.requests is.accepted is.bodies_are is.greets)
      (found_stop s (λ body. Asks terms (asked_in terms.version body)) (front_at client.later s.stream) end (λ body never. cc) e)
  stops_in (Refused fault) end none is so e =
      let same : ends.HelloRefused fault ≡ end = cc in
      subst (λ (x : SessionEnd). Runs s.cfg session_manner input output ran x) same
      (runs_to s input ran output (ends.HelloRefused fault) within stood is (all_shown frames s.waiting output none so))
  stops_in OutOfMemory end none is so e =
      let same : ends.NoMemory ≡ end = cc in
      subst (λ (x : SessionEnd). Runs s.cfg session_manner input output ran x) same (fault_is_end s input ran output within stood).1

  -- what comes next where the step stops
  asked_stops : (terms : Terms) (asked : Asked) (c : Option Call) (end : SessionEnd) → (asked_next terms s asked c).0 ≡ steps.Stop end → ⊥
  asked_stops terms asked None end e = cc
  asked_stops terms asked (Some call) end e = cc

  stop_comes : (next : Coming) (end : SessionEnd) → (step_to s next).0 ≡ steps.Stop end → next ≡ Stops end
  stop_comes Replies end e = absurd cc
  stop_comes (Stops other) end e = let same : other ≡ end = cc in ap Stops same
  stop_comes (Misses missing) end e = absurd cc
  stop_comes (Greets greeting) end e = absurd cc
  stop_comes (Asks terms asked) end e = absurd (asked_stops terms asked (call_for asked.request) end e)

  pub stop_is_end : (end : SessionEnd) → (next_step s).0 ≡ steps.Stop end → Runs s.cfg session_manner input output ran end
  stop_is_end end e =
      let comes = comes_as s (Stops end) (λ never. cc) (stop_comes (coming s) end e) in
      stops_in s.phase end comes.none_waits stood.phase stood.shows comes.by_phase

  -- where more input is waited for
  waiting : (phase : Phase) (missing : ℕ) → Goes phase stood.bodies → front_at (least_in phase) s.stream ≡ Incomplete missing → IsWaiting stood.bodies s.stream.rest missing
  waiting phase missing goes part = record { going = goes.going; part = here s phase stood.bodies (Incomplete missing) sound.limit goes part }

  open_ends : (rest : List ℕ) (missing : ℕ) (hello : List ℕ) (requests : List (List ℕ)) (accepted : Hello) (terms : Terms) → s.stream.rest ≡ rest → stood.bodies ≡ hello ∷ requests → greeting_of hello ≡ Ok accepted
      → length input < most_session_bytes → IsWaiting stood.bodies s.stream.rest missing → output ≡ joined frames → Runs s.cfg session_manner input output ran (end_after (Open terms) rest missing)
  open_ends [] missing hello requests accepted terms e bodies_are greets less w whole =
      runs_to s input ran output ends.Ended within stood (subst IsOpen (sym bodies_are) (subst IsAccepted (sym greets) tt), e, less) whole
  open_ends (byte ∷ rest) missing hello requests accepted terms e bodies_are greets less w whole =
      runs_to s input ran output (ends.Truncated missing) within stood (w, (λ opens none. let clash = sym e ∙ none in cc), less) whole

  ends_in : (phase : Phase) (missing : ℕ) → IsIn phase s.cfg s.desk s.out stood.bodies ran → ShowsIn phase frames s.waiting output → s.waiting.frames ≡ [] → coming_in s phase ≡ Misses missing
      → front_at (least_in phase) s.stream ≡ Incomplete missing
      → (length input < most_session_bytes → Runs s.cfg session_manner input output ran (end_after phase s.stream.rest missing) × Runs s.cfg session_manner input output ran ends.ReadFault)
      × (length input ≡ most_session_bytes → Runs s.cfg session_manner input output ran ends.ByteLimit)
  ends_in BeforeHello missing is so none e part =
      let whole = all_shown frames s.waiting output none so in
      let w = waiting BeforeHello missing (goes_before stood.bodies is.0) part in (
        (λ less. (
          runs_to s input ran output (ends.Truncated missing) within stood (w, (λ opens. absurd (subst IsOpen is.0 opens)), less) whole,
          runs_to s input ran output ends.ReadFault within stood (less, missing, w) whole,
        )),
        (λ full. runs_to s input ran output ends.ByteLimit within stood (full, missing, w) whole),
      )
  ends_in (Open terms) missing is so none e part =
      let whole = all_shown frames s.waiting output none so in
      let w = waiting (Open terms) missing (goes_open terms stood.bodies is.hello is.requests is.accepted is.bodies_are is.greets) part in (
        (λ less. (
          open_ends s.stream.rest missing is.hello is.requests is.accepted terms refl is.bodies_are is.greets less w whole,
          runs_to s input ran output ends.ReadFault within stood (less, missing, w) whole,
        )),
        (λ full. runs_to s input ran output ends.ByteLimit within stood (full, missing, w) whole),
      )
  ends_in (Refused fault) missing is so none e part = absurd cc
  ends_in OutOfMemory missing is so none e part = absurd cc

  pub pause_is_end : (missing : ℕ) → coming s ≡ Misses missing
      → (length input < most_session_bytes → Runs s.cfg session_manner input output ran (end_at s (coming s)) × Runs s.cfg session_manner input output ran ends.ReadFault)
      × (length input ≡ most_session_bytes → Runs s.cfg session_manner input output ran ends.ByteLimit)
  pause_is_end missing e =
      let comes = comes_as s (Misses missing) (λ never. cc) e in
      let both = ends_in s.phase missing stood.phase stood.shows comes.none_waits comes.by_phase (misses s missing e).part in (
        (λ less. (subst (λ (c : Coming). Runs s.cfg session_manner input output ran (end_at s c)) (sym e) (both.0 less).0, (both.0 less).1)),
        both.1,
      )
