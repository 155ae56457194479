-- A session whose calls are answered in any order, and that ends, has run to its end.
use Rattle.std.proofs.Common.{◌≡◌, ℕ, ◌+◌, ◌<◌, ◌≤◌, ℤ, Bool, true, false, List, [], ◌∷◌, ◌++◌, length, Option, None, Some, Ok, refl, sym, ap, ◌∙◌, subst, arith}
use Rattle.std.specs.Prelude.{◌&&◌, ◌||◌, Contains, slice_get, if◌then◌else◌}
use Rattle.ig_base.specs.Frames.{client, Bad, Incomplete}
use Rattle.ig_wire.specs.declared.hello.Hello.{Hello}
use Rattle.ig_wire.specs.Limits.{most_session_bytes}
use Rattle.ig_frame.specs.Streams.{front_at}
use Rattle.ig_caches.specs.declared.call.Call.{Call}
use Rattle.ig_deals.specs.declared.end.SessionEnd.{SessionEnd}
use Rattle.ig_deals.specs.declared.end.SessionEnd.TheVariants as ends
use Rattle.ig_deals.specs.Hellos.{greeting_of}
use Rattle.ig_deals.specs.Asks.{asked_in, asks}
use Rattle.ig_deals.specs.Deals.{Deal, call_for}
use Rattle.ig_deals.specs.Serves.{IsAccepted, IsOpen, IsWaiting, EndsBy, joined}
use Rattle.ig_replies.specs.declared.terms.Terms.{Terms}
use Rattle.ig_replies.specs.Showing.{left_of}
use Rattle.ig_session.specs.declared.phase.Phase.{Phase}
use Rattle.ig_session.specs.declared.phase.Phase.TheVariants.{BeforeHello, Open, Refused, OutOfMemory}
use Rattle.ig_session.specs.declared.step.Ahead.TheVariants as steps
use Rattle.ig_session.specs.States.{State}
use Rattle.ig_session.specs.Soundness.{IsSound}
use Rattle.ig_session.specs.Comings.{Coming, Replies, Stops, Misses, Greets, Asks, least_in, coming_in, coming}
use Rattle.ig_session.specs.Steps.{end_after, end_at}
use Rattle.ig_session.specs.StandsFor.{first_gone}
use Rattle.ig_session.specs.StepsAhead.{has_out, is_full, is_held_up, asked_ahead, step_on, step_ahead_to, step_ahead}
use Rattle.ig_session.specs.StandsAhead.{HandedAhead, given_so_far, dealt_ahead, IsDue, HasEach, out_ahead, IsInAhead, StandsAhead}
use Rattle.ig_session.specs.RunsAhead.{ShowsAll, ShowsFirst, ShowsAhead, RunsAhead}
use Rattle.ig_session.proofs.ComingLemmas.{comes_as, misses}
use Rattle.ig_session.proofs.StandLemmas.{gone_and_left, all_shown}
use Rattle.ig_session.proofs.EndLemmas.{place_is, Goes, goes_before, goes_open, here, found_stop}
use Rattle.ig_session.proofs.DueLemmas.{neither, first_false, none_out, all_due}
use Rattle.ig_session.proofs.StandsByLemmas.{few_missing}

module _ (limit : ℕ) (s : State) (input : List ℕ) (ran : List HandedAhead) (order output : List ℕ) (within : length input ≤ most_session_bytes) (stood : StandsAhead limit s input ran order output) where
  abbrev deals : List Deal
  deals = dealt_ahead (asks stood.bodies) (given_so_far ran)

  abbrev frames : List (List ℕ)
  frames = out_ahead s.cfg stood.bodies deals order

  runs_to : (end : SessionEnd) → EndsBy end input stood.bodies s.stream.rest → ShowsAhead end limit deals order frames output → RunsAhead limit s.cfg input output ran order end
  runs_to end by shows = record {
    bodies = stood.bodies;
    after = s.stream.rest;
    within = within;
    begins = stood.read.begins;
    ends_by = by;
    handed_out = stood.handed_out;
    order_is = stood.order_is;
    shows = shows;
  }

  -- ---- faults

  cut_off : ShowsFirst limit deals order frames output
  cut_off = record {
    whole = stood.shows.shown;
    others = s.waiting.frames;
    prefix = first_gone s.waiting.frames s.waiting.gone;
    missing = left_of s.waiting.frames s.waiting.gone;
    frames_are = stood.shows.frames_are;
    cut = sym (gone_and_left s.waiting.frames s.waiting.gone);
    output_is = stood.shows.output_is;
    few = few_missing limit s.phase s.out (length s.waiting.frames) deals order stood.counted;
  }

  pub fault_is_end_ahead : RunsAhead limit s.cfg input output ran order ends.WriteFault × RunsAhead limit s.cfg input output ran order ends.NoMemory
  fault_is_end_ahead = (runs_to ends.WriteFault tt cut_off, runs_to ends.NoMemory tt cut_off)

  -- ---- where no call is out and no reply waits

  each_in : (phase : Phase) → (phase ≡ OutOfMemory → ⊥) → HasEach phase deals order → (place : ℕ) → IsDue (slice_get deals place) → Contains order place
  each_in BeforeHello never each = each
  each_in (Open terms) never each = each
  each_in (Refused fault) never each = each
  each_in OutOfMemory never each = absurd (never refl)

  all_replied : (phase : Phase) → (phase ≡ OutOfMemory → ⊥) → HasEach phase deals order → s.out ≡ [] → s.waiting.frames ≡ [] → ShowsAll deals order frames output
  all_replied phase never each none idle = record {
    none_out = sym stood.out ∙ none;
    each = λ place less. each_in phase never each place (all_due 0 deals place (sym stood.out ∙ none) less);
    output_is = all_shown frames s.waiting output idle stood.shows;
  }

  module _ (sound : IsSound s) where
    stops_bad : (phase : Phase) (end : SessionEnd) → ShowsAll deals order frames output → Goes phase stood.bodies
        → (n : ℤ) × (front_at (least_in phase) s.stream ≡ Bad n) × (end ≡ ends.BadFrame s.stream.place n) → RunsAhead limit s.cfg input output ran order end
    stops_bad phase end all goes at = subst (λ (e : SessionEnd). RunsAhead limit s.cfg input output ran order e) (sym at.2)
        (runs_to (ends.BadFrame s.stream.place at.0) (goes.going, place_is s input stood.bodies within stood.read, here s phase stood.bodies (Bad at.0) sound.limit goes at.1) all)

    stops_in : (phase : Phase) (end : SessionEnd) → IsInAhead phase s.cfg s.desk stood.bodies deals → HasEach phase deals order → (end ≡ ends.NoMemory → ⊥) → s.out ≡ [] → s.waiting.frames ≡ [] → coming_in s phase ≡ Stops end
        → RunsAhead limit s.cfg input output ran order end
    stops_in BeforeHello end is each never none idle e = stops_bad BeforeHello end (all_replied BeforeHello (λ no. cc) each none idle) (goes_before stood.bodies is.0)
        (found_stop s (λ hello. Greets (greeting_of hello)) (front_at client.first s.stream) end (λ body no. cc) e)
    stops_in (Open terms) end is each never none idle e = stops_bad (Open terms) end (all_replied (Open terms) (λ no. cc) each none idle)
        (goes_open terms stood.bodies is.hello is.requests is.accepted is.bodies_are is.greets)
        (found_stop s (λ body. Asks terms (asked_in terms.version body)) (front_at client.later s.stream) end (λ body no. cc) e)
    stops_in (Refused fault) end is each never none idle e =
        let same : ends.HelloRefused fault ≡ end = cc in
        subst (λ (x : SessionEnd). RunsAhead limit s.cfg input output ran order x) same
        (runs_to (ends.HelloRefused fault) is (all_replied (Refused fault) (λ no. cc) each none idle))
    stops_in OutOfMemory end is each never none idle e = let same : ends.NoMemory ≡ end = cc in absurd (never (sym same))

    stops : (end : SessionEnd) → (end ≡ ends.NoMemory → ⊥) → coming s ≡ Stops end → s.out ≡ [] → RunsAhead limit s.cfg input output ran order end
    stops end never comes none =
        let so = comes_as s (Stops end) (λ no. cc) comes in
        stops_in s.phase end stood.phase stood.each never none so.none_waits so.by_phase

    -- ---- a stop

    held_stops : (next : Coming) (held : Bool) (end : SessionEnd) → coming s ≡ next → is_held_up limit s.out next ≡ held → (if held then (steps.Wait, s) else step_on s next).0 ≡ steps.Stop end
        → (next ≡ Stops end) × (is_held_up limit s.out next ≡ false)
    held_stops next true end comes is e = absurd cc
    held_stops Replies false end comes is e = absurd cc
    held_stops (Stops other) false end comes is e = let same : other ≡ end = cc in (ap Stops same, is)
    held_stops (Misses missing) false end comes is e = absurd cc
    held_stops (Greets greeting) false end comes is e = absurd cc
    held_stops (Asks terms asked) false end comes is e = absurd (by (call_for asked.request) e) where
      by : (c : Option Call) → (asked_ahead terms s asked c).0 ≡ steps.Stop end → ⊥
      by None e = cc
      by (Some call) e = cc

    stops_held : (other end : SessionEnd) (waits : Bool) → waits ≡ true → (other ≡ ends.NoMemory → ⊥) → coming s ≡ Stops other → (Stops other ≡ Stops end) × ((is_full limit s.out || (has_out s.out && waits)) ≡ false)
        → RunsAhead limit s.cfg input output ran order end
    stops_held other end waits always never comes so =
        let same : other ≡ end = (let stops_are = so.0 in cc) in
        let none : s.out ≡ [] = none_out s.out (first_false (has_out s.out) waits (neither (is_full limit s.out) (has_out s.out && waits) so.1).1 always) in
        subst (λ (x : SessionEnd). RunsAhead limit s.cfg input output ran order x) same (stops other never comes none)

    stop_to : (next : Coming) (end : SessionEnd) → coming s ≡ next → (step_ahead_to limit s next).0 ≡ steps.Stop end → RunsAhead limit s.cfg input output ran order end
    stop_to Replies end comes e = absurd cc
    stop_to (Stops ends.NoMemory) end comes e = let same : ends.NoMemory ≡ end = cc in subst (λ (x : SessionEnd). RunsAhead limit s.cfg input output ran order x) same fault_is_end_ahead.1
    stop_to (Stops ends.Ended) end comes e = stops_held ends.Ended end true refl (λ no. cc) comes (held_stops (Stops ends.Ended) (is_held_up limit s.out (Stops ends.Ended)) end comes refl e)
    stop_to (Stops (ends.Truncated n)) end comes e = stops_held (ends.Truncated n) end true refl (λ no. cc) comes (held_stops (Stops (ends.Truncated n)) (is_held_up limit s.out (Stops (ends.Truncated n))) end comes refl e)
    stop_to (Stops (ends.BadFrame place len)) end comes e =
        stops_held (ends.BadFrame place len) end true refl (λ no. cc) comes (held_stops (Stops (ends.BadFrame place len)) (is_held_up limit s.out (Stops (ends.BadFrame place len))) end comes refl e)
    stop_to (Stops (ends.HelloRefused fault)) end comes e =
        stops_held (ends.HelloRefused fault) end true refl (λ no. cc) comes (held_stops (Stops (ends.HelloRefused fault)) (is_held_up limit s.out (Stops (ends.HelloRefused fault))) end comes refl e)
    stop_to (Stops ends.ReadFault) end comes e = stops_held ends.ReadFault end true refl (λ no. cc) comes (held_stops (Stops ends.ReadFault) (is_held_up limit s.out (Stops ends.ReadFault)) end comes refl e)
    stop_to (Stops ends.ByteLimit) end comes e = stops_held ends.ByteLimit end true refl (λ no. cc) comes (held_stops (Stops ends.ByteLimit) (is_held_up limit s.out (Stops ends.ByteLimit)) end comes refl e)
    stop_to (Stops ends.WriteFault) end comes e = stops_held ends.WriteFault end true refl (λ no. cc) comes (held_stops (Stops ends.WriteFault) (is_held_up limit s.out (Stops ends.WriteFault)) end comes refl e)
    stop_to (Misses missing) end comes e = let so = (held_stops (Misses missing) (is_held_up limit s.out (Misses missing)) end comes refl e).0 in absurd cc
    stop_to (Greets greeting) end comes e = let so = (held_stops (Greets greeting) (is_held_up limit s.out (Greets greeting)) end comes refl e).0 in absurd cc
    stop_to (Asks terms asked) end comes e = let so = (held_stops (Asks terms asked) (is_held_up limit s.out (Asks terms asked)) end comes refl e).0 in absurd cc

    pub stop_is_end_ahead : (end : SessionEnd) → (step_ahead limit s).0 ≡ steps.Stop end → RunsAhead limit s.cfg input output ran order end
    stop_is_end_ahead end e = stop_to (coming s) end refl e

    -- ---- where more input is waited for

    waiting : (phase : Phase) (missing : ℕ) → Goes phase stood.bodies → front_at (least_in phase) s.stream ≡ Incomplete missing → IsWaiting stood.bodies s.stream.rest missing
    waiting phase missing goes part = record { going = goes.going; part = here s phase stood.bodies (Incomplete missing) sound.limit goes part }

    open_ends : (rest : List ℕ) (missing : ℕ) (hello : List ℕ) (requests : List (List ℕ)) (accepted : Hello) (terms : Terms) → s.stream.rest ≡ rest → stood.bodies ≡ hello ∷ requests → greeting_of hello ≡ Ok accepted
        → length input < most_session_bytes → IsWaiting stood.bodies s.stream.rest missing → ShowsAll deals order frames output → RunsAhead limit s.cfg input output ran order (end_after (Open terms) rest missing)
    open_ends [] missing hello requests accepted terms e bodies_are greets less w all =
        runs_to ends.Ended (subst IsOpen (sym bodies_are) (subst IsAccepted (sym greets) tt), e, less) all
    open_ends (byte ∷ rest) missing hello requests accepted terms e bodies_are greets less w all =
        runs_to (ends.Truncated missing) (w, (λ opens none. let clash = sym e ∙ none in cc), less) all

    ends_in : (phase : Phase) (missing : ℕ) → IsInAhead phase s.cfg s.desk stood.bodies deals → HasEach phase deals order → s.out ≡ [] → s.waiting.frames ≡ [] → coming_in s phase ≡ Misses missing
        → front_at (least_in phase) s.stream ≡ Incomplete missing
        → (length input < most_session_bytes → RunsAhead limit s.cfg input output ran order (end_after phase s.stream.rest missing) × RunsAhead limit s.cfg input output ran order ends.ReadFault)
        × (length input ≡ most_session_bytes → RunsAhead limit s.cfg input output ran order ends.ByteLimit)
    ends_in BeforeHello missing is each none idle e part =
        let all = all_replied BeforeHello (λ no. cc) each none idle in
        let w = waiting BeforeHello missing (goes_before stood.bodies is.0) part in (
          (λ less. (
            runs_to (ends.Truncated missing) (w, (λ opens. absurd (subst IsOpen is.0 opens)), less) all,
            runs_to ends.ReadFault (less, missing, w) all,
          )),
          (λ full. runs_to ends.ByteLimit (full, missing, w) all),
        )
    ends_in (Open terms) missing is each none idle e part =
        let all = all_replied (Open terms) (λ no. cc) each none idle in
        let w = waiting (Open terms) missing (goes_open terms stood.bodies is.hello is.requests is.accepted is.bodies_are is.greets) part in (
          (λ less. (
            open_ends s.stream.rest missing is.hello is.requests is.accepted terms refl is.bodies_are is.greets less w all,
            runs_to ends.ReadFault (less, missing, w) all,
          )),
          (λ full. runs_to ends.ByteLimit (full, missing, w) all),
        )
    ends_in (Refused fault) missing is each none idle e part = absurd cc
    ends_in OutOfMemory missing is each none idle e part = absurd cc

    pub pause_is_end_ahead : (missing : ℕ) → s.out ≡ [] → coming s ≡ Misses missing
        → (length input < most_session_bytes → RunsAhead limit s.cfg input output ran order (end_at s (coming s)) × RunsAhead limit s.cfg input output ran order ends.ReadFault)
        × (length input ≡ most_session_bytes → RunsAhead limit s.cfg input output ran order ends.ByteLimit)
    pause_is_end_ahead missing none e =
        let so = comes_as s (Misses missing) (λ no. cc) e in
        let both = ends_in s.phase missing stood.phase stood.each none so.none_waits so.by_phase (misses s missing e).part in (
          (λ less. (subst (λ (c : Coming). RunsAhead limit s.cfg input output ran order (end_at s c)) (sym e) (both.0 less).0, (both.0 less).1)),
          both.1,
        )
