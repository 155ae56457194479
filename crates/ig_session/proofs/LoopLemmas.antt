-- The loop of a session.
use Rattle.std.proofs.Common.{◌≡◌, inr, ℕ, ◌+◌, ◌<◌, ◌≤◌, Bool, true, false, List, [], ◌∷◌, ◌++◌, length, Ok, Err, refl, sym, ap, ◌∙◌, subst, arith}
use Rattle.ig_base.specs.declared.entry.Entry.{Entry}
use Rattle.ig_base.specs.Frames.{client, max_body, front, Incomplete}
use Rattle.ig_base.proofs.FrameLemmas.{Begins-start}
use Rattle.ig_link.specs.States.{SourceState, SinkState}
use Rattle.ig_link.proofs.StateLemmas.{SourceAdvances-nothing, SourceAdvances-then, SinkAdvances-nothing, SinkAdvances-then, Rose-after}
use Rattle.ig_caches.specs.declared.call.Call.{Call}
use Rattle.ig_caches.specs.declared.answer.Answer.{Answer}
use Rattle.ig_caches.specs.PlainCaches.{PlainCaches}
use Rattle.ig_deals.specs.declared.cfg.SessionCfg.{SessionCfg}
use Rattle.ig_deals.specs.declared.end.SessionEnd.{SessionEnd}
use Rattle.ig_deals.specs.declared.end.SessionEnd.TheVariants as ends
use Rattle.ig_deals.specs.Deals.{Ran, entries_of}
use Rattle.ig_deals.specs.Telling.{session_manner}
use Rattle.ig_deals.specs.Serves.{Runs, Serves}
use Rattle.ig_session.specs.Cfg.{IsCfg}
use Rattle.ig_session.specs.States.{State, new_state}
use Rattle.ig_session.specs.Comings.{Misses, coming, IsPaused}
use Rattle.ig_session.specs.Serving.{HasEnded, IsStillOpen, ReadHasFailed, WriteHasFailed, AnswersAll, TakesPiece, EndsAnswering, EndsTaking, IsCaused, Served, Going}
use Rattle.ig_session.proofs.HistoryLemmas.{StandsOn-nothing, joins_keeps}
use Rattle.ig_session.proofs.StandLemmas.{new_stands}
use Rattle.ig_session.proofs.AskLemmas.{nothing_pending}
use Rattle.ig_session.proofs.SinceLemmas.{held_not}
use Rattle.ig_session.proofs.SoundLemmas.{new_sound}
use Rattle.ig_session.proofs.CompleteLemmas.{completes}

pub nothing_ran : (cfg : SessionCfg) → Runs cfg session_manner [] [] [] ends.NoMemory
nothing_ran cfg = record {
  bodies = [];
  after = [];
  within = omega arith;
  begins = Begins-start client [];
  ends_by = tt;
  handed_out = refl;
  shows = record { whole = []; last = []; prefix = []; missing = []; frames_are = refl; at_most_one = omega arith; cut = refl; output_is = refl };
}

-- a session that was fed nothing misses the four bytes of a length
pub new_paused : (cfg : SessionCfg) → IsPaused (new_state cfg)
unfolding front coming
new_paused cfg = (4, refl)

module _ {C : Type 0} (stands : C → PlainCaches → List (Entry Call Answer) → Type 0) (seat : ℕ) (cfg : SessionCfg) where
  pub none_served : (caller : C) (source : SourceState) (sink : SinkState) → Served stands seat cfg caller caller source source sink sink ends.NoMemory
  none_served caller source sink = record {
    input = [];
    output = [];
    entries = [];
    keeps = StandsOn-nothing stands caller;
    takes = SourceAdvances-nothing source;
    writes = SinkAdvances-nothing sink;
    serves = record { ran = []; entries_are = refl; runs = nothing_ran cfg };
    caused = (refl, refl);
    completes = λ bodies ended begins is_open. inr refl;
  }

  pub going_start : (caller : C) (source : SourceState) (sink : SinkState) → IsCfg cfg → Going stands seat cfg caller caller (new_state cfg) source source sink sink 0
  going_start caller source sink is = record {
    input = [];
    output = [];
    ran = [];
    keeps = StandsOn-nothing stands caller;
    takes = SourceAdvances-nothing source;
    writes = SinkAdvances-nothing sink;
    cfg_is = refl;
    counts = refl;
    within = omega arith;
    is_open = λ some. absurd (omega arith);
    no_read_fault = refl;
    no_write_fault = refl;
    stands_for = new_stands cfg;
    sound = new_sound cfg is;
    paused = new_paused cfg;
    none_out = refl;
  }

  pub going_on : {A : Type 0} (a b c : C) (s0 s1 s2 : State) (x0 x1 x2 : SourceState) (y0 y1 y2 : SinkState) (taken taken' : ℕ) (done : A) → Going stands seat cfg a b s0 x0 x1 y0 y1 taken
      → TakesPiece s0 s1 x1 x2 taken (Ok taken') → AnswersAll stands seat b c s1 s2 y1 y2 (Ok done) → Going stands seat cfg a c s2 x0 x2 y0 y2 taken'
  going_on a b c s0 s1 s2 x0 x1 x2 y0 y1 y2 taken taken' done going takes answers =
      let took = takes.continues going.input going.ran going.output going.counts going.stands_for in
      let paused = answers.continues (going.input ++ takes.bytes) going.ran going.output (omega (arith, took.0, takes.cause.1)) took.1 in
      record {
        input = going.input ++ takes.bytes;
        output = going.output ++ answers.out;
        ran = going.ran ++ answers.ran;
        keeps = joins_keeps stands seat a b c going.ran answers.ran going.keeps answers.keeps;
        takes = SourceAdvances-then going.takes takes.gives;
        writes = SinkAdvances-then going.writes answers.gets;
        cfg_is = answers.cfg ∙ takes.cfg ∙ going.cfg_is;
        counts = took.0;
        within = takes.cause.1;
        is_open = λ some. takes.cause.2.ended;
        no_read_fault = takes.cause.2.counts ∙ going.no_read_fault;
        no_write_fault = answers.cause ∙ going.no_write_fault;
        stands_for = paused.stands;
        sound = paused.sound;
        paused = paused.paused;
        none_out = paused.none_out;
      }

  -- no call is out after a piece was taken
  pub taken_none : (a b : C) (s0 s1 : State) (x0 x1 x2 : SourceState) (y0 y1 : SinkState) (taken taken' : ℕ) → Going stands seat cfg a b s0 x0 x1 y0 y1 taken → TakesPiece s0 s1 x1 x2 taken (Ok taken') → s1.out ≡ []
  taken_none a b s0 s1 x0 x1 x2 y0 y1 taken taken' going takes =
      let stood = (takes.continues going.input going.ran going.output going.counts going.stands_for).1 in (nothing_pending (length going.ran) s1.out stood.pending stood.awaited).0

  -- what a read says of the source, said of it since the session began
  ended_since : (x0 x1 x2 : SourceState) → HasEnded x1 x2 → x1.faults ≡ x0.faults → (x0.holds ≡ true → x1.holds ≡ true) → HasEnded x0 x2
  ended_since x0 x1 x2 ended none held = record { ended = ended.ended; counts = ended.counts ∙ none; whole = λ h. ended.whole (held h) }

  open_since : (x0 x1 x2 : SourceState) → IsStillOpen x1 x2 → x1.faults ≡ x0.faults → IsStillOpen x0 x2
  open_since x0 x1 x2 still none = record { ended = still.ended; counts = still.counts ∙ none }

  failed_since : (x0 x1 x2 : SourceState) → ReadHasFailed x1 x2 → x0.faults ≤ x1.faults → (x0.holds ≡ true → x1.holds ≡ true) → ReadHasFailed x0 x2
  failed_since x0 x1 x2 failed up held = record {
    ended = failed.ended;
    rose = Rose-after x0.faults x1.faults x2.faults up failed.rose;
    holds_not = held_not x0.holds x1.holds held failed.holds_not;
  }

  caused_taking : (end : SessionEnd) (taken : ℕ) (x0 x1 x2 : SourceState) (y0 y1 : SinkState) → EndsTaking end taken x1 x2 → x0.faults ≤ x1.faults → (x0.holds ≡ true → x1.holds ≡ true)
      → (0 < taken → x1.ended ≡ false) → x1.faults ≡ x0.faults → y1.faults ≡ y0.faults → IsCaused end x0 x2 y0 y1
  caused_taking ends.Ended taken x0 x1 x2 y0 y1 cause up held still reads writes = (ended_since x0 x1 x2 cause reads held, writes)
  caused_taking (ends.Truncated missing) taken x0 x1 x2 y0 y1 cause up held still reads writes = (ended_since x0 x1 x2 cause reads held, writes)
  caused_taking (ends.BadFrame place len) taken x0 x1 x2 y0 y1 cause up held still reads writes = absurd cause
  caused_taking (ends.HelloRefused fault) taken x0 x1 x2 y0 y1 cause up held still reads writes = absurd cause
  caused_taking ends.ReadFault taken x0 x1 x2 y0 y1 cause up held still reads writes = (failed_since x0 x1 x2 cause up held, writes)
  caused_taking ends.WriteFault taken x0 x1 x2 y0 y1 cause up held still reads writes = absurd cause
  caused_taking ends.ByteLimit taken x0 x1 x2 y0 y1 cause up held still reads writes = (
    record { ended = ap (λ (s : SourceState). s.ended) cause.1 ∙ still (omega (arith, cause.0)); counts = ap (λ (s : SourceState). s.faults) cause.1 ∙ reads },
    writes,
  )
  caused_taking ends.NoMemory taken x0 x1 x2 y0 y1 cause up held still reads writes = (cause.counts ∙ reads, writes)

  pub take_ended : (a b : C) (s0 s1 : State) (x0 x1 x2 : SourceState) (y0 y1 : SinkState) (taken : ℕ) (end : SessionEnd) → Going stands seat cfg a b s0 x0 x1 y0 y1 taken
      → TakesPiece s0 s1 x1 x2 taken (Err end) → Served stands seat cfg a b x0 x2 y0 y1 end
  take_ended a b s0 s1 x0 x1 x2 y0 y1 taken end going takes =
      let serves : Serves cfg seat (going.input ++ takes.bytes) going.output (entries_of seat going.ran) end = record {
        ran = going.ran;
        entries_are = refl;
        runs = subst (λ (c : SessionCfg). Runs c session_manner (going.input ++ takes.bytes) going.output going.ran end) (takes.cfg ∙ going.cfg_is)
            (takes.continues going.input going.ran going.output going.counts going.stands_for);
      } in
      let caused : IsCaused end x0 x2 y0 y1 =
      caused_taking end taken x0 x1 x2 y0 y1 takes.cause going.takes.faults going.takes.holds going.is_open going.no_read_fault going.no_write_fault in
      record {
        input = going.input ++ takes.bytes;
        output = going.output;
        entries = entries_of seat going.ran;
        keeps = going.keeps;
        takes = SourceAdvances-then going.takes takes.gives;
        writes = going.writes;
        serves = serves;
        caused = caused;
        completes = completes cfg seat end x0 x2 y0 y1 (going.input ++ takes.bytes) going.output (entries_of seat going.ran) serves caused;
      }

  write_failed_since : (y0 y1 y2 : SinkState) → WriteHasFailed y1 y2 → y0.faults ≤ y1.faults → (y0.holds ≡ true → y1.holds ≡ true) → WriteHasFailed y0 y2
  write_failed_since y0 y1 y2 failed up held = record {
    rose = Rose-after y0.faults y1.faults y2.faults up failed.rose;
    holds_not = held_not y0.holds y1.holds held failed.holds_not;
  }

  caused_answering : (end : SessionEnd) (x0 x2 : SourceState) (y0 y1 y2 : SinkState) → EndsAnswering end y1 y2 → y0.faults ≤ y1.faults → (y0.holds ≡ true → y1.holds ≡ true)
      → IsStillOpen x0 x2 → y1.faults ≡ y0.faults → IsCaused end x0 x2 y0 y2
  caused_answering ends.Ended x0 x2 y0 y1 y2 cause up held still writes = absurd cause
  caused_answering (ends.Truncated missing) x0 x2 y0 y1 y2 cause up held still writes = absurd cause
  caused_answering (ends.BadFrame place len) x0 x2 y0 y1 y2 cause up held still writes = (still, cause ∙ writes)
  caused_answering (ends.HelloRefused fault) x0 x2 y0 y1 y2 cause up held still writes = (still, cause ∙ writes)
  caused_answering ends.ReadFault x0 x2 y0 y1 y2 cause up held still writes = absurd cause
  caused_answering ends.WriteFault x0 x2 y0 y1 y2 cause up held still writes = (still, write_failed_since y0 y1 y2 cause up held)
  caused_answering ends.ByteLimit x0 x2 y0 y1 y2 cause up held still writes = absurd cause
  caused_answering ends.NoMemory x0 x2 y0 y1 y2 cause up held still writes = (still.counts, cause ∙ writes)

  pub answer_ended : {A : Type 0} (a b c : C) (s0 s1 s2 : State) (x0 x1 x2 : SourceState) (y0 y1 y2 : SinkState) (taken taken' : ℕ) (end : SessionEnd) → Going stands seat cfg a b s0 x0 x1 y0 y1 taken
      → TakesPiece s0 s1 x1 x2 taken (Ok taken') → AnswersAll {A = A} stands seat b c s1 s2 y1 y2 (Err end) → Served stands seat cfg a c x0 x2 y0 y2 end
  answer_ended a b c s0 s1 s2 x0 x1 x2 y0 y1 y2 taken taken' end going takes answers =
      let took = takes.continues going.input going.ran going.output going.counts going.stands_for in
      let serves : Serves cfg seat (going.input ++ takes.bytes) (going.output ++ answers.out) (entries_of seat (going.ran ++ answers.ran)) end = record {
        ran = going.ran ++ answers.ran;
        entries_are = refl;
        runs = subst (λ (c : SessionCfg). Runs c session_manner (going.input ++ takes.bytes) (going.output ++ answers.out) (going.ran ++ answers.ran) end) (answers.cfg ∙ takes.cfg ∙ going.cfg_is)
            (answers.continues (going.input ++ takes.bytes) going.ran going.output (omega (arith, took.0, takes.cause.1)) took.1);
      } in
      let caused : IsCaused end x0 x2 y0 y2 = caused_answering end x0 x2 y0 y1 y2 answers.cause going.writes.faults going.writes.holds
      (open_since x0 x1 x2 takes.cause.2 going.no_read_fault) going.no_write_fault in
      record {
        input = going.input ++ takes.bytes;
        output = going.output ++ answers.out;
        entries = entries_of seat (going.ran ++ answers.ran);
        keeps = joins_keeps stands seat a b c going.ran answers.ran going.keeps answers.keeps;
        takes = SourceAdvances-then going.takes takes.gives;
        writes = SinkAdvances-then going.writes answers.gets;
        serves = serves;
        caused = caused;
        completes = completes cfg seat end x0 x2 y0 y2 (going.input ++ takes.bytes) (going.output ++ answers.out) (entries_of seat (going.ran ++ answers.ran)) serves caused;
      }
