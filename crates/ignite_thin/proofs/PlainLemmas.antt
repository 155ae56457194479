-- That a command does what its words ask for.
use Rattle.std.proofs.Common.{◌≡◌, ◌∙◌, ◌⊎◌, inl, inr, ℕ, List, [], Option, Some, refl, sym, ap, subst, arith}
use Rattle.ig_link.specs.States.{SourceState, SinkState}
use Rattle.ig_link.proofs.StateLemmas.{SourceAdvances-nothing, SinkAdvances-nothing}
use Rattle.ig_base.specs.Frames.{client}
use Rattle.ig_base.proofs.FrameLemmas.{Begins-start}
use Rattle.ig_caches.specs.PlainCaches.{PlainCaches, fresh_caches}
use Rattle.ig_caches.specs.declared.fault.StartFault.{StartFault}
use Rattle.ig_caches.specs.declared.fault.StartFault.TheVariants as fault
use Rattle.ig_caches.specs.Starts.{CanStart, IsStartFault}
use Rattle.ig_deals.specs.declared.end.SessionEnd.{SessionEnd}
use Rattle.ig_deals.specs.declared.end.SessionEnd.TheVariants as ends
use Rattle.ig_session.specs.StandsAlone.{StandsAlone}
use Rattle.ig_session.specs.Serving.{Served}
use Rattle.ig_session.specs.declared.caller.Alone.{Alone}
use Rattle.ignite_thin.specs.Words.{pipe_names}
use Rattle.ignite_thin.specs.Statuses.{status_of, status_of_start}
use Rattle.ignite_thin.specs.Plain.{one_node, PipeRuns, IsUsage, RunsPipe, RunsPipeWords}

-- a session that ended well, or ran out of memory, has this status
status_at : (end : SessionEnd) (status : ℕ) → status ≡ status_of end → (end ≡ ends.Ended) ⊎ (end ≡ ends.NoMemory) → (status ≡ 0) ⊎ (status ≡ 5)
status_at end status is (inl well) = inl (is ∙ ap status_of well)
status_at end status is (inr lack) = inr (is ∙ ap status_of lack)

-- what was served by a caller over caches without rows has a legal history
pub pipe_runs : {E : Type 0} (caches : E → PlainCaches) (caller caller' : Alone E) (names : List (List ℕ)) (source source' : SourceState) (sink sink' : SinkState) (end : SessionEnd) (status : ℕ)
    → StandsAlone caches caller (fresh_caches names) [] → CanStart names → Served (StandsAlone caches) 0 one_node caller caller' source source' sink sink' end → status ≡ status_of end
    → PipeRuns names source source' sink sink' status
pipe_runs caches caller caller' names source source' sink sink' end status stood can served is = record {
  end = end;
  input = served.input;
  output = served.output;
  entries = served.entries;
  legal = (served.keeps.keeps (fresh_caches names) [] stood).legal;
  takes = served.takes;
  writes = served.writes;
  serves = served.serves;
  caused = served.caused;
  status_is = is;
  completes = λ bodies ended no_read no_write begins is_open. status_at end status is (served.completes bodies ended begins is_open);
  named = λ no. can;
}

-- out of memory before anything was read
pub pipe_none : (names : List (List ℕ)) (source : SourceState) (sink : SinkState) → PipeRuns names source source sink sink 5
pipe_none names source sink = record {
  end = ends.NoMemory;
  input = [];
  output = [];
  entries = [];
  legal = tt;
  takes = SourceAdvances-nothing source;
  writes = SinkAdvances-nothing sink;
  serves = record {
    ran = [];
    entries_are = refl;
    runs = record {
      bodies = [];
      after = [];
      within = omega arith;
      begins = Begins-start client [];
      ends_by = tt;
      handed_out = refl;
      shows = record { whole = []; last = []; prefix = []; missing = []; frames_are = refl; at_most_one = omega arith; cut = refl; output_is = refl };
    };
  };
  caused = (refl, refl);
  status_is = refl;
  completes = λ bodies ended no_read no_write begins is_open. inr refl;
  named = λ no. absurd (no refl);
}

pub named : (words names : List (List ℕ)) (source source' : SourceState) (sink sink' : SinkState) (status : ℕ) → Some names ≡ pipe_names words
    → PipeRuns names source source' sink sink' status → RunsPipeWords words source source' sink sink' status
named words names source source' sink sink' status e runs = subst (λ (n : Option (List (List ℕ))). RunsPipe n source source' sink sink' status) e (inl runs)

-- names with which no caches start are no command
refused : (words names : List (List ℕ)) (source : SourceState) (sink : SinkState) → Some names ≡ pipe_names words → ¬ (CanStart names) → RunsPipeWords words source source sink sink 1
refused words names source sink e cannot =
    subst (λ (n : Option (List (List ℕ))). RunsPipe n source source sink sink 1) e (inr (cannot, record { status_is = refl; source_is = refl; sink_is = refl }))

-- no caches started: for lack of memory, or since the names are refused
pub not_started : (words names : List (List ℕ)) (source : SourceState) (sink : SinkState) (f : StartFault) → Some names ≡ pipe_names words → IsStartFault names f → RunsPipeWords words source source sink sink (status_of_start f)
not_started words names source sink fault.TooMany e is = refused words names source sink e (λ can. omega (arith, is, can.few))
not_started words names source sink (fault.Empty at) e is = refused words names source sink e (λ can. can.no_empty at is.1.here)
not_started words names source sink (fault.Taken at) e is = refused words names source sink e (λ can. can.distinct at is.2.here)
not_started words names source sink fault.NoMemory e is = named words names source source sink sink 5 e (pipe_none names source sink)
