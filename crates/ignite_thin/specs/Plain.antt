-- What a command over a source and a sink does, by its words.
use Rattle.std.specs.Prelude.{◌≡◌, ◌≢◌, ◌⊎◌, ℕ, Bool, true, false, List, [], ◌∷◌, Option, None, Some}
use Rattle.ig_base.specs.declared.entry.Entry.{Entry}
use Rattle.ig_base.specs.Frames.{client, Begins}
use Rattle.ig_link.specs.States.{SourceState, SinkState, Rose, SourceAdvances, SinkAdvances}
use Rattle.ig_caches.specs.declared.call.Call.{Call}
use Rattle.ig_caches.specs.declared.answer.Answer.{Answer}
use Rattle.ig_caches.specs.PlainCaches.{fresh_caches}
use Rattle.ig_caches.specs.Starts.{CanStart}
use Rattle.ig_caches.specs.Legal.{Legal}
use Rattle.ig_deals.specs.declared.cfg.SessionCfg.{SessionCfg}
use Rattle.ig_deals.specs.declared.end.SessionEnd.{SessionEnd}
use Rattle.ig_deals.specs.declared.end.SessionEnd.TheVariants as ends
use Rattle.ig_deals.specs.Serves.{IsOpen, Serves}
use Rattle.ig_session.specs.Serving.{IsCaused}
use Rattle.ignite_thin.specs.Words.{pipe_names, is_decode}
use Rattle.ignite_thin.specs.Decodes.{RunsDecode}
use Rattle.ignite_thin.specs.Statuses.{status_of}

-- node 0 of 1, with 1,024 partitions a cache
abbrev pub one_node : SessionCfg
one_node = record { node = 0; nodes = 1; parts = 1024 }

-- A source that has ended, no failed read and no failed write, an accepted hello, and no bytes after the last frame: then
-- the status is 0, or memory ran out.
abbrev pub Completes : SourceState → SourceState → SinkState → SinkState → List ℕ → ℕ → Type 0
Completes source source' sink sink' input status =
    (bodies : List (List ℕ)) → source'.ended ≡ true → ¬ (Rose source.faults source'.faults) → ¬ (Rose sink.faults sink'.faults)
    → Begins client input bodies [] → IsOpen bodies → (status ≡ 0) ⊎ (status ≡ 5)

-- One session was served over the source and the sink. There is one history of plain caches, legal from the named
-- caches without rows, that agrees with the input that was taken and the output that was written. The end has its
-- cause, and the status says the end. It is 0 where nothing stands in the way, memory aside.
pub record PipeRuns (names : List (List ℕ)) (source source' : SourceState) (sink sink' : SinkState) (status : ℕ) : Type 0 where
  pub end : SessionEnd
  pub input : List ℕ
  pub output : List ℕ
  pub entries : List (Entry Call Answer)
  pub legal : Legal (fresh_caches names) entries
  pub takes : SourceAdvances source source' input
  pub writes : SinkAdvances sink sink' output
  pub serves : Serves one_node 0 input output entries end
  pub caused : IsCaused end source source' sink sink'
  pub status_is : status ≡ status_of end
  pub completes : Completes source source' sink sink' input status
  pub named : end ≢ ends.NoMemory → CanStart names

-- the words are no command: nothing was read or written, and the status is 1
pub record IsUsage (source source' : SourceState) (sink sink' : SinkState) (status : ℕ) : Type 0 where
  pub status_is : status ≡ 1
  pub source_is : source' ≡ source
  pub sink_is : sink' ≡ sink

-- Where the words name caches with distinct identifiers, a session was served; else they are no command.
abbrev pub RunsPipe : Option (List (List ℕ)) → SourceState → SourceState → SinkState → SinkState → ℕ → Type 0
RunsPipe None source source' sink sink' status = IsUsage source source' sink sink' status
RunsPipe (Some names) source source' sink sink' status =
    PipeRuns names source source' sink sink' status ⊎ (¬ (CanStart names) × IsUsage source source' sink sink' status)

-- the same, by the words
abbrev pub RunsPipeWords : List (List ℕ) → SourceState → SourceState → SinkState → SinkState → ℕ → Type 0
RunsPipeWords words source source' sink sink' status = RunsPipe (pipe_names words) source source' sink sink' status

-- `decode`, or else what `pipe` does
abbrev pub RunsCommand : Bool → List (List ℕ) → SourceState → SourceState → SinkState → SinkState → ℕ → Type 0
RunsCommand true words source source' sink sink' status = RunsDecode source source' sink sink' status
RunsCommand false words source source' sink sink' status = RunsPipeWords words source source' sink sink' status

abbrev pub RunsPlain : List (List ℕ) → SourceState → SourceState → SinkState → SinkState → ℕ → Type 0
RunsPlain words source source' sink sink' status = RunsCommand (is_decode words) words source source' sink sink' status
