-- What serving a session does, as a whole and in each round of its loop.
use Rattle.std.specs.Prelude.{◌≡◌, ◌⊎◌, ℕ, ◌<◌, ◌≤◌, true, false, List, [], ◌++◌, length, Some, Result, Ok, Err}
use Rattle.ig_base.specs.declared.entry.Entry.{Entry}
use Rattle.ig_base.specs.Frames.{client, Begins}
use Rattle.ig_link.specs.States.{SourceState, SinkState, Rose, SourceAdvances, SinkAdvances}
use Rattle.ig_wire.specs.Limits.{most_session_bytes}
use Rattle.ig_caches.specs.declared.call.Call.{Call}
use Rattle.ig_caches.specs.declared.answer.Answer.{Answer}
use Rattle.ig_caches.specs.PlainCaches.{PlainCaches}
use Rattle.ig_deals.specs.declared.cfg.SessionCfg.{SessionCfg}
use Rattle.ig_deals.specs.declared.end.SessionEnd.{SessionEnd}
use Rattle.ig_deals.specs.declared.end.SessionEnd.TheVariants as ends
use Rattle.ig_deals.specs.Deals.{Got, Ran, entry_of, entries_of}
use Rattle.ig_deals.specs.Telling.{session_manner}
use Rattle.ig_deals.specs.Serves.{IsOpen, Runs, Serves}
use Rattle.ig_replies.specs.Showing.{waiting_none, bytes_left}
use Rattle.ig_session.specs.Histories.{StandsOn}
use Rattle.ig_session.specs.States.{State}
use Rattle.ig_session.specs.Comings.{IsPaused}
use Rattle.ig_session.specs.Soundness.{IsSound}
use Rattle.ig_session.specs.Steps.{answered, IsSpent}
use Rattle.ig_session.specs.StandsFor.{Stands}

-- a source that has ended without a failed read, with nothing left where its reads hold
pub record HasEnded (old new : SourceState) : Type 0 where
  pub ended : new.ended ≡ true
  pub counts : new.faults ≡ old.faults
  pub whole : old.holds ≡ true → new.left ≡ Some []

-- a source that hasn't ended, without a failed read
pub record IsStillOpen (old new : SourceState) : Type 0 where
  pub ended : new.ended ≡ false
  pub counts : new.faults ≡ old.faults

-- a source of which a read failed, which is counted, and never where its reads hold
pub record ReadHasFailed (old new : SourceState) : Type 0 where
  pub ended : new.ended ≡ false
  pub rose : Rose old.faults new.faults
  pub holds_not : old.holds ≡ false

-- a sink of which a write failed, which is counted, and never where its writes hold
pub record WriteHasFailed (old new : SinkState) : Type 0 where
  pub rose : Rose old.faults new.faults
  pub holds_not : old.holds ≡ false

-- a session that has answered all whole frames
pub record Pauses (state : State) (input : List ℕ) (ran : List Ran) (output : List ℕ) : Type 0 where
  pub stands : Stands state input ran [] output
  pub sound : IsSound state
  pub paused : IsPaused state
  pub none_out : state.out ≡ []

-- the session after it answered all whole frames, or after the end that came first
abbrev pub AfterAnswers : {A : Type 0} → Result A SessionEnd → State → List ℕ → List Ran → List ℕ → Type 0
AfterAnswers (Ok done) new input ran output = Pauses new input ran output
AfterAnswers (Err end) new input ran output = Runs new.cfg session_manner input output ran end

-- the ends that answering has, with the cause of a write fault
abbrev pub EndsAnswering : SessionEnd → SinkState → SinkState → Type 0
EndsAnswering ends.Ended old new = ⊥
EndsAnswering (ends.Truncated missing) old new = ⊥
EndsAnswering (ends.BadFrame place len) old new = new.faults ≡ old.faults
EndsAnswering (ends.HelloRefused fault) old new = new.faults ≡ old.faults
EndsAnswering ends.ReadFault old new = ⊥
EndsAnswering ends.WriteFault old new = WriteHasFailed old new
EndsAnswering ends.ByteLimit old new = ⊥
EndsAnswering ends.NoMemory old new = new.faults ≡ old.faults

abbrev pub HasAnswered : {A : Type 0} → Result A SessionEnd → SinkState → SinkState → Type 0
HasAnswered (Ok done) old new = new.faults ≡ old.faults
HasAnswered (Err end) old new = EndsAnswering end old new

-- the first of these bytes were written, and then a write failed
pub record SentFirst (bytes : List ℕ) (sink sink' : SinkState) : Type 0 where
  pub prefix : List ℕ
  pub missing : List ℕ
  pub cut : bytes ≡ prefix ++ missing
  pub gets : SinkAdvances sink sink' prefix
  pub fault : WriteHasFailed sink sink'

-- all that waited was written, or the first bytes of it
abbrev pub SendsWaiting : {A : Type 0} → State → State → SinkState → SinkState → Result A SessionEnd → Type 0
SendsWaiting old new sink sink' (Ok done) =
    SinkAdvances sink sink' (bytes_left old.waiting) × (sink'.faults ≡ sink.faults)
    × (new ≡ record old { waiting = waiting_none })
SendsWaiting old new sink sink' (Err end) =
    (end ≡ ends.WriteFault) × (new.cfg ≡ old.cfg) × SentFirst (bytes_left old.waiting) sink sink'

-- a call was run, and its answer given to the session
abbrev pub GivesAnswer : {A : Type 0} → State → State → Got → Result A SessionEnd → Type 0
GivesAnswer old new got (Ok done) = new ≡ answered old got
GivesAnswer old new got (Err end) = (end ≡ ends.NoMemory) × IsSpent old new []

-- the whole frames were answered: these calls were run, and these bytes were written
pub record AnswersAll {A C : Type 0} (stands : C → PlainCaches → List (Entry Call Answer) → Type 0) (seat : ℕ) (caller caller' : C) (old new : State) (sink sink' : SinkState)
    (result : Result A SessionEnd) : Type 0 where
  pub ran : List Ran
  pub out : List ℕ
  pub keeps : StandsOn stands caller caller' (entries_of seat ran)
  pub gets : SinkAdvances sink sink' out
  pub cause : HasAnswered result sink sink'
  pub cfg : new.cfg ≡ old.cfg
  pub continues : (input : List ℕ) (results : List Ran) (output : List ℕ) → length input ≤ most_session_bytes
      → Stands old input results [] output → AfterAnswers result new input (results ++ ran) (output ++ out)

-- the ends that taking a piece has, with the cause of each
abbrev pub EndsTaking : SessionEnd → ℕ → SourceState → SourceState → Type 0
EndsTaking ends.Ended taken old new = HasEnded old new
EndsTaking (ends.Truncated missing) taken old new = HasEnded old new
EndsTaking (ends.BadFrame place len) taken old new = ⊥
EndsTaking (ends.HelloRefused fault) taken old new = ⊥
EndsTaking ends.ReadFault taken old new = ReadHasFailed old new
EndsTaking ends.WriteFault taken old new = ⊥
EndsTaking ends.ByteLimit taken old new = (taken ≡ most_session_bytes) × (new ≡ old)
EndsTaking ends.NoMemory taken old new = IsStillOpen old new

abbrev pub HasTaken : Result ℕ SessionEnd → ℕ → SourceState → SourceState → Type 0
HasTaken (Ok taken') taken old new = (taken < taken') × (taken' ≤ most_session_bytes) × IsStillOpen old new
HasTaken (Err end) taken old new = EndsTaking end taken old new

abbrev pub AfterTaking : Result ℕ SessionEnd → State → List ℕ → List Ran → List ℕ → Type 0
AfterTaking (Ok taken) new input ran output = (length input ≡ taken) × Stands new input ran [] output
AfterTaking (Err end) new input ran output = Runs new.cfg session_manner input output ran end

-- a piece of the input was read: these bytes
pub record TakesPiece (old new : State) (source source' : SourceState) (taken : ℕ) (result : Result ℕ SessionEnd) : Type 0 where
  pub bytes : List ℕ
  pub gives : SourceAdvances source source' bytes
  pub cause : HasTaken result taken source source'
  pub cfg : new.cfg ≡ old.cfg
  pub continues : (input : List ℕ) (ran : List Ran) (output : List ℕ) → length input ≡ taken → Stands old input ran [] output
      → AfterTaking result new (input ++ bytes) ran output

-- What each end says of the source. The count of read faults is unchanged except at a read fault.
abbrev pub SourceAt : SessionEnd → SourceState → SourceState → Type 0
SourceAt ends.Ended old new = HasEnded old new
SourceAt (ends.Truncated missing) old new = HasEnded old new
SourceAt (ends.BadFrame place len) old new = IsStillOpen old new
SourceAt (ends.HelloRefused fault) old new = IsStillOpen old new
SourceAt ends.ReadFault old new = ReadHasFailed old new
SourceAt ends.WriteFault old new = IsStillOpen old new
SourceAt ends.ByteLimit old new = IsStillOpen old new
SourceAt ends.NoMemory old new = new.faults ≡ old.faults

-- What each end says of the sink. The count of write faults is unchanged except at a write fault.
abbrev pub SinkAt : SessionEnd → SinkState → SinkState → Type 0
SinkAt ends.Ended old new = new.faults ≡ old.faults
SinkAt (ends.Truncated missing) old new = new.faults ≡ old.faults
SinkAt (ends.BadFrame place len) old new = new.faults ≡ old.faults
SinkAt (ends.HelloRefused fault) old new = new.faults ≡ old.faults
SinkAt ends.ReadFault old new = new.faults ≡ old.faults
SinkAt ends.WriteFault old new = WriteHasFailed old new
SinkAt ends.ByteLimit old new = new.faults ≡ old.faults
SinkAt ends.NoMemory old new = new.faults ≡ old.faults

-- the cause of each end
abbrev pub IsCaused : SessionEnd → SourceState → SourceState → SinkState → SinkState → Type 0
IsCaused end source source' sink sink' = SourceAt end source source' × SinkAt end sink sink'

-- Where the source has ended, a hello was accepted and no bytes come after the last frame, the session ended well, or
-- memory ran out.
abbrev pub Completes : SourceState → List ℕ → SessionEnd → Type 0
Completes source' input end =
    (bodies : List (List ℕ)) → source'.ended ≡ true → Begins client input bodies [] → IsOpen bodies
    → (end ≡ ends.Ended) ⊎ (end ≡ ends.NoMemory)

-- A session was served over a source and a sink: it took this input, wrote this output and added these entries to
-- whatever history the caller had. The end has its cause, and is the good one where nothing stands in the way, memory
-- aside.
pub record Served {C : Type 0} (stands : C → PlainCaches → List (Entry Call Answer) → Type 0) (seat : ℕ) (cfg : SessionCfg) (caller caller' : C) (source source' : SourceState) (sink sink' : SinkState)
    (end : SessionEnd) : Type 0 where
  pub input : List ℕ
  pub output : List ℕ
  pub entries : List (Entry Call Answer)
  pub keeps : StandsOn stands caller caller' entries
  pub takes : SourceAdvances source source' input
  pub writes : SinkAdvances sink sink' output
  pub serves : Serves cfg seat input output entries end
  pub caused : IsCaused end source source' sink sink'
  pub completes : Completes source' input end

-- a session that goes on: what was taken, written and run so far, without a failed read or write
pub record Going {C : Type 0} (stands : C → PlainCaches → List (Entry Call Answer) → Type 0) (seat : ℕ) (cfg : SessionCfg) (caller caller' : C) (state : State) (source source' : SourceState) (sink sink' : SinkState)
    (taken : ℕ) : Type 0 where
  pub input : List ℕ
  pub output : List ℕ
  pub ran : List Ran
  pub keeps : StandsOn stands caller caller' (entries_of seat ran)
  pub takes : SourceAdvances source source' input
  pub writes : SinkAdvances sink sink' output
  pub cfg_is : state.cfg ≡ cfg
  pub counts : length input ≡ taken
  pub within : taken ≤ most_session_bytes
  pub is_open : 0 < taken → source'.ended ≡ false
  pub no_read_fault : source'.faults ≡ source.faults
  pub no_write_fault : sink'.faults ≡ sink.faults
  pub stands_for : Stands state input ran [] output
  pub sound : IsSound state
  pub paused : IsPaused state
  pub none_out : state.out ≡ []
