-- How a session's input, output, calls and end belong together.
use Rattle.std.specs.Prelude.{◌≡◌, ◌≢◌, ℕ, ◌+◌, ◌<◌, ◌≤◌, List, [], ◌∷◌, ◌++◌, length, Ok, Err}
use Rattle.std.specs.List.{flat_map}
use Rattle.ig_base.specs.declared.entry.Entry.{Entry}
use Rattle.ig_base.specs.Frames.{client, max_body, least_after, Begins, front, Incomplete, Bad}
use Rattle.ig_wire.specs.declared.version.Version.{Version}
use Rattle.ig_wire.specs.declared.hello.HelloFault.{HelloFault}
use Rattle.ig_wire.specs.Limits.{most_session_bytes}
use Rattle.ig_caches.specs.declared.call.Call.{Call}
use Rattle.ig_caches.specs.declared.answer.Answer.{Answer}
use Rattle.ig_deals.specs.declared.cfg.SessionCfg.{SessionCfg}
use Rattle.ig_deals.specs.declared.manner.Manner.{Manner}
use Rattle.ig_deals.specs.declared.end.SessionEnd.{SessionEnd}
use Rattle.ig_deals.specs.declared.end.SessionEnd.TheVariants as ends
use Rattle.ig_deals.specs.Hellos.{Greeting, greeting_of}
use Rattle.ig_deals.specs.Asks.{asks}
use Rattle.ig_deals.specs.Deals.{Ran, handed, gots, entries_of, calls}
use Rattle.ig_deals.specs.Telling.{session_manner}
use Rattle.ig_deals.specs.OutFrames.{out_frames}

-- ---- ends

abbrev pub IsAccepted : Greeting → Type 0
IsAccepted (Ok hello) = Unit {0}
IsAccepted (Err fault) = ⊥

-- a hello has come and was accepted
abbrev pub IsOpen : List (List ℕ) → Type 0
IsOpen [] = ⊥
IsOpen (hello ∷ bodies) = IsAccepted (greeting_of hello)

-- no hello was refused so far
abbrev pub IsGoing : List (List ℕ) → Type 0
IsGoing [] = Unit {0}
IsGoing (hello ∷ bodies) = IsAccepted (greeting_of hello)

-- the first body was refused for this reason, and no other was read
abbrev pub IsRefused : List (List ℕ) → HelloFault → Type 0
IsRefused bodies fault = (hello : List ℕ) × (bodies ≡ hello ∷ []) × (greeting_of hello ≡ Err fault)

-- no whole frame is left, and this many more bytes complete the next length or frame
pub record IsWaiting (bodies : List (List ℕ)) (after : List ℕ) (missing : ℕ) : Type 0 where
  pub going : IsGoing bodies
  pub part : front (least_after client bodies) max_body after ≡ Incomplete missing

-- Why a session ended, by its input, the bodies that it read, and the bytes of the input after them.
-- The ends for a write fault and for memory that ran out may come after any of them.
abbrev pub EndsBy : SessionEnd → List ℕ → List (List ℕ) → List ℕ → Type 0
EndsBy ends.Ended input bodies after = IsOpen bodies × (after ≡ []) × (length input < most_session_bytes)
EndsBy (ends.Truncated missing) input bodies after =
    IsWaiting bodies after missing × (IsOpen bodies → after ≢ []) × (length input < most_session_bytes)
EndsBy (ends.BadFrame place len) input bodies after =
    IsGoing bodies × (place + length after ≡ length input)
    × (front (least_after client bodies) max_body after ≡ Bad len)
EndsBy (ends.HelloRefused fault) input bodies after = IsRefused bodies fault
EndsBy ends.ReadFault input bodies after =
    (length input < most_session_bytes) × (missing : ℕ) × IsWaiting bodies after missing
EndsBy ends.ByteLimit input bodies after =
    (length input ≡ most_session_bytes) × (missing : ℕ) × IsWaiting bodies after missing
EndsBy ends.WriteFault input bodies after = Unit {0}
EndsBy ends.NoMemory input bodies after = Unit {0}

-- ---- the output

-- frames one after another
abbrev pub joined : List (List ℕ) → List ℕ
joined frames = flat_map (λ f. f) frames

-- the output is these frames, of which the last may be cut off
pub record ShowsPart (frames : List (List ℕ)) (output : List ℕ) : Type 0 where
  pub whole : List (List ℕ)
  pub last : List (List ℕ)
  pub prefix : List ℕ
  pub missing : List ℕ
  pub frames_are : frames ≡ whole ++ last
  pub at_most_one : length last ≤ 1
  pub cut : joined last ≡ prefix ++ missing
  pub output_is : output ≡ joined whole ++ prefix

-- the output is these frames, of which a write fault or a lack of memory may have cut off the last
abbrev pub Shows : SessionEnd → List (List ℕ) → List ℕ → Type 0
Shows ends.WriteFault frames output = ShowsPart frames output
Shows ends.NoMemory frames output = ShowsPart frames output
Shows end frames output = output ≡ joined frames

-- ---- the whole

-- A session took this input, wrote this output, handed out these calls and ended so: it read the bodies
-- that the input begins with, each call that they ask for was handed out once and in order, and the
-- output is one reply to each body, in order.
pub record Runs (cfg : SessionCfg) (manner_at : Version → Manner) (input output : List ℕ) (ran : List Ran) (end : SessionEnd) : Type 0 where
  pub bodies : List (List ℕ)
  pub after : List ℕ
  pub within : length input ≤ most_session_bytes
  pub begins : Begins client input bodies after
  pub ends_by : EndsBy end input bodies after
  pub handed_out : handed ran ≡ calls (asks bodies)
  pub shows : Shows end (out_frames cfg manner_at bodies (gots ran)) output

-- the same of a session of one seat, with the entries of its answered calls under the seat's number
pub record Serves (cfg : SessionCfg) (seat : ℕ) (input output : List ℕ) (entries : List (Entry Call Answer)) (end : SessionEnd) : Type 0 where
  pub ran : List Ran
  pub entries_are : entries ≡ entries_of seat ran
  pub runs : Runs cfg session_manner input output ran end
