-- What a channel stands for: its start, and what it was asked and answered since.
use Rattle.std.specs.Prelude.{◌≡◌, ℕ, ◌+◌, ◌-◌, ◌^◌, ◌≤◌, ◌⊎◌, ℤ, Bool, true, false, List, [], ◌∷◌, ◌++◌, length, min, Option, None, Some, Result, Ok, Err, if◌then◌else◌}
use Rattle.std.specs.Io.KnownBytes.{Appends, Consumes}
use Rattle.std.specs.FinMap as map
use Rattle.std.specs.List.{find, flat_map, list_any}
use Rattle.ig_base.specs.Numbers.{AreBytes}
use Rattle.ig_base.specs.Frames.{Frame, Incomplete, front, max_body}
use Rattle.ig_link.specs.States.{SourceState, SinkState, Rose}
use Rattle.ig_wire.specs.declared.version.Version.{Version}
use Rattle.ig_client.specs.PendingState.{PendingState, reply_to}
use Rattle.ig_client.specs.Cutting.{Cutting, cut, asked, was_made, has_id}
use Rattle.ig_client.specs.Pairs.{Pair, GotData, sent, first_break, was_taken, was_closed, answers_break, is_read_fault, is_write_fault, is_end}
use Rattle.ig_client.specs.LinkSince.{IsWritten, idle_pumps}
use Rattle.ig_client.specs.ChannelRun.{AllAsked, EachFollows, given, least_of, filed_bodies, reply_among}
use Rattle.ig_client.specs.Plain.{any_start}
use Rattle.ig_client.specs.declared.fault.ChannelFault.{ChannelFault}
use Rattle.ig_client.specs.declared.fault.ChannelFault.TheVariants as fault
use Rattle.ig_client.specs.declared.ask.ChannelAsk.{ChannelAsk}
use Rattle.ig_client.specs.declared.ask.ChannelAsk.TheVariants as ask
use Rattle.ig_client.specs.declared.ask.ChannelGot.TheVariants as got
use Rattle.ig_client.specs.declared.ask.ChannelStart.{ChannelStart}

-- what is kept of a call whose reply has this body, if it came, where n calls were made
abbrev pub reply_or : ℕ → ℤ → Option (List ℕ) → Option (Option (List ℕ))
reply_or n id (Some body) = Some (Some (Frame body))
reply_or n id None = if was_made n id then Some None else None

-- what is kept of a call: nothing if it wasn't made or its reply was taken, else the reply if it came
abbrev pub kept_of : ℕ → List (List ℕ) → Bool → ℤ → Option (Option (List ℕ))
kept_of n bodies was id = if was then None else reply_or n id (find (has_id id) bodies)

-- What a channel without its link keeps until it broke, where n calls were made, the stream is cut so, and
-- the replies to some calls were taken: the calls that are pending, the replies that weren't taken, and the
-- bytes after the last frame, which are less than a frame. All frames were asked for.
pub record KeepsCalls (least n : ℕ) (stream : Cutting) (taken : ℤ → Bool) (c : PendingState) : Type 0 where
  pub last_is : c.last ≡ n
  pub waiting : c.waiting + length stream.bodies ≡ n
  pub calls : (id : ℤ) → map.get c.replies id ≡ kept_of n stream.bodies (taken id) id
  pub all_asked : AllAsked n stream
  pub took : (id : ℤ) → taken id ≡ true → list_any (has_id id) stream.bodies ≡ true
  pub place : c.place ≡ min (length (flat_map Frame stream.bodies)) (2 ^ 64 - 1)
  pub part : c.part ≡ stream.rest
  pub missing : (n : ℕ) × (front least max_body stream.rest ≡ Incomplete n)

-- What it keeps after these pairs: all replies that weren't taken, and until it broke the calls too. A submit
-- that a write fault broke may have left a call that no reply will come to.
pub record Keeps (start : ChannelStart) (bytes : List ℕ) (ps : List Pair) (c : PendingState) : Type 0 where
  pub least : c.least ≡ least_of start
  pub down : c.down ≡ first_break ps
  pub replies : (id : ℤ) → reply_to id c ≡ reply_among (filed_bodies start bytes ps) (was_taken id ps) id
  pub calls : first_break ps ≡ None → KeepsCalls (least_of start) (sent ps) (cut (least_of start) bytes) (λ id. was_taken id ps) c
  pub are_bytes : AreBytes bytes

-- What a link is as a source: its counts of faults and pauses rose and it ended as the pairs say, and it gave
-- these bytes.
pub record SourceIs (start : ChannelStart) (bytes : List ℕ) (ps : List Pair) (source : SourceState) : Type 0 where
  pub reads : answers_break is_read_fault ps ≡ true → Rose start.read_faults source.faults
  pub ended : answers_break is_end ps ≡ true → source.ended ≡ true
  pub pauses : (start.pauses + idle_pumps start [] ps ≤ source.pauses) ⊎ (2 ^ 64 - 1 ≤ source.pauses)
  pub taken : Appends start.taken source.taken bytes
  pub left : Consumes start.left source.left bytes
  pub untold : start.left ≡ None → source.left ≡ None
  pub faults : start.read_faults ≤ source.faults
  pub holds : start.reads_hold ≡ true → source.holds ≡ true

-- What it is as a sink: its count of faults rose as the pairs say, and while it tells its bytes it was
-- written those that the pairs sent.
pub record SinkIs (start : ChannelStart) (ps : List Pair) (sink : SinkState) : Type 0 where
  pub writes : answers_break is_write_fault ps ≡ true → Rose start.write_faults sink.faults
  pub written : sink.tells ≡ true → (w : List ℕ) × IsWritten ps w × Appends start.written sink.written w
  pub faults : start.write_faults ≤ sink.faults
  pub holds : start.writes_hold ≡ true → sink.holds ≡ true

-- a link that is there is as the pairs say, and it is there until the channel was closed
abbrev pub LinkStands : {L : Type 0} → (L → SourceState) → (L → SinkState) → ChannelStart → List ℕ → List Pair → Option L → Type 0
LinkStands source sink start bytes ps (Some link) =
    (was_closed ps ≡ false) × SourceIs start bytes ps (source link) × SinkIs start ps (sink link)
LinkStands source sink start bytes ps None = was_closed ps ≡ true

-- The channel without its link, and the link until it was closed, stand for this start and these pairs: each
-- pair may follow those before it, over these bytes. `source` and `sink` say what the link is seen as.
pub record ChannelStands {L : Type 0} (source : L → SourceState) (sink : L → SinkState) (c : PendingState) (link : Option L) (start : ChannelStart) (ps : List Pair) : Type 0 where
  pub bytes : List ℕ
  pub last : List ℕ
  pub given_are : bytes ≡ given last ps
  pub each : (l : List ℕ) → bytes ≡ given l ps → EachFollows start l [] ps
  pub keeps : Keeps start bytes ps c
  pub link_is : LinkStands source sink start bytes ps link

-- the start of a channel of this version over a link in this state
abbrev pub start_with : Version → SourceState → SinkState → ChannelStart
start_with version source sink = record {
  version = version;
  taken = source.taken;
  left = source.left;
  written = if sink.tells then sink.written else None;
  read_faults = source.faults;
  write_faults = sink.faults;
  pauses = source.pauses;
  reads_hold = source.holds;
  writes_hold = sink.holds;
}

-- the start of a channel over this link, if it has one
abbrev pub start_of : {L : Type 0} → Version → (L → SourceState) → (L → SinkState) → Option L → ChannelStart
start_of version source sink (Some link) = start_with version (source link) (sink link)
start_of version source sink None = any_start

-- ---- the calls of a channel, as pairs

-- the pair of a submit; none where memory ran out
abbrev pub submit_pair : ChannelAsk → (ChannelFault → GotData) → Result ℤ ChannelFault → Option Pair
submit_pair asks refused (Ok id) = Some (asks, got.Sent id)
submit_pair asks refused (Err fault.NoMemory) = None
submit_pair asks refused (Err cause) = Some (asks, refused cause)

abbrev pub pump_pair : Result (List ℕ) ChannelFault → Option Pair
pump_pair (Ok bytes) = Some (ask.Pump, got.Pumped bytes)
pump_pair (Err fault.NoMemory) = None
pump_pair (Err cause) = Some (ask.Pump, got.NotPumped cause)

abbrev pub Standing : Type 1
Standing = ChannelStart → List Pair → Type 0

-- what it stood for before, it now stands for with this pair, if there is one
abbrev pub Gains : Standing → Standing → Option Pair → Type 0
Gains old new (Some pair) = (start : ChannelStart) (ps : List Pair) → old start ps → new start (ps ++ pair ∷ [])
Gains old new None = (start : ChannelStart) (ps : List Pair) → old start ps → new start ps
