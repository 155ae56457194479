-- What a retired link of a channel shows, beside what it was at the channel's start.
use Rattle.std.specs.Prelude.{◌≡◌, ℕ, ◌+◌, ◌-◌, ◌^◌, ◌≤◌, ◌⊎◌, true, List, [], ◌∷◌, ◌++◌, length, nat_lt, Option, None, Some, if◌then◌else◌}
use Rattle.std.specs.Io.KnownBytes.{Appends}
use Rattle.ig_link.specs.States.{Rose}
use Rattle.ig_link.specs.declared.link.Retired.{Retired}
use Rattle.ig_wire.specs.Versions.{server_side}
use Rattle.ig_client.specs.Cutting.{cut, asked}
use Rattle.ig_client.specs.Pairs.{Pair, sent, sent_bytes, pumped, broken_frame, answers_break, is_read_fault, is_write_fault, is_end}
use Rattle.ig_client.specs.declared.ask.ChannelStart.{ChannelStart}
use Rattle.ig_client.specs.declared.ask.ChannelGot.TheVariants as got
use Rattle.ig_client.specs.Pairs.{GotData}

-- after these pairs this answer is that of a pump that gave no bytes while a call was pending
abbrev pub idle : ChannelStart → List Pair → GotData → ℕ
idle start before (got.Pumped []) =
    if nat_lt (length (asked (sent before) (cut (server_side start.version).later (pumped before)).bodies)) (sent before) then 1 else 0
idle start before _ = 0

-- how many such pumps there are, after these pairs
abbrev pub idle_pumps : ChannelStart → List Pair → List Pair → ℕ
idle_pumps start before [] = 0
idle_pumps start before (p ∷ ps) = idle start before p.1 + idle_pumps start (before ++ p ∷ []) ps

-- What was written since the start: the frames of the accepted submits, in order, and behind them a prefix
-- of the frame of a submit that a write fault broke.
abbrev pub IsWritten : List Pair → List ℕ → Type 0
IsWritten ps written =
    (part : List ℕ) × (more : List ℕ) × (written ≡ sent_bytes ps ++ part) × (broken_frame 0 ps ≡ part ++ more)

-- A count of faults rose where a pair answers that fault; the link ended where a pair answers its end; each
-- idle pump was counted as a pause, or the count is saturated; and where the link tells its bytes, it gave these and was written those.
pub record ShownSince (start : ChannelStart) (shown : Retired) (bytes : List ℕ) (ps : List Pair) : Type 0 where
  pub reads : answers_break is_read_fault ps ≡ true → Rose start.read_faults shown.read_faults
  pub writes : answers_break is_write_fault ps ≡ true → Rose start.write_faults shown.write_faults
  pub ended : answers_break is_end ps ≡ true → shown.ended ≡ true
  pub pauses : (start.pauses + idle_pumps start [] ps ≤ shown.pauses) ⊎ (2 ^ 64 - 1 ≤ shown.pauses)
  pub taken : Appends start.taken shown.taken bytes
  pub written : (shown.written ≡ None) ⊎ ((w : List ℕ) × IsWritten ps w × Appends start.written shown.written w)
