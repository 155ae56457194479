-- What contracts see of a channel without its link: the calls whose replies weren't taken, and the frame
-- that is being read.
use Rattle.std.specs.Prelude.{◌≡◌, ℕ, ◌+◌, ◌-◌, ◌^◌, ◌<◌, min, ℤ, pos, List, [], ◌∷◌, ◌++◌, length, nat_lt, nat_le, Bool, true, false, Option, None, Some, Result, Ok, Err, if◌then◌else◌}
use Rattle.std.specs.Option.{unwrap_or}
use Rattle.std.specs.Ordering.{int_cmp}
use Rattle.std.specs.Int.{w64}
use Rattle.std.specs.FinMap as map
use Rattle.std.specs.FinMap.{FinMap}
use Rattle.ig_base.specs.Numbers.{number_at}
use Rattle.ig_base.specs.Frames.{Frame, Front, Body, Bad, Incomplete, front, max_body}
use Rattle.ig_wire.specs.Limits.{most_pending_calls, piece_bytes}
use Rattle.ig_client.specs.declared.fault.Break.{Break}
use Rattle.ig_client.specs.declared.fault.Break.TheVariants.{BadFrame, Unasked}
use Rattle.ig_client.specs.declared.fault.ChannelFault.{ChannelFault}
use Rattle.ig_client.specs.declared.fault.ChannelFault.TheVariants as fault

-- the calls by identifier: each with the frame of its reply, if it came
abbrev pub Replies : Type 0
Replies = FinMap int_cmp (Option (List ℕ))

-- the calls of a list of entries
abbrev pub map_of : List (ℤ × Option (List ℕ)) → Replies
map_of es = map.from_entries es

pub record PendingState : Type 0 where
  -- the least length of a reply's body
  pub least : ℕ
  -- the identifier that was given last, 0 if none was
  pub last : ℕ
  -- how many calls are pending
  pub waiting : ℕ
  -- the calls whose replies weren't taken
  pub replies : Replies
  -- the offset of the frame that is being read, in what the server sent after its reply to the hello; it
  -- saturates
  pub place : ℕ
  -- the bytes of this frame that came
  pub part : List ℕ
  -- for how many more bytes of it there is room
  pub room : ℕ
  -- how the channel broke, if it did
  pub down : Option Break

-- no call was made, and nothing was read
abbrev pub no_calls : ℕ → PendingState
no_calls least = record {
  least = least;
  last = 0;
  waiting = 0;
  replies = map.empty;
  place = 0;
  part = [];
  room = 0;
  down = None;
}

-- ---- a new call

-- the greatest identifier
abbrev pub last_id : ℕ
last_id = 2 ^ 63 - 1

-- The identifier of the next call of a channel that broke, if it did, gave `last` identifiers, and has
-- `waiting` pending calls. Or why there is none: it broke before; all identifiers were used; as many calls
-- are pending as may be.
abbrev pub next_after : Option Break → ℕ → ℕ → Result ℤ ChannelFault
next_after (Some cause) last waiting = Err (fault.Down cause)
next_after None last waiting =
    if nat_lt last last_id then (if nat_lt waiting most_pending_calls then Ok (pos (last + 1))
    else Err fault.Full) else Err fault.Spent

abbrev pub next_id : PendingState → Result ℤ ChannelFault
next_id c = next_after c.down c.last c.waiting

-- with a call under the next identifier, which is pending
abbrev pub with_call : PendingState → PendingState
with_call c = record c {
  last = c.last + 1;
  waiting = c.waiting + 1;
  replies = map.insert c.replies (pos (c.last + 1)) None;
}

-- the identifier of the next call, if the body of its frame isn't above the limit
abbrev pub offered : (ℤ → List ℕ) → Result ℤ ChannelFault → Result ℤ ChannelFault
offered body (Err cause) = Err cause
offered body (Ok id) = if nat_le (length (body id)) max_body then Ok id else Err fault.TooLong

-- the answer is this refusal, or memory ran out
abbrev pub OrNoMemory : Result ℤ ChannelFault → ChannelFault → Type 0
OrNoMemory answer fault.NoMemory = Unit {0}
OrNoMemory answer cause = answer ≡ Err cause

-- A call is offered: it gets the next identifier, its frame is appended, and it is pending. Or it is
-- refused, or memory runs out, and nothing changed.
abbrev pub Offers : (ℤ → List ℕ) → PendingState → PendingState → List ℕ → List ℕ → Result ℤ ChannelFault → Type 0
Offers body old new out out' (Ok id) =
    (offered body (next_id old) ≡ Ok id) × (new ≡ with_call old) × (out' ≡ out ++ Frame (body id))
Offers body old new out out' (Err cause) =
    OrNoMemory (offered body (next_id old)) cause × (new ≡ old) × (out' ≡ out)

-- ---- what comes

abbrev pub missing_of : Front → ℕ
missing_of (Incomplete n) = n
missing_of (Bad n) = 0
missing_of (Body body rest) = 0

-- how many bytes are read next: up to the end of the length, or of the frame
abbrev pub next_read : PendingState → ℕ
next_read c = min piece_bytes (missing_of (front c.least max_body c.part))

abbrev pub with_room : PendingState → PendingState
with_room c = record c { room = next_read c }

-- the identifier in a reply's body
abbrev pub id_of : List ℕ → ℤ
id_of body = unwrap_or (number_at w64 body 0) (pos 0)

-- whether the call has no reply yet
abbrev pub is_waiting : Option (Option (List ℕ)) → Bool
is_waiting None = false
is_waiting (Some None) = true
is_waiting (Some (Some frame)) = false

-- the channel broke
abbrev pub broken : Break → PendingState → PendingState
broken cause c = record c { down = Some cause }

-- the frame that was being read is the reply to this call
abbrev pub with_reply : ℤ → PendingState → PendingState
with_reply id c = record c {
  waiting = c.waiting - 1;
  replies = map.insert c.replies id (Some c.part);
  place = min (c.place + length c.part) (2 ^ 64 - 1);
  part = [];
}

-- with what the frame's bytes are now: less than a frame; a length out of range; or a frame, which is the
-- reply to a pending call or wasn't asked for
abbrev pub with_front : Front → PendingState → PendingState
with_front (Incomplete n) c = c
with_front (Bad n) c = broken (BadFrame c.place n) c
with_front (Body body rest) c =
    if is_waiting (map.get c.replies (id_of body)) then with_reply (id_of body) c else broken (Unasked (id_of body)) c

-- with more bytes of the frame
abbrev pub with_bytes : List ℕ → PendingState → PendingState
with_bytes piece c = record c { part = c.part ++ piece; room = 0 }

abbrev pub filed : List ℕ → PendingState → PendingState
filed piece c = with_front (front c.least max_body (c.part ++ piece)) (with_bytes piece c)

-- how it broke, or nothing
abbrev pub unless_broken : Option Break → Result (Unit {0}) Break
unless_broken None = Ok tt
unless_broken (Some cause) = Err cause

-- ---- taking a reply

abbrev pub came : Option (Option (List ℕ)) → Option (List ℕ)
came None = None
came (Some reply) = reply

-- the reply to the call with this identifier, if it came and wasn't taken
abbrev pub reply_to : ℤ → PendingState → Option (List ℕ)
reply_to id c = came (map.get c.replies id)

-- the calls without the one whose reply is taken, if one is
abbrev pub left_by : ℤ → Option (List ℕ) → Replies → Replies
left_by id None replies = replies
left_by id (Some reply) replies = map.remove replies id

-- without the reply that is taken
abbrev pub after_take : ℤ → PendingState → PendingState
after_take id c = record c { replies = left_by id (reply_to id c) c.replies }

-- ---- what always holds

-- a channel that isn't down has read less than a frame since the last one
abbrev pub IsReading : PendingState → Type 0
IsReading c = c.down ≡ None → (n : ℕ) × (front c.least max_body c.part ≡ Incomplete n)

-- identifiers are up to the greatest, each call under one that was given, and not too many are pending
pub record IsKept (c : PendingState) : Type 0 where
  pub ids : c.last < 2 ^ 63
  pub pending : c.waiting < most_pending_calls + 1
  pub reading : IsReading c
