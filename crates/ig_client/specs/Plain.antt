-- A channel as an object behind a turn: what may be asked, and what a got stands for in a history.
use Rattle.std.specs.Prelude.{ℕ, ℤ, List, false, Option, None, Some, Result, Ok, Err}
use Rattle.ig_base.specs.declared.memory.NoRoom.{NoRoom}
use Rattle.ig_link.specs.declared.link.Retired.{Retired}
use Rattle.ig_caches.specs.declared.request.Request.{Request}
use Rattle.ig_wire.specs.Versions.{version_1_0}
use Rattle.ig_client.specs.RequestBodies.{IsSubmittable}
use Rattle.ig_client.specs.Pairs.{GotData}
use Rattle.ig_client.specs.declared.fault.ChannelFault.{ChannelFault}
use Rattle.ig_client.specs.declared.fault.ChannelFault.TheVariants as fault
use Rattle.ig_client.specs.declared.ask.ChannelAsk.{ChannelAsk}
use Rattle.ig_client.specs.declared.ask.ChannelAsk.TheVariants as ask
use Rattle.ig_client.specs.declared.ask.ChannelGot.{ChannelGot}
use Rattle.ig_client.specs.declared.ask.ChannelGot.TheVariants as got
use Rattle.ig_client.specs.declared.ask.ChannelStart.{ChannelStart}

-- what is left of a link stands as what it shows
abbrev pub got_data : {A : Type 0} → (A → Retired) → ChannelGot A → GotData
got_data shows (got.Sent id) = got.Sent id
got_data shows (got.NotSent request cause) = got.NotSent request cause
got_data shows (got.NotSentParts caches cause) = got.NotSentParts caches cause
got_data shows (got.Pumped bytes) = got.Pumped bytes
got_data shows (got.NotPumped cause) = got.NotPumped cause
got_data shows (got.Taken reply) = got.Taken reply
got_data shows (got.Closed None) = got.Closed None
got_data shows (got.Closed (Some left)) = got.Closed (Some (shows left))

-- all asks but a request that no client submits
abbrev pub CanAsk : ChannelAsk → Type 0
CanAsk (ask.Submit request) = IsSubmittable request
CanAsk _ = Unit {0}

-- a take and a close need no memory
abbrev pub IsSure : ChannelAsk → Type 0
IsSure (ask.Take id) = Unit {0}
IsSure ask.Close = Unit {0}
IsSure _ = ⊥

abbrev pub submitted : {A : Type 0} → Result ℤ ChannelFault → Request → Result (ChannelGot A) (NoRoom ChannelAsk)
submitted (Ok id) request = Ok (got.Sent id)
submitted (Err fault.NoMemory) request = Err (record { back = ask.Submit request })
submitted (Err cause) request = Ok (got.NotSent request cause)

abbrev pub submitted_parts : {A : Type 0} → Result ℤ ChannelFault → List ℤ → Result (ChannelGot A) (NoRoom ChannelAsk)
submitted_parts (Ok id) caches = Ok (got.Sent id)
submitted_parts (Err fault.NoMemory) caches = Err (record { back = ask.SubmitParts caches })
submitted_parts (Err cause) caches = Ok (got.NotSentParts caches cause)

abbrev pub pump_got : {A : Type 0} → Result (List ℕ) ChannelFault → Result (ChannelGot A) (NoRoom ChannelAsk)
pump_got (Ok bytes) = Ok (got.Pumped bytes)
pump_got (Err fault.NoMemory) = Err (record { back = ask.Pump })
pump_got (Err cause) = Ok (got.NotPumped cause)

-- any start
abbrev pub any_start : ChannelStart
any_start = record {
  version = version_1_0;
  taken = None;
  left = None;
  written = None;
  read_faults = 0;
  write_faults = 0;
  pauses = 0;
  reads_hold = false;
  writes_hold = false;
}
