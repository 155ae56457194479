-- Replies to requests, and their frames.
use Rattle.std.specs.Prelude.{ℕ, ℤ, Bool, List, [], ◌++◌, length, nat_le, Option, None, Some, if◌then◌else◌}
use Rattle.ig_base.specs.declared.Topology.{Topology}
use Rattle.ig_base.specs.Frames.{Frame, max_body}
use Rattle.ig_wire.specs.declared.version.Version.{Version}
use Rattle.ig_wire.specs.declared.head.Fault.{Fault}
use Rattle.ig_wire.specs.declared.head.ReplyHead.{ReplyHead}
use Rattle.ig_wire.specs.declared.reason.Reason.TheVariants as reason
use Rattle.ig_wire.specs.Heads.{head_bytes}
use Rattle.ig_caches.specs.declared.request.Shown.{Shown}
use Rattle.ig_parts.specs.declared.map.PartMap.{PartMap}
use Rattle.ig_parts.specs.PartsMessages.{map_bytes}
use Rattle.ig_deals.specs.Tables.{shown_bytes}
use Rattle.ig_deals.specs.Faults.{fault_of}

-- what a reply says: what a call or a page shows, a partition map, or a fault
pub data Content : Type 0 where
  Shows : Shown → Content
  Maps : PartMap → Content
  Fails : Fault → Content

-- the reply to the request with an identifier
pub record Reply : Type 0 where
  pub id : ℤ
  pub told : Option Topology
  pub content : Content

-- the fault that a head has
abbrev pub fault_in : Content → Option Fault
fault_in (Shows shown) = None
fault_in (Maps map) = None
fault_in (Fails fault) = Some fault

-- the result after the head; a reply with a fault has none
abbrev pub result_bytes : Content → List ℕ
result_bytes (Shows shown) = shown_bytes shown
result_bytes (Maps map) = map_bytes map
result_bytes (Fails fault) = []

abbrev pub head_of : Reply → ReplyHead
head_of reply = record { id = reply.id; told = reply.told; fault = fault_in reply.content }

-- the body: the head and the result
unfoldable pub reply_body : Version → Reply → List ℕ
reply_body v reply = head_bytes v (head_of reply) ++ result_bytes reply.content

abbrev pub reply_frame : Version → Reply → List ℕ
reply_frame v reply = Frame (reply_body v reply)

-- tests whether a frame can hold the reply
abbrev pub fits : Version → Reply → Bool
fits v reply = nat_le (length (reply_body v reply)) max_body

-- the fault in the place of a reply that is too long; it tells the same topology
abbrev pub too_long : Reply → Reply
too_long reply = record reply { content = Fails (fault_of reason.ReplyTooLong) }

abbrev pub shortened : Version → Reply → Reply
shortened v reply = if fits v reply then reply else too_long reply
