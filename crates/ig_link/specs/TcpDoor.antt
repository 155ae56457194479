-- What contracts see of a door over TCP, which doesn't tell its links.
use Rattle.std.specs.Prelude.{◌≡◌, ℕ, ◌+◌, ◌<◌, Bool, false, None}
use Rattle.ig_link.specs.AcceptsAs.{DoorState}
use Rattle.ig_link.specs.declared.door.Opened.{Opened}
use Rattle.ig_link.specs.declared.door.Opened.TheVariants as opened
use Rattle.ig_link.specs.declared.tcp_door.TcpDoor.{TcpDoor}

abbrev pub tcp_door : {R : Type 0} → TcpDoor R → DoorState
tcp_door door = record { coming = None; faults = door.faults; opened = door.opened; ended = door.ended }

-- How many links the door was to open before and after an accept with this answer: a link is one less,
-- and the first end comes only if none is left.
abbrev pub CountsSession : {L : Type 0} → Opened L → Bool → ℕ → ℕ → Type 0
CountsSession (opened.Link link) ended before after = before ≡ after + 1
CountsSession opened.End ended before after = (after ≡ before) × (ended ≡ false → before ≡ 0)
CountsSession opened.Failed ended before after = (after ≡ before) × (0 < before)
