-- The program's exit status.
use Rattle.std.specs.Prelude.{ℕ}
use Rattle.ig_caches.specs.declared.fault.StartFault.{StartFault}
use Rattle.ig_caches.specs.declared.fault.StartFault.TheVariants as fault
use Rattle.ig_deals.specs.declared.end.SessionEnd.{SessionEnd}
use Rattle.ig_deals.specs.declared.end.SessionEnd.TheVariants as ends
use Rattle.ignite_thin.specs.declared.decode_end.DecodeEnd.{DecodeEnd}
use Rattle.ignite_thin.specs.declared.decode_end.DecodeEnd.TheVariants as decode

-- the status that says how a session ended
abbrev pub status_of : SessionEnd → ℕ
status_of ends.Ended = 0
status_of (ends.Truncated missing) = 4
status_of (ends.BadFrame place len) = 4
status_of (ends.HelloRefused fault) = 4
status_of ends.ReadFault = 2
status_of ends.WriteFault = 3
status_of ends.ByteLimit = 6
status_of ends.NoMemory = 5

-- the status that says how `decode` ended
abbrev pub status_of_decode : DecodeEnd → ℕ
status_of_decode decode.Ended = 0
status_of_decode decode.Malformed = 4
status_of_decode decode.ReadFault = 2
status_of_decode decode.WriteFault = 3
status_of_decode decode.ByteLimit = 6
status_of_decode decode.NoMemory = 5

-- the status that says why no caches started
abbrev pub status_of_start : StartFault → ℕ
status_of_start fault.TooMany = 1
status_of_start (fault.Empty at) = 1
status_of_start (fault.Taken at) = 1
status_of_start fault.NoMemory = 5
