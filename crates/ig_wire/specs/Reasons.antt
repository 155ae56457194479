-- The statuses of replies that tell a fault, with their texts.
use Rattle.std.specs.Prelude.{ℕ, ℤ, pos, List, codes}
use Rattle.ig_wire.specs.Profiles.{profile_text}
use Rattle.ig_wire.specs.declared.reason.Reason.{Reason}
use Rattle.ig_wire.specs.declared.reason.Reason.TheVariants as reason

-- an Int32
abbrev pub reason_status : Reason → ℤ
reason_status reason.InvalidOperation = pos 2
reason_status reason.NoCache = pos 1000
reason_status reason.CacheExists = pos 1001
reason_status reason.TooManyCursors = pos 1010
reason_status reason.NoResource = pos 1011
reason_status reason.NoMemory = pos 9000
reason_status _ = pos 1

-- of a malformed request, the offset follows the text, in decimal
abbrev pub reason_text : Reason → List ℕ
reason_text reason.InvalidOperation = codes "invalid operation code"
reason_text reason.Malformed = codes "malformed request at "
reason_text (reason.Profile profile) = profile_text profile
reason_text reason.NoCache = codes "cache does not exist"
reason_text reason.CacheExists = codes "cache exists"
reason_text reason.TooManyCaches = codes "too many caches"
reason_text reason.TooManyCacheChanges = codes "too many cache changes"
reason_text reason.NoTypeName = codes "type name not registered"
reason_text reason.TypeClash = codes "type clash"
reason_text reason.NoMemory = codes "no memory"
reason_text reason.TooManyCursors = codes "too many cursors"
reason_text reason.NoResource = codes "resource does not exist"
reason_text reason.ReplyTooLong = codes "reply too long"
