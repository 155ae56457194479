use Rattle.std.proofs.Common.{◌≡◌, take}
use Rattle.std.specs.Str.{IsAscii, str_to_ascii_lowercase}
use Rattle.ig_base.specs.Hashes.{Java}
use Rattle.ig_base.proofs.hashes.name_id.Given as goal

-- the bytes so far are ASCII, and the hash is theirs in lower case
abbrev pub invariant-loop-at : goal.invariant-loop-at
invariant-loop-at l = record { ascii : IsAscii (take l.at l.bytes); hash : l.hash ≡ Java (str_to_ascii_lowercase (take l.at l.bytes)) }
