use Rattle.std.proofs.Common.{◌≡◌, take}
use Rattle.ig_base.specs.Hashes.{hash_after}
use Rattle.ig_base.proofs.hashes.bytes_hash.Given as goal

-- the hash so far is that of the bytes so far
abbrev pub invariant-loop-byte : goal.invariant-loop-byte
invariant-loop-byte l = l.hash ≡ hash_after 1 (take l.byte-index l.bytes)
