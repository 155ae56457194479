use Rattle.std.proofs.Common.{◌≡◌, fold}
use Rattle.std.specs.List.{flat_map}
use Rattle.std.specs.Char.Escape.{encode_utf16}
use Rattle.ig_base.specs.Hashes.{java_step}
use Rattle.ig_base.proofs.hashes.unsigned_hash.Given as goal

-- the hash so far is that of the characters so far
abbrev pub invariant-loop-c : goal.invariant-loop-c
invariant-loop-c l = l.hash ≡ fold java_step 0 (flat_map encode_utf16 l.yielded)
