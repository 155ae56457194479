use Rattle.std.proofs.Common.{◌≡◌, take}
use Rattle.ig_encode.specs.MeasureOutput.{digest_after}
use Rattle.ig_encode.proofs.measure_output.hash_each.Given as goal

abbrev pub invariant-loop-byte : goal.invariant-loop-byte
invariant-loop-byte l = record { pow = l.pow; sum = l.sum } ≡ digest_after l.fn.digest (take l.byte-index l.bytes)
