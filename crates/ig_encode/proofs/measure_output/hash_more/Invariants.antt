use Rattle.std.proofs.Common.{◌≡◌, length}
use Rattle.ig_encode.specs.MeasureOutput.{digest_after}
use Rattle.ig_encode.proofs.measure_output.hash_more.Given as goal

abbrev pub invariant-loop-rest : goal.invariant-loop-rest
invariant-loop-rest l = digest_after l.digest l.rest ≡ digest_after l.initial.digest l.bytes

abbrev pub decreases-loop-rest : goal.decreases-loop-rest
decreases-loop-rest l = length l.rest
