use Rattle.ig_encode.specs.Marks.{IsMarkOf}
use Rattle.ig_encode_tests.proofs.object_tests.is_in_pieces.Given as goal

abbrev pub invariant-loop : goal.invariant-loop
invariant-loop l = IsMarkOf l.value l.mark
