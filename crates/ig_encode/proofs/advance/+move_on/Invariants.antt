use Rattle.std.proofs.Common.{length}
use Rattle.ig_encode.proofs.advance.+move_on.Given as goal

abbrev pub decreases-move_on : goal.decreases-move_on
decreases-move_on l = length l.steps.now
