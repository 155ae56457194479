use Rattle.std.proofs.Common.{length}
use Rattle.ig_encode.proofs.advance.+move_path.Given as goal

abbrev pub decreases-move_path : goal.decreases-move_path
decreases-move_path l = length l.steps.now
