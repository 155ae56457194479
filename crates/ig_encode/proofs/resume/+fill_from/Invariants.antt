use Rattle.std.proofs.Common.{length}
use Rattle.ig_encode.proofs.resume.+fill_from.Given as goal

abbrev pub decreases-fill_from : goal.decreases-fill_from
decreases-fill_from l = length l.path.now
