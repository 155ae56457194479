use Rattle.std.proofs.Common.{length}
use Rattle.ig_shards.proofs.merge.+entries.Given as goal

abbrev pub decreases-entries : goal.decreases-entries
decreases-entries l = length l.shards.now
