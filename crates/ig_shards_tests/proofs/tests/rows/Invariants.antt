use Rattle.std.proofs.Common.{All}
use Rattle.ig_caches.specs.IsRunnable.{IsRow}
use Rattle.ig_shards_tests.proofs.tests.rows.Given as goal

abbrev pub invariant-loop-number : goal.invariant-loop-number
invariant-loop-number l = All IsRow l.pairs.items
