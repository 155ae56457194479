use Rattle.std.proofs.Common.{All}
use Rattle.ig_caches.specs.IsRunnable.{IsRow}
use Rattle.ig_shards_tests.proofs.tests.pairs.Given as goal

abbrev pub invariant-loop : goal.invariant-loop
invariant-loop l = All IsRow l.pairs.items
