use Rattle.std.proofs.Common.{All}
use Rattle.ig_caches.specs.IsRunnable.{IsRow}
use Rattle.ig_caches_tests.proofs.tests.pairs.Given as goal

abbrev pub invariant-loop-two : goal.invariant-loop-two
invariant-loop-two l = All IsRow l.pairs.items
