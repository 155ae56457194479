use Rattle.std.proofs.Common.{All}
use Rattle.ig_caches.specs.IsRunnable.{IsItem}
use Rattle.ig_shards_tests.proofs.tests.keys.Given as goal

abbrev pub invariant-loop-number : goal.invariant-loop-number
invariant-loop-number l = All IsItem l.keys.items
