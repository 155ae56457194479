use Rattle.std.proofs.Common.{All}
use Rattle.ig_caches.specs.IsRunnable.{IsItem}
use Rattle.ig_shards_tests.proofs.tests.items.Given as goal

abbrev pub invariant-loop : goal.invariant-loop
invariant-loop l = All IsItem l.items.items
