use Rattle.std.proofs.Common.{◌≡◌, ◌++◌}
use Rattle.ig_caches.specs.CachesView.{plain_caches}
use Rattle.ig_caches.specs.PlainCaches.{fresh_caches}
use Rattle.ig_caches.specs.Starts.{IsTakenAt, IsNowhere}
use Rattle.ig_caches.proofs.caches.Caches.with_names.Given as goal

-- caches have the names so far, and none of these has the identifier of an earlier one
abbrev pub invariant-loop-name : goal.invariant-loop-name
invariant-loop-name l = record {
  fresh : plain_caches l.caches ≡ fresh_caches l.yielded;
  items : l.yielded ++ l.name-iterator.rest.items ≡ l.fn.names.items;
  distinct : IsNowhere (IsTakenAt l.yielded);
}
