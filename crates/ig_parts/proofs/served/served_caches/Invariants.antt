use Rattle.std.proofs.Common.{◌≡◌, map, take}
use Rattle.ig_parts.specs.ServedMap.{listing_with}
use Rattle.ig_parts.proofs.served.served_caches.Given as goal

abbrev pub invariant-loop-cache : goal.invariant-loop-cache
invariant-loop-cache l = l.made.items ≡ map (listing_with l.fn.pairs) (take l.cache-index l.cache-items)
