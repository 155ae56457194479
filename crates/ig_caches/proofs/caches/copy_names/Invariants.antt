use Rattle.std.proofs.Common.{◌≡◌, ◌++◌, map}
use Rattle.std.specs.Map.{values_of}
use Rattle.ig_caches.specs.declared.caches.Cache.{Cache}
use Rattle.ig_caches.proofs.caches.copy_names.Given as goal

-- the names so far and those of the caches that are left are all names
abbrev pub invariant-loop-cache : goal.invariant-loop-cache
invariant-loop-cache l =
    l.names.items ++ map (λ (kept : Cache). kept.name) l.cache-iterator ≡ map (λ (kept : Cache). kept.name) (values_of l.caches.entries)
