use Rattle.std.proofs.Common.{◌≡◌, true, take}
use Rattle.std.specs.List.{list_all, list_any}
use Rattle.ig_caches.specs.PlainCaches.{has_id}
use Rattle.ig_caches.specs.CachesView.{plain_caches}
use Rattle.ig_caches.proofs.caches.Caches.has_all.Given as goal

-- each identifier so far is that of a cache
abbrev pub invariant-loop-id : goal.invariant-loop-id
invariant-loop-id l = list_all (λ id. list_any (has_id id) (plain_caches l.self).caches) (take l.id-index l.ids) ≡ true
