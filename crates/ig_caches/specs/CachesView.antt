-- The plain caches that a `Caches` represents.
use Rattle.std.specs.Prelude.{ℤ, ◌<◌, map}
use Rattle.indexmap.specs.IndexMap.{spare}
use Rattle.ig_caches.specs.declared.caches.Cache.{Cache as Kept}
use Rattle.ig_caches.specs.declared.caches.Caches.{Caches}
use Rattle.ig_caches.specs.PlainCaches.{Cache, PlainCaches}

-- an entry of the map is a cache under its identifier
abbrev pub cache_entry : ℤ × Kept → Cache
cache_entry entry = record { id = entry.0; name = entry.1.name; rows = entry.1.rows }

abbrev pub plain_caches : Caches → PlainCaches
plain_caches c = record { caches = map cache_entry c.caches.entries; registry = c.registry; minor = c.minor }

-- there is memory for one more cache
abbrev pub HasRoom : Caches → Type 0
HasRoom c = 0 < spare c.caches
