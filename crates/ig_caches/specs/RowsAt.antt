-- The rows of the cache with an identifier.
use Rattle.std.specs.Prelude.{ℤ, List}
use Rattle.std.specs.Option.{option_map_or}
use Rattle.ig_caches.specs.Rows.{Rows}
use Rattle.ig_caches.specs.PlainCaches.{Cache, PlainCaches, cache_of, caches_with_rows}

-- the rows of the cache with the identifier, or these where there is none
abbrev pub rows_at : List Cache → ℤ → Rows → Rows
rows_at caches id none = option_map_or (λ cache. cache.rows) (cache_of caches id) none

-- the caches, of which the one with the identifier has these rows
abbrev pub with_rows_of : PlainCaches → ℤ → Rows → PlainCaches
with_rows_of c id rows = record c { caches = caches_with_rows c.caches id rows }
