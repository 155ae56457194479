-- Plain caches: a list of named finite maps, and a registry of types.
use Rattle.std.specs.Prelude.{ℕ, ℤ, pos, Bool, List, [], ◌∷◌, map, find, Option, if◌then◌else◌}
use Rattle.std.specs.Ordering.{int_eq}
use Rattle.std.specs.FinMap as finite
use Rattle.std.specs.Int.{w32, cast_signed}
use Rattle.ig_base.specs.Hashes.{Java, units}
use Rattle.ig_types.specs.Registered.{Registered, empty_registry}
use Rattle.ig_caches.specs.Rows.{Rows}

-- a cache: its identifier, its name and its rows
pub record Cache : Type 0 where
  pub id : ℤ
  pub name : List ℕ
  pub rows : Rows

-- the caches in the order of their creation, what is registered of types, and how often caches were created and destroyed
pub record PlainCaches : Type 0 where
  pub caches : List Cache
  pub registry : Registered
  pub minor : ℤ

-- the identifier of a cache of this name: the hash of the name
abbrev pub id_of : List ℕ → ℤ
id_of name = cast_signed w32 (Java (units name))

-- a cache of this name, without rows
abbrev pub fresh_cache : List ℕ → Cache
fresh_cache name = record { id = id_of name; name = name; rows = finite.empty }

-- the caches of these names, without rows, and no types
abbrev pub fresh_caches : List (List ℕ) → PlainCaches
fresh_caches names = record { caches = map fresh_cache names; registry = empty_registry; minor = pos 0 }

-- tests whether a cache has the identifier
abbrev pub has_id : ℤ → Cache → Bool
has_id id cache = int_eq id cache.id

-- the cache with the identifier
abbrev pub cache_of : List Cache → ℤ → Option Cache
cache_of caches id = find (has_id id) caches

-- the caches, of which the one with the identifier has these rows
abbrev pub caches_with_rows : List Cache → ℤ → Rows → List Cache
caches_with_rows [] id rows = []
caches_with_rows (cache ∷ caches) id rows =
    if has_id id cache then record cache { rows = rows } ∷ caches
    else cache ∷ caches_with_rows caches id rows

-- the caches without the one with the identifier
abbrev pub caches_without : List Cache → ℤ → List Cache
caches_without [] id = []
caches_without (cache ∷ caches) id = if has_id id cache then caches else cache ∷ caches_without caches id
