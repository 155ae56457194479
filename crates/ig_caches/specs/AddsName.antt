-- Starting caches name by name.
use Rattle.std.specs.Prelude.{◌≡◌, ℕ, ◌++◌, List, [], ◌∷◌, length, Some}
use Rattle.ig_caches.specs.declared.fault.StartFault.{StartFault}
use Rattle.ig_caches.specs.declared.fault.StartFault.TheVariants as fault
use Rattle.ig_caches.specs.PlainCaches.{Cache, PlainCaches, id_of, fresh_cache, cache_of}

-- the caches, and one of this name without rows
abbrev pub with_cache : PlainCaches → List ℕ → PlainCaches
with_cache c name = record c { caches = c.caches ++ fresh_cache name ∷ [] }

-- a cache has the identifier of the name, which would be at the index after the caches; or there is no memory
abbrev pub IsNameFault : List Cache → List ℕ → StartFault → Type 0
IsNameFault caches name (fault.Taken at) = (at ≡ length caches) × (cache : Cache) × (cache_of caches (id_of name) ≡ Some cache)
IsNameFault caches name fault.NoMemory = Unit {0}
IsNameFault caches name (fault.Empty at) = ⊥
IsNameFault caches name fault.TooMany = ⊥
