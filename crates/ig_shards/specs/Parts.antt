-- Plain caches that are spread over shards.
use Rattle.std.specs.Prelude.{◌≡◌, ◌≢◌, ◌<◌, ◌≤◌, ℕ, suc, ℤ, List, [], ◌∷◌, map, All}
use Rattle.ig_types.specs.Registered.{empty_registry}
use Rattle.ig_caches.specs.PlainCaches.{Cache, PlainCaches, fresh_caches}
use Rattle.ig_shards.specs.Spread.{either, IsPlaced}

-- one shard by itself: its number, how many shards there are, and the caches, which have those rows alone that lie here
pub record Part : Type 0 where
  pub number : ℕ
  pub shards : ℕ
  pub caches : PlainCaches

-- the same caches with the rows of both
abbrev pub beside : List Cache → List Cache → List Cache
beside [] others = []
beside (cache ∷ caches) [] = cache ∷ caches
beside (cache ∷ caches) (other ∷ others) = record cache { rows = either cache.rows other.rows } ∷ beside caches others

-- the caches of the first, with the rows of both
abbrev pub both : PlainCaches → PlainCaches → PlainCaches
both c d = record c { caches = beside c.caches d.caches }

-- the names, types and count of the first shard, with the rows of all
abbrev pub together : List Part → PlainCaches
together [] = fresh_caches []
together (part ∷ parts) = both part.caches (together parts)

-- the identifiers and names of caches, in order
abbrev pub heads : PlainCaches → List (ℤ × List ℕ)
heads c = map (λ cache. (cache.id, cache.name)) c.caches

-- the same names in the same order, and the same count of creations and destructions
pub record AreAlike (c d : PlainCaches) : Type 0 where
  pub names : heads c ≡ heads d
  pub counts : c.minor ≡ d.minor

-- a shard: each row lies in it, and it has types only if it is the first
pub record IsPart (part : Part) : Type 0 where
  pub within : part.number < part.shards
  pub few : part.shards ≤ 256
  pub placed : All (λ cache. IsPlaced part.shards part.number cache.rows) part.caches.caches
  pub typeless : part.number ≢ 0 → part.caches.registry ≡ empty_registry

-- the shards from this number on, in ascending order, of as many in all
abbrev pub AreNumbered : ℕ → ℕ → List Part → Type 0
AreNumbered shards next [] = next ≡ shards
AreNumbered shards next (part ∷ parts) = (part.number ≡ next) × (part.shards ≡ shards) × IsPart part × AreNumbered shards (suc next) parts

-- all have the names and the count of these caches
abbrev pub AllAlike : PlainCaches → List Part → Type 0
AllAlike c parts = All (λ part. AreAlike c part.caches) parts

-- all shards in ascending order, with equal names and counts
pub record AreAll (shards : ℕ) (parts : List Part) : Type 0 where
  pub some : 0 < shards
  pub numbered : AreNumbered shards 0 parts
  pub like : PlainCaches
  pub alike : AllAlike like parts

-- which shard it is, and of how many
abbrev pub places : List Part → List (ℕ × ℕ)
places parts = map (λ part. (part.number, part.shards)) parts
