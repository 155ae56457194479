-- The rows of one cache in each shard.
use Rattle.std.specs.Prelude.{ℕ, ℤ, List, [], ◌∷◌, map}
use Rattle.std.specs.FinMap as finite
use Rattle.ig_caches.specs.Rows.{Rows}
use Rattle.ig_caches.specs.RowsAt.{rows_at, with_rows_of}
use Rattle.ig_caches.specs.Effect.{created, after_destroy}
use Rattle.ig_shards.specs.Parts.{Part}

-- the rows that each shard has of the cache
abbrev pub rows_in_parts : List Part → ℤ → List Rows
rows_in_parts parts id = map (λ part. rows_at part.caches.caches id finite.empty) parts

-- the shards, of which each has its own of these rows in the cache
abbrev pub with_rows_in_parts : List Part → ℤ → List Rows → List Part
with_rows_in_parts [] id rows = []
with_rows_in_parts (part ∷ parts) id [] = part ∷ parts
with_rows_in_parts (part ∷ parts) id (here ∷ rows) = record part { caches = with_rows_of part.caches id here } ∷ with_rows_in_parts parts id rows

-- the rows that each shard has of the cache, or its own of these where it has no such cache
abbrev pub rows_or : List Part → ℤ → List Rows → List Rows
rows_or [] id rows = rows
rows_or (part ∷ parts) id [] = []
rows_or (part ∷ parts) id (none ∷ rows) = rows_at part.caches.caches id none ∷ rows_or parts id rows

-- the shard with one more cache of this name
abbrev pub created_in : List ℕ → Part → Part
created_in name part = record part { caches = (created part.caches name).1 }

-- the shards, each with one more cache of this name
abbrev pub created_in_parts : List Part → List ℕ → List Part
created_in_parts parts name = map (created_in name) parts

-- the shard without the cache of this identifier
abbrev pub destroyed_in : ℤ → Part → Part
destroyed_in id part = record part { caches = (after_destroy id part.caches).1 }

-- the shards, each without the cache of this identifier
abbrev pub destroyed_in_parts : List Part → ℤ → List Part
destroyed_in_parts parts id = map (destroyed_in id) parts
