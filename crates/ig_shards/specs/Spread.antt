-- Rows that are spread over shards.
use Rattle.std.specs.Prelude.{◌≡◌, ℕ, suc, List, [], ◌∷◌, ◌++◌, Some}
use Rattle.std.specs.FinMap as finite
use Rattle.ig_caches.specs.declared.call.Pair.{Pair}
use Rattle.ig_caches.specs.Rows.{Rows}
use Rattle.ig_shards.specs.ShardOf.{shard_of}

-- the rows of both: where both have a row under the same bytes, that of the first
abbrev pub either : Rows → Rows → Rows
either a b = finite.from_entries (finite.entries a ++ finite.entries b)

-- the rows of all shards
abbrev pub union : List Rows → Rows
union [] = finite.empty
union (rows ∷ shards) = either rows (union shards)

-- each row lies in this shard
abbrev pub IsPlaced : ℕ → ℕ → Rows → Type 0
IsPlaced shards shard rows = (form : List ℕ) (row : Pair) → finite.get rows form ≡ Some row → shard_of shards form ≡ shard

-- the rows of the shards from this number on, each in its shard; there are as many as `shards` in all
abbrev pub AreSpreadFrom : ℕ → ℕ → List Rows → Type 0
AreSpreadFrom shards next [] = next ≡ shards
AreSpreadFrom shards next (rows ∷ others) = IsPlaced shards next rows × AreSpreadFrom shards (suc next) others
