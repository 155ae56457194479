-- Which shards a call touches.
use Rattle.std.specs.Prelude.{ℕ, ◌<◌}
use Rattle.ig_caches.specs.declared.call.Call.{Call}
use Rattle.ig_caches.specs.declared.call.Call.TheVariants.{Get, GetAndRemove, ContainsKey, ClearKey, RemoveKey, Put, PutIfAbsent, GetAndPut, GetAndReplace, GetAndPutIfAbsent, Replace, ReplaceIfEquals, RemoveIfEquals, TypeName, SetTypeName, TypeOf, PutType, Affinity}
use Rattle.ig_shards.specs.declared.touch.Touched.{Touched}
use Rattle.ig_shards.specs.declared.touch.Touched.TheVariants.{One, All}
use Rattle.ig_shards.specs.ShardOf.{shard_of_key}

-- a call on one key touches the shard of this key, a call on types the first shard, and any other call all shards
abbrev pub touches : Call → ℕ → Touched
touches (Get id key) shards = One (shard_of_key shards key)
touches (GetAndRemove id key) shards = One (shard_of_key shards key)
touches (ContainsKey id key) shards = One (shard_of_key shards key)
touches (ClearKey id key) shards = One (shard_of_key shards key)
touches (RemoveKey id key) shards = One (shard_of_key shards key)
touches (Put id key value) shards = One (shard_of_key shards key)
touches (PutIfAbsent id key value) shards = One (shard_of_key shards key)
touches (GetAndPut id key value) shards = One (shard_of_key shards key)
touches (GetAndReplace id key value) shards = One (shard_of_key shards key)
touches (GetAndPutIfAbsent id key value) shards = One (shard_of_key shards key)
touches (Replace id key value) shards = One (shard_of_key shards key)
touches (ReplaceIfEquals id key wanted value) shards = One (shard_of_key shards key)
touches (RemoveIfEquals id key wanted) shards = One (shard_of_key shards key)
touches (TypeName platform type) shards = One 0
touches (SetTypeName platform type name) shards = One 0
touches (TypeOf type) shards = One 0
touches (PutType meta) shards = One 0
touches (Affinity ids) shards = One 0
touches _ shards = All

-- the touched shard is one of as many
abbrev pub IsWithin : Touched → ℕ → Type 0
IsWithin (One shard) shards = shard < shards
IsWithin All shards = Unit {0}
