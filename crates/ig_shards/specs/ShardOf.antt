-- The shard in which the row of a key lies.
use Rattle.std.specs.Prelude.{ℕ, ◌%◌, List}
use Rattle.ig_base.specs.Hashes.{BytesHash}
use Rattle.ig_value.specs.declared.value.Value.{Value}
use Rattle.ig_value.specs.Canon.{Canon}

-- the hash of the key's canonical encoding, an unsigned number, modulo the number of shards
abbrev pub shard_of : ℕ → List ℕ → ℕ
shard_of shards form = BytesHash form % shards

abbrev pub shard_of_key : ℕ → Value → ℕ
shard_of_key shards key = shard_of shards (Canon key)
