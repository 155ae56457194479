-- What contracts see of a shard.
use Rattle.std.specs.Prelude.{List, map}
use Rattle.ig_caches.specs.CachesView.{plain_caches}
use Rattle.ig_shards.specs.declared.shard_rows.ShardRows.{ShardRows}
use Rattle.ig_shards.specs.Parts.{Part}

abbrev pub part_of : ShardRows → Part
part_of s = record { number = s.number; shards = s.shards; caches = plain_caches s.caches }

abbrev pub parts_of : List ShardRows → List Part
parts_of parts = map part_of parts
