use Rattle.std.proofs.Common.{◌≡◌, ◌<◌}
use Rattle.ig_caches.specs.Starts.{CanStart}
use Rattle.ig_shards.specs.PartView.{parts_of}
use Rattle.ig_shards.proofs.FreshLemmas.{fresh_parts}
use Rattle.ig_shards.proofs.shards.Shards.start.Given as goal

-- the shards so far have the names; with these caches can start if there is a shard
abbrev pub invariant-loop-number : goal.invariant-loop-number
invariant-loop-number l = record {
  names : l.names-inside.items.items ≡ l.fn.names.items;
  can : 0 < l.number → CanStart l.fn.names.items;
  made : parts_of l.parts.items ≡ fresh_parts l.fn.names.items l.shards 0 l.number;
}
