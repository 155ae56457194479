use Rattle.std.proofs.Common.{◌≡◌, ◌≤◌, ◌-◌, length, All}
use Rattle.ig_shards.proofs.whole.name_copies.Given as goal

-- the names so far are copies
abbrev pub invariant-loop-alloc : goal.invariant-loop-alloc
invariant-loop-alloc l = record {
  count : length l.names.items ≤ l.count;
  same : All (λ n. n ≡ l.name) l.names.items;
}

abbrev pub decreases-loop-alloc : goal.decreases-loop-alloc
decreases-loop-alloc l = l.count - length l.names.items
