use Rattle.std.proofs.Common.{◌≡◌, ◌≤◌, ◌-◌, length, All}
use Rattle.std.specs.FinMap as finite
use Rattle.ig_shards.proofs.whole.no_rows.Given as goal

-- the rows so far are empty
abbrev pub invariant-loop-alloc : goal.invariant-loop-alloc
invariant-loop-alloc l = record {
  count : length l.rows.items ≤ l.count;
  empty : All (λ r. r ≡ finite.empty) l.rows.items;
}

abbrev pub decreases-loop-alloc : goal.decreases-loop-alloc
decreases-loop-alloc l = l.count - length l.rows.items
