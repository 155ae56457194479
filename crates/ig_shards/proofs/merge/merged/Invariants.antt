use Rattle.std.proofs.Common.{◌≡◌, ◌≤◌, ◌-◌, ◌+◌, length, drop, All}
use Rattle.std.specs.FinMap as finite
use Rattle.ig_caches.specs.LentRows.{lent_rows, HasKey}
use Rattle.ig_caches.specs.Rows.{Rows}
use Rattle.ig_shards.specs.Spread.{either}
use Rattle.ig_shards.specs.Merges.{AreApart}
use Rattle.ig_shards.proofs.MergeLemmas.{Merges}
use Rattle.ig_shards.proofs.merge.merged.Given as goal

-- the rows so far, and then those that are left of both in order, are the rows of both in order
abbrev pub invariant-loop-at : goal.invariant-loop-at
invariant-loop-at l = record {
  of_left : l.at ≤ length l.left;
  of_right : l.next ≤ length l.right;
  keys : All HasKey l.merged.items;
  rows : (a b : Rows) → lent_rows l.left ≡ finite.entries a → lent_rows l.right ≡ finite.entries b → AreApart a b
      → Merges (lent_rows l.merged.items) (lent_rows (drop l.at l.left)) (lent_rows (drop l.next l.right)) (finite.entries (either a b));
}

abbrev pub decreases-loop-at : goal.decreases-loop-at
decreases-loop-at l = (length l.left - l.at) + (length l.right - l.next)
