use Rattle.std.proofs.Common.{◌≡◌, take}
use Rattle.ig_shards.specs.PartView.{parts_of}
use Rattle.ig_shards.specs.RowsOfParts.{rows_or, with_rows_in_parts}
use Rattle.ig_shards.proofs.whole.swap_rows.Given as goal

-- the rows of the shards so far are swapped
abbrev pub invariant-loop-at : goal.invariant-loop-at
invariant-loop-at l = record {
  given : parts_of l.parts ≡ with_rows_in_parts (parts_of l.fn.parts) l.cache (take l.at l.fn.rows);
  taken : l.rows ≡ rows_or (take l.at (parts_of l.fn.parts)) l.cache l.fn.rows;
}
