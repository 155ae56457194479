use Rattle.std.proofs.Common.{◌≡◌, take, sum_by}
use Rattle.std.specs.FinMap as finite
use Rattle.ig_shards.proofs.spread_rows.total.Given as goal

-- the rows of the shards so far are counted
abbrev pub invariant-loop-rows : goal.invariant-loop-rows
invariant-loop-rows l = l.count ≡ sum_by finite.len (take l.rows-index l.shards)
