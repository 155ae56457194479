use Rattle.std.proofs.Common.{◌≡◌, All, take}
use Rattle.std.specs.FinMap as finite
use Rattle.ig_shards.proofs.spread_rows.clear_all.Given as goal

-- the shards so far have no rows
abbrev pub invariant-loop-rows : goal.invariant-loop-rows
invariant-loop-rows l = All (λ rows. rows ≡ finite.empty) (take l.rows-index l.shards)
