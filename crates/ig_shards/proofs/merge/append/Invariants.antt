use Rattle.std.proofs.Common.{◌≡◌, ◌++◌, take}
use Rattle.ig_shards.proofs.merge.append.Given as goal

-- the rows so far are added
abbrev pub invariant-loop-entry : goal.invariant-loop-entry
invariant-loop-entry l = l.rows.items ≡ l.fn.rows.items ++ take l.entry-index l.more
