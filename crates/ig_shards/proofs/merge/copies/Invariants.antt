use Rattle.std.proofs.Common.{◌≡◌, take, map}
use Rattle.ig_caches.specs.LentRows.{lent_rows}
use Rattle.ig_shards.proofs.merge.copies.Given as goal

-- the rows so far are copied
abbrev pub invariant-loop-entry : goal.invariant-loop-entry
invariant-loop-entry l = l.copies.items ≡ map (λ e. e.1) (lent_rows (take l.entry-index l.entry-items))
