use Rattle.std.proofs.Common.{ℕ, ◌<◌}
use Rattle.ig_caches.specs.Starts.{IsEmptyAt}
use Rattle.ig_caches.proofs.start.first_empty.Given as goal

-- no name so far is empty
abbrev pub invariant-loop-at : goal.invariant-loop-at
invariant-loop-at l = (k : ℕ) → k < l.at → ¬ (IsEmptyAt l.names k)
