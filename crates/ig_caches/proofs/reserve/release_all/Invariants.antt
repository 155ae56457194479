use Rattle.std.proofs.Common.{ℕ, length, drop}
use Rattle.ig_caches.specs.Rows.{Rows}
use Rattle.ig_caches.specs.RowEntries.{rows_of_entries, AreKept}
use Rattle.ig_caches.specs.Reserved.{Reserves}
use Rattle.ig_caches.proofs.reserve.release_all.Given as goal

-- rows are reserved for the keys that are left alone
abbrev pub invariant-loop-pair : goal.invariant-loop-pair
invariant-loop-pair l = (before : Rows) (most : ℕ) → AreKept most before
    → Reserves (length l.fn.room) before (rows_of_entries (λ k. k.items) l.fn.rows.entries) l.pairs
    → Reserves (length l.fn.room) before (rows_of_entries (λ k. k.items) l.rows.entries) (drop l.pair-index l.pairs)
