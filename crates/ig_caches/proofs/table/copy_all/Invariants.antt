use Rattle.std.proofs.Common.{◌≡◌, ◌++◌, map, All}
use Rattle.ig_caches.proofs.RowEntryLemmas.{row_in}
use Rattle.ig_caches.proofs.FormLemmas.{IsSpelled}
use Rattle.ig_caches.proofs.table.copy_all.Given as goal

-- the copies so far and the rows of the entries that are left are all rows; each of these stands under bytes that encode its key
abbrev pub invariant-loop-form : goal.invariant-loop-form
invariant-loop-form l = record {
  rows : l.copies.items ++ map (row_in (λ k. k.items)) l.form-iterator ≡ map (row_in (λ k. k.items)) l.rows.entries;
  spelled : All (IsSpelled (λ k. k.items)) l.form-iterator;
}
