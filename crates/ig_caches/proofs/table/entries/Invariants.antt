use Rattle.std.proofs.Common.{◌≡◌, ◌++◌, map, All}
use Rattle.ig_caches.specs.RowEntries.{row_entry}
use Rattle.ig_caches.specs.LentRows.{lent_rows, HasKey}
use Rattle.ig_caches.proofs.FormLemmas.{IsSpelled}
use Rattle.ig_caches.proofs.table.entries.Given as goal

-- the rows so far and those of the entries that are left are all rows; each stands under bytes that encode its key
abbrev pub invariant-loop-form : goal.invariant-loop-form
invariant-loop-form l = record {
  rows : lent_rows l.entries.items ++ map (row_entry (λ k. k.items)) l.form-iterator ≡ map (row_entry (λ k. k.items)) l.rows.entries;
  spelled : All (IsSpelled (λ k. k.items)) l.form-iterator;
  keys : All HasKey l.entries.items;
}
