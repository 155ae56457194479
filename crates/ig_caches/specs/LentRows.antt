-- Rows that are lent: the canonical encoding of the key, and the value.
use Rattle.std.specs.Prelude.{ℕ, List, map}
use Rattle.std.specs.Borrow.{Bor}
use Rattle.ig_value.specs.declared.value.Value.{Value}
use Rattle.ig_value.specs.Spells.{Spells}
use Rattle.ig_caches.specs.declared.call.Pair.{Pair}
use Rattle.ig_caches.specs.RowEntries.{key_of, row_under}

abbrev pub lent_row : Bor (List ℕ) × Bor Value → List ℕ × Pair
lent_row lent = (lent.0.now, row_under lent.0.now lent.1.now)

-- the entries of a map of rows
abbrev pub lent_rows : List (Bor (List ℕ) × Bor Value) → List (List ℕ × Pair)
lent_rows lent = map lent_row lent

-- the bytes encode the key
abbrev pub HasKey : Bor (List ℕ) × Bor Value → Type 0
HasKey lent = Spells lent.0.now (key_of lent.0.now)
