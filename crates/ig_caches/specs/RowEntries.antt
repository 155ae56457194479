-- The entries of the map in which rows are kept: values under the canonical encodings of their keys.
use Rattle.std.specs.Prelude.{◌≡◌, ◌≢◌, ◌≤◌, ℕ, Bool, List, length, map, Some, Ok, Err}
use Rattle.std.specs.Ordering.{nat_cmp, eq_by_cmp}
use Rattle.std.specs.Cmp.Lexicographic.{slice_cmp}
use Rattle.std.specs.List.{list_any}
use Rattle.std.specs.FinMap as finite
use Rattle.ig_value.specs.declared.value.Value.{Value}
use Rattle.ig_value.specs.declared.value.Value.TheVariants.{Null}
use Rattle.ig_value.specs.Limits.{Fits}
use Rattle.ig_value.specs.Reading.{Read, reading}
use Rattle.ig_value.specs.Spells.{Spells}
use Rattle.ig_caches.specs.declared.call.Pair.{Pair}
use Rattle.ig_caches.specs.Rows.{Rows}

abbrev pub read_key : Read Value → Value
read_key (Ok read) = read.0
read_key (Err fault) = Null

-- the key that the bytes encode
unfoldable pub key_of : List ℕ → Value
key_of bytes = read_key (reading bytes)

-- the row of a value that stands under the bytes
abbrev pub row_under : List ℕ → Value → Pair
row_under bytes value = record { key = key_of bytes; value = value }

-- an entry is a row under the bytes of its key
abbrev pub row_entry : {K : Type 0} → (K → List ℕ) → K × Value → List ℕ × Pair
row_entry bytes entry = (bytes entry.0, row_under (bytes entry.0) entry.1)

-- the rows of the entries
abbrev pub rows_of_entries : {K : Type 0} → (K → List ℕ) → List (K × Value) → Rows
rows_of_entries bytes entries = finite.from_entries (map (row_entry bytes) entries)

-- a row that may stand under these bytes: no more than the bound, they encode the key, and the value may be one
pub record IsKept (most : ℕ) (bytes : List ℕ) (row : Pair) : Type 0 where
  pub short : length bytes ≤ most
  pub key : Spells bytes (key_of bytes)
  pub present : row.value ≢ Null
  pub fits : Fits row.value

-- each row is such a row
abbrev pub AreKept : ℕ → Rows → Type 0
AreKept most rows = (bytes : List ℕ) (row : Pair) → finite.get rows bytes ≡ Some row → IsKept most bytes row

-- tests whether the bytes are those of one of the keys
abbrev pub is_among : {K : Type 0} → (K → List ℕ) → List K → List ℕ → Bool
is_among bytes keys form = list_any (λ key. eq_by_cmp (slice_cmp nat_cmp) form (bytes key)) keys
