-- Rows that are reserved: they stand under the encodings of keys that had none, and have no value yet.
use Rattle.std.specs.Prelude.{◌≡◌, ℕ, ◌≤◌, ◌⊎◌, Bool, true, false, List, length, Option, None, is_some, if◌then◌else◌}
use Rattle.std.specs.Option.{option_map_or}
use Rattle.std.specs.FinMap as finite
use Rattle.ig_value.specs.declared.value.Value.{Value}
use Rattle.ig_value.specs.declared.value.Value.TheVariants.{Null}
use Rattle.ig_value.specs.Canon.{Canon}
use Rattle.ig_caches.specs.declared.call.Pair.{Pair}
use Rattle.ig_caches.specs.Rows.{Rows}
use Rattle.ig_caches.specs.RowEntries.{row_under, is_among}

-- the rows, with one that has no value under the bytes if none stands there
abbrev pub reserved : Rows → List ℕ → Rows
reserved rows form = if is_some (finite.get rows form) then rows else finite.insert rows form (row_under form Null)

-- tests whether a value is null, as that of no row that a call leaves
abbrev pub is_null : Value → Bool
is_null Null = true
is_null _ = false

-- tests whether there is a row, and it has no value
abbrev pub is_reserved : Option Pair → Bool
is_reserved row = option_map_or (λ r. is_null r.value) row false

-- the rows without the one under the bytes if that has no value
abbrev pub released : Rows → List ℕ → Rows
released rows form = if is_reserved (finite.get rows form) then finite.remove rows form else rows

-- tests whether the bytes are the canonical encoding of the key of one of the pairs
abbrev pub has_key : List Pair → List ℕ → Bool
has_key pairs form = is_among (λ pair. Canon pair.key) pairs form

-- under the bytes, no more than the bound, a row was reserved for the key of one of the pairs
pub record IsReservedAt (most : ℕ) (old new : Rows) (pairs : List Pair) (form : List ℕ) : Type 0 where
  pub free : finite.get old form ≡ None
  pub marked : is_reserved (finite.get new form) ≡ true
  pub short : length form ≤ most
  pub named : has_key pairs form ≡ true

-- the new rows are the old ones, and some that were reserved for keys of the pairs
abbrev pub Reserves : ℕ → Rows → Rows → List Pair → Type 0
Reserves most old new pairs = (form : List ℕ) → (finite.get new form ≡ finite.get old form) ⊎ IsReservedAt most old new pairs form

-- each key of the pairs has a row, under no more bytes than the bound
abbrev pub AllStand : ℕ → Rows → List Pair → Type 0
AllStand most rows pairs = (form : List ℕ) → has_key pairs form ≡ true → (is_some (finite.get rows form) ≡ true) × (length form ≤ most)
