-- Keys with their values as the program reads and writes them: the reading and the bytes of their format.
use Rattle.std.proofs.Common.{refl}
use Rattle.std.specs.Prelude.{◌≡◌, ℕ, ℤ, pos, Bool, List, [], ◌++◌, map, length, Option, None, Some}
use Rattle.std.specs.Int.{w32}
use Rattle.std.specs.List.{flat_map}
use Rattle.ig_base.specs.Numbers.{LE}
use Rattle.ig_value.specs.Canon.{Canon}
use Rattle.ig_value.specs.Part.{i64, truth}
use Rattle.ig_value.specs.Spells.{scalar_bytes}
use Rattle.ig_wire.specs.Fields.{Field}
use Rattle.ig_caches.specs.declared.call.Pair.{Pair}
use Rattle.ig_fields.specs.Format.{both, value}
use Rattle.ig_fields.specs.ReadingFields.{mapped_of, both_of, listed_of, value_field, fields_of}
use Rattle.ig_fields.specs.FieldBytes.{listed_bytes, fields_bytes}
use Rattle.ig_fields.specs.Views.{ReadsAs, WritesAs, listed_as, listed_written}
use Rattle.ig_ops.specs.Requests.{rows_fields, pair_of, pair_fields}
use Rattle.ig_ops.specs.Results.{page_of, shown_bytes}

abbrev pub pair_reading : List ℕ → Field Pair
pair_reading s = mapped_of pair_of (both_of value_field value_field s)

-- the canonical encodings of the key and of the value
abbrev pub pair_bytes : Pair → List ℕ
pair_bytes pair = Canon pair.key ++ Canon pair.value

pub rows_read : ReadsAs (map pair_of) (listed_of pair_reading) (fields_of rows_fields)
rows_read = listed_as pair_of pair_reading (fields_of (both value value)) (λ s. refl)

pub rows_written : WritesAs (map pair_fields) (listed_bytes pair_bytes) (fields_bytes rows_fields)
rows_written = listed_written pair_fields pair_bytes (fields_bytes (both value value)) (λ p. refl)

-- ---- pages

-- the bytes of a page
abbrev pub page_bytes : Option ℤ → List Pair → Bool → List ℕ
page_bytes cursor rows more = shown_bytes (page_of cursor rows more)

-- the cursor, where there is one, and the number of rows
abbrev pub cursor_bytes : Option ℤ → List ℕ
cursor_bytes None = []
cursor_bytes (Some cursor) = scalar_bytes i64 cursor

abbrev pub page_head : Option ℤ → List Pair → List ℕ
page_head cursor rows = cursor_bytes cursor ++ LE w32 (pos (length rows))

-- the bytes of rows, one after the other
abbrev pub row_bytes : List Pair → List ℕ
row_bytes rows = flat_map pair_bytes rows
