-- The rows of a cache: a finite map from keys to values.
use Rattle.std.specs.Prelude.{Bool, not, List, [], ◌∷◌, fold, filter, is_some, Option, nat_eq, option_map}
use Rattle.std.specs.List.{filter_map}
use Rattle.std.specs.Ordering.{nat_cmp}
use Rattle.std.specs.Cmp.Lexicographic.{slice_cmp, pointwise}
use Rattle.std.specs.FinMap as map
use Rattle.std.specs.FinMap.{FinMap}
use Rattle.ig_value.specs.declared.value.Value.{Value}
use Rattle.ig_value.specs.Canon.{Canon}
use Rattle.ig_caches.specs.declared.call.Pair.{Pair}

-- the rows stand under the canonical encodings of their keys, in the order of these bytes
abbrev pub Rows : Type 0
Rows = FinMap (slice_cmp nat_cmp) Pair

-- tests whether two values are equal: whether they have one canonical encoding
abbrev pub is_same : Value → Value → Bool
is_same v w = pointwise nat_eq (Canon v) (Canon w)

-- the row of a key
abbrev pub row_of : Rows → Value → Option Pair
row_of rows key = map.get rows (Canon key)

-- the value of a key
abbrev pub value_of : Rows → Value → Option Value
value_of rows key = option_map (λ row. row.value) (row_of rows key)

-- tests whether a key has a row
abbrev pub has_row : Rows → Value → Bool
has_row rows key = is_some (row_of rows key)

-- the rows with this one in the place of the row of its key
abbrev pub with_row : Rows → Pair → Rows
with_row rows row = map.insert rows (Canon row.key) row

-- the rows without the row of a key
abbrev pub without_row : Rows → Value → Rows
without_row rows key = map.remove rows (Canon key)

-- the rows after rows are put from left to right: the last one of a key stands
abbrev pub with_rows : Rows → List Pair → Rows
with_rows rows pairs = fold with_row rows pairs

-- the rows without those of the keys
abbrev pub without_rows : Rows → List Value → Rows
without_rows rows keys = fold without_row rows keys

-- the keys, each once, in the order of their first mention
abbrev pub first_mentions : List Value → List Value
first_mentions [] = []
first_mentions (key ∷ keys) = key ∷ filter (λ other. not (is_same key other)) (first_mentions keys)

-- the rows of those of the keys that have one, each once, in the order in which the keys are first mentioned
abbrev pub rows_of : Rows → List Value → List Pair
rows_of rows keys = filter_map (row_of rows) (first_mentions keys)

-- all rows, in the order of the canonical encodings of their keys
abbrev pub all_rows : Rows → List Pair
all_rows = map.values
