-- The results of operations on the rows of caches, of scans and of cursors.
use Rattle.std.specs.Prelude.{ℕ, ℤ, Bool, List, map, Option, None, Some}
use Rattle.ig_value.specs.declared.Value.{Value}
use Rattle.ig_value.specs.Part.{i64, truth}
use Rattle.ig_wire.specs.declared.Operation.{Operation}
use Rattle.ig_wire.specs.declared.Operation.TheVariants as operation
use Rattle.ig_caches.specs.declared.call.Pair.{Pair}
use Rattle.ig_caches.specs.declared.answer.Outcome.{Outcome}
use Rattle.ig_caches.specs.declared.answer.Outcome.TheVariants as outcome
use Rattle.ig_caches.specs.declared.request.Page.{Page}
use Rattle.ig_caches.specs.declared.request.Shown.{Shown}
use Rattle.ig_caches.specs.declared.request.Shown.TheVariants as shown
use Rattle.ig_fields.specs.Format.{Format, nothing, value, scalar, both, Fields}
use Rattle.ig_fields.specs.Ask.{ResultForm, Filled, filled_bytes}
use Rattle.ig_ops.specs.Requests.{rows_fields, pair_of, pair_fields}

-- ---- the fields, and what they show

abbrev pub page_of : Option ℤ → List Pair → Bool → Shown
page_of cursor rows more = shown.Page (record { cursor = cursor; rows = rows; more = more })

abbrev pub done_result : ResultForm Shown
done_result = record { format = nothing; shown = λ x. shown.Out outcome.Done }

-- a value, which is null where there is none
abbrev pub value_result : ResultForm Shown
value_result = record { format = value; shown = λ x. shown.Out (outcome.Found x) }

-- a Byte, 0 or 1
abbrev pub truth_result : ResultForm Shown
truth_result = record { format = scalar truth; shown = λ x. shown.Out (outcome.Yes x) }

-- keys with their values
abbrev pub rows_result : ResultForm Shown
rows_result = record { format = rows_fields; shown = λ x. shown.Out (outcome.Pairs (map pair_of x)) }

-- an Int64
abbrev pub count_result : ResultForm Shown
count_result = record { format = scalar i64; shown = λ x. shown.Out (outcome.Count x) }

-- keys with their values, and a Byte, 0 or 1, which says whether rows are left
abbrev pub page_fields : Format
page_fields = both rows_fields (scalar truth)

-- an Int64, which is the cursor, and a page
abbrev pub first_page_result : ResultForm Shown
first_page_result = record {
  format = both (scalar i64) page_fields;
  shown = λ x. page_of (Some x.0) (map pair_of x.1.0) x.1.1;
}

abbrev pub next_page_result : ResultForm Shown
next_page_result = record { format = page_fields; shown = λ x. page_of None (map pair_of x.0) x.1 }

-- ---- the table: what the result of each operation shows

abbrev pub result_of : Operation → Option (ResultForm Shown)
result_of operation.Get = Some value_result
result_of operation.Put = Some done_result
result_of operation.PutIfAbsent = Some truth_result
result_of operation.GetAll = Some rows_result
result_of operation.PutAll = Some done_result
result_of operation.GetAndPut = Some value_result
result_of operation.GetAndReplace = Some value_result
result_of operation.GetAndRemove = Some value_result
result_of operation.GetAndPutIfAbsent = Some value_result
result_of operation.Replace = Some truth_result
result_of operation.ReplaceIfEquals = Some truth_result
result_of operation.ContainsKey = Some truth_result
result_of operation.ContainsKeys = Some truth_result
result_of operation.Clear = Some done_result
result_of operation.ClearKey = Some done_result
result_of operation.ClearKeys = Some done_result
result_of operation.RemoveKey = Some truth_result
result_of operation.RemoveIfEquals = Some truth_result
result_of operation.RemoveKeys = Some done_result
result_of operation.RemoveAll = Some done_result
result_of operation.GetSize = Some count_result
result_of operation.Scan = Some first_page_result
result_of operation.NextPage = Some next_page_result
result_of operation.CloseResource = Some done_result
result_of _ = None

-- ---- how a result is written

abbrev pub filled_fields : (f : Format) → Fields f → Filled
filled_fields f x = record { format = f; fields = x }

-- a first page has its cursor
abbrev pub page_filled : Option ℤ → List Pair → Bool → Filled
page_filled None rows more = filled_fields page_fields (map pair_fields rows, more)
page_filled (Some cursor) rows more = filled_fields (both (scalar i64) page_fields) (cursor, (map pair_fields rows, more))

abbrev pub outcome_filled : Outcome → Filled
outcome_filled outcome.Done = filled_fields nothing tt
outcome_filled (outcome.Found v) = filled_fields value v
outcome_filled (outcome.Yes b) = filled_fields (scalar truth) b
outcome_filled (outcome.Pairs rows) = filled_fields rows_fields (map pair_fields rows)
outcome_filled (outcome.Count n) = filled_fields (scalar i64) n
outcome_filled _ = filled_fields nothing tt

abbrev pub filled_of : Shown → Filled
filled_of (shown.Out o) = outcome_filled o
filled_of (shown.Page page) = page_filled page.cursor page.rows page.more

-- the bytes of a result
abbrev pub shown_bytes : Shown → List ℕ
shown_bytes x = filled_bytes (filled_of x)

-- ---- which results these are

abbrev pub IsOpsOutcome : Outcome → Type 0
IsOpsOutcome (outcome.Names _) = ⊥
IsOpsOutcome (outcome.Name _) = ⊥
IsOpsOutcome (outcome.Meta _) = ⊥
IsOpsOutcome (outcome.Keys _) = ⊥
IsOpsOutcome (outcome.Refused _) = ⊥
IsOpsOutcome _ = Unit {0}

abbrev pub IsOpsShown : Shown → Type 0
IsOpsShown (shown.Out o) = IsOpsOutcome o
IsOpsShown (shown.Page page) = Unit {0}
