-- The fields of requests and results as rows of a table: what they mean to a reader, and what a writer
-- fills them with. `A` is what a request asks, or what a result shows.
use Rattle.std.specs.Prelude.{ℕ, ℤ, List, ◌++◌, Option, None}
use Rattle.std.specs.Int.{w16, w64}
use Rattle.std.specs.Option.{option_and_then}
use Rattle.ig_base.specs.Numbers.{LE}
use Rattle.ig_wire.specs.Operations.{operation_code, operation_at}
use Rattle.ig_wire.specs.declared.Operation.{Operation}
use Rattle.ig_wire.specs.declared.Profile.{Profile}
use Rattle.ig_fields.specs.Format.{Format, Fields}
use Rattle.ig_fields.specs.FieldBytes.{fields_bytes}

-- the row of the operation with this code, if the table has it
abbrev pub row_at : {R : Type 0} → (Operation → Option R) → ℤ → Option R
row_at table code = option_and_then table (operation_at code)

-- the fields of a request, what they ask, and why it isn't served, if it isn't
pub record Ask (A : Type 0) : Type 0 where
  pub format : Format
  pub request : Fields format → A
  pub profile : Fields format → Option Profile

-- fields of which every request is served
abbrev pub served_ask : {A : Type 0} (f : Format) → (Fields f → A) → Ask A
served_ask f request = record { format = f; request = request; profile = λ x. None }

-- fields that are seen as an item: what the item asks, and why it isn't served
abbrev pub item_ask : {A I : Type 0} (f : Format) → (Fields f → I) → (I → A) → (I → Option Profile) → Ask A
item_ask f view request profile = record { format = f; request = λ x. request (view x); profile = λ x. profile (view x) }

-- the fields of a result, and what they show
pub record ResultForm (A : Type 0) : Type 0 where
  pub format : Format
  pub shown : Fields format → A

-- fields that are seen as an item, and what the item shows
abbrev pub item_form : {A I : Type 0} (f : Format) → (Fields f → I) → (I → A) → ResultForm A
item_form f view shown = record { format = f; shown = λ x. shown (view x) }

-- fields of a format
pub record Filled : Type 0 where
  pub format : Format
  pub fields : Fields format

abbrev pub filled_bytes : Filled → List ℕ
filled_bytes filled = fields_bytes filled.format filled.fields

-- an operation and its fields
pub record AskForm : Type 0 where
  pub operation : Operation
  pub filled : Filled

-- the body of the frame of a request: the operation, the identifier and the fields
abbrev pub form_body : ℤ → AskForm → List ℕ
form_body id form = LE w16 (operation_code form.operation) ++ LE w64 id ++ filled_bytes form.filled
