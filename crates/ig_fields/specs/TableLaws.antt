-- Laws of a table of requests and of one of results, over lists alone.
use Rattle.std.specs.Prelude.{◌≡◌, ◌≢◌, ℕ, ℤ, ◌≤◌, List, length, Option, Some, Result, Err}
use Rattle.ig_base.specs.Numbers.{AreBytes}
use Rattle.ig_wire.specs.declared.Operation.{Operation}
use Rattle.ig_wire.specs.declared.AskFault.{AskFault}
use Rattle.ig_wire.specs.declared.AskFault.TheVariants as fault
use Rattle.ig_wire.specs.declared.Profile.{Profile}
use Rattle.ig_wire.specs.declared.ReadFault.{ReadFault}
use Rattle.ig_wire.specs.declared.ReadFault.TheVariants as read_fault
use Rattle.ig_fields.specs.Format.{Fields}
use Rattle.ig_fields.specs.FieldBytes.{FitsFields}
use Rattle.ig_fields.specs.Ask.{row_at, Ask, AskForm, ResultForm, Filled}
use Rattle.ig_fields.specs.AsksRightly.{AsksRightly, asked}
use Rattle.ig_fields.specs.ShowsRightly.{ShowsRightly, shown_by}

-- ---- reading

-- the answer that reading a request gives is right
abbrev pub AskedIsRight : {A : Type 0} → (Operation → Option (Ask A)) → Type 0
AskedIsRight ask_of = (code : ℤ) (body : List ℕ) → AreBytes body → 10 ≤ length body → AsksRightly (row_at ask_of code) body (asked (row_at ask_of code) body)

-- and it is the only right one but out of memory
abbrev pub OneRightAsk : {A : Type 0} → (Operation → Option (Ask A)) → Type 0
OneRightAsk {A} ask_of = (code : ℤ) (body : List ℕ) (answer : Result A AskFault) → 10 ≤ length body → AsksRightly (row_at ask_of code) body answer → answer ≢ Err fault.NoMemory → asked (row_at ask_of code) body ≡ answer

-- the answer that reading a result gives is right
abbrev pub ShownIsRight : {A : Type 0} → (Operation → Option (ResultForm A)) → Type 0
ShownIsRight {A} result_of = (code : ℤ) (form : ResultForm A) (body : List ℕ) (at : ℕ) → row_at result_of code ≡ Some form → AreBytes body → at ≤ length body → ShowsRightly form body at (shown_by form body at)

-- and it is the only right one but out of memory
abbrev pub OneRightResult : {A : Type 0} → (Operation → Option (ResultForm A)) → Type 0
OneRightResult {A} result_of = (code : ℤ) (form : ResultForm A) (body : List ℕ) (at : ℕ) (answer : Result A ReadFault) → row_at result_of code ≡ Some form → at ≤ length body → ShowsRightly form body at answer → answer ≢ Err read_fault.NoMemory → shown_by form body at ≡ answer

-- ---- writing

-- the fields keep to the limits
abbrev pub FitsFilled : Filled → Type 0
FitsFilled filled = FitsFields filled.format filled.fields

-- the table has a row for the fields that a request is written with: they ask for the request, and are
-- refused for what the request is refused for
pub record IsRowOf {A : Type 0} (ask_of : Operation → Option (Ask A)) (profile_of : A → Option Profile) (request : A) (form : AskForm) : Type 0 where
  pub ask : Ask A
  pub known : ask_of form.operation ≡ Some ask
  pub fields : Fields ask.format
  pub same : form.filled ≡ record { format = ask.format; fields = fields }
  pub asks : ask.request fields ≡ request
  pub profile : ask.profile fields ≡ profile_of request

-- the fields that a result is written with are fields of the form, and show it
pub record IsShownBy {A : Type 0} (form : ResultForm A) (shown : A) (filled : Filled) : Type 0 where
  pub fields : Fields form.format
  pub same : filled ≡ record { format = form.format; fields = fields }
  pub shows : form.shown fields ≡ shown
