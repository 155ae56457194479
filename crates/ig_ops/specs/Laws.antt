-- Laws of the requests and results, over lists alone.
use Rattle.std.specs.Prelude.{◌≡◌, ℕ, ℤ, ◌<◌, ◌^◌, List, ◌++◌, length, drop, Option, None, Some, Ok, FitsSigned}
use Rattle.std.specs.Int.{w64}
use Rattle.ig_wire.specs.Operations.{operation_code}
use Rattle.ig_wire.specs.declared.Operation.{Operation}
use Rattle.ig_caches.specs.declared.call.Call.{Call}
use Rattle.ig_caches.specs.declared.answer.Outcome.{Outcome}
use Rattle.ig_caches.specs.declared.answer.Outcome.TheVariants as outcome
use Rattle.ig_caches.specs.declared.request.Request.{Request}
use Rattle.ig_caches.specs.declared.request.Request.TheVariants as request
use Rattle.ig_caches.specs.declared.request.Shown.{Shown}
use Rattle.ig_caches.specs.declared.request.Shown.TheVariants as shown
use Rattle.ig_caches.specs.AnswersKind.{AnswersKind}
use Rattle.ig_fields.specs.Format.{Fields}
use Rattle.ig_fields.specs.Ask.{row_at, ResultForm}
use Rattle.ig_fields.specs.AsksRightly.{AsksRightly, served, asked}
use Rattle.ig_fields.specs.ShowsRightly.{ShowsRightly, shown_by}
use Rattle.ig_fields.specs.TableLaws.{FitsFilled}
use Rattle.ig_ops.specs.Requests.{ask_of, form_of, ask_body, IsOpsCall, IsOpsRequest, profile_of, IsServed}
use Rattle.ig_ops.specs.Results.{result_of, filled_of, shown_bytes, IsOpsShown}

-- ---- requests

-- the request is one of these, and its fields keep to the limits
pub record FitsAsk (r : Request) : Type 0 where
  pub known : IsOpsRequest r
  pub fields : FitsFilled (form_of r).filled

-- a request that is written is read as it is, or refused for what it asks
abbrev pub WrittenAskIsRead : Type 0
WrittenAskIsRead =
    (id : ℤ) (r : Request) → FitsAsk r
    → asked (row_at ask_of (operation_code (form_of r).operation)) (ask_body id r) ≡ served r (profile_of r)

-- no two requests have the same bytes
abbrev pub AsksTellApart : Type 0
AsksTellApart =
    (a b : ℤ) (p q : Request) → FitsSigned w64 a → FitsSigned w64 b → FitsAsk p → FitsAsk q
    → ask_body a p ≡ ask_body b q → (a ≡ b) × (p ≡ q)

-- what the fields of an operation ask, in a body that an Int32 counts, is one of these requests, keeps to the
-- limits, is written under the same operation, and can be served
abbrev pub ReadAskFits : Type 0
ReadAskFits =
    (o : Operation) (body : List ℕ) (r : Request) → length body < 2 ^ 31
    → AsksRightly (ask_of o) body (Ok r)
    → FitsAsk r × ((form_of r).operation ≡ o) × IsServed r × (profile_of r ≡ None)

-- ---- results

-- the form can show it
pub record IsResult (form : ResultForm Shown) (x : Shown) : Type 0 where
  pub fields : Fields form.format
  pub shows : form.shown fields ≡ x

-- the fields of a result keep to the limits
abbrev pub FitsShown : Shown → Type 0
FitsShown x = FitsFilled (filled_of x)

-- a result of an operation is read as it was written, after whatever head
abbrev pub WrittenResultIsRead : Type 0
WrittenResultIsRead =
    (o : Operation) (form : ResultForm Shown) (x : Shown) (head : List ℕ)
    → result_of o ≡ Some form → IsResult form x → FitsShown x
    → shown_by form (head ++ shown_bytes x) (length head) ≡ Ok x

-- no two results of an operation have the same bytes
abbrev pub ResultsTellApart : Type 0
ResultsTellApart =
    (o : Operation) (form : ResultForm Shown) (x y : Shown)
    → result_of o ≡ Some form → IsResult form x → IsResult form y → FitsShown x → FitsShown y
    → shown_bytes x ≡ shown_bytes y → x ≡ y

-- what a body that an Int32 counts shows is one of these results, and keeps to the limits
abbrev pub ReadResultFits : Type 0
ReadResultFits =
    (o : Operation) (form : ResultForm Shown) (body : List ℕ) (at : ℕ) (x : Shown)
    → result_of o ≡ Some form → length body < 2 ^ 31 → ShowsRightly form body at (Ok x)
    → IsOpsShown x × IsResult form x × FitsShown x

-- the row can show it
abbrev pub IsRowResult : Option (ResultForm Shown) → Shown → Type 0
IsRowResult None x = ⊥
IsRowResult (Some form) x = IsResult form x

-- what isn't a refusal
abbrev pub IsAnswered : Outcome → Type 0
IsAnswered (outcome.Refused why) = ⊥
IsAnswered _ = Unit {0}

-- an outcome that answers a call is a result of the call's operation
abbrev pub AnswersAreShown : Type 0
AnswersAreShown =
    (call : Call) (o : Outcome) → IsOpsCall call → AnswersKind call o → IsAnswered o
    → IsRowResult (result_of (form_of (request.Run call)).operation) (shown.Out o)
