-- Laws of these requests and results, over lists alone.
use Rattle.std.specs.Prelude.{◌≡◌, ℕ, ℤ, ◌<◌, ◌^◌, List, ◌++◌, length, Option, None, Some, Ok, FitsSigned}
use Rattle.std.specs.Int.{w64}
use Rattle.ig_wire.specs.Operations.{operation_code}
use Rattle.ig_wire.specs.declared.Operation.{Operation}
use Rattle.ig_types.specs.declared.TypeMeta.{TypeMeta}
use Rattle.ig_types.specs.IsInOrder.{IsInOrder}
use Rattle.ig_caches.specs.declared.Call.{Call}
use Rattle.ig_caches.specs.declared.Call.TheVariants as call
use Rattle.ig_caches.specs.declared.Request.{Request}
use Rattle.ig_caches.specs.declared.Request.TheVariants.{Run}
use Rattle.ig_caches.specs.declared.Outcome.{Outcome}
use Rattle.ig_caches.specs.declared.Outcome.TheVariants as outcome
use Rattle.ig_caches.specs.declared.Shown.{Shown}
use Rattle.ig_caches.specs.declared.Shown.TheVariants.{Out}
use Rattle.ig_caches.specs.IsRunnable.{IsRunnable}
use Rattle.ig_caches.specs.AnswersKind.{AnswersKind}
use Rattle.ig_fields.specs.Format.{Fields}
use Rattle.ig_fields.specs.SpellsFields.{SpellsFields}
use Rattle.ig_fields.specs.Ask.{row_at, Ask, ResultForm}
use Rattle.ig_fields.specs.AsksRightly.{served, asked}
use Rattle.ig_fields.specs.ShowsRightly.{shown_by}
use Rattle.ig_fields.specs.TableLaws.{FitsFilled}
use Rattle.ig_meta.specs.TypeFields.{type_format, type_of_fields, fields_of_type}
use Rattle.ig_meta.specs.Requests.{ask_of, IsMetaRequest, profile_of, form_of, ask_body}
use Rattle.ig_meta.specs.Results.{result_of, IsMetaShown, filled_of, shown_bytes}

-- ---- descriptions

-- a description in order is what its fields hold
abbrev pub OrderedTypeComesBack : Type 0
OrderedTypeComesBack = (t : TypeMeta) → IsInOrder t → type_of_fields (fields_of_type t) ≡ t

-- what fields hold is in order
abbrev pub ReadTypeIsInOrder : Type 0
ReadTypeIsInOrder = (x : Fields type_format) → IsInOrder (type_of_fields x)

-- ---- requests

-- its call may be run
abbrev pub IsRunnableRequest : Request → Type 0
IsRunnableRequest (Run c) = IsRunnable c
IsRunnableRequest _ = ⊥

-- the description that it puts is in order
abbrev pub PutsInOrder : Request → Type 0
PutsInOrder (Run (call.PutType t)) = IsInOrder t
PutsInOrder _ = Unit {0}

-- a request of this crate's operations that is the one that its bytes spell: its numbers and texts keep to
-- the limits, and a description is in order
pub record FitsRequest (request : Request) : Type 0 where
  pub known : IsMetaRequest request
  pub fields : FitsFilled (form_of request).filled
  pub in_order : PutsInOrder request

-- a request that is written is read as it is, or refused for its empty name
abbrev pub WrittenAskIsRead : Type 0
WrittenAskIsRead =
    (id : ℤ) (r : Request) → FitsRequest r
    → asked (row_at ask_of (operation_code (form_of r).operation)) (ask_body id r) ≡ served r (profile_of r)

-- no two requests have the same bytes
abbrev pub AsksTellApart : Type 0
AsksTellApart =
    (a b : ℤ) (p q : Request) → FitsSigned w64 a → FitsSigned w64 b → FitsRequest p → FitsRequest q
    → ask_body a p ≡ ask_body b q → (a ≡ b) × (p ≡ q)

-- what bytes ask that an Int32 counts can be written
abbrev pub SpelledRequestFits : Type 0
SpelledRequestFits =
    (o : Operation) (ask : Ask Request) (s : List ℕ) (x : Fields ask.format) → ask_of o ≡ Some ask
    → length s < 2 ^ 31 → SpellsFields ask.format s x → FitsRequest (ask.request x)

-- ---- results

-- a description that it shows is in order
abbrev pub ShowsInOrder : Shown → Type 0
ShowsInOrder (Out (outcome.Meta (Some t))) = IsInOrder t
ShowsInOrder _ = Unit {0}

-- fields of the form show it
abbrev pub IsShownIn : ResultForm Shown → Shown → Type 0
IsShownIn form shown = (x : Fields form.format) × (form.shown x ≡ shown)

-- a result that is the one that its bytes spell
pub record FitsShown (shown : Shown) : Type 0 where
  pub known : IsMetaShown shown
  pub fields : FitsFilled (filled_of shown)
  pub in_order : ShowsInOrder shown

-- a result of an operation that is written is read as it is, after whatever head
abbrev pub WrittenResultIsRead : Type 0
WrittenResultIsRead =
    (o : Operation) (form : ResultForm Shown) (shown : Shown) (head : List ℕ) → result_of o ≡ Some form
    → IsShownIn form shown → FitsShown shown
    → shown_by form (head ++ shown_bytes shown) (length head) ≡ Ok shown

-- no two results of an operation have the same bytes
abbrev pub ResultsTellApart : Type 0
ResultsTellApart =
    (o : Operation) (form : ResultForm Shown) (p q : Shown) → result_of o ≡ Some form
    → IsShownIn form p → IsShownIn form q → FitsShown p → FitsShown q → shown_bytes p ≡ shown_bytes q → p ≡ q

-- what bytes show that an Int32 counts can be written
abbrev pub SpelledResultFits : Type 0
SpelledResultFits =
    (o : Operation) (form : ResultForm Shown) (s : List ℕ) (x : Fields form.format) → result_of o ≡ Some form
    → length s < 2 ^ 31 → SpellsFields form.format s x → FitsShown (form.shown x)

-- fields of the row's form show it
abbrev pub IsShownInRow : Option (ResultForm Shown) → Shown → Type 0
IsShownInRow None shown = ⊥
IsShownInRow (Some form) shown = IsShownIn form shown

-- what isn't a refusal
abbrev pub IsAnswered : Outcome → Type 0
IsAnswered (outcome.Refused why) = ⊥
IsAnswered _ = Unit {0}

-- an outcome that answers a call is a result of the call's operation; a description is so if it is in order
abbrev pub AnswersAreShown : Type 0
AnswersAreShown =
    (c : Call) (o : Outcome) → IsMetaRequest (Run c) → AnswersKind c o → IsAnswered o → ShowsInOrder (Out o)
    → IsShownInRow (result_of (form_of (Run c)).operation) (Out o)
