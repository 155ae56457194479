-- What the crates that have the operations read, as what a body asks.
use Rattle.std.proofs.Common.{◌≡◌, ℕ, ℤ, pos, List, drop, ◌++◌, Option, None, Some, Result, Ok, Err, refl, sym, ap, ◌∙◌, subst}
use Rattle.std.specs.Prelude.{FitsSigned, is_some, Bool, true, false, if◌then◌else◌}
use Rattle.std.specs.Int.{w16, w64}
use Rattle.std.specs.Option.{option_and_then}
use Rattle.ig_base.specs.Numbers.{LE}
use Rattle.ig_wire.specs.declared.operation.Operation.{Operation}
use Rattle.ig_wire.specs.declared.operation.Operation.TheVariants as operation
use Rattle.ig_wire.specs.declared.version.Version.{Version}
use Rattle.ig_wire.specs.declared.ask.AskFault.{AskFault}
use Rattle.ig_wire.specs.declared.ask.AskFault.TheVariants as ask
use Rattle.ig_wire.specs.declared.Profile.{Profile}
use Rattle.ig_wire.specs.Operations.{operation_at, first_version}
use Rattle.ig_wire.specs.Versions.{is_up_to}
use Rattle.ig_fields.specs.Format.{Fields}
use Rattle.ig_fields.specs.Ask.{Ask, row_at}
use Rattle.ig_fields.specs.AsksRightly.{asked, asked_fields, served, fields_after}
use Rattle.ig_fields.specs.AskAnswers.{AnswersAs}
use Rattle.ig_fields.specs.ReadingFields.{message_of}
use Rattle.ig_caches.specs.declared.call.Call.TheVariants.{Affinity}
use Rattle.ig_caches.specs.declared.request.Request.{Request}
use Rattle.ig_caches.specs.declared.request.Request.TheVariants.{Run}
use Rattle.ig_ops.specs.Requests as ops
use Rattle.ig_meta.specs.Requests as meta
use Rattle.ig_deals.specs.Asks.{served_at, operation_in, id_in, request_in}
use Rattle.ig_deals.specs.Tables.{parts_request, ask_of}
use Rattle.ig_deals.proofs.DealLemmas.{head_is_read}

-- ---- the head

-- the operation and the identifier that were read are those of the body
pub head_in : (body : List ℕ) (code id : ℤ) → FitsSigned w16 code → FitsSigned w64 id → body ≡ LE w16 code ++ LE w64 id ++ drop 10 body
    → (operation_in body ≡ code) × (id_in body ≡ id)
head_in body code id a b e =
    let read = head_is_read code id (drop 10 body) a b in
    (ap operation_in e ∙ read.0, ap id_in e ∙ read.1)

-- ---- the row of an operation

pub row_none : (v : Version) (body : List ℕ) (code : ℤ) → operation_in body ≡ code → operation_at code ≡ None → request_in v body ≡ Err ask.NotMine
row_none v body code is none =
    ap (λ (c : ℤ). asked (row_at (served_at v) c) body) is ∙ ap (λ (o : Option Operation). asked (option_and_then (served_at v) o) body) none

pub row_some : (v : Version) (body : List ℕ) (code : ℤ) (o : Operation) → operation_in body ≡ code → operation_at code ≡ Some o → request_in v body ≡ asked (served_at v o) body
row_some v body code o is some =
    ap (λ (c : ℤ). asked (row_at (served_at v) c) body) is ∙ ap (λ (p : Option Operation). asked (option_and_then (served_at v) p) body) some

pub row_later : (v : Version) (body : List ℕ) (code : ℤ) (o : Operation) → operation_in body ≡ code → operation_at code ≡ Some o → is_up_to (first_version o) v ≡ false
    → request_in v body ≡ Err ask.NotMine
row_later v body code o is some later =
    row_some v body code o is some ∙ ap (λ (b : Bool). asked (if b then ask_of o else None) body) later

pub row_served : (v : Version) (body : List ℕ) (code : ℤ) (o : Operation) → operation_in body ≡ code → operation_at code ≡ Some o → is_up_to (first_version o) v ≡ true
    → request_in v body ≡ asked (ask_of o) body
row_served v body code o is some known =
    row_some v body code o is some ∙ ap (λ (b : Bool). asked (if b then ask_of o else None) body) known

-- the row of a table at the code of an operation
pub row_of : {R : Type 0} (table : Operation → Option R) (code : ℤ) (o : Operation) → operation_at code ≡ Some o → row_at table code ≡ table o
row_of table code o some = ap (option_and_then table) some

-- ---- partition maps

abbrev pub as_call : Result (List ℤ) AskFault → Result Request AskFault
as_call (Ok caches) = Ok (Run (Affinity caches))
as_call (Err fault) = Err fault

unread_as_call : (place : ℕ) (read : Result (List ℤ) AskFault) → AnswersAs (Err (ask.Unread place)) read → AnswersAs (Err (ask.Unread place)) (as_call read)
unread_as_call place (Ok caches) h = absurd cc
unread_as_call place (Err ask.NoMemory) h = tt
unread_as_call place (Err ask.NotMine) h = absurd cc
unread_as_call place (Err (ask.Unread p)) h = let same : place ≡ p = cc in ap (λ (n : ℕ). Err (ask.Unread n)) same
unread_as_call place (Err (ask.Profile p)) h = absurd cc

served_as_call : (caches : List ℤ) (profile : Option Profile) (read : Result (List ℤ) AskFault) → AnswersAs (served caches profile) read
    → AnswersAs (served (Run (Affinity caches)) profile) (as_call read)
served_as_call caches None (Ok cs) h = let same : caches ≡ cs = cc in ap (λ (l : List ℤ). Ok (Run (Affinity l))) same
served_as_call caches None (Err ask.NoMemory) h = tt
served_as_call caches None (Err ask.NotMine) h = absurd cc
served_as_call caches None (Err (ask.Unread p)) h = absurd cc
served_as_call caches None (Err (ask.Profile p)) h = absurd cc
served_as_call caches (Some profile) (Ok cs) h = absurd cc
served_as_call caches (Some profile) (Err ask.NoMemory) h = tt
served_as_call caches (Some profile) (Err ask.NotMine) h = absurd cc
served_as_call caches (Some profile) (Err (ask.Unread p)) h = absurd cc
served_as_call caches (Some profile) (Err (ask.Profile p)) h = let same : profile ≡ p = cc in ap (λ (q : Profile). Err (ask.Profile q)) same

fields_as_call : (row : Ask (List ℤ)) (body : List ℕ) (o : Result (Fields row.format) ℕ) (read : Result (List ℤ) AskFault) → AnswersAs (asked_fields row body o) read
    → AnswersAs (asked_fields (parts_request row) body o) (as_call read)
fields_as_call row body (Ok x) read h = served_as_call (row.request x) (row.profile x) read h
fields_as_call row body (Err left) read h = unread_as_call _ read h

pub parts_as_call : (row : Ask (List ℤ)) (body : List ℕ) (read : Result (List ℤ) AskFault) → AnswersAs (asked (Some row) body) read
    → AnswersAs (asked (Some (parts_request row)) body) (as_call read)
parts_as_call row body read h = fields_as_call row body (message_of row.format (fields_after body)) read h

-- ---- which crate has an operation

-- the operations of caches and types
pub meta_row : (o : Operation) → is_some (meta.ask_of o) ≡ true → ask_of o ≡ meta.ask_of o
meta_row operation.CloseResource h = absurd cc
meta_row operation.Get h = absurd cc
meta_row operation.Put h = absurd cc
meta_row operation.PutIfAbsent h = absurd cc
meta_row operation.GetAll h = absurd cc
meta_row operation.PutAll h = absurd cc
meta_row operation.GetAndPut h = absurd cc
meta_row operation.GetAndReplace h = absurd cc
meta_row operation.GetAndRemove h = absurd cc
meta_row operation.GetAndPutIfAbsent h = absurd cc
meta_row operation.Replace h = absurd cc
meta_row operation.ReplaceIfEquals h = absurd cc
meta_row operation.ContainsKey h = absurd cc
meta_row operation.ContainsKeys h = absurd cc
meta_row operation.Clear h = absurd cc
meta_row operation.ClearKey h = absurd cc
meta_row operation.ClearKeys h = absurd cc
meta_row operation.RemoveKey h = absurd cc
meta_row operation.RemoveIfEquals h = absurd cc
meta_row operation.RemoveKeys h = absurd cc
meta_row operation.RemoveAll h = absurd cc
meta_row operation.GetSize h = absurd cc
meta_row operation.CacheNames h = refl
meta_row operation.Create h = refl
meta_row operation.GetOrCreate h = refl
meta_row operation.Destroy h = refl
meta_row operation.PartitionMaps h = absurd cc
meta_row operation.Scan h = absurd cc
meta_row operation.NextPage h = absurd cc
meta_row operation.GetTypeName h = refl
meta_row operation.RegisterTypeName h = refl
meta_row operation.GetType h = refl
meta_row operation.PutType h = refl

-- the other ones, but for partition maps
pub ops_row : (o : Operation) → is_some (meta.ask_of o) ≡ false → (o ≡ operation.PartitionMaps → ⊥) → ask_of o ≡ ops.ask_of o
ops_row operation.CloseResource h never = refl
ops_row operation.Get h never = refl
ops_row operation.Put h never = refl
ops_row operation.PutIfAbsent h never = refl
ops_row operation.GetAll h never = refl
ops_row operation.PutAll h never = refl
ops_row operation.GetAndPut h never = refl
ops_row operation.GetAndReplace h never = refl
ops_row operation.GetAndRemove h never = refl
ops_row operation.GetAndPutIfAbsent h never = refl
ops_row operation.Replace h never = refl
ops_row operation.ReplaceIfEquals h never = refl
ops_row operation.ContainsKey h never = refl
ops_row operation.ContainsKeys h never = refl
ops_row operation.Clear h never = refl
ops_row operation.ClearKey h never = refl
ops_row operation.ClearKeys h never = refl
ops_row operation.RemoveKey h never = refl
ops_row operation.RemoveIfEquals h never = refl
ops_row operation.RemoveKeys h never = refl
ops_row operation.RemoveAll h never = refl
ops_row operation.GetSize h never = refl
ops_row operation.CacheNames h never = absurd cc
ops_row operation.Create h never = absurd cc
ops_row operation.GetOrCreate h never = absurd cc
ops_row operation.Destroy h never = absurd cc
ops_row operation.PartitionMaps h never = absurd (never refl)
ops_row operation.Scan h never = refl
ops_row operation.NextPage h never = refl
ops_row operation.GetTypeName h never = absurd cc
ops_row operation.RegisterTypeName h never = absurd cc
ops_row operation.GetType h never = absurd cc
ops_row operation.PutType h never = absurd cc
