-- Requests: what is read may be run, what is written is read, and what is read fits.
use Rattle.std.proofs.Common.{◌≡◌, ◌≢◌, ℕ, ℤ, ◌<◌, ◌≤◌, ◌^◌, List, [], ◌∷◌, length, Option, None, Some, Result, Ok, Err, refl, ap, subst}
use Rattle.std.specs.Prelude.{IfOk}
use Rattle.std.specs.Option.{option_and_then}
use Rattle.ig_wire.specs.Operations.{operation_at}
use Rattle.ig_wire.specs.declared.Operation.{Operation}
use Rattle.ig_wire.specs.declared.Operation.TheVariants as operation
use Rattle.ig_wire.specs.declared.AskFault.{AskFault}
use Rattle.ig_types.specs.declared.TypeMeta.{TypeMeta}
use Rattle.ig_caches.specs.declared.Call.TheVariants as call
use Rattle.ig_caches.specs.declared.Request.{Request}
use Rattle.ig_caches.specs.declared.Request.TheVariants.{Run}
use Rattle.ig_value.specs.Part.{i32}
use Rattle.ig_fields.specs.Format.{string, scalar, both, Fields}
use Rattle.ig_fields.specs.SpellsFields.{SpellsFields}
use Rattle.ig_fields.specs.Ask.{row_at, Ask}
use Rattle.ig_fields.specs.AsksRightly.{AsksRightly, asked}
use Rattle.ig_base.specs.Numbers.{AreBytes}
use Rattle.ig_fields.specs.AskAnswers.{AnswersAs}
use Rattle.ig_fields.proofs.AskLemmas.{answer_is_right}
use Rattle.ig_fields.specs.TableLaws.{IsRowOf}
use Rattle.ig_fields.proofs.FitsLemmas.{fields_fit}
use Rattle.ig_fields.proofs.RowLemmas.{present, present_is}
use Rattle.ig_fields.proofs.WrittenTableLemmas.{written_ask_read, written_asks_apart}
use Rattle.ig_meta.specs.TypeFields.{type_format, fields_of_type}
use Rattle.ig_meta.specs.Requests.{type_name, name_profile, ask_of, IsMetaRequest, profile_of, form_of}
use Rattle.ig_meta.specs.Laws.{IsRunnableRequest, PutsInOrder, FitsRequest, WrittenAskIsRead, AsksTellApart, SpelledRequestFits}
use Rattle.ig_meta.proofs.TypeLemmas.{ordered_back, read_in_order, type_fits}

-- ---- what is read may be run

-- a request that is served may be run, and so is one of these operations
abbrev pub AskRuns : Ask Request → Type 0
AskRuns ask = (x : Fields ask.format) → ask.profile x ≡ None → IsMetaRequest (ask.request x) × IsRunnableRequest (ask.request x)

name_present : (x : List ℕ) → name_profile x ≡ None → x ≢ []
name_present [] none = absurd cc
name_present (b ∷ bytes) none = λ e. absurd cc

by_row : (P : Ask Request → Type 0) (row ask : Ask Request) → P row → present row ≡ present ask → P ask
by_row P row ask h e = subst P (present_is row ask e) h

ask_runs : (o : Operation) (ask : Ask Request) → ask_of o ≡ Some ask → AskRuns ask
ask_runs operation.CacheNames ask e = by_row AskRuns _ ask (λ x none. (tt, tt)) e
ask_runs operation.Create ask e = by_row AskRuns _ ask (λ x none. (tt, name_present x none)) e
ask_runs operation.GetOrCreate ask e = by_row AskRuns _ ask (λ x none. (tt, name_present x none)) e
ask_runs operation.Destroy ask e = by_row AskRuns _ ask (λ x none. (tt, tt)) e
ask_runs operation.GetTypeName ask e = by_row AskRuns _ ask (λ x none. (tt, tt)) e
ask_runs operation.RegisterTypeName ask e = by_row AskRuns _ ask (λ x none. (tt, tt)) e
ask_runs operation.GetType ask e = by_row AskRuns _ ask (λ x none. (tt, tt)) e
ask_runs operation.PutType ask e = by_row AskRuns _ ask (λ x none. (tt, read_in_order x)) e
ask_runs _ ask e = absurd cc

-- ---- what is written is read

asks : (r : Request) → IsMetaRequest r → PutsInOrder r → IsRowOf ask_of profile_of r (form_of r)
asks (Run call.Names) h o = record { ask = _; known = refl; fields = tt; same = refl; asks = refl; profile = refl }
asks (Run (call.Create name)) h o = record { ask = _; known = refl; fields = name; same = refl; asks = refl; profile = refl }
asks (Run (call.GetOrCreate name)) h o = record { ask = _; known = refl; fields = name; same = refl; asks = refl; profile = refl }
asks (Run (call.Destroy cache)) h o = record { ask = _; known = refl; fields = cache; same = refl; asks = refl; profile = refl }
asks (Run (call.TypeName platform type)) h o = record { ask = _; known = refl; fields = (platform, type); same = refl; asks = refl; profile = refl }
asks (Run (call.SetTypeName platform type name)) h o = record { ask = _; known = refl; fields = ((platform, type), name); same = refl; asks = refl; profile = refl }
asks (Run (call.TypeOf type)) h o = record { ask = _; known = refl; fields = type; same = refl; asks = refl; profile = refl }
asks (Run (call.PutType t)) h o = record { ask = _; known = refl; fields = fields_of_type t; same = refl; asks = ap (λ (u : TypeMeta). Run (call.PutType u)) (ordered_back t o); profile = refl }
asks _ h o = absurd h

pub written_ask_is_read : WrittenAskIsRead
written_ask_is_read id r fits = written_ask_read ask_of profile_of id r (form_of r) (asks r fits.known fits.in_order) fits.fields

pub asks_tell_apart : AsksTellApart
asks_tell_apart a b p q fa fb first second e =
    written_asks_apart ask_of profile_of a b p q (form_of p) (form_of q) fa fb (asks p first.known first.in_order) (asks q second.known second.in_order) first.fields second.fields e

-- ---- what is read fits

abbrev AskFits : Ask Request → Type 0
AskFits ask = (s : List ℕ) (x : Fields ask.format) → length s < 2 ^ 31 → SpellsFields ask.format s x → FitsRequest (ask.request x)

ask_fits : (o : Operation) (ask : Ask Request) → ask_of o ≡ Some ask → AskFits ask
ask_fits operation.CacheNames ask e = by_row AskFits _ ask (λ s x small h. record { known = tt; fields = tt; in_order = tt }) e
ask_fits operation.Create ask e = by_row AskFits _ ask (λ s x small h. record { known = tt; fields = fields_fit string s x small h; in_order = tt }) e
ask_fits operation.GetOrCreate ask e = by_row AskFits _ ask (λ s x small h. record { known = tt; fields = fields_fit string s x small h; in_order = tt }) e
ask_fits operation.Destroy ask e = by_row AskFits _ ask (λ s x small h. record { known = tt; fields = fields_fit (scalar i32) s x small h; in_order = tt }) e
ask_fits operation.GetTypeName ask e = by_row AskFits _ ask (λ s x small h. record { known = tt; fields = fields_fit type_name s x small h; in_order = tt }) e
ask_fits operation.RegisterTypeName ask e = by_row AskFits _ ask (λ s x small h. record { known = tt; fields = fields_fit (both type_name string) s x small h; in_order = tt }) e
ask_fits operation.GetType ask e = by_row AskFits _ ask (λ s x small h. record { known = tt; fields = fields_fit (scalar i32) s x small h; in_order = tt }) e
ask_fits operation.PutType ask e = by_row AskFits _ ask (λ s x small h. record { known = tt; fields = type_fits x (fields_fit type_format s x small h); in_order = read_in_order x }) e
ask_fits _ ask e = absurd cc

pub spelled_request_fits : SpelledRequestFits
spelled_request_fits o ask s x known small h = ask_fits o ask known s x small h

-- ---- answers of reading

abbrev Runs : Request → Type 0
Runs r = IsMetaRequest r × IsRunnableRequest r

-- what a right answer asks is of these operations and may be run
pub read_runs : (code : ℤ) (body : List ℕ) (answer : Result Request AskFault) → AsksRightly (row_at ask_of code) body answer → IfOk answer Runs
read_runs code body (Ok r) (ask, x, known, spelled, profile, request) = by_operation (operation_at code) known where
  by_operation : (o : Option Operation) → option_and_then ask_of o ≡ Some ask → Runs r
  by_operation None e = absurd cc
  by_operation (Some o) e = subst Runs request (ask_runs o ask e x profile)
read_runs code body (Err e) h = tt

-- what reading by the operation gives is right
pub read_right : (o : Option Operation) (operation : Operation) (body : List ℕ) (answer : Result Request AskFault) → Some operation ≡ o → AreBytes body → 10 ≤ length body → AnswersAs (asked (ask_of operation) body) answer → AsksRightly (option_and_then ask_of o) body answer
read_right o operation body answer e bytes le h = subst (λ (p : Option Operation). AsksRightly (option_and_then ask_of p) body answer) e (answer_is_right (ask_of operation) body answer bytes le h)

abbrev pub IsKnownAnswer : Result Request AskFault → Type 0
IsKnownAnswer answer = IfOk answer IsMetaRequest

abbrev pub IsRunnableAnswer : Result Request AskFault → Type 0
IsRunnableAnswer answer = IfOk answer IsRunnableRequest

pub answer_known : (answer : Result Request AskFault) → IfOk answer Runs → IsKnownAnswer answer
answer_known (Ok r) h = h.0
answer_known (Err e) h = tt

pub answer_runs : (answer : Result Request AskFault) → IfOk answer Runs → IsRunnableAnswer answer
answer_runs (Ok r) h = h.1
answer_runs (Err e) h = tt
