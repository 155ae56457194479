-- Results: what is shown is read, and what is read can be written.
use Rattle.std.proofs.Common.{◌≡◌, ℕ, ◌<◌, ◌^◌, ◌≤◌, ℤ, Bool, true, false, List, [], ◌∷◌, ◌++◌, map, length, drop, Option, None, Some, Result, Ok, Err, refl, sym, ap, subst, ◌∙◌, arith, length-drop}
use Rattle.std.specs.Prelude.{IfOk}
use Rattle.std.specs.Option.{option_and_then}
use Rattle.ig_base.specs.Numbers.{AreBytes}
use Rattle.ig_value.specs.declared.Value.{Value}
use Rattle.ig_wire.specs.Operations.{operation_at}
use Rattle.ig_wire.specs.declared.Operation.{Operation}
use Rattle.ig_wire.specs.declared.Operation.TheVariants as operation
use Rattle.ig_wire.specs.declared.ReadFault.{ReadFault}
use Rattle.ig_caches.specs.declared.call.Pair.{Pair}
use Rattle.ig_caches.specs.declared.call.Call.{Call}
use Rattle.ig_caches.specs.declared.call.Call.TheVariants.{Get, GetAndRemove, ContainsKey, ClearKey, RemoveKey, Put, PutIfAbsent, GetAndPut, GetAndReplace, GetAndPutIfAbsent, Replace, ReplaceIfEquals, RemoveIfEquals, GetAll, ContainsKeys, ClearKeys, RemoveKeys, PutAll, Clear, RemoveAll, Scan, Size, Names, Create, GetOrCreate, Destroy, TypeName, SetTypeName, TypeOf, PutType, Affinity}
use Rattle.ig_caches.specs.declared.answer.Outcome.{Outcome}
use Rattle.ig_caches.specs.declared.answer.Outcome.TheVariants as outcome
use Rattle.ig_caches.specs.declared.request.Shown.{Shown}
use Rattle.ig_caches.specs.declared.request.Shown.TheVariants as shown
use Rattle.ig_caches.specs.AnswersKind.{IsOfKind, done, found, yes_or_no, pairs, count, AnswersKind}
use Rattle.ig_fields.specs.Format.{Format, Fields}
use Rattle.ig_fields.specs.FieldBytes.{FitsFields}
use Rattle.ig_fields.specs.Ask.{row_at, ResultForm, Filled}
use Rattle.ig_fields.specs.ShowsRightly.{ShowsRightly, shown_by}
use Rattle.ig_fields.specs.ShownAnswers.{ShowsAs}
use Rattle.ig_fields.specs.TableLaws.{FitsFilled, IsShownBy}
use Rattle.ig_fields.proofs.AskLemmas.{shown_answer_is_right}
use Rattle.ig_fields.proofs.FitsLemmas.{fields_fit}
use Rattle.ig_fields.proofs.WrittenTableLemmas.{written_result_read}
use Rattle.ig_ops.specs.Requests.{rows_fields, pair_of, pair_fields, IsOpsCall}
use Rattle.ig_ops.specs.Results.{page_of, done_result, value_result, truth_result, rows_result, count_result, first_page_result, next_page_result, result_of, filled_of, shown_bytes, IsOpsShown}
use Rattle.ig_ops.specs.ReadAnswers.{IsKnown, ShowsRow, RowShowsRightly}
use Rattle.ig_ops.specs.Laws.{IsResult, FitsShown, WrittenResultIsRead, ResultsTellApart, ReadResultFits, IsRowResult, IsAnswered, AnswersAreShown}
use Rattle.ig_ops.proofs.RequestLemmas.{pairs_back, pair_fields_back}

-- ---- the fields that a result is written with

abbrev in_form : (f : Format) → Fields f → Filled
in_form f x = record { format = f; fields = x }

-- what the form shows is one of these results, and is written with the fields that show it
record Holds (form : ResultForm Shown) : Type 0 where
  known : (x : Fields form.format) → IsOpsShown (form.shown x)
  filled : (x : Fields form.format) → filled_of (form.shown x) ≡ in_form form.format x

rows_back : (xs : Fields rows_fields) → map pair_fields (map pair_of xs) ≡ xs
rows_back = pair_fields_back

done_holds : Holds done_result
done_holds = record { known = λ x. tt; filled = λ x. refl }

value_holds : Holds value_result
value_holds = record { known = λ x. tt; filled = λ x. refl }

truth_holds : Holds truth_result
truth_holds = record { known = λ x. tt; filled = λ x. refl }

rows_hold : Holds rows_result
rows_hold = record { known = λ x. tt; filled = λ x. ap (λ (l : List (Value × Value)). in_form rows_result.format l) (rows_back x) }

count_holds : Holds count_result
count_holds = record { known = λ x. tt; filled = λ x. refl }

first_page_holds : Holds first_page_result
first_page_holds = record { known = λ x. tt; filled = λ x. ap (λ (l : List (Value × Value)). in_form first_page_result.format (x.0, (l, x.1.1))) (rows_back x.1.0) }

next_page_holds : Holds next_page_result
next_page_holds = record { known = λ x. tt; filled = λ x. ap (λ (l : List (Value × Value)). in_form next_page_result.format (l, x.1)) (rows_back x.0) }

abbrev RowHolds : Option (ResultForm Shown) → Type 0
RowHolds None = Unit {0}
RowHolds (Some form) = Holds form

table_holds : (o : Operation) → RowHolds (result_of o)
table_holds operation.Get = value_holds
table_holds operation.Put = done_holds
table_holds operation.PutIfAbsent = truth_holds
table_holds operation.GetAll = rows_hold
table_holds operation.PutAll = done_holds
table_holds operation.GetAndPut = value_holds
table_holds operation.GetAndReplace = value_holds
table_holds operation.GetAndRemove = value_holds
table_holds operation.GetAndPutIfAbsent = value_holds
table_holds operation.Replace = truth_holds
table_holds operation.ReplaceIfEquals = truth_holds
table_holds operation.ContainsKey = truth_holds
table_holds operation.ContainsKeys = truth_holds
table_holds operation.Clear = done_holds
table_holds operation.ClearKey = done_holds
table_holds operation.ClearKeys = done_holds
table_holds operation.RemoveKey = truth_holds
table_holds operation.RemoveIfEquals = truth_holds
table_holds operation.RemoveKeys = done_holds
table_holds operation.RemoveAll = done_holds
table_holds operation.GetSize = count_holds
table_holds operation.Scan = first_page_holds
table_holds operation.NextPage = next_page_holds
table_holds operation.CloseResource = done_holds
table_holds _ = tt

form_holds : (o : Operation) (form : ResultForm Shown) → result_of o ≡ Some form → Holds form
form_holds o form known = subst RowHolds known (table_holds o)

shown_by_form : (form : ResultForm Shown) (x : Shown) → Holds form → IsResult form x → IsShownBy form x (filled_of x)
shown_by_form form x holds by = record { fields = by.fields; same = ap filled_of (sym by.shows) ∙ holds.filled by.fields; shows = by.shows }

pub written_result_is_read : WrittenResultIsRead
written_result_is_read o form x head known by fits = written_result_read form x (filled_of x) head (shown_by_form form x (form_holds o form known) by) fits

abbrev read_shown : Shown → Result Shown ReadFault
read_shown x = Ok x

read_is : (x y : Shown) → read_shown x ≡ read_shown y → x ≡ y
read_is x y e = cc

pub results_tell_apart : ResultsTellApart
results_tell_apart o form x y known first second fx fy e =
    read_is x y (sym (written_result_is_read o form x [] known first fx) ∙ ap (λ (s : List ℕ). shown_by form s 0) e ∙ written_result_is_read o form y [] known second fy)

pub read_result_fits : ReadResultFits
read_result_fits o form body at x known small (fields, spelled, shows) =
    let holds = form_holds o form known in
    let fit = fields_fit form.format (drop at body) fields (omega (arith, small, length-drop at body)) spelled in (
      subst IsOpsShown shows (holds.known fields),
      record { fields = fields; shows = shows },
      subst FitsShown shows (subst FitsFilled (sym (holds.filled fields)) fit),
    )

-- ---- outcomes that answer calls

done_shown : (o : Outcome) → IsOfKind done o → IsAnswered o → IsResult done_result (shown.Out o)
done_shown outcome.Done h a = record { fields = tt; shows = refl }
done_shown (outcome.Found v) h a = absurd cc
done_shown (outcome.Yes b) h a = absurd cc
done_shown (outcome.Pairs rows) h a = absurd cc
done_shown (outcome.Count n) h a = absurd cc
done_shown (outcome.Names names) h a = absurd cc
done_shown (outcome.Name name) h a = absurd cc
done_shown (outcome.Meta meta) h a = absurd cc
done_shown (outcome.Keys keys) h a = absurd cc
done_shown (outcome.Refused why) h a = absurd a

value_shown : (o : Outcome) → IsOfKind found o → IsAnswered o → IsResult value_result (shown.Out o)
value_shown outcome.Done h a = absurd cc
value_shown (outcome.Found v) h a = record { fields = v; shows = refl }
value_shown (outcome.Yes b) h a = absurd cc
value_shown (outcome.Pairs rows) h a = absurd cc
value_shown (outcome.Count n) h a = absurd cc
value_shown (outcome.Names names) h a = absurd cc
value_shown (outcome.Name name) h a = absurd cc
value_shown (outcome.Meta meta) h a = absurd cc
value_shown (outcome.Keys keys) h a = absurd cc
value_shown (outcome.Refused why) h a = absurd a

truth_shown : (o : Outcome) → IsOfKind yes_or_no o → IsAnswered o → IsResult truth_result (shown.Out o)
truth_shown outcome.Done h a = absurd cc
truth_shown (outcome.Found v) h a = absurd cc
truth_shown (outcome.Yes b) h a = record { fields = b; shows = refl }
truth_shown (outcome.Pairs rows) h a = absurd cc
truth_shown (outcome.Count n) h a = absurd cc
truth_shown (outcome.Names names) h a = absurd cc
truth_shown (outcome.Name name) h a = absurd cc
truth_shown (outcome.Meta meta) h a = absurd cc
truth_shown (outcome.Keys keys) h a = absurd cc
truth_shown (outcome.Refused why) h a = absurd a

rows_shown : (o : Outcome) → IsOfKind pairs o → IsAnswered o → IsResult rows_result (shown.Out o)
rows_shown outcome.Done h a = absurd cc
rows_shown (outcome.Found v) h a = absurd cc
rows_shown (outcome.Yes b) h a = absurd cc
rows_shown (outcome.Pairs rows) h a = record { fields = map pair_fields rows; shows = ap (λ (l : List Pair). shown.Out (outcome.Pairs l)) (pairs_back rows) }
rows_shown (outcome.Count n) h a = absurd cc
rows_shown (outcome.Names names) h a = absurd cc
rows_shown (outcome.Name name) h a = absurd cc
rows_shown (outcome.Meta meta) h a = absurd cc
rows_shown (outcome.Keys keys) h a = absurd cc
rows_shown (outcome.Refused why) h a = absurd a

count_shown : (o : Outcome) → IsOfKind count o → IsAnswered o → IsResult count_result (shown.Out o)
count_shown outcome.Done h a = absurd cc
count_shown (outcome.Found v) h a = absurd cc
count_shown (outcome.Yes b) h a = absurd cc
count_shown (outcome.Pairs rows) h a = absurd cc
count_shown (outcome.Count n) h a = record { fields = n; shows = refl }
count_shown (outcome.Names names) h a = absurd cc
count_shown (outcome.Name name) h a = absurd cc
count_shown (outcome.Meta meta) h a = absurd cc
count_shown (outcome.Keys keys) h a = absurd cc
count_shown (outcome.Refused why) h a = absurd a

pub answers_are_shown : AnswersAreShown
answers_are_shown (Get c k) o ops kind a = value_shown o kind a
answers_are_shown (GetAndRemove c k) o ops kind a = value_shown o kind a
answers_are_shown (ContainsKey c k) o ops kind a = truth_shown o kind a
answers_are_shown (ClearKey c k) o ops kind a = done_shown o kind a
answers_are_shown (RemoveKey c k) o ops kind a = truth_shown o kind a
answers_are_shown (Put c k v) o ops kind a = done_shown o kind a
answers_are_shown (PutIfAbsent c k v) o ops kind a = truth_shown o kind a
answers_are_shown (GetAndPut c k v) o ops kind a = value_shown o kind a
answers_are_shown (GetAndReplace c k v) o ops kind a = value_shown o kind a
answers_are_shown (GetAndPutIfAbsent c k v) o ops kind a = value_shown o kind a
answers_are_shown (Replace c k v) o ops kind a = truth_shown o kind a
answers_are_shown (ReplaceIfEquals c k w v) o ops kind a = truth_shown o kind a
answers_are_shown (RemoveIfEquals c k w) o ops kind a = truth_shown o kind a
answers_are_shown (GetAll c ks) o ops kind a = rows_shown o kind a
answers_are_shown (ContainsKeys c ks) o ops kind a = truth_shown o kind a
answers_are_shown (ClearKeys c ks) o ops kind a = done_shown o kind a
answers_are_shown (RemoveKeys c ks) o ops kind a = done_shown o kind a
answers_are_shown (PutAll c ps) o ops kind a = done_shown o kind a
answers_are_shown (Clear c) o ops kind a = done_shown o kind a
answers_are_shown (RemoveAll c) o ops kind a = done_shown o kind a
answers_are_shown (Size c ms) o ops kind a = count_shown o kind a
answers_are_shown (Scan c) o ops kind a = absurd ops
answers_are_shown Names o ops kind a = absurd ops
answers_are_shown (Create n) o ops kind a = absurd ops
answers_are_shown (GetOrCreate n) o ops kind a = absurd ops
answers_are_shown (Destroy c) o ops kind a = absurd ops
answers_are_shown (TypeName p t) o ops kind a = absurd ops
answers_are_shown (SetTypeName p t n) o ops kind a = absurd ops
answers_are_shown (TypeOf t) o ops kind a = absurd ops
answers_are_shown (PutType m) o ops kind a = absurd ops
answers_are_shown (Affinity cs) o ops kind a = absurd ops

-- ---- what a reader's answer is

pub row_is_right : (row : Option (ResultForm Shown)) (body : List ℕ) (at : ℕ) (answer : Result Shown ReadFault) → AreBytes body → at ≤ length body → ShowsRow row body at answer → RowShowsRightly row body at answer
row_is_right None body at answer bytes le h = h
row_is_right (Some form) body at answer bytes le h = shown_answer_is_right form body at answer bytes le h

-- the row of the operation, if there is one
abbrev row_in : Option Operation → Option (ResultForm Shown)
row_in o = option_and_then result_of o

by_row : (row : Option (ResultForm Shown)) → RowHolds row → (body : List ℕ) (at : ℕ) (answer : Result Shown ReadFault) → RowShowsRightly row body at answer → IfOk answer IsOpsShown
by_row None holds body at answer h = absurd h
by_row (Some form) holds body at (Ok x) (fields, spelled, shows) = subst IsOpsShown shows (holds.known fields)
by_row (Some form) holds body at (Err e) h = tt

row_in_holds : (o : Option Operation) → RowHolds (row_in o)
row_in_holds None = tt
row_in_holds (Some o) = table_holds o

pub answer_known : (code : ℤ) (body : List ℕ) (at : ℕ) (answer : Result Shown ReadFault) → RowShowsRightly (row_at result_of code) body at answer → IfOk answer IsOpsShown
answer_known code body at answer h = by_row (row_at result_of code) (row_in_holds (operation_at code)) body at answer h
