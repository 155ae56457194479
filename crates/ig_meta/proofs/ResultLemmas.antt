-- Results: what is read is in order, what is written is read, and what is read fits.
use Rattle.std.proofs.Common.{◌≡◌, ℕ, ℤ, ◌<◌, ◌≤◌, ◌^◌, List, [], ◌∷◌, length, map, drop, Option, None, Some, Result, Ok, Err, refl, sym, ap, subst, ◌∙◌, inl, inr}
use Rattle.std.specs.Prelude.{IfOk, IfSome, IsSome}
use Rattle.std.proofs.lemmas.Bool.{false≢true}
use Rattle.std.specs.Option.{option_and_then}
use Rattle.ig_base.specs.Numbers.{AreBytes}
use Rattle.ig_wire.specs.Operations.{operation_at}
use Rattle.ig_wire.specs.declared.Operation.{Operation}
use Rattle.ig_wire.specs.declared.Operation.TheVariants as operation
use Rattle.ig_wire.specs.declared.ReadFault.{ReadFault}
use Rattle.ig_types.specs.declared.TypeMeta.{TypeMeta}
use Rattle.ig_caches.specs.declared.Call.TheVariants as call
use Rattle.ig_caches.specs.declared.Outcome.{Outcome}
use Rattle.ig_caches.specs.declared.Outcome.TheVariants as outcome
use Rattle.ig_caches.specs.AnswersKind.{done, yes_or_no, names, name, meta, IsOfKind}
use Rattle.ig_caches.specs.declared.Shown.{Shown}
use Rattle.ig_caches.specs.declared.Shown.TheVariants.{Out}
use Rattle.ig_value.specs.Part.{truth}
use Rattle.ig_fields.specs.Format.{string, scalar, listed, Fields}
use Rattle.ig_fields.specs.SpellsFields.{SpellsFields}
use Rattle.ig_fields.specs.FieldBytes.{FitsFields}
use Rattle.ig_fields.specs.ReadingFields.{message_of}
use Rattle.ig_fields.specs.Ask.{row_at, ResultForm, item_form}
use Rattle.ig_fields.specs.ShowsRightly.{ShowsRightly, shown_fields, shown_by}
use Rattle.ig_fields.specs.ShownAnswers.{ShowsAs}
use Rattle.ig_fields.specs.TableLaws.{IsShownBy}
use Rattle.ig_fields.specs.Views.{same, either_view}
use Rattle.ig_fields.proofs.AskLemmas.{shown_answer_is_right}
use Rattle.ig_fields.proofs.FitsLemmas.{fields_fit}
use Rattle.ig_fields.proofs.RowLemmas.{present, present_is}
use Rattle.ig_fields.proofs.WrittenTableLemmas.{written_result_read}
use Rattle.ig_meta.specs.TypeFields.{type_of_fields}
use Rattle.ig_meta.specs.TypeViews.{type_in}
use Rattle.ig_meta.specs.Results.{found_format, found_type, done_form, result_of, IsMetaShown, found_fields, filled_of}
use Rattle.ig_meta.specs.Laws.{ShowsInOrder, IsShownIn, FitsShown, WrittenResultIsRead, ResultsTellApart, SpelledResultFits, IsShownInRow, IsAnswered, AnswersAreShown}
use Rattle.ig_meta.proofs.TypeLemmas.{ordered_back, read_in_order, type_fits}

by_form : (P : ResultForm Shown → Type 0) (row form : ResultForm Shown) → P row → present row ≡ present form → P form
by_form P row form h e = subst P (present_is row form e) h

-- ---- what a result shows is in order

abbrev ShowsKnown : ResultForm Shown → Type 0
ShowsKnown form = (x : Fields form.format) → IsMetaShown (form.shown x) × ShowsInOrder (form.shown x)

found_in_order : (x : Fields found_format) → ShowsInOrder (Out (outcome.Meta (found_type x)))
found_in_order (inl x) = tt
found_in_order (inr x) = read_in_order x

shows_known : (o : Operation) (form : ResultForm Shown) → result_of o ≡ Some form → ShowsKnown form
shows_known operation.CacheNames form e = by_form ShowsKnown _ form (λ x. (tt, tt)) e
shows_known operation.Create form e = by_form ShowsKnown _ form (λ x. (tt, tt)) e
shows_known operation.GetOrCreate form e = by_form ShowsKnown _ form (λ x. (tt, tt)) e
shows_known operation.Destroy form e = by_form ShowsKnown _ form (λ x. (tt, tt)) e
shows_known operation.GetTypeName form e = by_form ShowsKnown _ form (λ x. (tt, tt)) e
shows_known operation.RegisterTypeName form e = by_form ShowsKnown _ form (λ x. (tt, tt)) e
shows_known operation.GetType form e = by_form ShowsKnown _ form (λ x. (tt, found_in_order x)) e
shows_known operation.PutType form e = by_form ShowsKnown _ form (λ x. (tt, tt)) e
shows_known _ form e = absurd cc

-- ---- what is written is read

-- what the form's fields show is written with fields of the form, which show it
abbrev IsWrittenIn : ResultForm Shown → Type 0
IsWrittenIn form = (x : Fields form.format) → IsShownBy form (form.shown x) (filled_of (form.shown x))

found_back : (x : Fields found_format) → found_type (found_fields (found_type x)) ≡ found_type x
found_back (inl x) = refl
found_back (inr x) = ap (λ (t : TypeMeta). Some t) (ordered_back (type_of_fields x) (read_in_order x))

is_written : (o : Operation) (form : ResultForm Shown) → result_of o ≡ Some form → IsWrittenIn form
is_written operation.CacheNames form e = by_form IsWrittenIn _ form (λ x. record { fields = x; same = refl; shows = refl }) e
is_written operation.Create form e = by_form IsWrittenIn _ form (λ x. record { fields = tt; same = refl; shows = refl }) e
is_written operation.GetOrCreate form e = by_form IsWrittenIn _ form (λ x. record { fields = tt; same = refl; shows = refl }) e
is_written operation.Destroy form e = by_form IsWrittenIn _ form (λ x. record { fields = tt; same = refl; shows = refl }) e
is_written operation.GetTypeName form e = by_form IsWrittenIn _ form (λ x. record { fields = x; same = refl; shows = refl }) e
is_written operation.RegisterTypeName form e = by_form IsWrittenIn _ form (λ x. record { fields = x; same = refl; shows = refl }) e
is_written operation.GetType form e =
    by_form IsWrittenIn _ form (λ x. record { fields = found_fields (found_type x); same = refl; shows = ap (λ (t : Option TypeMeta). Out (outcome.Meta t)) (found_back x) }) e
is_written operation.PutType form e = by_form IsWrittenIn _ form (λ x. record { fields = tt; same = refl; shows = refl }) e
is_written _ form e = absurd cc

pub written_result_is_read : WrittenResultIsRead
written_result_is_read o form shown head known (x, shows) fits =
    written_result_read form shown (filled_of shown) head (subst (λ (s : Shown). IsShownBy form s (filled_of s)) shows (is_written o form known x)) fits.fields

abbrev read_shown : Shown → Result Shown ReadFault
read_shown shown = Ok shown

read_is : (p q : Shown) → read_shown p ≡ read_shown q → p ≡ q
read_is p q e = cc

pub results_tell_apart : ResultsTellApart
results_tell_apart o form p q known first second fp fq e =
    read_is p q (sym (written_result_is_read o form p [] known first fp) ∙ ap (λ (s : List ℕ). shown_by form s 0) e ∙ written_result_is_read o form q [] known second fq)

-- ---- what answers is shown

done_shown : (o : Outcome) → IsOfKind done o → IsAnswered o → IsShownIn done_form (Out o)
done_shown outcome.Done h a = (tt, refl)
done_shown (outcome.Found v) h a = absurd cc
done_shown (outcome.Yes b) h a = absurd cc
done_shown (outcome.Pairs rows) h a = absurd cc
done_shown (outcome.Count n) h a = absurd cc
done_shown (outcome.Names list) h a = absurd cc
done_shown (outcome.Name text) h a = absurd cc
done_shown (outcome.Meta t) h a = absurd cc
done_shown (outcome.Keys keys) h a = absurd cc
done_shown (outcome.Refused why) h a = absurd a

truth_shown : (o : Outcome) → IsOfKind yes_or_no o → IsAnswered o → IsShownInRow (result_of operation.RegisterTypeName) (Out o)
truth_shown outcome.Done h a = absurd cc
truth_shown (outcome.Found v) h a = absurd cc
truth_shown (outcome.Yes b) h a = (b, refl)
truth_shown (outcome.Pairs rows) h a = absurd cc
truth_shown (outcome.Count n) h a = absurd cc
truth_shown (outcome.Names list) h a = absurd cc
truth_shown (outcome.Name text) h a = absurd cc
truth_shown (outcome.Meta t) h a = absurd cc
truth_shown (outcome.Keys keys) h a = absurd cc
truth_shown (outcome.Refused why) h a = absurd a

all_names_shown : (o : Outcome) → IsOfKind names o → IsAnswered o → IsShownInRow (result_of operation.CacheNames) (Out o)
all_names_shown outcome.Done h a = absurd cc
all_names_shown (outcome.Found v) h a = absurd cc
all_names_shown (outcome.Yes b) h a = absurd cc
all_names_shown (outcome.Pairs rows) h a = absurd cc
all_names_shown (outcome.Count n) h a = absurd cc
all_names_shown (outcome.Names list) h a = (list, refl)
all_names_shown (outcome.Name text) h a = absurd cc
all_names_shown (outcome.Meta t) h a = absurd cc
all_names_shown (outcome.Keys keys) h a = absurd cc
all_names_shown (outcome.Refused why) h a = absurd a

name_shown : (o : Outcome) → IsOfKind name o → IsAnswered o → IsShownInRow (result_of operation.GetTypeName) (Out o)
name_shown outcome.Done h a = absurd cc
name_shown (outcome.Found v) h a = absurd cc
name_shown (outcome.Yes b) h a = absurd cc
name_shown (outcome.Pairs rows) h a = absurd cc
name_shown (outcome.Count n) h a = absurd cc
name_shown (outcome.Names list) h a = absurd cc
name_shown (outcome.Name text) h a = (text, refl)
name_shown (outcome.Meta t) h a = absurd cc
name_shown (outcome.Keys keys) h a = absurd cc
name_shown (outcome.Refused why) h a = absurd a

found_again : (found : Option TypeMeta) → ShowsInOrder (Out (outcome.Meta found)) → found_type (found_fields found) ≡ found
found_again None h = refl
found_again (Some t) h = ap (λ (u : TypeMeta). Some u) (ordered_back t h)

meta_shown : (o : Outcome) → IsOfKind meta o → IsAnswered o → ShowsInOrder (Out o) → IsShownInRow (result_of operation.GetType) (Out o)
meta_shown outcome.Done h a s = absurd cc
meta_shown (outcome.Found v) h a s = absurd cc
meta_shown (outcome.Yes b) h a s = absurd cc
meta_shown (outcome.Pairs rows) h a s = absurd cc
meta_shown (outcome.Count n) h a s = absurd cc
meta_shown (outcome.Names list) h a s = absurd cc
meta_shown (outcome.Name text) h a s = absurd cc
meta_shown (outcome.Meta t) h a s = (found_fields t, ap (λ (u : Option TypeMeta). Out (outcome.Meta u)) (found_again t s))
meta_shown (outcome.Keys keys) h a s = absurd cc
meta_shown (outcome.Refused why) h a s = absurd a

pub answers_are_shown : AnswersAreShown
answers_are_shown call.Names o m h a s = all_names_shown o h a
answers_are_shown (call.Create n) o m h a s = done_shown o h a
answers_are_shown (call.GetOrCreate n) o m h a s = done_shown o h a
answers_are_shown (call.Destroy c) o m h a s = done_shown o h a
answers_are_shown (call.TypeName p t) o m h a s = name_shown o h a
answers_are_shown (call.SetTypeName p t n) o m h a s = truth_shown o h a
answers_are_shown (call.TypeOf t) o m h a s = meta_shown o h a s
answers_are_shown (call.PutType t) o m h a s = done_shown o h a
answers_are_shown _ o m h a s = absurd m

-- ---- what is read fits

found_fits : (x : Fields found_format) → FitsFields found_format x → FitsFields found_format (found_fields (found_type x))
found_fits (inl x) h = tt
found_fits (inr x) h = type_fits x h

abbrev FormFits : ResultForm Shown → Type 0
FormFits form = (s : List ℕ) (x : Fields form.format) → length s < 2 ^ 31 → SpellsFields form.format s x → FitsShown (form.shown x)

form_fits : (o : Operation) (form : ResultForm Shown) → result_of o ≡ Some form → FormFits form
form_fits operation.CacheNames form e = by_form FormFits _ form (λ s x small h. record { known = tt; fields = fields_fit (listed string) s x small h; in_order = tt }) e
form_fits operation.Create form e = by_form FormFits _ form (λ s x small h. record { known = tt; fields = tt; in_order = tt }) e
form_fits operation.GetOrCreate form e = by_form FormFits _ form (λ s x small h. record { known = tt; fields = tt; in_order = tt }) e
form_fits operation.Destroy form e = by_form FormFits _ form (λ s x small h. record { known = tt; fields = tt; in_order = tt }) e
form_fits operation.GetTypeName form e = by_form FormFits _ form (λ s x small h. record { known = tt; fields = fields_fit string s x small h; in_order = tt }) e
form_fits operation.RegisterTypeName form e = by_form FormFits _ form (λ s x small h. record { known = tt; fields = fields_fit (scalar truth) s x small h; in_order = tt }) e
form_fits operation.GetType form e = by_form FormFits _ form (λ s x small h. record { known = tt; fields = found_fits x (fields_fit found_format s x small h); in_order = found_in_order x }) e
form_fits operation.PutType form e = by_form FormFits _ form (λ s x small h. record { known = tt; fields = tt; in_order = tt }) e
form_fits _ form e = absurd cc

pub spelled_result_fits : SpelledResultFits
spelled_result_fits o form s x known small h = form_fits o form known s x small h

-- ---- answers of reading

-- the result of get type, by its fields as the program reads them
abbrev pub found_form : ResultForm Shown
found_form = item_form found_format (either_view same type_of_fields) (λ x. Out (outcome.Meta (type_in x)))

abbrev pub found_row : ResultForm Shown
found_row = record { format = found_format; shown = λ x. Out (outcome.Meta (found_type x)) }

found_same : (body : List ℕ) (r : Result (Fields found_format) ℕ) → shown_fields found_form body r ≡ shown_fields found_row body r
found_same body (Ok (inl x)) = refl
found_same body (Ok (inr x)) = refl
found_same body (Err left) = refl

pub found_shown : (body : List ℕ) (at : ℕ) (answer : Result Shown ReadFault) → ShowsAs (shown_by found_form body at) answer → ShowsAs (shown_by found_row body at) answer
found_shown body at answer h = subst (λ (r : Result Shown ReadFault). ShowsAs r answer) (found_same body (message_of found_format (drop at body))) h

abbrev IsKnown : Shown → Type 0
IsKnown shown = IsMetaShown shown × ShowsInOrder shown

-- what a right answer shows is of these operations and in order
pub read_known : (code : ℤ) (body : List ℕ) (at : ℕ) (answer : Result Shown ReadFault) → IsSome (row_at result_of code) → IfSome (row_at result_of code) (λ form. ShowsRightly form body at answer) → IfOk answer IsKnown
read_known code body at answer known right = by_operation (operation_at code) known right where
  by_answer : (o : Operation) (form : ResultForm Shown) → result_of o ≡ Some form → (a : Result Shown ReadFault) → ShowsRightly form body at a → IfOk a IsKnown
  by_answer o form e (Ok shown) h = subst IsKnown h.2 (shows_known o form e h.0)
  by_answer o form e (Err fault) h = tt

  by_form_of : (o : Operation) (row : Option (ResultForm Shown)) → result_of o ≡ row → IsSome row → IfSome row (λ form. ShowsRightly form body at answer) → IfOk answer IsKnown
  by_form_of o None e k h = absurd (false≢true k)
  by_form_of o (Some form) e k h = by_answer o form e answer h

  by_operation : (o : Option Operation) → IsSome (option_and_then result_of o) → IfSome (option_and_then result_of o) (λ form. ShowsRightly form body at answer) → IfOk answer IsKnown
  by_operation None k h = absurd (false≢true k)
  by_operation (Some o) k h = by_form_of o (result_of o) refl k h

pub shown_right : (row : Option (ResultForm Shown)) (body : List ℕ) (at : ℕ) (answer : Result Shown ReadFault) → AreBytes body → at ≤ length body → IfSome row (λ form. ShowsAs (shown_by form body at) answer) → IfSome row (λ form. ShowsRightly form body at answer)
shown_right None body at answer bytes le h = tt
shown_right (Some form) body at answer bytes le h = shown_answer_is_right form body at answer bytes le h

pub shown_known : (answer : Result Shown ReadFault) → IfOk answer IsKnown → IfOk answer IsMetaShown
shown_known (Ok shown) h = h.0
shown_known (Err e) h = tt

pub shown_in_order : (answer : Result Shown ReadFault) → IfOk answer IsKnown → IfOk answer ShowsInOrder
shown_in_order (Ok shown) h = h.1
shown_in_order (Err e) h = tt

pub shown_by_code : (o : Option Operation) (operation : Operation) (body : List ℕ) (at : ℕ) (answer : Result Shown ReadFault) → Some operation ≡ o → IfSome (result_of operation) (λ form. ShowsAs (shown_by form body at) answer)
    → IfSome (option_and_then result_of o) (λ form. ShowsAs (shown_by form body at) answer)
shown_by_code o operation body at answer e h = subst (λ (p : Option Operation). IfSome (option_and_then result_of p) (λ form. ShowsAs (shown_by form body at) answer)) e h

-- ---- cache names, by their fields as the program reads them

abbrev pub names_form : ResultForm Shown
names_form = item_form (listed string) (map same) (λ x. Out (outcome.Names x))

abbrev pub names_row : ResultForm Shown
names_row = record { format = listed string; shown = λ x. Out (outcome.Names x) }

map_same : (xs : List (List ℕ)) → map same xs ≡ xs
map_same [] = refl
map_same (x ∷ xs) = ap (λ (l : List (List ℕ)). x ∷ l) (map_same xs)

names_same : (body : List ℕ) (r : Result (List (List ℕ)) ℕ) → shown_fields names_form body r ≡ shown_fields names_row body r
names_same body (Ok xs) = ap (λ (l : List (List ℕ)). Ok (Out (outcome.Names l))) (map_same xs)
names_same body (Err left) = refl

pub names_shown : (body : List ℕ) (at : ℕ) (answer : Result Shown ReadFault) → ShowsAs (shown_by names_form body at) answer → ShowsAs (shown_by names_row body at) answer
names_shown body at answer h = subst (λ (r : Result Shown ReadFault). ShowsAs r answer) (names_same body (message_of (listed string) (drop at body))) h
