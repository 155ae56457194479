-- The results of the operations of each crate, as texts.
use Rattle.std.proofs.Common.{◌≡◌, ℕ, List, ◌++◌, drop, Option, Some, None, Result, Ok, Err, refl, sym, ap, subst, ◌∙◌}
use Rattle.std.specs.Prelude.{IsSome, IfSome, option_map}
use Rattle.std.specs.Option.{option_or}
use Rattle.ig_wire.specs.Operations.{operation_code}
use Rattle.ig_wire.specs.declared.operation.Operation.{Operation}
use Rattle.ig_wire.specs.declared.unread.ReadFault.{ReadFault}
use Rattle.ig_fields.specs.Ask.{ResultForm, row_at}
use Rattle.ig_fields.specs.ShowsRightly.{shown_by}
use Rattle.ig_fields.specs.ShownAnswers.{ShowsAs}
use Rattle.ig_caches.specs.declared.request.Shown.{Shown}
use Rattle.ig_caches.specs.declared.request.Shown.TheVariants.{Out, Page}
use Rattle.ig_caches.specs.declared.answer.Outcome.TheVariants as outcome
use Rattle.ig_ops.specs.ReadAnswers.{IsKnown, ShowsRow}
use Rattle.ig_ops.specs.Results.{result_of as rows_result, IsOpsShown}
use Rattle.ig_meta.specs.Results.{result_of as types_result, IsMetaShown}
use Rattle.ig_parts.specs.PartsMessages as parts
use Rattle.ig_lines.specs.ShownText.{ShownText, MapText, IsPrinted}
use Rattle.ig_capture.specs.declared.stop.Stop.{Stop}
use Rattle.ig_capture.specs.Answers.{ShowsContent, StopsAt}
use Rattle.ig_capture.specs.Talks.{printed, text_by, text_form}
use Rattle.ig_capture.proofs.AskLemmas.{row_of}
use Rattle.ig_capture.proofs.OperationLemmas.{at_code, none_is_some, types_alone}
use Rattle.ig_capture.proofs.ContentLemmas.{content_shown, content_stopped}

-- the row at the code of an operation is that of the operation
pub at_row : {R : Type 0} (table : Operation → Option R) (o : Operation) → row_at table (operation_code o) ≡ table o
at_row table o = row_of table (operation_code o) o (at_code o)

-- what is read of a result is printed
pub rows_printed : (x : Shown) → IsOpsShown x → IsPrinted x
rows_printed (Page page) is = tt
rows_printed (Out outcome.Done) is = tt
rows_printed (Out (outcome.Found value)) is = tt
rows_printed (Out (outcome.Yes answer)) is = tt
rows_printed (Out (outcome.Pairs pairs)) is = tt
rows_printed (Out (outcome.Count count)) is = tt
rows_printed (Out (outcome.Names names)) is = absurd is
rows_printed (Out (outcome.Name name)) is = absurd is
rows_printed (Out (outcome.Meta found)) is = absurd is
rows_printed (Out (outcome.Keys pairs)) is = absurd is
rows_printed (Out (outcome.Refused why)) is = absurd is

pub types_printed : (x : Shown) → IsMetaShown x → IsPrinted x
types_printed (Page page) is = absurd is
types_printed (Out outcome.Done) is = tt
types_printed (Out (outcome.Found value)) is = absurd is
types_printed (Out (outcome.Yes answer)) is = tt
types_printed (Out (outcome.Pairs pairs)) is = absurd is
types_printed (Out (outcome.Count count)) is = absurd is
types_printed (Out (outcome.Names names)) is = tt
types_printed (Out (outcome.Name name)) is = tt
types_printed (Out (outcome.Meta found)) is = tt
types_printed (Out (outcome.Keys pairs)) is = absurd is
types_printed (Out (outcome.Refused why)) is = absurd is

module _ (o : Operation) (place : ℕ) (body : List ℕ) (at : ℕ) where
  abbrev Shows : List ℕ → List ℕ → Result (Unit {0}) Stop → Type 0
  Shows old new result = ShowsContent place body (text_by (text_form o) (drop at body)) old new result

  rows_form : (form : ResultForm Shown) → rows_result o ≡ Some form → text_form o ≡ Some (printed ShownText form)
  rows_form form is =
      ap (λ (r : Option (ResultForm Shown)). option_or (option_map (printed ShownText) r)
      (option_or (option_map (printed ShownText) (types_result o)) (option_map (λ ask. printed MapText parts.map_form) (parts.ask_of o)))) is

  types_form : (form : ResultForm Shown) → types_result o ≡ Some form → rows_result o ≡ None → text_form o ≡ Some (printed ShownText form)
  types_form form is alone =
      ap (λ (r : Option (ResultForm Shown)). option_or (option_map (printed ShownText) r)
      (option_or (option_map (printed ShownText) (types_result o)) (option_map (λ ask. printed MapText parts.map_form) (parts.ask_of o)))) alone
      ∙ ap (λ (r : Option (ResultForm Shown)). option_or (option_map (printed ShownText) r) (option_map (λ ask. printed MapText parts.map_form) (parts.ask_of o))) is

  in_form : (form : Option (ResultForm (List ℕ))) (old new : List ℕ) (result : Result (Unit {0}) Stop) → text_form o ≡ form
      → ShowsContent place body (text_by form (drop at body)) old new result → Shows old new result
  in_form form old new result is = subst (λ (f : Option (ResultForm (List ℕ))). ShowsContent place body (text_by f (drop at body)) old new result) (sym is)

  -- ---- rows

  pub rows_shown : (x : Shown) (old new : List ℕ) → ShowsRow (row_at rows_result (operation_code o)) body at (Ok x) → new ≡ old ++ ShownText x → Shows old new (Ok tt)
  rows_shown x old new shows text = go (rows_result o) refl (subst (λ (r : Option (ResultForm Shown)). ShowsRow r body at (Ok x)) (at_row rows_result o) shows)
    where
      go : (row : Option (ResultForm Shown)) → rows_result o ≡ row → ShowsRow row body at (Ok x) → Shows old new (Ok tt)
      go None is s = absurd s
      go (Some form) is s = in_form (Some (printed ShownText form)) old new (Ok tt) (rows_form form is) (content_shown ShownText form place body at x old new s text)

  pub rows_stopped : (e : ReadFault) (s : Stop) (old new : List ℕ) → ShowsRow (row_at rows_result (operation_code o)) body at (Err e) → StopsAt place e s → Shows old new (Err s)
  rows_stopped e s old new shows stops = go (rows_result o) refl (subst (λ (r : Option (ResultForm Shown)). ShowsRow r body at (Err e)) (at_row rows_result o) shows)
    where
      go : (row : Option (ResultForm Shown)) → rows_result o ≡ row → ShowsRow row body at (Err e) → Shows old new (Err s)
      go None is x = absurd x
      go (Some form) is x = in_form (Some (printed ShownText form)) old new (Err s) (rows_form form is) (content_stopped ShownText form place body at e s old new x stops)

  -- ---- caches and types

  module _ (known : IsSome (types_result o)) where
    pub types_shown : (x : Shown) (old new : List ℕ) → IfSome (row_at types_result (operation_code o)) (λ form. ShowsAs (shown_by form body at) (Ok x)) → new ≡ old ++ ShownText x
        → Shows old new (Ok tt)
    types_shown x old new shows text =
        go (types_result o) refl known (subst (λ (r : Option (ResultForm Shown)). IfSome r (λ form. ShowsAs (shown_by form body at) (Ok x))) (at_row types_result o) shows)
      where
        go : (row : Option (ResultForm Shown)) → types_result o ≡ row → IsSome row → IfSome row (λ form. ShowsAs (shown_by form body at) (Ok x)) → Shows old new (Ok tt)
        go None is some s = absurd (none_is_some some)
        go (Some form) is some s = in_form (Some (printed ShownText form)) old new (Ok tt) (types_form form is (types_alone o known)) (content_shown ShownText form place body at x old new s text)

    pub types_stopped : (e : ReadFault) (s : Stop) (old new : List ℕ) → IfSome (row_at types_result (operation_code o)) (λ form. ShowsAs (shown_by form body at) (Err e)) → StopsAt place e s
        → Shows old new (Err s)
    types_stopped e s old new shows stops =
        go (types_result o) refl known (subst (λ (r : Option (ResultForm Shown)). IfSome r (λ form. ShowsAs (shown_by form body at) (Err e))) (at_row types_result o) shows)
      where
        go : (row : Option (ResultForm Shown)) → types_result o ≡ row → IsSome row → IfSome row (λ form. ShowsAs (shown_by form body at) (Err e)) → Shows old new (Err s)
        go None is some x = absurd (none_is_some some)
        go (Some form) is some x = in_form (Some (printed ShownText form)) old new (Err s) (types_form form is (types_alone o known)) (content_stopped ShownText form place body at e s old new x stops)

-- an operation of rows has a row at its code, and so has one of types
pub rows_at_code : (o : Operation) → IsSome (rows_result o) → IsKnown (row_at rows_result (operation_code o))
rows_at_code o known = subst IsKnown (sym (at_row rows_result o)) (go (rows_result o) known)
  where
    go : (row : Option (ResultForm Shown)) → IsSome row → IsKnown row
    go None some = absurd (none_is_some some)
    go (Some form) some = tt

pub types_at_code : (o : Operation) → IsSome (types_result o) → IsSome (row_at types_result (operation_code o))
types_at_code o known = subst IsSome (sym (at_row types_result o)) known
