-- The texts of results, by what was read.
use Rattle.std.proofs.Common.{◌≡◌, ℕ, List, ◌++◌, drop, Option, Some, None, Result, Ok, Err, IsSome, refl, sym, ap, subst, ◌∙◌}
use Rattle.ig_wire.specs.Fields.{frame_place}
use Rattle.ig_wire.specs.declared.operation.Operation.{Operation}
use Rattle.ig_wire.specs.declared.unread.ReadFault.{ReadFault}
use Rattle.ig_wire.specs.declared.unread.ReadFault.TheVariants as reads
use Rattle.ig_wire.specs.Operations.{operation_at, operation_code}
use Rattle.ig_fields.specs.Format.{Fields}
use Rattle.ig_fields.specs.Ask.{ResultForm, row_at}
use Rattle.ig_fields.specs.ReadingFields.{message_of}
use Rattle.ig_fields.specs.ShowsRightly.{shown_fields, shown_by}
use Rattle.ig_fields.specs.ShownAnswers.{ShowsAs}
use Rattle.ig_capture.specs.declared.stop.Stop.{Stop}
use Rattle.ig_capture.specs.declared.stop.Stop.TheVariants as stop
use Rattle.ig_capture.specs.Answers.{ShowsContent, StopsAt}
use Rattle.ig_capture.specs.Talks.{printed, shown_text, text_by, later_place}

module _ {A : Type 0} (text : A → List ℕ) (form : ResultForm A) (place : ℕ) (body : List ℕ) (at : ℕ) where
  abbrev content : Result (List ℕ) ℕ
  content = text_by (Some (printed text form)) (drop at body)

  -- a result that was read, and its text
  shown : (m : Result (Fields form.format) ℕ) (x : A) (old new : List ℕ) → shown_fields form body m ≡ Ok x → new ≡ old ++ text x
      → ShowsContent place body (shown_text (printed text form) m) old new (Ok tt)
  shown (Ok fields) x old new is printed_is =
      let same : form.shown fields ≡ x = cc in
      (text (form.shown fields), refl, printed_is ∙ ap (λ (y : A). old ++ text y) (sym same))
  shown (Err left) x old new is printed_is = absurd (cc)

  pub content_shown : (x : A) (old new : List ℕ) → shown_by form body at ≡ Ok x → new ≡ old ++ text x → ShowsContent place body content old new (Ok tt)
  content_shown x old new is printed_is = shown (message_of form.format (drop at body)) x old new is printed_is

  -- one that doesn't read
  stopped : (m : Result (Fields form.format) ℕ) (e : ReadFault) (s : Stop) (old new : List ℕ) → ShowsAs (shown_fields form body m) (Err e) → StopsAt place e s
      → ShowsContent place body (shown_text (printed text form) m) old new (Err s)
  stopped m reads.NoMemory s old new shows stops =
      subst (λ (t : Stop). ShowsContent place body (shown_text (printed text form) m) old new (Err t)) (sym stops) tt
  stopped (Ok fields) (reads.Unread unread) s old new shows stops = absurd (cc)
  stopped (Err left) (reads.Unread unread) s old new shows stops =
      let same : frame_place body left ≡ unread.place = cc in
      subst (λ (t : Stop). ShowsContent place body (Err left) old new (Err t)) (sym stops)
      (left, refl, ap (later_place place) (sym same))

  pub content_stopped : (e : ReadFault) (s : Stop) (old new : List ℕ) → ShowsAs (shown_by form body at) (Err e) → StopsAt place e s
      → ShowsContent place body content old new (Err s)
  content_stopped e s old new shows stops = stopped (message_of form.format (drop at body)) e s old new shows stops
