-- What is written by a table is read by it, and no two requests have the same bytes.
use Rattle.std.proofs.Common.{◌≡◌, ℕ, ℤ, List, ◌++◌, length, drop, Option, Some, Result, Ok, Err, refl, sym, ap, subst, ◌∙◌, arith, append_assoc}
use Rattle.std.specs.Prelude.{FitsSigned}
use Rattle.std.specs.Int.{w16, w64}
use Rattle.std.specs.Option.{option_and_then}
use Rattle.std.proofs.lemmas.List.{drop_at}
use Rattle.ig_base.specs.Numbers.{LE}
use Rattle.ig_wire.specs.Fields.{number_of}
use Rattle.ig_wire.specs.Operations.{operation_code, operation_at}
use Rattle.ig_wire.specs.declared.Operation.{Operation}
use Rattle.ig_wire.specs.declared.Operation.TheVariants as operation
use Rattle.ig_wire.specs.declared.Profile.{Profile}
use Rattle.ig_wire.proofs.AgreeLemmas.{ok_is}
use Rattle.ig_wire.proofs.LeafLemmas.{i16_read, i64_read}
use Rattle.ig_fields.specs.Format.{Fields}
use Rattle.ig_fields.specs.ReadingFields.{message_of}
use Rattle.ig_fields.specs.FieldBytes.{fields_bytes}
use Rattle.ig_fields.specs.Ask.{row_at, Ask, AskForm, form_body, ResultForm, Filled, filled_bytes}
use Rattle.ig_fields.specs.AsksRightly.{fields_after, served, asked}
use Rattle.ig_fields.specs.ShowsRightly.{shown_by}
use Rattle.ig_fields.specs.TableLaws.{FitsFilled, IsRowOf, IsShownBy}
use Rattle.ig_fields.proofs.FormatLemmas.{message_read}
use Rattle.ig_fields.proofs.WrittenLemmas.{fields_written}

-- ---- codes

code_back : (o : Operation) → operation_at (operation_code o) ≡ Some o
code_back operation.Get = refl
code_back _ = refl

code_fits : (o : Operation) → FitsSigned w16 (operation_code o)
code_fits operation.Get = record { sfits = omega arith }
code_fits _ = record { sfits = omega arith }

row_back : {R : Type 0} (table : Operation → Option R) (o : Operation) (row : R) → table o ≡ Some row → row_at table (operation_code o) ≡ Some row
row_back table o row known = ap (option_and_then table) (code_back o) ∙ known

-- ---- the fields of a body

after_head : (id : ℤ) (form : AskForm) → fields_after (form_body id form) ≡ filled_bytes form.filled
unfolding LE
after_head id form = refl

abbrev beside : ℤ → List ℕ → ℤ × List ℕ
beside z s = (z, s)

-- the same number, and the same bytes after it
number_apart_16 : (a b : ℤ) (s t : List ℕ) → FitsSigned w16 a → FitsSigned w16 b → LE w16 a ++ s ≡ LE w16 b ++ t → (a ≡ b) × (s ≡ t)
number_apart_16 a b s t p q e =
    let same = ok_is (beside a s) (beside b t) (sym (i16_read.again (LE w16 a) a s (p, refl)) ∙ ap (number_of w16) e ∙ i16_read.again (LE w16 b) b t (q, refl)) in
    (ap (λ (z : ℤ × List ℕ). z.0) same, ap (λ (z : ℤ × List ℕ). z.1) same)

number_apart_64 : (a b : ℤ) (s t : List ℕ) → FitsSigned w64 a → FitsSigned w64 b → LE w64 a ++ s ≡ LE w64 b ++ t → (a ≡ b) × (s ≡ t)
number_apart_64 a b s t p q e =
    let same = ok_is (beside a s) (beside b t) (sym (i64_read.again (LE w64 a) a s (p, refl)) ∙ ap (number_of w64) e ∙ i64_read.again (LE w64 b) b t (q, refl)) in
    (ap (λ (z : ℤ × List ℕ). z.0) same, ap (λ (z : ℤ × List ℕ). z.1) same)

module _ {A : Type 0} (ask_of : Operation → Option (Ask A)) (profile_of : A → Option Profile) where
  abbrev IsRow : A → AskForm → Type 0
  IsRow request form = IsRowOf ask_of profile_of request form

  -- what the bytes of its fields hold
  read_back : (r : A) (form : AskForm) (row : IsRow r form) → FitsFilled form.filled → message_of row.ask.format (filled_bytes form.filled) ≡ Ok row.fields
  read_back r form row fits =
      let same = ap filled_bytes row.same in
      let fit = subst FitsFilled row.same fits in
      ap (message_of row.ask.format) same ∙ (message_read row.ask.format).again (fields_bytes row.ask.format row.fields) row.fields (fields_written row.ask.format row.fields fit)

  -- a request that is written is read as it is, or refused for what it is refused for
  pub written_ask_read : (id : ℤ) (r : A) (form : AskForm) → IsRow r form → FitsFilled form.filled → asked (row_at ask_of (operation_code form.operation)) (form_body id form) ≡ served r (profile_of r)
  written_ask_read id r form row fits =
      let read : message_of row.ask.format (fields_after (form_body id form)) ≡ Ok row.fields = ap (message_of row.ask.format) (after_head id form) ∙ read_back r form row fits in
      rw (row_back ask_of form.operation row.ask row.known, read, row.asks, row.profile) refl

  -- the request that these fields ask for
  abbrev request_in : (ask : Ask A) → Result (Fields ask.format) ℕ → Result A ℕ
  request_in ask (Ok x) = Ok (ask.request x)
  request_in ask (Err left) = Err left

  abbrev requested : Ask A → List ℕ → Result A ℕ
  requested ask s = request_in ask (message_of ask.format s)

  requests : (r : A) (form : AskForm) (row : IsRow r form) → FitsFilled form.filled → requested row.ask (filled_bytes form.filled) ≡ Ok r
  requests r form row fits = rw (read_back r form row fits, row.asks) refl

  abbrev present : Ask A → Option (Ask A)
  present ask = Some ask

  present_is : (a b : Ask A) → present a ≡ present b → a ≡ b
  present_is a b e = cc

  abbrev shown : A → Result A ℕ
  shown r = Ok r

  shown_is : (p q : A) → shown p ≡ shown q → p ≡ q
  shown_is p q e = ok_is p q e

  -- the operation, and then the rest of the body
  by_parts : (id : ℤ) (form : AskForm) → LE w16 (operation_code form.operation) ++ (LE w64 id ++ filled_bytes form.filled) ≡ form_body id form
  by_parts id form = sym (append_assoc (LE w16 (operation_code form.operation)) (LE w64 id) (filled_bytes form.filled))

  -- no two requests have the same bytes
  pub written_asks_apart : (a b : ℤ) (p q : A) (f g : AskForm) → FitsSigned w64 a → FitsSigned w64 b → IsRow p f → IsRow q g → FitsFilled f.filled → FitsFilled g.filled → form_body a f ≡ form_body b g → (a ≡ b) × (p ≡ q)
  written_asks_apart a b p q f g fa fb first second ff fg e =
      let head = number_apart_16 (operation_code f.operation) (operation_code g.operation) (LE w64 a ++ filled_bytes f.filled) (LE w64 b ++ filled_bytes g.filled) (code_fits f.operation) (code_fits g.operation) (by_parts a f ∙ e ∙ sym (by_parts b g)) in
      let tail = number_apart_64 a b (filled_bytes f.filled) (filled_bytes g.filled) fa fb head.1 in
      let known : present first.ask ≡ present second.ask = sym (row_back ask_of f.operation first.ask first.known) ∙ ap (row_at ask_of) head.0 ∙ row_back ask_of g.operation second.ask second.known in
      let ask : first.ask ≡ second.ask = present_is first.ask second.ask known in
      let is : requested second.ask (filled_bytes g.filled) ≡ Ok p = subst (λ (k : Ask A). requested k (filled_bytes g.filled) ≡ Ok p) ask (ap (requested first.ask) (sym tail.1) ∙ requests p f first ff) in
      (tail.0, shown_is p q (sym is ∙ requests q g second fg))

-- a result that is written is read
pub written_result_read : {A : Type 0} (form : ResultForm A) (shown : A) (filled : Filled) (head : List ℕ) → IsShownBy form shown filled → FitsFilled filled → shown_by form (head ++ filled_bytes filled) (length head) ≡ Ok shown
written_result_read {A} form shown filled head by fits =
    let fit = subst FitsFilled by.same fits in
    let after : drop (length head) (head ++ filled_bytes filled) ≡ fields_bytes form.format by.fields = drop_at head (filled_bytes filled) (length head) refl ∙ ap filled_bytes by.same in
    let read : message_of form.format (drop (length head) (head ++ filled_bytes filled)) ≡ Ok by.fields = ap (message_of form.format) after ∙ (message_read form.format).again (fields_bytes form.format by.fields) by.fields (fields_written form.format by.fields fit) in
    rw (read, by.shows) refl
