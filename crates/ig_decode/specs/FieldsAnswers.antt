-- The results of reading fields, compared with reading as a function of lists.
use Rattle.std.specs.Prelude.{◌≡◌, ℕ, ◌+◌, List, length, Result, Ok, Err}
use Rattle.ig_base.specs.declared.header.Footer.{Footer}
use Rattle.ig_value.specs.declared.value.Value.{Value}
use Rattle.ig_value.specs.Reading.{Fault, Read, turned, laid_at}
use Rattle.ig_decode.specs.FooterForms.{key_bytes, entry_bytes, footer_offsets}
use Rattle.ig_decode.specs.declared.fault.ReadError.{ReadError}
use Rattle.ig_decode.specs.ReaderAnswers.{Fails}

-- reading the fields of an object with this footer, after which this number of bytes are left
abbrev pub fields_reading : (List ℕ → Read Value) → Footer → List ℕ → List ℕ → ℕ → Result (List Value) Fault
fields_reading inner form fields footer after =
    turned (24 + length fields + length footer + after)
    (laid_at inner (entry_bytes form) (24 + length fields + key_bytes form) (24 + length fields) (footer_offsets form footer) fields)

-- the values are what reading the list gives, unless memory ran out
abbrev pub AnswersFields : {X : Type 0} → (X → List Value) → Result X ReadError → Result (List Value) Fault → Type 0
AnswersFields view (Ok x) read = read ≡ Ok (view x)
AnswersFields view (Err e) read = Fails e read
