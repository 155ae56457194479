-- What the bytes of a result show, in the words of the format, and as a function of the bytes.
use Rattle.std.specs.Prelude.{◌≡◌, ℕ, ◌+◌, List, drop, Result, Ok, Err}
use Rattle.ig_wire.specs.Fields.{frame_place}
use Rattle.ig_wire.specs.declared.ReadFault.{ReadFault}
use Rattle.ig_wire.specs.declared.ReadFault.TheVariants as fault
use Rattle.ig_fields.specs.Format.{Fields}
use Rattle.ig_fields.specs.SpellsFields.{SpellsFields}
use Rattle.ig_fields.specs.StopsFields.{StopsMessage}
use Rattle.ig_fields.specs.ReadingFields.{message_of}
use Rattle.ig_fields.specs.Ask.{ResultForm}

-- How a result in this form is read that stands in the body from this offset on: by what its fields
-- show; or they stop being the result's fields, at an offset that counts from the frame's first byte.
-- Out of memory is always a right answer.
abbrev pub ShowsRightly : {A : Type 0} → ResultForm A → List ℕ → ℕ → Result A ReadFault → Type 0
ShowsRightly form body at (Ok shown) =
    (x : Fields form.format) × SpellsFields form.format (drop at body) x × (form.shown x ≡ shown)
ShowsRightly form body at (Err (fault.Unread unread)) =
    (further : ℕ) × StopsMessage form.format (drop at body) further × (unread.place ≡ 4 + at + further)
ShowsRightly form body at (Err fault.NoMemory) = Unit {0}

-- ---- the same, read from left to right

abbrev pub shown_fields : {A : Type 0} (form : ResultForm A) → List ℕ → Result (Fields form.format) ℕ → Result A ReadFault
shown_fields form body (Ok x) = Ok (form.shown x)
shown_fields form body (Err left) = Err (fault.Unread (record { place = frame_place body left }))

-- what the result shows
abbrev pub shown_by : {A : Type 0} → ResultForm A → List ℕ → ℕ → Result A ReadFault
shown_by form body at = shown_fields form body (message_of form.format (drop at body))
