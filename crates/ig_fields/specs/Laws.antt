-- Laws of the fields of messages, over lists alone.
use Rattle.std.specs.Prelude.{◌≡◌, ℕ, ◌+◌, ◌<◌, ◌^◌, List, ◌++◌, length, Ok, Err}
use Rattle.ig_base.specs.Numbers.{AreBytes}
use Rattle.ig_fields.specs.Format.{Format, Fields}
use Rattle.ig_fields.specs.SpellsFields.{SpellsFields}
use Rattle.ig_fields.specs.StopsFields.{StopsFields, StopsMessage}
use Rattle.ig_fields.specs.ReadingFields.{fields_of, message_of}
use Rattle.ig_fields.specs.FieldBytes.{fields_bytes, FitsFields}

-- what is read was spelled by a prefix
abbrev pub ReadFieldsAreSpelled : Type 0
ReadFieldsAreSpelled = (f : Format) (s rest : List ℕ) (x : Fields f) → AreBytes s → fields_of f s ≡ Ok (x, rest) → (prefix : List ℕ) × (s ≡ prefix ++ rest) × SpellsFields f prefix x

-- what is spelled is read, whatever follows it
abbrev pub SpelledFieldsAreRead : Type 0
SpelledFieldsAreRead = (f : Format) (prefix rest : List ℕ) (x : Fields f) → SpellsFields f prefix x → fields_of f (prefix ++ rest) ≡ Ok (x, rest)

-- where reading stops, the bytes stop being fields
abbrev pub FieldsStopRightly : Type 0
FieldsStopRightly = (f : Format) (s : List ℕ) (left : ℕ) → AreBytes s → fields_of f s ≡ Err left → (at : ℕ) × (left + at ≡ length s) × StopsFields f s at

-- where bytes stop being fields, reading stops
abbrev pub FieldStopIsRead : Type 0
FieldStopIsRead = (f : Format) (s : List ℕ) (at : ℕ) → StopsFields f s at → (left : ℕ) × (left + at ≡ length s) × (fields_of f s ≡ Err left)

-- the bytes of fields spell them
abbrev pub WrittenFieldsAreSpelled : Type 0
WrittenFieldsAreSpelled = (f : Format) (x : Fields f) → FitsFields f x → SpellsFields f (fields_bytes f x) x

-- fields that are spelled by bytes that an Int32 counts keep to the limits
abbrev pub SpelledFieldsFit : Type 0
SpelledFieldsFit = (f : Format) (s : List ℕ) (x : Fields f) → length s < 2 ^ 31 → SpellsFields f s x → FitsFields f x

-- no bytes spell two fields of a format
abbrev pub FieldsTellApart : Type 0
FieldsTellApart = (f : Format) (s : List ℕ) (x y : Fields f) → SpellsFields f s x → SpellsFields f s y → x ≡ y

-- the same of all bytes of a message: what is read is spelled
abbrev pub ReadMessageIsSpelled : Type 0
ReadMessageIsSpelled = (f : Format) (s : List ℕ) (x : Fields f) → AreBytes s → message_of f s ≡ Ok x → SpellsFields f s x

-- what is spelled is read
abbrev pub SpelledMessageIsRead : Type 0
SpelledMessageIsRead = (f : Format) (s : List ℕ) (x : Fields f) → SpellsFields f s x → message_of f s ≡ Ok x

-- where reading stops, the bytes stop being the message, and the other way round
abbrev pub MessageStopsRightly : Type 0
MessageStopsRightly = (f : Format) (s : List ℕ) (left : ℕ) → AreBytes s → message_of f s ≡ Err left → (at : ℕ) × (left + at ≡ length s) × StopsMessage f s at

abbrev pub MessageStopIsRead : Type 0
MessageStopIsRead = (f : Format) (s : List ℕ) (at : ℕ) → StopsMessage f s at → (left : ℕ) × (left + at ≡ length s) × (message_of f s ≡ Err left)
