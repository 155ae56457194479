-- What the body of a request asks, in the words of the format, and as a function of the bytes.
use Rattle.std.specs.Prelude.{◌≡◌, ℕ, ◌+◌, List, drop, Option, None, Some, Result, Ok, Err}
use Rattle.ig_wire.specs.Fields.{frame_place}
use Rattle.ig_wire.specs.declared.AskFault.{AskFault}
use Rattle.ig_wire.specs.declared.AskFault.TheVariants as fault
use Rattle.ig_wire.specs.declared.Profile.{Profile}
use Rattle.ig_fields.specs.Format.{Fields}
use Rattle.ig_fields.specs.SpellsFields.{SpellsFields}
use Rattle.ig_fields.specs.StopsFields.{StopsMessage}
use Rattle.ig_fields.specs.ReadingFields.{message_of}
use Rattle.ig_fields.specs.Ask.{Ask}

-- the fields come after the operation and the identifier
abbrev pub fields_after : List ℕ → List ℕ
fields_after body = drop 10 body

-- How a body is answered whose operation has this row in a table: by what its fields ask; or, they spell
-- what isn't served; or they stop being the operation's fields, at an offset that counts from the
-- frame's first byte; or there is no row. Out of memory is always a right answer.
abbrev pub AsksRightly : {A : Type 0} → Option (Ask A) → List ℕ → Result A AskFault → Type 0
AsksRightly {A} row body (Ok request) =
    (ask : Ask A) × (x : Fields ask.format) × (row ≡ Some ask) × SpellsFields ask.format (fields_after body) x
    × (ask.profile x ≡ None) × (ask.request x ≡ request)
AsksRightly {A} row body (Err (fault.Profile profile)) =
    (ask : Ask A) × (x : Fields ask.format) × (row ≡ Some ask) × SpellsFields ask.format (fields_after body) x
    × (ask.profile x ≡ Some profile)
AsksRightly {A} row body (Err (fault.Unread place)) =
    (ask : Ask A) × (at : ℕ) × (row ≡ Some ask) × StopsMessage ask.format (fields_after body) at × (place ≡ 14 + at)
AsksRightly row body (Err fault.NotMine) = row ≡ None
AsksRightly row body (Err fault.NoMemory) = Unit {0}

-- ---- the same, read from left to right

abbrev pub served : {A : Type 0} → A → Option Profile → Result A AskFault
served request None = Ok request
served request (Some profile) = Err (fault.Profile profile)

abbrev pub asked_fields : {A : Type 0} (ask : Ask A) → List ℕ → Result (Fields ask.format) ℕ → Result A AskFault
asked_fields ask body (Ok x) = served (ask.request x) (ask.profile x)
asked_fields ask body (Err left) = Err (fault.Unread (frame_place body left))

-- what a body of at least ten bytes asks, by the row of its operation
abbrev pub asked : {A : Type 0} → Option (Ask A) → List ℕ → Result A AskFault
asked None body = Err fault.NotMine
asked (Some ask) body = asked_fields ask body (message_of ask.format (fields_after body))
