-- The results of the functions that read and take memory, compared with reading as a function of
-- lists.
use Rattle.std.specs.Prelude.{◌≡◌, ℕ, List, Result, Ok, Err}
use Rattle.ig_wire.specs.Fields.{in_frame}
use Rattle.ig_wire.specs.declared.read_error.ReadError.{ReadError}
use Rattle.ig_wire.specs.declared.read_error.ReadError.TheVariants as error
use Rattle.ig_wire.specs.declared.unread.ReadFault.{ReadFault}
use Rattle.ig_wire.specs.declared.unread.ReadFault.TheVariants as fault

-- the error is the one that reading the list gives, unless memory ran out
abbrev pub Fails : {Y : Type 0} → ReadError → Result Y ℕ → Type 0
Fails error.NoMemory read = Unit {0}
Fails (error.Stopped stop) read = read ≡ Err stop.left

-- the result, seen through `view`, is what reading the list gives, unless memory ran out
abbrev pub ReadAnswers : {X Y : Type 0} → (X → Y) → Result X ReadError → Result Y ℕ → Type 0
ReadAnswers view (Ok x) read = read ≡ Ok (view x)
ReadAnswers view (Err e) read = Fails e read

-- the result is what reading the body gives, with a fault told by its offset in the frame, unless
-- memory ran out
abbrev pub MessageAnswers : {X : Type 0} → List ℕ → Result X ReadFault → Result X ℕ → Type 0
MessageAnswers body (Ok x) read = read ≡ Ok x
MessageAnswers body (Err fault.NoMemory) read = Unit {0}
MessageAnswers body (Err (fault.Unread unread)) read = in_frame body read ≡ Err unread.place
