-- The results of the functions that read requests, compared with reading as a function of lists.
use Rattle.std.specs.Prelude.{◌≡◌, ℕ, List, Option, None, Some, Result, Ok, Err}
use Rattle.ig_wire.specs.Fields.{frame_place}
use Rattle.ig_wire.specs.declared.AskFault.{AskFault}
use Rattle.ig_wire.specs.declared.AskFault.TheVariants as fault
use Rattle.ig_wire.specs.declared.Profile.{Profile}

-- what reading all fields of a body gave, as an answer to its request
abbrev pub placed_in : {A : Type 0} → List ℕ → Result A ℕ → Result A AskFault
placed_in body (Ok x) = Ok x
placed_in body (Err left) = Err (fault.Unread (frame_place body left))

-- the answer is this one, unless memory ran out
abbrev pub AnswersAs : {A : Type 0} → Result A AskFault → Result A AskFault → Type 0
AnswersAs expected (Ok x) = expected ≡ Ok x
AnswersAs expected (Err fault.NoMemory) = Unit {0}
AnswersAs expected (Err fault.NotMine) = expected ≡ Err fault.NotMine
AnswersAs expected (Err (fault.Unread place)) = expected ≡ Err (fault.Unread place)
AnswersAs expected (Err (fault.Profile profile)) = expected ≡ Err (fault.Profile profile)

-- what is asked, unless it isn't served
abbrev pub unless_refused : {A : Type 0} → A → Option Profile → Result A Profile
unless_refused request None = Ok request
unless_refused request (Some profile) = Err profile

-- the closure's results are those of `build`
abbrev pub Makes : {X Y : Type 0} → (X → Y → Type 0) → (X → Y) → Type 0
Makes {X} {Y} post build = (x : X) (y : Y) → post x y → y ≡ build x
