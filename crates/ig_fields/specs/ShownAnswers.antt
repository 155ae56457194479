-- The results of the functions that read results, compared with reading as a function of lists.
use Rattle.std.specs.Prelude.{◌≡◌, Result, Ok, Err}
use Rattle.ig_wire.specs.declared.ReadFault.{ReadFault}
use Rattle.ig_wire.specs.declared.ReadFault.TheVariants as fault

-- the answer is this one, unless memory ran out
abbrev pub ShowsAs : {A : Type 0} → Result A ReadFault → Result A ReadFault → Type 0
ShowsAs expected (Ok x) = expected ≡ Ok x
ShowsAs expected (Err fault.NoMemory) = Unit {0}
ShowsAs expected (Err (fault.Unread unread)) = expected ≡ Err (fault.Unread unread)
