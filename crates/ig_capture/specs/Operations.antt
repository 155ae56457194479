-- The operations of the requests of one identifier.
use Rattle.std.specs.Prelude.{◌≡◌, List, [], ◌∷◌, Option, Some, None}
use Rattle.std.specs.Coded.{Coded, coded_list, coded_option}
use Rattle.ig_wire.specs.declared.operation.Operation.{Operation}
use Rattle.ig_wire.specs.contracts.operation.Operation as operation

-- in the order in which they came; a request that was refused has none
abbrev pub Operations : Type 0
Operations = List (Option Operation)

abbrev pub coded_operations : Coded Operations
coded_operations = coded_list (coded_option operation.the_row.coded)

-- the first of them, and the others if there are any
abbrev pub SplitsFirst : Operations → Option Operation → Option Operations → Type 0
SplitsFirst all first None = all ≡ first ∷ []
SplitsFirst all first (Some others) =
    (next : Option Operation) × (later : Operations) × (others ≡ next ∷ later) × (all ≡ first ∷ others)
