-- Reading an array.
use Rattle.std.specs.Prelude.{ℕ, List}
use Rattle.ig_value.specs.Reading.{Read, nothing_at, both_at, many_at, counted_at}

-- an Int32 count, and as many items as it says
abbrev pub array_at : {A : Type 0} → (List ℕ → Read A) → List ℕ → Read (Unit {0} × List A)
array_at one s = counted_at (λ n. both_at nothing_at (many_at one n)) s
