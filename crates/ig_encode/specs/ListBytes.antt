-- The canonical forms of lists of parts.
use Rattle.std.specs.Prelude.{ℕ, ℤ, pos, List, [], ◌++◌, length}
use Rattle.std.specs.Int.{w8, w32}
use Rattle.std.specs.List.{flat_map}
use Rattle.ig_base.specs.Numbers.{LE}
use Rattle.ig_value.specs.declared.Value.{Value}
use Rattle.ig_value.specs.Canon.{Canon}

-- an Int32 count, and the items
abbrev pub array_bytes : {A : Type 0} → (A → List ℕ) → List A → List ℕ
array_bytes bytes xs = LE w32 (pos (length xs)) ++ ([] ++ flat_map bytes xs)

-- an Int32 count, a kind, and the items
abbrev pub kinded_bytes : {A : Type 0} → (A → List ℕ) → ℤ → List A → List ℕ
kinded_bytes bytes kind xs = LE w32 (pos (length xs)) ++ (LE w8 kind ++ flat_map bytes xs)

-- a key, and its value
abbrev pub pair_bytes : Value × Value → List ℕ
pair_bytes p = Canon p.0 ++ Canon p.1
