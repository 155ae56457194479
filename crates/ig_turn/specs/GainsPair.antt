-- How a call changes what an object stands for.
use Rattle.std.specs.Prelude.{List, [], ◌∷◌, ◌++◌}

module _ {O X P : Type 0} where
  -- whatever the old object stood for, the new one stands for with one pair more
  abbrev pub GainsPair : (O → X → List P → Type 0) → O → O → P → Type 0
  GainsPair stands old new pair = (start : X) (pairs : List P) → stands old start pairs → stands new start (pairs ++ pair ∷ [])

  -- whatever the old object stood for, the new one stands for
  abbrev pub KeepsPairs : (O → X → List P → Type 0) → O → O → Type 0
  KeepsPairs stands old new = (start : X) (pairs : List P) → stands old start pairs → stands new start pairs
