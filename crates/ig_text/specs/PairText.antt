-- The text of a pair of values.
use Rattle.std.specs.Prelude.{ℕ, List, ◌∷◌, ◌++◌}
use Rattle.ig_value.specs.declared.value.Value.{Value}
use Rattle.ig_text.specs.Tokens.{equals}
use Rattle.ig_text.specs.TextOf.{TextOf}

abbrev pub pair_text : Value × Value → List ℕ
pair_text p = TextOf p.0 ++ equals ∷ TextOf p.1
