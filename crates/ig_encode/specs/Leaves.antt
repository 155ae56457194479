-- Values that hold no value.
use Rattle.ig_value.specs.declared.code.Code.{Code}
use Rattle.ig_value.specs.declared.code.Code.TheVariants as code
use Rattle.ig_value.specs.declared.value.Value.{Value, out-Value}
use Rattle.ig_value.specs.Table.{parts}

-- a value with this code holds no value
abbrev pub IsLeafCode : Code → Type 0
IsLeafCode code.Objects = ⊥
IsLeafCode code.Collection = ⊥
IsLeafCode code.Map = ⊥
IsLeafCode code.Enums = ⊥
IsLeafCode code.Object = ⊥
IsLeafCode _ = Unit {0}

abbrev pub IsLeaf : Value → Type 0
IsLeaf v = IsLeafCode (parts (out-Value v)).0
