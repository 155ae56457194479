-- What may be told in a head has one proof at most.
use Rattle.std.specs.Prelude.{Bool, true, false, Option, None, Some}
use Rattle.std.specs.Coded.{Unit-prop, le_prop}
use mathlib.Core.HLevel.{⊥_prop, ¬_prop}
use Rattle.ig_base.specs.declared.Topology.{Topology}
use Rattle.ig_wire.specs.declared.head.Fault.{Fault}
use Rattle.ig_wire.specs.Heads.{MayTell, HasShortText}

pub MayTell-prop : (flags : Bool) (told : Option Topology) (fault : Option Fault) → IsProp (MayTell flags told fault)
MayTell-prop true told fault = Unit-prop
MayTell-prop false (Some t) fault = ⊥_prop
MayTell-prop false None None = Unit-prop
MayTell-prop false None (Some fault) = ¬_prop

pub HasShortText-prop : (fault : Option Fault) → IsProp (HasShortText fault)
HasShortText-prop None = Unit-prop
HasShortText-prop (Some fault) = le_prop
