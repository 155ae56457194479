use Rattle.std.proofs.Common.{◌-◌, length}
use Rattle.ig_value.specs.Table.{byte_of}
use Rattle.ig_value.specs.Canon.{optional_bytes}
use Rattle.ig_encode.specs.Marks.{IsStepTo}
use Rattle.ig_encode.proofs.items.last_item.Given as goal

abbrev pub invariant-loop-step : goal.invariant-loop-step
invariant-loop-step g l = IsStepTo (optional_bytes (byte_of l.inner) g.T.Spell.bytes) 5 l.parts l.offset l.step

abbrev pub decreases-loop-step : goal.decreases-loop-step
decreases-loop-step g l = length l.parts - l.step.index
