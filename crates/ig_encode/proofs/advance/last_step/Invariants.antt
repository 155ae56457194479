use Rattle.std.proofs.Common.{◌-◌, length}
use Rattle.ig_encode.specs.Marks.{IsStep, head_len, inner_values}
use Rattle.ig_encode.proofs.advance.last_step.Given as goal

abbrev pub invariant-loop-child : goal.invariant-loop-child
invariant-loop-child l = IsStep (head_len l.value) (inner_values l.value) l.offset l.step

abbrev pub decreases-loop-child : goal.decreases-loop-child
decreases-loop-child l = length (inner_values l.value) - l.step.index
