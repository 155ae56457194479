use Rattle.ig_value.specs.Canon.{Canon}
use Rattle.ig_encode.specs.Marks.{head_len, inner_values}
use Rattle.ig_encode.proofs.MarkLemmas.{step_more}
use Rattle.ig_encode.proofs.advance.last_step.Goals as goal

pub loop-child-preserved : goal.loop-child-preserved
loop-child-preserved c =
    step_more Canon (head_len c.args.value.now) (inner_values c.args.value.now) c.args.offset c.loop-child.step c.in-Some.child.now c.in-Some-end_of.end c.loop-child.invariant c.in-Some.ensures.child c.in-Some-end_of.ensures.0 c.in-Some-end_of.ensures.1
