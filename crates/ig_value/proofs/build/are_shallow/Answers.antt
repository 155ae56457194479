use Rattle.std.proofs.Common.{arith}
use Rattle.ig_value.proofs.BuildLemmas.{field_limited, field_shallow, shallow_more}
use Rattle.ig_value.proofs.build.are_shallow.Goals as goal

pub depth-requires : goal.depth-requires
depth-requires c = omega (arith, field_limited c.args.fields.now c.loop-field.field-index c.field-item.result c.loop-field-test.true c.requires c.field-item.is)

pub returns-then-depth-ge-DEEPEST-clause-no : goal.returns-then-depth-ge-DEEPEST-clause-no
returns-then-depth-ge-DEEPEST-clause-no c =
    λ no all. omega (arith, field_shallow c.args.fields.now c.loop-field.field-index c.field-item.result c.loop-field-test.true all c.field-item.is, c.depth.ensures, c.if-depth-ge-DEEPEST.true)

pub loop-field-preserved : goal.loop-field-preserved
loop-field-preserved c =
    shallow_more c.args.fields.now c.loop-field.field-index c.field-item.result c.loop-field-test.true c.loop-field.invariant c.field-item.is (omega (arith, c.depth.ensures, c.if-depth-ge-DEEPEST.false))
