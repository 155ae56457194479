use Rattle.std.proofs.Common.{arith}
use Rattle.ig_value.specs.Objects.{object_ids}
use Rattle.ig_value.proofs.HeaderLemmas.{refused_within, header_there}
use Rattle.ig_decode.proofs.ObjectAtLemmas.{checks_wrong}
use Rattle.ig_decode.proofs.object.layout_of.Goals as goal

pub overflow_sub-result : goal.overflow_sub-result
overflow_sub-result c =
    omega (arith, refused_within c.args.header.now _ _ _ _ (c.in-Err.ensures.wrong (object_ids c.args.header.now c.args.bytes.now)), header_there c.args.bytes.now c.args.header.now c.requires)

pub returns-in-Err-clause-stopped : goal.returns-in-Err-clause-stopped
returns-in-Err-clause-stopped c =
    λ inner. checks_wrong c.args.bytes.now c.args.header.now _ _ c.requires (c.in-Err.ensures.wrong (object_ids c.args.header.now c.args.bytes.now)) inner
