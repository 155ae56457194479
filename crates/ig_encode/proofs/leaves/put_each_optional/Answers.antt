use Rattle.ig_value.specs.Table.{byte_of}
use Rattle.ig_value.specs.Canon.{optional_bytes}
use Rattle.ig_encode.proofs.OutputLemmas.{each_full}
use Rattle.ig_encode.proofs.leaves.put_each_optional.Goals as goal

pub returns-then-is_full : goal.returns-then-is_full
returns-then-is_full g c =
    each_full g.S.Output.after g.met.S.Output.longer (optional_bytes (byte_of c.args.inner) g.T.Spell.bytes) c.args.out.now c.args.into.now c.args.parts.now c.loop-part.part-index (c.loop-part.out, c.loop-part.into) c.loop-part.invariant (c.is_full.ensures c.if-is_full.true)
