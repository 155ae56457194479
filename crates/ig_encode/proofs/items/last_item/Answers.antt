use Rattle.std.proofs.Common.{arith}
use Rattle.ig_value.specs.Table.{byte_of}
use Rattle.ig_value.specs.Canon.{optional_bytes}
use Rattle.ig_encode.proofs.MarkLemmas.{items_end}
use Rattle.ig_encode.proofs.items.last_item.Goals as goal

pub returns-clause-end : goal.returns-clause-end
returns-clause-end g c = λ byte. (
  items_end (optional_bytes (byte_of c.args.inner) g.T.Spell.bytes) byte c.args.parts.now c.args.offset c.loop-step.step c.loop-step.invariant (omega (arith, c.loop-step-test.false)),
  c.loop-step.invariant.reached,
)
