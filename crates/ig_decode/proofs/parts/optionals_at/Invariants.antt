use Rattle.std.proofs.Common.{◌≡◌}
use Rattle.ig_value.specs.Table.{byte_of}
use Rattle.ig_value.specs.Reading.{optional_at, many_at}
use Rattle.ig_decode.proofs.LoopLemmas.{with_front}
use Rattle.ig_decode.proofs.parts.optionals_at.Given as goal

abbrev pub invariant-each : goal.invariant-each
invariant-each g l =
    with_front l.items.items (many_at (optional_at (byte_of l.code) g.C.ReadContent.reads) l.left.items l.rest) ≡ many_at (optional_at (byte_of l.code) g.C.ReadContent.reads) l.fn.count.items l.bytes

abbrev pub decreases-each : goal.decreases-each
decreases-each g l = l.left.items
