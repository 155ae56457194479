use Rattle.std.proofs.Common.{◌≡◌}
use Rattle.ig_fields.specs.ReadingFields.{each_of}
use Rattle.ig_fields.proofs.LoopLemmas.{with_front}
use Rattle.ig_fields.proofs.list.items_of.Given as goal

abbrev pub invariant-each : goal.invariant-each
invariant-each g l =
    with_front l.items.items (each_of g.F.FieldFormat.reads l.left.items l.rest) ≡ each_of g.F.FieldFormat.reads l.fn.count.items l.bytes

abbrev pub decreases-each : goal.decreases-each
decreases-each g l = l.left.items
