use Rattle.std.proofs.Common.{◌≡◌, []}
use Rattle.ig_meta.proofs.LoopLemmas.{read_into}
use Rattle.ig_meta.proofs.distinct.entries_of.Given as goal

abbrev pub invariant-each : goal.invariant-each
invariant-each g l =
    read_into g.M.Key.Ord.cmp g.M.Key.ListKey.reads g.M.Rest.FieldFormat.reads l.entries.entries l.left.items l.rest
    ≡ read_into g.M.Key.Ord.cmp g.M.Key.ListKey.reads g.M.Rest.FieldFormat.reads [] l.fn.count.items l.bytes

abbrev pub decreases-each : goal.decreases-each
decreases-each g l = l.left.items
