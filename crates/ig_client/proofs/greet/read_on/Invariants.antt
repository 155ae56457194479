use Rattle.std.proofs.Common.{◌≡◌, ◌+◌, List, ℕ, ◌++◌, length}
use Rattle.ig_link.specs.States.{SourceAdvances}
use Rattle.ig_client.proofs.greet.read_on.Given as goal

-- all but `left` of the bytes were read, and stand after the others
abbrev pub invariant-loop-left : goal.invariant-loop-left
invariant-loop-left g l = record {
  read : (piece : List ℕ) × (l.bytes.items ≡ l.fn.bytes.items ++ piece) × (length piece + l.left ≡ l.count)
      × SourceAdvances (g.S.Source.source l.fn.source) (g.S.Source.source l.source) piece;
  beside : g.S.Source.sink_beside l.source ≡ g.S.Source.sink_beside l.fn.source;
}

abbrev pub decreases-loop-left : goal.decreases-loop-left
decreases-loop-left g l = l.left
