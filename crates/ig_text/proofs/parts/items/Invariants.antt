use Rattle.std.proofs.Common.{◌≡◌, ◌-◌}
use Rattle.ig_text.specs.ReadText.{until_at, next_at, any_at}
use Rattle.ig_text.proofs.ReaderLoopLemmas.{with_front}
use Rattle.ig_text.proofs.parts.items.Given as goal

abbrev pub invariant-loop : goal.invariant-loop
invariant-loop g l = with_front l.read.items (until_at (next_at g.T.ReadPart.reads) l.close (l.most - l.counter) l.rest) ≡ any_at g.T.ReadPart.reads l.close l.text
