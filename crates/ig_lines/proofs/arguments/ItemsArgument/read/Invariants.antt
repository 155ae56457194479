use Rattle.std.proofs.Common.{◌≡◌, ◌-◌, length}
use Rattle.ig_text.proofs.ReaderLoopLemmas.{with_front}
use Rattle.ig_lines.specs.Arguments.{to_end_at}
use Rattle.ig_lines.proofs.arguments.ItemsArgument.read.Given as goal

abbrev pub invariant-loop : goal.invariant-loop
invariant-loop g l = with_front l.read.items (to_end_at g.F.Argument.reads (l.most - l.counter) l.rest) ≡ to_end_at g.F.Argument.reads (length l.text) l.text
