use Rattle.std.proofs.Common.{◌≡◌, ◌-◌, true}
use Rattle.ig_text.specs.ReadText.{run_at}
use Rattle.ig_text.proofs.ReaderLoopLemmas.{with_front}
use Rattle.ig_text.proofs.parts.paired.Given as goal

abbrev pub invariant-loop : goal.invariant-loop
invariant-loop l = with_front l.bytes.items (run_at true (l.count - l.counter) l.rest) ≡ run_at true l.count l.text
