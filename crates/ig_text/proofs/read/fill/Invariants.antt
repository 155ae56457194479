use Rattle.std.proofs.Common.{◌≡◌, ◌-◌, take, length}
use Rattle.ig_text.specs.ReadText.{run_at}
use Rattle.ig_text.proofs.ReaderLoopLemmas.{with_front}
use Rattle.ig_text.proofs.read.fill.Given as goal

abbrev pub invariant-loop-byte : goal.invariant-loop-byte
invariant-loop-byte l = with_front (take l.byte-index l.into) (run_at l.upper (length l.initial.into - l.byte-index) l.rest) ≡ run_at l.upper (length l.initial.into) l.text
