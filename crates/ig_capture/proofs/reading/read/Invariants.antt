use Rattle.std.proofs.Common.{◌≡◌, ◌-◌, ◌≤◌, length}
use Rattle.ig_capture.proofs.LoopLemmas.{ReadSoFar}
use Rattle.ig_capture.proofs.reading.read.Given as goal

-- the bytes before this offset were read
abbrev pub invariant-bytes : goal.invariant-bytes
invariant-bytes l = record {
  within : l.at ≤ length l.fn.piece;
  read : ReadSoFar l.fn.piece l.at l.fn.reading l.reading l.fn.lines l.lines;
}

abbrev pub decreases-bytes : goal.decreases-bytes
decreases-bytes l = length l.fn.piece - l.at
