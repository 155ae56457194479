use Rattle.std.proofs.Common.{◌≡◌, ℕ, List, ◌++◌, length, Ok}
use Rattle.ig_base.specs.Frames.{max_body}
use Rattle.ig_capture.proofs.LoopLemmas.{HeardSoFar}
use Rattle.ig_capture.proofs.sides.hear.Given as goal

-- the first frames were heard
abbrev pub invariant-frames : goal.invariant-frames
invariant-frames l = record {
  heard : HeardSoFar l.fn.session l.fn.server (record { stream = l.fn.frames; talk = l.fn.talk }) (record { stream = l.frames; talk = l.talk }) l.fn.lines l.lines;
  limit : l.frames.limit ≡ max_body;
}

abbrev pub decreases-frames : goal.decreases-frames
decreases-frames l = length l.frames.rest
