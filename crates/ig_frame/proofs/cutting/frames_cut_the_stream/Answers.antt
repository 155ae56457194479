use Rattle.std.proofs.Common.{ℕ, sym, ap, ◌∙◌}
use Rattle.ig_base.specs.Frames.{least_after, front}
use Rattle.ig_frame.proofs.StreamLemmas.{HandedOut-passed}
use Rattle.ig_frame.proofs.cutting.frames_cut_the_stream.Goals as goal

pub returns-clause-passed : goal.returns-clause-passed
returns-clause-passed c side s input body rest bodies limit are handed found =
    let here = ap (λ (l : ℕ). front (least_after side bodies) l s.rest) (sym limit) ∙ found in
    HandedOut-passed side s input body rest bodies (least_after side bodies) handed found
    (c.frames_follow.ensures.next side input s.rest body rest bodies are handed.begins here)
