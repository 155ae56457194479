use Rattle.ig_base.proofs.FrameLemmas.{Begins-start, Begins-more, Begins-next}
use Rattle.ig_base.proofs.frames.frames_follow.Goals as goal

pub returns : goal.returns
returns c = record {
  none = Begins-start;
  more = λ side input after more bodies b. Begins-more b more;
  next = Begins-next;
  cut = λ side input after bodies b none. record { begins = b; ends = none };
}
