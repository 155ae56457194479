use Rattle.ig_frame.proofs.StreamLemmas.{StandsFor-passed, stream_after_frame-stays}
use Rattle.ig_frame.proofs.cutting.place_in_the_stream.Goals as goal

pub returns-clause-passed : goal.returns-clause-passed
returns-clause-passed c s input body rest at least stands found =
    let inside = c.frame_is_read.ensures.within least s.limit s.rest body rest found in
    StandsFor-passed s input body rest at least stands found inside.0 inside.2

pub returns-clause-stays : goal.returns-clause-stays
returns-clause-stays c = stream_after_frame-stays
