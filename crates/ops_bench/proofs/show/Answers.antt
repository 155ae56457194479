use Rattle.std.specs.Prelude.{pos, Some}
use Rattle.ops_bench.proofs.show.Goals as goal

pub page_from-filled-requires : goal.page_from-filled-requires
page_from-filled-requires g c = c.advance.ensures.mark (Some (pos 1)) c.loop-count.invariant

pub loop-count-preserved : goal.loop-count-preserved
loop-count-preserved g c = c.advance.ensures.mark (Some (pos 1)) c.loop-count.invariant
