use Rattle.value_bench.proofs.show.Goals as goal

pub loop-init : goal.loop-init
loop-init g c = c.start-mark.ensures.any c.args.value.now

pub encode_next-requires-clause-mark : goal.encode_next-requires-clause-mark
encode_next-requires-clause-mark g c = c.loop.invariant

pub loop-preserved : goal.loop-preserved
loop-preserved g c = c.encode_next.ensures.mark
