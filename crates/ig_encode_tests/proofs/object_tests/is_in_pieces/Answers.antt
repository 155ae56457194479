use Rattle.ig_encode_tests.proofs.object_tests.is_in_pieces.Goals as goal

pub loop-init : goal.loop-init
loop-init c = c.start-mark.ensures.any c.args.value.now

pub encode_next-filled-requires-clause-mark : goal.encode_next-filled-requires-clause-mark
encode_next-filled-requires-clause-mark c = c.loop.invariant

pub loop-preserved : goal.loop-preserved
loop-preserved c = c.encode_next-filled.ensures.mark
