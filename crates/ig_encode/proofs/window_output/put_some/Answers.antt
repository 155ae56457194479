use Rattle.std.proofs.Common.{arith}
use Rattle.ig_encode.specs.WindowOutput.{filled_nothing}
use Rattle.ig_encode.proofs.window_output.put_some.Goals as goal
use Rattle.ig_encode.proofs.window_output.put_some.Goals.{then-room-bytes, else-room-bytes}

pub returns-else-count-gt0 : goal.returns-else-count-gt0
returns-else-count-gt0 c =
    filled_nothing c.args.window.now c.args.into.now c.args.bytes.now c.first_of-before.result c.first_of-before.ensures
    (elim c.if-room-bytes.branch [ then-room-bytes w ↦ omega arith | else-room-bytes w ↦ omega arith ])
