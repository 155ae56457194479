use Rattle.std.proofs.Common.{arith}
use Rattle.ig_encode.proofs.DigestLemmas.{composed}
use Rattle.ig_encode.proofs.measure_output.compose.Goals as goal

pub returns : goal.returns
returns c = λ bytes is. composed c.args.digest.now c.args.more.now bytes (omega arith) (omega arith) is
