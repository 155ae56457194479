use Rattle.std.proofs.Common.{sym}
use Rattle.ig_capture.proofs.MessageLemmas.{other_ask}
use Rattle.ig_capture.proofs.client.line_ask.Goals as goal

pub returns-in_default : goal.returns-in_default
returns-in_default c = sym (other_ask c.args.request c.in_default.not-Run)
