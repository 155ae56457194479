use Rattle.std.proofs.Common.{sym}
use Rattle.ig_capture.proofs.MessageLemmas.{other_call}
use Rattle.ig_capture.proofs.client.line_call.Goals as goal

pub returns-in_default : goal.returns-in_default
returns-in_default c = sym (other_call c.args.call c.in_default.not-Affinity)
