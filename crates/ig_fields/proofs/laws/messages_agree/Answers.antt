use Rattle.ig_fields.proofs.FormatLemmas.{message_read}
use Rattle.ig_fields.proofs.laws.messages_agree.Goals as goal

pub returns-clause-spelled : goal.returns-clause-spelled
returns-clause-spelled c f s x bytes e = (message_read f).right s x bytes e

pub returns-clause-read : goal.returns-clause-read
returns-clause-read c f s x h = (message_read f).again s x h

pub returns-clause-stops : goal.returns-clause-stops
returns-clause-stops c f s left bytes e = let h = (message_read f).halts s left bytes e in (h.at, h.there, h.wrong)

pub returns-clause-stopped : goal.returns-clause-stopped
returns-clause-stopped c f s at w = (message_read f).halted s at w
