use Rattle.ig_replies.proofs.ReasonLemmas.{reason_short}
use Rattle.ig_replies.proofs.contents.content_of.Goals as goal

pub returns-in-Refused-clause-short : goal.returns-in-Refused-clause-short
returns-in-Refused-clause-short c = reason_short c.reason_of.result
