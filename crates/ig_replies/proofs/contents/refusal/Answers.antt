use Rattle.ig_wire.specs.declared.reason.Reason.TheVariants as reason
use Rattle.ig_replies.proofs.ReasonLemmas.{reason_short}
use Rattle.ig_replies.proofs.contents.refusal.Goals as goal

pub returns-in-NotMine-clause-short : goal.returns-in-NotMine-clause-short
returns-in-NotMine-clause-short c = reason_short reason.InvalidOperation

pub returns-in-Profile-clause-short : goal.returns-in-Profile-clause-short
returns-in-Profile-clause-short c = reason_short (reason.Profile c.in-Profile.profile)

pub returns-in-NoMemory-clause-short : goal.returns-in-NoMemory-clause-short
returns-in-NoMemory-clause-short c = reason_short reason.NoMemory
