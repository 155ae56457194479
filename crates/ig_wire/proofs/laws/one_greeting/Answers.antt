use Rattle.ig_wire.proofs.GreetLemmas.{greets, greets_only, greets_written, hello_apart}
use Rattle.ig_wire.proofs.laws.one_greeting.Goals as goal

pub returns-clause-right : goal.returns-clause-right
returns-clause-right c = greets

pub returns-clause-only : goal.returns-clause-only
returns-clause-only c = greets_only

pub returns-clause-written : goal.returns-clause-written
returns-clause-written c = greets_written

pub returns-clause-apart : goal.returns-clause-apart
returns-clause-apart c = hello_apart
