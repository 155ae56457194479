use Rattle.ig_wire.specs.Versions.{has_flags}
use Rattle.ig_replies.proofs.TurnLemmas.{silent}
use Rattle.ig_replies.proofs.turns.say.Goals as goal

pub new-requires : goal.new-requires
new-requires c = record { told = silent (has_flags c.args.terms.now.version); text = c.requires }
