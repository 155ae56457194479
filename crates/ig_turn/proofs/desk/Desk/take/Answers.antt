use Rattle.std.proofs.Common.{rules}
use Rattle.ig_turn.proofs.CallLemmas.{takes_it}
use Rattle.ig_turn.proofs.desk.Desk.take.Goals as goal

pub load-requires : goal.load-requires
load-requires g c = (search rules, search rules, takes_it _ _ _ _ _ c.args.ticket (search rules) (search rules))
