use Rattle.std.proofs.Common.{rules}
use Rattle.ig_turn.proofs.CallLemmas.{passes_turn}
use Rattle.ig_turn.proofs.desk.Desk.pass.Goals as goal

pub fetch_add-requires : goal.fetch_add-requires
fetch_add-requires g c = (search rules, search rules, passes_turn _ _ _ _ _ _ _ _ _ c.requires.holds.1 c.requires.holds.2 c.requires.carries.1 c.requires.carries.2)
