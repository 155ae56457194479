use Rattle.std.proofs.Common.{[], ◌∷◌}
use Rattle.ig_turn.proofs.desk.Desk.call.Given as goal

-- the call that is committed
abbrev pub ghosts-commit : goal.ghosts-commit
ghosts-commit g a = record { calls = (g.O.Plain.ask_data a.ask.value, g.O.Plain.got_data a.got.now) ∷ [] }
