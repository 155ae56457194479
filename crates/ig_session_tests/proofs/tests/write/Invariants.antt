use Rattle.std.proofs.Common.{◌≡◌}
use Rattle.ig_session_tests.proofs.tests.write.Given as goal

-- the calls that are out stay out
abbrev pub invariant-pieces : goal.invariant-pieces
invariant-pieces l = l.session.out ≡ l.fn.session.out
