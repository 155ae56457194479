use Rattle.ig_deals.specs.Laws.{IsDesk}
use Rattle.ig_replies_tests.proofs.tests.holds.Given as goal

abbrev pub invariant-loop-asks : goal.invariant-loop-asks
invariant-loop-asks l = IsDesk l.desk
