use Rattle.std.proofs.Common.{◌≡◌, map}
use Rattle.ig_meta.proofs.distinct.members_of.Given as goal

abbrev pub invariant-each : goal.invariant-each
invariant-each g l = l.members.items ≡ map g.M.Member.made l.yielded
