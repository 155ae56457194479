use Rattle.std.proofs.Common.{◌≡◌, take}
use Rattle.ig_parts.specs.Routes.{tables_of}
use Rattle.ig_parts.proofs.routes.tables_of.Given as goal

abbrev pub invariant-loop-group : goal.invariant-loop-group
invariant-loop-group l = l.tables.items ≡ tables_of (take l.group-index l.groups)
