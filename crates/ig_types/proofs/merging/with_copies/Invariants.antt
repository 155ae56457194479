use Rattle.std.proofs.Common.{◌≡◌, ◌++◌, take}
use Rattle.ig_types.proofs.merging.with_copies.Given as goal

-- the members so far are copied
abbrev pub invariant-loop-member : goal.invariant-loop-member
invariant-loop-member g l = l.members.items ≡ l.fn.members.items ++ take l.member-index l.rest
