use Rattle.std.proofs.Common.{◌≡◌, take}
use Rattle.std.specs.List.{flat_map}
use Rattle.ig_meta.proofs.distinct.put_members.Given as goal

abbrev pub invariant-loop-member : goal.invariant-loop-member
invariant-loop-member g l = (l.out, l.into) ≡ g.S.Output.after l.initial.out l.initial.into (flat_map g.M.Member.bytes (take l.member-index l.members))
