use Rattle.ig_encode.proofs.OutputLemmas.{each_full}
use Rattle.ig_meta.proofs.distinct.put_members.Goals as goal

pub returns-then-is_full : goal.returns-then-is_full
returns-then-is_full g c =
    each_full g.S.Output.after g.met.S.Output.longer g.M.Member.bytes c.args.out.now c.args.into.now c.args.members.now c.loop-member.member-index (c.loop-member.out, c.loop-member.into) c.loop-member.invariant (c.is_full.ensures c.if-is_full.true)
