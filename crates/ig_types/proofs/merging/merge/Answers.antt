use Rattle.ig_types.proofs.MergeLemmas.{after_first, after_second, after_both, first_done, second_done}
use Rattle.ig_types.proofs.merging.merge.Goals as goal

pub loop-x-preserved-in-Less : goal.loop-x-preserved-in-Less
loop-x-preserved-in-Less g c =
    after_first _ _ g.met.M.Member.rank_is_total _ _ _ _ _ _ _ _ _ _ _ c.loop-x.invariant c.in-Some.ensures.cases.0 c.in-Some-split_first.ensures.cases.0
    c.in_ok-copy-in-Less.ensures c.in_ok-push-in-Less.ensures.items c.in-Less.ensures

pub loop-x-preserved-in-Greater : goal.loop-x-preserved-in-Greater
loop-x-preserved-in-Greater g c =
    after_second _ _ g.met.M.Member.rank_is_total _ _ _ _ _ _ _ _ _ _ _ c.loop-x.invariant c.in-Some.ensures.cases.0 c.in-Some-split_first.ensures.cases.0
    c.in_ok-copy-in-Greater.ensures c.in_ok-push-in-Greater.ensures.items c.in-Greater.ensures

pub loop-x-preserved : goal.loop-x-preserved
loop-x-preserved g c =
    after_both _ _ g.met.M.Member.rank_is_total _ _ _ _ _ _ _ _ _ _ _ c.loop-x.invariant c.in-Some.ensures.cases.0 c.in-Some-split_first.ensures.cases.0
    c.in_ok-copy-in-Equal-3.ensures c.in_ok-push-in-Equal.ensures.items c.in-Equal.ensures (cc)

pub returns-in_default : goal.returns-in_default
returns-in_default g c = first_done _ _ g.met.M.Member.rank_is_total _ _ _ _ _ _ _ c.loop-x.invariant c.in_default.ensures.cases c.in_ok-with_copies.ensures

pub returns-in_default-split_first : goal.returns-in_default-split_first
returns-in_default-split_first g c = second_done _ _ g.met.M.Member.rank_is_total _ _ _ _ _ _ _ c.loop-x.invariant c.in_default-split_first.ensures.cases c.in_ok-with_copies-2.ensures
