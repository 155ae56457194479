use Rattle.std.proofs.Common.{◌≡◌, true}
use Rattle.std.proofs.lemmas.List.{nil_from_length}
use Rattle.ig_types.proofs.WithinLemmas.{refused, missing_end, missing_before, missing_tied, after_skip, after_match}
use Rattle.ig_types.proofs.merging.is_within.Goals as goal

pub returns-in_default-split_first : goal.returns-in_default-split_first
returns-in_default-split_first g c =
    refused (missing_end _ g.met.M.Member.rank_is_total _ _ _ _ _ _ c.loop-x.invariant c.in-Some.ensures.cases.0 (nil_from_length _ c.in_default-split_first.ensures.cases))

pub returns-in-Less : goal.returns-in-Less
returns-in-Less g c =
    refused (missing_before _ g.met.M.Member.rank_is_total _ _ _ _ _ _ _ _ c.loop-x.invariant c.in-Some.ensures.cases.0 c.in-Some-split_first.ensures.cases.0 c.in-Less.ensures)

pub returns-then-not-is_same : goal.returns-then-not-is_same
returns-then-not-is_same g c =
    refused (missing_tied _ g.met.M.Member.rank_is_total _ _ _ _ _ _ _ _ c.loop-x.invariant c.in-Some.ensures.cases.0 c.in-Some-split_first.ensures.cases.0 c.in-Equal.ensures
    (λ e. let same : g.M.Member.same c.in-Some.x.now c.in-Some-split_first.y.now ≡ true = (g.met.M.Member.same_is_exact c.in-Some.x.now c.in-Some-split_first.y.now).1 e in cc))

pub loop-x-preserved-in-Greater : goal.loop-x-preserved-in-Greater
loop-x-preserved-in-Greater g c =
    after_skip _ g.met.M.Member.rank_is_total _ _ _ _ _ _ _ _ c.loop-x.invariant c.in-Some.ensures.cases.0 c.in-Some-split_first.ensures.cases.0 c.in-Greater.ensures

pub loop-x-preserved : goal.loop-x-preserved
loop-x-preserved g c =
    let same : g.M.Member.same c.in-Some.x.now c.in-Some-split_first.y.now ≡ true = cc in
    after_match _ g.met.M.Member.rank_is_total _ _ _ _ _ _ _ _ c.loop-x.invariant c.in-Some.ensures.cases.0 c.in-Some-split_first.ensures.cases.0
    ((g.met.M.Member.same_is_exact c.in-Some.x.now c.in-Some-split_first.y.now).0 same)
