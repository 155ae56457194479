use Rattle.std.proofs.Common.{◌≡◌, true, refl, sym, ap, subst, ◌∙◌}
use Rattle.std.proofs.lemmas.List.{nil_from_length}
use Rattle.std.specs.List.Sorted.{IsStrictlySortedBy}
use Rattle.std.specs.Ordering.{is_lt}
use Rattle.ig_types.proofs.AscendingLemmas.{sorted_nil, ascends_on, ascends_end, ascends_not, less_from_test}
use Rattle.ig_types.proofs.WithinLemmas.{refused}
use Rattle.ig_types.proofs.order.is_ascending.Goals as goal

pub returns-in_default : goal.returns-in_default
returns-in_default g c =
    (λ _. subst (IsStrictlySortedBy g.M.Member.rank) (sym (nil_from_length c.args.members.now c.in_default.ensures.cases)) (sorted_nil g.M.Member.rank), λ _. refl)

pub returns-then-not-is_lt : goal.returns-then-not-is_lt
returns-then-not-is_lt g c =
    refused (ascends_not _ g.met.M.Member.rank_is_total _ _ _ _ _ c.loop-next.invariant c.in-Some-split_first.ensures.cases.0
    (λ less. let yes : is_lt c.compare.result ≡ true = ap is_lt (c.compare.ensures ∙ less) in cc))

pub loop-next-preserved : goal.loop-next-preserved
loop-next-preserved g c =
    ascends_on _ g.met.M.Member.rank_is_total _ _ _ _ _ c.loop-next.invariant c.in-Some-split_first.ensures.cases.0
    (sym c.compare.ensures ∙ less_from_test c.compare.result c.if-not-is_lt.ensures)

pub returns : goal.returns
returns g c = (λ _. ascends_end _ g.met.M.Member.rank_is_total _ _ _ c.loop-next.invariant (nil_from_length _ c.in_default-split_first.ensures.cases), λ _. refl)
