use Rattle.std.proofs.Common.{◌≡◌, ◌++◌, sym, ap, subst, ◌∙◌, filter_map}
use Rattle.std.specs.List.{AllByRecursion}
use Rattle.ig_types.specs.IsInOrder.{IsInOrder}
use Rattle.ig_types.specs.Registered.{IsWellFormed}
use Rattle.ig_types.specs.AffinityPair.{affinity_pair, affinity_pairs_of}
use Rattle.ig_types.proofs.AffinityPairLemmas.{pairs_are, pairs_more, pairs_skip, types_in_order, PairFacts, pair_facts}
use Rattle.std.proofs.lemmas.List.{append-nil}
use Rattle.ig_types.proofs.registry.Registry.affinity_pairs.Goals as goal

pub loop-meta-init : goal.loop-meta-init
loop-meta-init c =
    let starts = sym (c.into_iter-meta-iterator.ensures.into_iter_gives ∙ c.values-meta-items.ensures.rest) in
    record {
      told =
          ap (λ ps. ps ++ filter_map affinity_pair c.into_iter-meta-iterator.result) c.new-pairs.ensures.items
          ∙ sym (ap (filter_map affinity_pair) starts)
          ∙ pairs_are c.args.self.now c.self.inside.types.entries c.values-meta-items.ensures.ordered (ap (λ r. r.types) c.self.view_is) (subst IsWellFormed c.self.view_is c.self.invariant);
      in_order = subst (AllByRecursion IsInOrder) starts
          (types_in_order c.args.self.now c.self.inside.types.entries c.values-meta-items.ensures.ordered (ap (λ r. r.types) c.self.view_is) (subst IsWellFormed c.self.view_is c.self.invariant));
    }

pub affinity_pair-requires : goal.affinity_pair-requires
affinity_pair-requires c = (subst (AllByRecursion IsInOrder) c.in-Some.ensures.steps c.loop-meta.invariant.in_order).0

pub loop-meta-preserved-in-Continue-1 : goal.loop-meta-preserved-in-Continue-1
loop-meta-preserved-in-Continue-1 c = record {
  told = pairs_more affinity_pair _ _ _ _ _ c.in-Some.ensures.steps c.loop-meta.invariant.told _ _ c.in-Some-affinity_pair.ensures c.in_ok-push.ensures.items;
  in_order = (subst (AllByRecursion IsInOrder) c.in-Some.ensures.steps c.loop-meta.invariant.in_order).1;
}

pub loop-meta-preserved : goal.loop-meta-preserved
loop-meta-preserved c = record {
  told = pairs_skip affinity_pair _ _ _ _ _ c.in-Some.ensures.steps c.loop-meta.invariant.told c.in_default.ensures;
  in_order = (subst (AllByRecursion IsInOrder) c.in-Some.ensures.steps c.loop-meta.invariant.in_order).1;
}

pub returns : goal.returns
returns c =
    let are : c.new.result ≡ affinity_pairs_of c.args.self.now =
    c.new.ensures ∙ sym (append-nil c.loop-meta.pairs.items)
    ∙ sym (ap (λ ts. c.loop-meta.pairs.items ++ filter_map affinity_pair ts) c.in-None.ensures.steps.0) ∙ c.loop-meta.invariant.told in
    let it : PairFacts c.args.self.now c.new.result =
    pair_facts c.args.self.now c.self.inside.types.entries c.values-meta-items.ensures.ordered (ap (λ r. r.types) c.self.view_is) (subst IsWellFormed c.self.view_is c.self.invariant) c.new.result are
    in record { ascending = it.ascending; exactly = it.exactly; pairs = are }
