use Rattle.std.proofs.Common.{◌≡◌, ◌++◌, filter_map}
use Rattle.std.specs.List.{AllByRecursion}
use Rattle.ig_types.specs.IsInOrder.{IsInOrder}
use Rattle.ig_types.specs.AffinityPair.{affinity_pair, affinity_pairs_of}
use Rattle.ig_types.proofs.registry.Registry.affinity_pairs.Given as goal

-- the pairs so far and those of the types that are left are those of all, and what is left is in order
abbrev pub invariant-loop-meta : goal.invariant-loop-meta
invariant-loop-meta l = record {
  told : l.pairs.items ++ filter_map affinity_pair l.meta-iterator ≡ affinity_pairs_of l.self;
  in_order : AllByRecursion IsInOrder l.meta-iterator;
}
