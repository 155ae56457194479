use Rattle.ig_caches.proofs.RowLemmas.{kept_none}
use Rattle.ig_caches.proofs.row_map.RowMap.new.Goals as goal

pub invariant_of-result : goal.invariant_of-result
invariant_of-result c = kept_none (λ k. k.items) c.new-2.result.len c.new.result.entries c.new.ensures.empty
