use Rattle.ig_caches.proofs.RowLemmas.{kept_none}
use Rattle.ig_caches.proofs.row_map.RowMap.clear.Goals as goal

pub invariant_of-self : goal.invariant_of-self
invariant_of-self c = kept_none (λ k. k.items) c.self.inside.room.len c.clear.new.self.entries c.clear.ensures.empty
