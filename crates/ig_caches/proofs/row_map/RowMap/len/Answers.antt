use Rattle.std.proofs.Common.{ap, sym, ◌∙◌}
use Rattle.std.specs.FinMap as finite
use Rattle.ig_caches.proofs.RowEntryLemmas.{len_entries}
use Rattle.ig_caches.proofs.row_map.RowMap.len.Goals as goal

pub returns-clause-len : goal.returns-clause-len
returns-clause-len c =
    c.len.ensures.len ∙ sym (len_entries (λ k. k.items) c.self.inside.rows.entries c.len.ensures.ordered) ∙ ap finite.len c.self.view_is
