use Rattle.std.proofs.Common.{ap, sym, subst, ◌∙◌, option_map, rules}
use Rattle.ig_value.specs.Canon.{Canon}
use Rattle.ig_caches.specs.declared.call.Pair.{Pair}
use Rattle.ig_caches.specs.RowEntries.{rows_of_entries}
use Rattle.ig_caches.proofs.RowLemmas.{missing_of}
use Rattle.ig_caches.specs.RowEntries.{AreKept}
use Rattle.ig_caches.proofs.RowLemmas.{none_removed, kept_removed}
use Rattle.ig_caches.proofs.row_map.RowMap.remove.Goals as goal

pub returns-in_default-clause-before : goal.returns-in_default-clause-before
returns-in_default-clause-before c = sym (ap (option_map (λ (row : Pair). row.value)) (missing_of c.self.inside.room.len (rows_of_entries (λ k. k.items) c.self.inside.rows.entries) c.args.self.now (Canon c.args.key.now) c.self.invariant (search rules) c.self.view_is))

pub returns-in_default-clause-removed : goal.returns-in_default-clause-removed
returns-in_default-clause-removed c = c.self.view_is ∙ none_removed c.args.self.now (Canon c.args.key.now) (missing_of c.self.inside.room.len (rows_of_entries (λ k. k.items) c.self.inside.rows.entries) c.args.self.now (Canon c.args.key.now) c.self.invariant (search rules) c.self.view_is)

pub invariant_of-self-2 : goal.invariant_of-self-2
invariant_of-self-2 c =
    subst (AreKept c.self.inside.room.len) (sym c.remove.ensures.removed) (kept_removed c.self.inside.room.len (rows_of_entries (λ k. k.items) c.self.inside.rows.entries) _ c.self.invariant)
