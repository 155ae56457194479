use Rattle.std.proofs.Common.{ap, ◌∙◌, w32}
use Rattle.std.proofs.lemmas.Int.{to_z-of_z}
use Rattle.std.specs.BTreeMap.{insert_entry}
use Rattle.std.specs.Ordering.{int_cmp}
use Rattle.ig_turn.specs.Cells.{value_at}
use Rattle.ig_turn.proofs.CellsLemmas.{stands_get, stands_put}
use Rattle.ig_turn.proofs.tests.CellsPlain.act.Goals as goal
use Rattle.ig_turn.proofs.tests.CellsPlain.act.Goals.{in-None, in-Some+in-Ok}

pub returns-clause-ok : goal.returns-clause-ok
returns-clause-ok c = let entries = c.args.self.now.map.entries in let key = to_z-of_z w32 c.args.ask.0 c.requires.0 in elim c.match-value.branch [
  | in-None w ↦ stands_get entries _ _ _ c.args.ask c.match-value.old w.in-None.is
      (w.old-is ∙ (w.copied-old.ensures ∙ (w.get.ensures.value ∙ ap (value_at entries) key))) (ap (λ s. s.map.entries) w.self-is) (ap (λ s. s.calls) w.self-is)
  | in-Some+in-Ok w ↦ (let value = to_z-of_z w32 w.in-Some.value (c.requires.1 w.in-Some.value w.in-Some.is) in
      stands_put entries _ _ _ c.args.ask w.in-Some.value c.match-value.old w.in-Some.is (w.old-is ∙ (w.in-Ok.ensures.old ∙ ap (value_at entries) key))
      (ap (λ s. s.map.entries) w.self-is ∙ (w.in-Ok.ensures.entries ∙ (λ i. insert_entry int_cmp entries (key i) (value i)))) (ap (λ s. s.calls) w.self-is))
]
