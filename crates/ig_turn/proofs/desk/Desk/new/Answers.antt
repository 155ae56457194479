use Rattle.std.proofs.Common.{rules, ◌≡◌, List, [], ◌∷◌, sym, subst}
use Rattle.atomic_table.specs.Table.{opening}
use Rattle.ig_turn.specs.Ordered.{Ordered}
use Rattle.ig_turn.specs.Steps.{opening_view}
use Rattle.ig_turn.proofs.OpeningLemmas.{opens}
use Rattle.ig_turn.proofs.desk.Desk.new.Goals as goal

pub new-requires : goal.new-requires
new-requires g c = let stands = g.O.Plain.stands in let start_of = g.O.Plain.start_of in let object = c.args.object in
    let key : c.of-key.result.value ≡ object = c.of-key.ensures in let items : c.push.new.self.items ≡ object ∷ [] = search rules in
    subst (λ (z : g.row.O.Denot × List g.row.O.Denot). Ordered stands (start_of z.0) (opening (0 ∷ 0 ∷ 0 ∷ 1 ∷ []) z.1 (opening_view (start_of z.0))))
    (λ i. (sym key i, sym items i)) (opens stands (start_of object) object c.requires)
