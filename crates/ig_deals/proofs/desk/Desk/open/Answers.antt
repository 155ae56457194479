use Rattle.std.proofs.Common.{◌≡◌, ◌≤◌, ◌∙◌, pos, [], ◌∷◌, ◌++◌, sym, ap, subst, arith}
use Rattle.std.proofs.lemmas.Grind.{common_steps}
use Rattle.std.specs.Prelude.{vec_capacity}
use Rattle.ig_wire.specs.Limits.{most_cursors}
use Rattle.ig_deals.specs.Desk.{Desk, AreApart, cursor_at}
use Rattle.ig_deals.proofs.TakeLemmas.{apart-append}
use Rattle.ig_deals.proofs.desk.Desk.open.Goals as goal

pub invariant_of-self : goal.invariant_of-self
invariant_of-self c =
    let room : most_cursors ≤ vec_capacity c.push.new.self = grind (arith, common_steps) in
    let items : c.push.new.self.items ≡ c.self.inside.cursors.items ++ c.args.cursor ∷ [] = grind (arith, common_steps) in
    (room, subst AreApart (sym items) (apart-append c.self.inside.cursors.items c.args.cursor c.self.invariant.1 (ap (λ (d : Desk). cursor_at d.cursors (pos c.args.cursor.number)) c.self.view_is ∙ c.requires.unused)))
