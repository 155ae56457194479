use Rattle.std.proofs.Common.{◌≡◌, [], ◌∷◌, ◌++◌, arith, rules, to_z, of_z, w64}
use Rattle.ig_session.proofs.HeldLemmas.{handed_keeps, handed_fits}
use Rattle.ig_session.proofs.session.Session.hand_out.Goals as goal

pub overflow_add-self : goal.overflow_add-self
overflow_add-self c = omega (arith, handed_fits _ _ c.self.view_is c.self.invariant)

pub invariant_of-self-2 : goal.invariant_of-self-2
invariant_of-self-2 c =
    let out : c.push.new.self.items ≡ c.self.inside.out.items ++ record { nth = c.self.inside.handed; id = to_z w64 (of_z w64 c.args.id); awaits = c.args.awaits } ∷ [] = search (rules, c.in_ok-push.ensures) in
    handed_keeps _ _ c.self.view_is c.least.result c.pass.new.self c.push.new.self.items _ c.least.ensures c.pass.ensures out c.requires c.self.invariant
