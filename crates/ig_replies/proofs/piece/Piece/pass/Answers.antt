use Rattle.std.proofs.Common.{◌≡◌, List, ℕ, ◌-◌, length, take, drop, sym, ap, ◌∙◌, arith}
use Rattle.std.proofs.lemmas.List.{drop-drop}
use Rattle.ig_replies.proofs.PartLemmas.{part_length}
use Rattle.ig_replies.proofs.piece.Piece.pass.Goals as goal

pub overflow_add-self : goal.overflow_add-self
overflow_add-self c =
    let size : length c.args.self.now ≡ c.self.inside.len - c.self.inside.gone =
    ap length (sym c.self.view_is) ∙ part_length c.self.inside.bytes.items c.self.inside.gone c.self.inside.len c.self.invariant.0 c.self.invariant.1 in
    omega (arith, c.requires, size, c.self.invariant.0, c.self.invariant.1, c.self.invariant.2)

pub invariant_of-self : goal.invariant_of-self
invariant_of-self c =
    let size : length c.args.self.now ≡ c.self.inside.len - c.self.inside.gone =
    ap length (sym c.self.view_is) ∙ part_length c.self.inside.bytes.items c.self.inside.gone c.self.inside.len c.self.invariant.0 c.self.invariant.1 in
    (omega (arith, c.requires, size, c.self.invariant.0), c.self.invariant.1, c.self.invariant.2)

pub returns : goal.returns
returns c =
    sym (drop-drop c.args.count c.self.inside.gone (take c.self.inside.len c.self.inside.bytes.items)) ∙ ap (drop c.args.count) c.self.view_is
