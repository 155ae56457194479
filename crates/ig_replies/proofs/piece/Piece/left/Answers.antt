use Rattle.std.proofs.Common.{List, ℕ, ◌-◌, take, drop, ap, ◌∙◌}
use Rattle.ig_replies.proofs.PartLemmas.{part_between}
use Rattle.ig_replies.proofs.piece.Piece.left.Goals as goal

pub returns : goal.returns
returns c =
    ap (λ (l : List ℕ). take (c.self.inside.len - c.self.inside.gone) (drop c.self.inside.gone l)) c.as_slice.ensures.value
    ∙ part_between c.self.inside.bytes.items c.self.inside.gone c.self.inside.len c.self.invariant.0 ∙ c.self.view_is
