use Rattle.std.proofs.Common.{List, ℕ, ap, ◌∙◌}
use Rattle.ig_parts.specs.MessageViews.{map_written}
use Rattle.ig_parts.proofs.map_fields.PartMapMessage.put.Goals as goal

pub returns : goal.returns
returns g c = c.put.ensures ∙ ap (λ (l : List ℕ). g.S.Output.after c.args.out.now c.args.into.now l) (map_written c.args.self.now)
