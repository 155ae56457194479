use Rattle.std.proofs.Common.{◌∙◌, ap, List, ℕ}
use Rattle.ig_ops.specs.Views.{rows_written}
use Rattle.ig_ops.proofs.ask_body.put_rows.Goals as goal

pub returns : goal.returns
returns g c = c.put_items.ensures ∙ ap (λ (l : List ℕ). g.S.Output.after c.args.out.now c.args.into.now l) (rows_written c.args.pairs.now)
