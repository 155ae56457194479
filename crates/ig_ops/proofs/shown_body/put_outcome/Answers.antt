use Rattle.std.proofs.Common.{◌∙◌, ap, List, ℕ}
use Rattle.ig_ops.specs.Views.{rows_written}
use Rattle.ig_ops.proofs.shown_body.put_outcome.Goals as goal

pub returns-in-Found : goal.returns-in-Found
returns-in-Found g c = rw c.in-Found.is c.put_value.ensures

pub returns-in-Yes : goal.returns-in-Yes
returns-in-Yes g c = rw c.in-Yes.is c.put_truth.ensures

pub returns-in-Pairs : goal.returns-in-Pairs
returns-in-Pairs g c =
    rw (c.in-Pairs.is, ← c.as_slice.ensures) (c.put_items.ensures ∙ ap (λ (l : List ℕ). g.S.Output.after c.args.out.now c.args.into.now l) (rows_written c.as_slice.result.now))

pub returns-in-Count : goal.returns-in-Count
returns-in-Count g c = rw c.in-Count.is c.put.ensures
