use Rattle.std.proofs.Common.{List, ℕ, ap, ◌∙◌}
use Rattle.ig_wire.specs.Fields.{string}
use Rattle.ig_fields.specs.FieldBytes.{listed_bytes}
use Rattle.ig_meta.proofs.results.put_outcome.Goals as goal

pub returns-in-Names : goal.returns-in-Names
returns-in-Names g c =
    rw c.in-Names.is (c.put_items.ensures ∙ ap (λ (l : List (List ℕ)). g.S.Output.after c.args.out.now c.args.into.now (listed_bytes string l)) c.as_slice.ensures)

pub returns-in-Name : goal.returns-in-Name
returns-in-Name g c = rw c.in-Name.is c.put.ensures

pub returns-in-Yes : goal.returns-in-Yes
returns-in-Yes g c = rw c.in-Yes.is c.put-in-Yes.ensures

pub returns-in-Meta : goal.returns-in-Meta
returns-in-Meta g c = rw c.in-Meta.is c.put_found.ensures
