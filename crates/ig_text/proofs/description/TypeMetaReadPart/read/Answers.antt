use Rattle.std.proofs.Common.{◌≡◌, true, false, refl}
use Rattle.ig_text.proofs.OrderLemmas.{description_sorted, description_unsorted}
use Rattle.ig_text.proofs.description.TypeMetaReadPart.read.Goals as goal

pub returns-then-not-is_in_order : goal.returns-then-not-is_in_order
returns-then-not-is_in_order c =
    description_unsorted c.args.text.now c.in_ok-meta.rest.now c.in_ok-meta.meta c.in_ok-meta.ensures
    (λ i. let e : false ≡ true = c.if-not-is_in_order.ensures.1 i in cc)

pub returns : goal.returns
returns c =
    description_sorted c.args.text.now c.in_ok-meta.rest.now c.in_ok-meta.meta c.in_ok-meta.ensures (c.if-not-is_in_order.ensures.0 refl)
