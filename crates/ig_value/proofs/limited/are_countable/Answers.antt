use Rattle.std.proofs.Common.{arith, rules}
use Rattle.ig_value.proofs.limited.are_countable.Goals as goal

pub returns : goal.returns
returns c = (λ h. (λ i. omega (arith, c.type_inv.bytes i), search rules), λ h. let short = h.1 in search rules)
