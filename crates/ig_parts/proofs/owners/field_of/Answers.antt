use Rattle.std.proofs.Common.{arith}
use Rattle.std.proofs.lemmas.Int.{to_z-of_z}
use Rattle.ig_parts.proofs.OwnerLemmas.{field_found, field_missing}
use Rattle.ig_parts.proofs.owners.field_of.Goals as goal

pub returns-in-Some : goal.returns-in-Some
returns-in-Some c = grind (arith, to_z-of_z, field_found)

pub returns-in-None : goal.returns-in-None
returns-in-None c = grind (arith, to_z-of_z, field_missing)
