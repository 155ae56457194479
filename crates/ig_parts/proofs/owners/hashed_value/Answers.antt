use Rattle.std.proofs.Common.{arith}
use Rattle.std.proofs.lemmas.Int.{to_z-of_z}
use Rattle.ig_parts.proofs.KeyLemmas.{hashed_field}
use Rattle.ig_parts.proofs.owners.hashed_value.Goals as goal

pub returns-in-Some : goal.returns-in-Some
returns-in-Some c = grind (arith, to_z-of_z, hashed_field)
