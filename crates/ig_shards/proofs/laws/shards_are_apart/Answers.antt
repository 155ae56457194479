use Rattle.ig_shards.proofs.RunLemmas.{needs_alone}
use Rattle.ig_shards.proofs.LegalLemmas.{legal_at_each}
use Rattle.ig_shards.proofs.laws.shards_are_apart.Goals as goal

pub returns : goal.returns
returns c = record { alone = needs_alone; legal = legal_at_each }
