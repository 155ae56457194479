use Rattle.ig_base.proofs.HashLemmas.{hash_after-append, hash_after-scaled, hash_factor-append, hash_after-in_range}
use Rattle.ig_base.proofs.hashes.hash_composes.Goals as goal

pub returns : goal.returns
returns c = record { appended = hash_after-append; scaled = hash_after-scaled; factors = hash_factor-append; in_range = hash_after-in_range }
