use Rattle.ig_caches.proofs.KeyLemmas.{found_what_was_put, calls_commute}
use Rattle.ig_caches.proofs.laws.keys_are_apart.Goals as goal

pub returns : goal.returns
returns c = record { found = found_what_was_put; commute = calls_commute }
