use Rattle.ig_parts.proofs.NewestLemmas.{newest_more, newer_than_all}
use Rattle.ig_parts.proofs.laws.newest_grows.Goals as goal

pub returns : goal.returns
returns c = record { grows = newest_more; newer = newer_than_all }
