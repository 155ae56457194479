use Rattle.ig_deals.proofs.CutLemmas.{last_is_cut_off, part_is_prefix, ends_cut}
use Rattle.ig_deals.proofs.laws.ends_are_exact.Goals as goal

pub returns : goal.returns
returns c = record { last = last_is_cut_off; prefix = part_is_prefix; cut = ends_cut }
