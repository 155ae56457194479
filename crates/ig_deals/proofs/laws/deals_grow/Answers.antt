use Rattle.ig_deals.proofs.DealLemmas.{dealt-append, all_dealt, first_dealt, deals_stay}
use Rattle.ig_deals.proofs.laws.deals_grow.Goals as goal

pub returns : goal.returns
returns c = record { grow = dealt-append; all = all_dealt; first = first_dealt; stay = deals_stay }
