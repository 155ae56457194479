use Rattle.ig_deals.proofs.ApartLemmas.{own_reply}
use Rattle.ig_deals.proofs.laws.own_reply_alone.Goals as goal

pub returns : goal.returns
returns c = record { alone = own_reply }
