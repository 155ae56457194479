use Rattle.ig_deals.proofs.DealLemmas.{asks-append, asks_nothing, calls-append}
use Rattle.ig_deals.proofs.laws.asks_grow.Goals as goal

pub returns : goal.returns
returns c = record { asks = asks-append; none = asks_nothing; calls = calls-append }
