use Rattle.ig_fields.specs.Ask.{row_at}
use Rattle.ig_fields.proofs.AskLemmas.{asked_is_right, one_right_ask}
use Rattle.ig_deals.specs.Asks.{served_at}
use Rattle.ig_deals.proofs.DealLemmas.{head_is_read}
use Rattle.ig_deals.proofs.laws.requests_are_right.Goals as goal

pub returns-clause-head : goal.returns-clause-head
returns-clause-head c = head_is_read

pub returns-clause-right : goal.returns-clause-right
returns-clause-right c v code body bytes le = asked_is_right (row_at (served_at v) code) body bytes le

pub returns-clause-only : goal.returns-clause-only
returns-clause-only c v code body answer le right n = one_right_ask (row_at (served_at v) code) body answer le right n
