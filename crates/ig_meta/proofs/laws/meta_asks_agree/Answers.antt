use Rattle.ig_fields.specs.Ask.{row_at}
use Rattle.ig_fields.proofs.AskLemmas.{asked_is_right, one_right_ask}
use Rattle.ig_meta.specs.Requests.{ask_of}
use Rattle.ig_meta.proofs.RequestLemmas.{written_ask_is_read, asks_tell_apart, spelled_request_fits}
use Rattle.ig_meta.proofs.laws.meta_asks_agree.Goals as goal

pub returns-clause-right : goal.returns-clause-right
returns-clause-right c code body bytes le = asked_is_right (row_at ask_of code) body bytes le

pub returns-clause-only : goal.returns-clause-only
returns-clause-only c code body answer le right n = one_right_ask (row_at ask_of code) body answer le right n

pub returns-clause-written : goal.returns-clause-written
returns-clause-written c = written_ask_is_read

pub returns-clause-apart : goal.returns-clause-apart
returns-clause-apart c = asks_tell_apart

pub returns-clause-fit : goal.returns-clause-fit
returns-clause-fit c = spelled_request_fits
