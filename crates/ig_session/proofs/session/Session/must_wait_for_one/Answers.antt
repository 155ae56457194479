use Rattle.std.proofs.Common.{sym, ◌∙◌}
use Rattle.ig_session.proofs.HeldLemmas.{none_now, some_now}
use Rattle.ig_session.proofs.session.Session.must_wait_for_one.Goals as goal

pub returns-then-not-is_empty-clause-no : goal.returns-then-not-is_empty-clause-no
returns-then-not-is_empty-clause-no c = λ e none. absurd (some_now _ _ c.self.view_is c.is_empty.result c.is_empty.ensures c.if-not-is_empty.true none)

pub returns-clause-yes : goal.returns-clause-yes
returns-clause-yes c = λ e. (none_now _ _ c.self.view_is c.is_empty.result c.is_empty.ensures c.if-not-is_empty.false, sym c.is_full.ensures ∙ e)

pub returns-clause-no : goal.returns-clause-no
returns-clause-no c = λ e none. sym c.is_full.ensures ∙ e
