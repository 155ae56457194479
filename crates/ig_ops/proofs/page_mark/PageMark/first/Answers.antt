use Rattle.ig_ops.proofs.PageLemmas.{mark_after_cursor, mark_after_count}
use Rattle.ig_ops.proofs.page_mark.PageMark.first.Goals as goal

pub returns-in-Some : goal.returns-in-Some
returns-in-Some c = rw c.in-Some.is (mark_after_cursor c.in-Some.field-0)

pub returns-in-None : goal.returns-in-None
returns-in-None c = rw c.in-None.is mark_after_count
