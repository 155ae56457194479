use Rattle.std.proofs.Common.{ℤ, Option, subst}
use Rattle.ig_ops.specs.PageMarks.{IsPageMark}
use Rattle.ig_replies.specs.RowMarks.{rows_shown}
use Rattle.ig_replies.proofs.row_mark.first_mark.Goals as goal

pub returns : goal.returns
returns c =
    subst (λ (cursor : Option ℤ). IsPageMark cursor (rows_shown c.args.content.now) c.first.result) c.cursor_shown.ensures
    (c.first.ensures (rows_shown c.args.content.now))
