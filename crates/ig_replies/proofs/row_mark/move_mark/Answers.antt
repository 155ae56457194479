use Rattle.std.proofs.Common.{List, sym, subst}
use Rattle.ig_caches.specs.declared.call.Pair.{Pair}
use Rattle.ig_ops.specs.PageMarks.{IsPageMark}
use Rattle.ig_replies.specs.RowMarks.{cursor_shown}
use Rattle.ig_replies.proofs.row_mark.move_mark.Goals as goal

pub returns : goal.returns
returns c =
    subst (λ (rows : List Pair). IsPageMark (cursor_shown c.args.content.now) rows c.advance.new.self) c.rows_shown.ensures
    (c.advance.ensures.mark (cursor_shown c.args.content.now)
    (subst (λ (rows : List Pair). IsPageMark (cursor_shown c.args.content.now) rows c.args.mark.now) (sym c.rows_shown.ensures) c.requires))
