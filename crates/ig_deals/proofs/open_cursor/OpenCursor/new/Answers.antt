use Rattle.std.proofs.Common.{List, ap, ◌∙◌}
use Rattle.std.specs.Prelude.{reverse}
use Rattle.std.proofs.lemmas.List.{reverse-reverse}
use Rattle.ig_caches.specs.declared.call.Pair.{Pair}
use Rattle.ig_deals.specs.Desk.{Cursor}
use Rattle.ig_deals.proofs.open_cursor.OpenCursor.new.Goals as goal

pub returns : goal.returns
returns c =
    let with_rows : List Pair → Cursor = λ rs. record { number = c.args.number; page = c.args.page; rows = rs } in
    ap with_rows (ap reverse (c.reverse.ensures.items ∙ ap reverse c.into_std-left.ensures) ∙ reverse-reverse c.args.rows)
