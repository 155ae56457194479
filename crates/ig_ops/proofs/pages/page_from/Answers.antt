use Rattle.std.proofs.Common.{◌∙◌, ◌≤◌, ◌++◌, ◌-◌, ap, sym, arith, List, ℕ, length, take, drop, min}
use Rattle.ig_value.specs.Part.{truth}
use Rattle.ig_value.specs.Spells.{scalar_bytes}
use Rattle.ig_caches.specs.declared.call.Pair.{Pair}
use Rattle.ig_ops.specs.Views.{row_bytes}
use Rattle.ig_ops.specs.PageMarks.{IsPageMark}
use Rattle.ig_ops.proofs.PageLemmas.{rows_from, page_end, page_left}
use Rattle.ig_ops.proofs.pages.page_from.Goals as goal

pub returns-clause-count : goal.returns-clause-count
returns-clause-count c =
    let at : IsPageMark c.args.cursor c.args.rows.now c.args.mark.now = record { within = c.requires.within; there = c.requires.there } in
    let le : c.args.mark.now.before ≤ c.args.from = omega (arith, c.if-from-mark.false) in
    c.message_part.ensures.count
    ∙ ap (λ (rs : List Pair). min (length c.args.into.now) (length (row_bytes rs ++ scalar_bytes truth c.args.more) - (c.args.from - c.args.mark.now.before))) (rows_from c.args.rows.now c.args.mark.now.row)
    ∙ ap (λ (n : ℕ). min (length c.args.into.now) n) (sym (page_left c.args.cursor c.args.rows.now c.args.more c.args.mark.now at c.args.from le))

pub returns-clause-bytes : goal.returns-clause-bytes
returns-clause-bytes c =
    let at : IsPageMark c.args.cursor c.args.rows.now c.args.mark.now = record { within = c.requires.within; there = c.requires.there } in
    let le : c.args.mark.now.before ≤ c.args.from = omega (arith, c.if-from-mark.false) in
    c.message_part.ensures.bytes
    ∙ ap (λ (rs : List Pair). take c.message_part.result (drop (c.args.from - c.args.mark.now.before) (row_bytes rs ++ scalar_bytes truth c.args.more)) ++ drop c.message_part.result c.args.into.now) (rows_from c.args.rows.now c.args.mark.now.row)
    ∙ ap (λ (l : List ℕ). take c.message_part.result l ++ drop c.message_part.result c.args.into.now) (sym (page_end c.args.cursor c.args.rows.now c.args.more c.args.mark.now at c.args.from le))
