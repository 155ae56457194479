use Rattle.std.proofs.Common.{◌≡◌, ℕ, ◌-◌, List, length, take, drop, ap, sym, ◌∙◌, arith}
use Rattle.std.specs.Prelude.{reverse}
use Rattle.std.proofs.lemmas.Grind.{common_steps}
use Rattle.ig_caches.specs.declared.call.Pair.{Pair}
use Rattle.ig_deals.specs.Desk.{Cursor, page_of, after_page}
use Rattle.ig_deals.proofs.RowLemmas.{take-reverse, drop-reverse}
use Rattle.ig_deals.proofs.open_cursor.OpenCursor.take_page.Goals as goal

pub returns-clause-page : goal.returns-clause-page
returns-clause-page c =
    let rows : List Pair = c.self.inside.left.items in
    let kept : c.saturating_sub-kept.result ≡ length rows - c.self.inside.page = grind (arith, common_steps) in
    c.new.ensures ∙ c.reverse.ensures.items ∙ ap reverse (c.in_ok-rows.ensures.tail ∙ ap (λ (k : ℕ). drop k rows) kept)
    ∙ sym (take-reverse c.self.inside.page rows) ∙ ap page_of c.self.view_is

pub returns-clause-left : goal.returns-clause-left
returns-clause-left c =
    let rows : List Pair = c.self.inside.left.items in
    let kept : c.saturating_sub-kept.result ≡ length rows - c.self.inside.page = grind (arith, common_steps) in
    let with_rows : List Pair → Cursor = λ rs. record { number = c.self.inside.number; page = c.self.inside.page; rows = rs } in
    ap with_rows (ap reverse (c.in_ok-rows.ensures.items ∙ ap (λ (k : ℕ). take k rows) kept) ∙ sym (drop-reverse c.self.inside.page rows))
    ∙ ap after_page c.self.view_is
