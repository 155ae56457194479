use Rattle.std.proofs.Common.{◌≡◌, ℕ, false, ap, sym, ◌∙◌, inr}
use Rattle.ig_caches.specs.Rows.{Rows, has_row, with_row}
use Rattle.ig_shards.proofs.MarkLemmas.{on_ok}
use Rattle.ig_shards.proofs.spread_rows.SpreadRows.reserve_one.Goals as goal

pub returns-clause-ok : goal.returns-clause-ok
returns-clause-ok c =
    let absent : has_row c.args.self.now.1 c.args.key.now ≡ false = sym c.has.ensures.answer ∙ c.if-has.false in
    on_ok c.put_none.result
    (λ put. inr (
      put.0,
      put.1,
      absent,
      ap (λ (v : ℕ × Rows). v.1) put.2 ∙ ap (λ (v : ℕ × Rows). with_row v.1 put.0) c.has.ensures.same,
      c.in_ok-push-2.ensures.items,
    ))
    c.put_none.ensures.ok
