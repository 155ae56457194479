use Rattle.std.proofs.Common.{◌≡◌, ℕ, List, length, ap, sym, subst, ◌∙◌, arith}
use Rattle.std.specs.FinMap as finite
use Rattle.ig_caches.specs.Rows.{Rows}
use Rattle.ig_shards.specs.Spread.{union, AreSpreadFrom}
use Rattle.ig_shards.proofs.SpreadLemmas.{spread_none, union_none, all_written}
use Rattle.ig_shards.proofs.spread_rows.SpreadRows.clear.Goals as goal

pub invariant_of-self : goal.invariant_of-self
invariant_of-self c =
    let new : List Rows = c.clear_all.new.shards in
    let shards : ℕ = c.self.inside.shards.len in
    let old : length c.self.inside.shards.items ≡ shards = omega (arith, c.self.inside.shards.ok.0) in
    let many : length new ≡ shards = omega (arith, c.clear_all.auto.shards, c.as_mut_slice.ensures.len, old) in
    let spread : AreSpreadFrom shards 0 new = spread_none shards 0 new (omega (arith, many)) c.clear_all.ensures in
    (c.self.invariant.0, c.self.invariant.1, subst (AreSpreadFrom shards 0) (sym (all_written new c.self.inside.shards.items shards many old)) spread)

pub returns : goal.returns
returns c =
    let new : List Rows = c.clear_all.new.shards in
    let shards : ℕ = c.self.inside.shards.len in
    let old : length c.self.inside.shards.items ≡ shards = omega (arith, c.self.inside.shards.ok.0) in
    let many : length new ≡ shards = omega (arith, c.clear_all.auto.shards, c.as_mut_slice.ensures.len, old) in
    ap (λ (l : List Rows). (shards, union l)) (all_written new c.self.inside.shards.items shards many old)
    ∙ ap (λ (r : Rows). (shards, r)) (union_none new c.clear_all.ensures)
    ∙ ap (λ (v : ℕ × Rows). (v.0, finite.empty)) c.self.view_is
