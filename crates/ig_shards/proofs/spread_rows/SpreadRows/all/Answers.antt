use Rattle.std.proofs.Common.{◌≡◌, ℕ, IfOk, ap, sym, subst, ◌∙◌}
use Rattle.ig_caches.specs.Rows.{Rows, all_rows}
use Rattle.ig_shards.specs.Spread.{union}
use Rattle.ig_shards.specs.Merges.{ArePlacedFrom}
use Rattle.ig_shards.proofs.MergeLemmas.{spread_placed}
use Rattle.ig_shards.proofs.spread_rows.SpreadRows.all.Goals as goal

pub copies-requires : goal.copies-requires
copies-requires c =
    let shards : ℕ = c.self.inside.shards.len in
    (shards, 0, subst (ArePlacedFrom shards 0) (sym c.as_slice.ensures.value) (spread_placed shards 0 c.self.inside.shards.items c.self.invariant.2))

pub returns : goal.returns
returns c =
    let same : union c.as_slice.result.now ≡ c.args.self.now.1 = ap union c.as_slice.ensures.value ∙ ap (λ (v : ℕ × Rows). v.1) c.self.view_is in
    subst (λ (r : Rows). IfOk c.copies.result (λ rows. rows ≡ all_rows r)) same c.copies.ensures
