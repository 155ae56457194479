use Rattle.std.proofs.Common.{ℕ, ap, ◌∙◌, rules}
use Rattle.ig_caches.specs.Rows.{Rows, without_row}
use Rattle.ig_caches.specs.Effect as effect
use Rattle.ig_shards.proofs.SpreadLemmas.{IsItsShard, its_shard, changed_here, spread_here}
use Rattle.ig_shards.proofs.spread_rows.SpreadRows.remove.Goals as goal

pub invariant_of-self : goal.invariant_of-self
invariant_of-self c =
    let it : IsItsShard c.self.inside.shards.len c.shard_of_key-shard.result c.args.key.now c.self.inside.shards.items =
    its_shard c.len.result c.self.invariant.2 c.shard_of_key-shard.ensures.of c.shard_of_key-shard.ensures.within (search rules) in
    (c.self.invariant.0, c.self.invariant.1, spread_here it c.index_mut.result.now effect.remove c.remove.new.self c.index_mut.ensures.value c.remove.ensures.removed)

pub returns : goal.returns
returns c =
    let it : IsItsShard c.self.inside.shards.len c.shard_of_key-shard.result c.args.key.now c.self.inside.shards.items =
    its_shard c.len.result c.self.invariant.2 c.shard_of_key-shard.ensures.of c.shard_of_key-shard.ensures.within (search rules) in
    ap (λ (r : Rows). (c.self.inside.shards.len, r)) (changed_here it c.index_mut.result.now effect.remove c.remove.new.self c.index_mut.ensures.value c.remove.ensures.removed)
    ∙ ap (λ (v : ℕ × Rows). (v.0, without_row v.1 c.args.key.now)) c.self.view_is
