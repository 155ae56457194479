use Rattle.std.proofs.Common.{ℕ, is_some, ap, ◌∙◌, rules}
use Rattle.ig_caches.specs.Rows.{Rows, has_row}
use Rattle.ig_caches.specs.Effect as effect
use Rattle.ig_shards.proofs.SpreadLemmas.{IsItsShard, its_shard, row_here, changed_here, spread_here}
use Rattle.ig_shards.proofs.spread_rows.SpreadRows.has.Goals as goal

pub invariant_of-self : goal.invariant_of-self
invariant_of-self c =
    let it : IsItsShard c.self.inside.shards.len c.shard_of_key-shard.result c.args.key.now c.self.inside.shards.items =
    its_shard c.len.result c.self.invariant.2 c.shard_of_key-shard.ensures.of c.shard_of_key-shard.ensures.within (search rules) in
    (c.self.invariant.0, c.self.invariant.1, spread_here it c.index_mut.result.now effect.keep c.has.new.self c.index_mut.ensures.value c.has.ensures.same)

pub returns-clause-answer : goal.returns-clause-answer
returns-clause-answer c =
    let it : IsItsShard c.self.inside.shards.len c.shard_of_key-shard.result c.args.key.now c.self.inside.shards.items =
    its_shard c.len.result c.self.invariant.2 c.shard_of_key-shard.ensures.of c.shard_of_key-shard.ensures.within (search rules) in
    c.has.ensures.answer ∙ ap is_some (row_here it c.index_mut.result.now c.index_mut.ensures.value) ∙ ap (λ (v : ℕ × Rows). has_row v.1 c.args.key.now) c.self.view_is

pub returns-clause-same : goal.returns-clause-same
returns-clause-same c =
    let it : IsItsShard c.self.inside.shards.len c.shard_of_key-shard.result c.args.key.now c.self.inside.shards.items =
    its_shard c.len.result c.self.invariant.2 c.shard_of_key-shard.ensures.of c.shard_of_key-shard.ensures.within (search rules) in
    ap (λ (r : Rows). (c.self.inside.shards.len, r)) (changed_here it c.index_mut.result.now effect.keep c.has.new.self c.index_mut.ensures.value c.has.ensures.same) ∙ c.self.view_is
