use Rattle.std.proofs.Common.{◌≡◌, ◌&&◌, ◌||◌, ℕ, Bool, List, Option, None, is_some, cond, IfOk, OnOk, ap, subst, ◌∙◌, rules}
use Rattle.ig_value.specs.Canon.{Canon}
use Rattle.ig_caches.specs.declared.call.Pair.{Pair}
use Rattle.ig_caches.specs.RowEntries.{is_among}
use Rattle.ig_caches.specs.Rows.{Rows, row_of}
use Rattle.ig_caches.specs.Effect as effect
use Rattle.ig_caches.proofs.RowEntryLemmas.{ties}
use Rattle.ig_shards.proofs.SpreadLemmas.{IsItsShard, its_shard, row_here, changed_here, spread_here}
use Rattle.ig_shards.proofs.spread_rows.SpreadRows.new_row.Goals as goal

pub invariant_of-self : goal.invariant_of-self
invariant_of-self c =
    let it : IsItsShard c.self.inside.shards.len c.shard_of_key-shard.result c.args.key.now c.self.inside.shards.items =
    its_shard c.len.result c.self.invariant.2 c.shard_of_key-shard.ensures.of c.shard_of_key-shard.ensures.within (search rules) in
    (c.self.invariant.0, c.self.invariant.1, spread_here it c.index_mut.result.now effect.keep c.new_row.new.self c.index_mut.ensures.value c.new_row.ensures.same)

pub returns-clause-row : goal.returns-clause-row
returns-clause-row c =
    let it : IsItsShard c.self.inside.shards.len c.shard_of_key-shard.result c.args.key.now c.self.inside.shards.items =
    its_shard c.len.result c.self.invariant.2 c.shard_of_key-shard.ensures.of c.shard_of_key-shard.ensures.within (search rules) in
    let one : row_of c.index_mut.result.now c.args.key.now ≡ row_of c.args.self.now.1 c.args.key.now = row_here it c.index_mut.result.now c.index_mut.ensures.value ∙ ap (λ (v : ℕ × Rows). row_of v.1 c.args.key.now) c.self.view_is in
    subst (λ (o : Option Pair). IfOk c.new_row.result (λ row. row ≡ cond (is_among (λ k. k.items) c.args.met.now.keys (Canon c.args.key.now)) None o)) one c.new_row.ensures.row

pub returns-clause-met : goal.returns-clause-met
returns-clause-met c =
    let it : IsItsShard c.self.inside.shards.len c.shard_of_key-shard.result c.args.key.now c.self.inside.shards.items =
    its_shard c.len.result c.self.invariant.2 c.shard_of_key-shard.ensures.of c.shard_of_key-shard.ensures.within (search rules) in
    let one : row_of c.index_mut.result.now c.args.key.now ≡ row_of c.args.self.now.1 c.args.key.now = row_here it c.index_mut.result.now c.index_mut.ensures.value ∙ ap (λ (v : ℕ × Rows). row_of v.1 c.args.key.now) c.self.view_is in
    subst (λ (b : Bool). OnOk c.new_row.result ((q : List ℕ) → is_among (λ k. k.items) c.new_row.new.met.keys q
    ≡ (is_among (λ k. k.items) c.args.met.now.keys q || (ties q (Canon c.args.key.now) && b)))) (ap is_some one) c.new_row.ensures.met

pub returns-clause-same : goal.returns-clause-same
returns-clause-same c =
    let it : IsItsShard c.self.inside.shards.len c.shard_of_key-shard.result c.args.key.now c.self.inside.shards.items =
    its_shard c.len.result c.self.invariant.2 c.shard_of_key-shard.ensures.of c.shard_of_key-shard.ensures.within (search rules) in
    ap (λ (r : Rows). (c.self.inside.shards.len, r)) (changed_here it c.index_mut.result.now effect.keep c.new_row.new.self c.index_mut.ensures.value c.new_row.ensures.same) ∙ c.self.view_is
