use Rattle.std.proofs.Common.{◌≡◌, ℕ, set, OnOk, ap, sym, subst, ◌∙◌, rules}
use Rattle.ig_caches.specs.Rows.{Rows, with_row}
use Rattle.ig_caches.specs.Effect as effect
use Rattle.ig_shards.specs.Spread.{union}
use Rattle.ig_shards.proofs.SpreadLemmas.{IsItsShard, its_shard, changed_here, spread_here}
use Rattle.ig_shards.proofs.spread_rows.SpreadRows.put.Goals.{in-Ok, in-Err}
use Rattle.ig_shards.proofs.spread_rows.SpreadRows.put.Goals as goal

pub invariant_of-self : goal.invariant_of-self
invariant_of-self c =
    let it : IsItsShard c.self.inside.shards.len c.shard_of_key-shard.result c.args.row.key c.self.inside.shards.items =
    its_shard c.len.result c.self.invariant.2 c.shard_of_key-shard.ensures.of c.shard_of_key-shard.ensures.within (search rules) in
    elim c.match-put.branch [
      | in-Ok w ↦ (c.self.invariant.0, c.self.invariant.1, spread_here it c.index_mut.result.now (effect.store c.args.row.value) c.put.new.self c.index_mut.ensures.value w.in-Ok.ensures.ok)
      | in-Err w ↦ (c.self.invariant.0, c.self.invariant.1, spread_here it c.index_mut.result.now effect.keep c.put.new.self c.index_mut.ensures.value w.in-Err.ensures.err)
    ]

pub returns-clause-ok : goal.returns-clause-ok
returns-clause-ok c =
    let it : IsItsShard c.self.inside.shards.len c.shard_of_key-shard.result c.args.row.key c.self.inside.shards.items =
    its_shard c.len.result c.self.invariant.2 c.shard_of_key-shard.ensures.of c.shard_of_key-shard.ensures.within (search rules) in
    let shards : ℕ = c.self.inside.shards.len in
    let all : Rows = union (set c.self.inside.shards.items c.shard_of_key-shard.result c.put.new.self) in
    let Put : Type 0 = ◌≡◌ {A = ℕ × Rows} (shards, all) (c.args.self.now.0, with_row c.args.self.now.1 c.args.row) in
    elim c.match-put.branch [
      | in-Ok w ↦
          let whole : all ≡ with_row (union c.self.inside.shards.items) c.args.row = changed_here it c.index_mut.result.now (effect.store c.args.row.value) c.put.new.self c.index_mut.ensures.value w.in-Ok.ensures.ok in
          let put : Put = ap (λ (r : Rows). (shards, r)) whole ∙ ap (λ (v : ℕ × Rows). (v.0, with_row v.1 c.args.row)) c.self.view_is in
          subst (λ r. OnOk r Put) (sym w.result-is) put
      | in-Err w ↦ subst (λ r. OnOk r Put) (sym w.result-is) tt
    ]
