use Rattle.std.proofs.Common.{◌≡◌, ℕ, set, cond, true, false, ap, sym, ◌∙◌, rules}
use Rattle.std.proofs.lemmas.Bool.{cond-true, cond-false}
use Rattle.ig_value.specs.declared.value.Value.{Value}
use Rattle.ig_caches.specs.Rows.{Rows, has_row, with_row}
use Rattle.ig_caches.specs.Effect as effect
use Rattle.ig_shards.specs.Spread.{union}
use Rattle.ig_shards.proofs.SpreadLemmas.{IsItsShard, its_shard, changed_here, spread_here, has_here, none_here}
use Rattle.ig_shards.proofs.spread_rows.SpreadRows.replace.Goals.{in-Ok, in-Err}
use Rattle.ig_shards.proofs.spread_rows.SpreadRows.replace.Goals as goal

pub invariant_of-self : goal.invariant_of-self
invariant_of-self c =
    let it : IsItsShard c.self.inside.shards.len c.shard_of_key-shard.result c.args.row.key c.self.inside.shards.items =
    its_shard c.len.result c.self.invariant.2 c.shard_of_key-shard.ensures.of c.shard_of_key-shard.ensures.within (search rules) in
    elim c.match-replace.branch [
      | in-Ok w ↦ (c.self.invariant.0, c.self.invariant.1, spread_here it c.index_mut.result.now (effect.store c.args.row.value) c.replace.new.self c.index_mut.ensures.value w.in-Ok.ensures.ok)
      | in-Err w ↦ (c.self.invariant.0, c.self.invariant.1, spread_here it c.index_mut.result.now effect.keep c.replace.new.self c.index_mut.ensures.value w.in-Err.ensures.err)
    ]

pub returns : goal.returns
returns c =
    let it : IsItsShard c.self.inside.shards.len c.shard_of_key-shard.result c.args.row.key c.self.inside.shards.items =
    its_shard c.len.result c.self.invariant.2 c.shard_of_key-shard.ensures.of c.shard_of_key-shard.ensures.within (search rules) in
    let key : Value = c.args.row.key in
    let shards : ℕ = c.self.inside.shards.len in
    let old : Rows = union c.self.inside.shards.items in
    let all : Rows = union (set c.self.inside.shards.items c.shard_of_key-shard.result c.replace.new.self) in
    let seen : ◌≡◌ {A = ℕ × Rows} (shards, cond (has_row old key) (with_row old c.args.row) old)
    (c.args.self.now.0, cond (has_row c.args.self.now.1 key) (with_row c.args.self.now.1 c.args.row) c.args.self.now.1) =
    ap (λ (v : ℕ × Rows). (v.0, cond (has_row v.1 key) (with_row v.1 c.args.row) v.1)) c.self.view_is in
    elim c.match-replace.branch [
      | in-Ok w ↦
          let whole : all ≡ with_row old c.args.row = changed_here it c.index_mut.result.now (effect.store c.args.row.value) c.replace.new.self c.index_mut.ensures.value w.in-Ok.ensures.ok in
          let there : has_row old key ≡ true = has_here it c.index_mut.result.now _ c.index_mut.ensures.value w.in-Ok.ensures.before in
          ap (λ (r : Rows). (shards, r)) (whole ∙ sym (cond-true (has_row old key) (with_row old c.args.row) old there)) ∙ seen
      | in-Err w ↦
          let same : all ≡ old = changed_here it c.index_mut.result.now effect.keep c.replace.new.self c.index_mut.ensures.value w.in-Err.ensures.err in
          let none : has_row old key ≡ false = none_here it c.index_mut.result.now c.index_mut.ensures.value w.in-Err.ensures.absent in
          ap (λ (r : Rows). (shards, r)) (same ∙ sym (cond-false (has_row old key) (with_row old c.args.row) old none)) ∙ seen
    ]
