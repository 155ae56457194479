use Rattle.std.proofs.Common.{◌≡◌, ◌≤◌, ℕ, ℤ, List, length, get_or, map, w32, to_z, of_z, ap, ◌∙◌, arith}
use Rattle.std.proofs.lemmas.Int.{to_z-of_z}
use Rattle.std.proofs.lemmas.List.{length-map}
use Rattle.ig_caches.specs.CachesView.{plain_caches}
use Rattle.ig_shards.specs.declared.shard_rows.ShardRows.{ShardRows}
use Rattle.ig_shards.specs.Parts.{Part}
use Rattle.ig_shards.specs.PartView.{part_of, parts_of}
use Rattle.ig_shards.specs.RowsOfParts.{destroyed_in}
use Rattle.ig_shards.proofs.EachLemmas.{each_done}
use Rattle.ig_shards.proofs.CreationLemmas.{destroyed_ran}
use Rattle.ig_shards.proofs.WholeLemmas.{changed_next}
use Rattle.ig_shards.proofs.whole.destroy_in_each.Goals as goal

pub loop-part-preserved : goal.loop-part-preserved
loop-part-preserved c =
    let parts : List ShardRows = c.loop-part.parts in
    let i : ℕ = c.loop-part.part-index in
    let id : ℤ = to_z w32 (of_z w32 c.args.cache) in
    let part : ShardRows = get_or parts i c.part-item.result in
    let new : ShardRows = record part { caches = c.destroy.new.self } in
    let ran : plain_caches c.destroy.new.self ≡ (destroyed_in id (part_of part)).caches =
    destroyed_ran id (plain_caches part.caches) (plain_caches c.destroy.new.self) c.destroy.result c.destroy.ensures.sure c.destroy.ensures.runs in
    changed_next (destroyed_in id) c.args.parts.now parts i part new c.loop-part-test.true (ap (get_or parts i) c.part-item.is) c.loop-part.invariant
    (λ k. record { number = part.number; shards = part.shards; caches = ran k })

pub returns : goal.returns
returns c =
    let old : List Part = parts_of c.args.parts.now in
    let done : length old ≤ c.loop-part.part-index = omega (arith, c.loop-part-test.false, length-map c.args.parts.now part_of) in
    let id : to_z w32 (of_z w32 c.args.cache) ≡ c.args.cache = to_z-of_z w32 c.args.cache c.ranges.cache in
    c.loop-part.invariant ∙ each_done (destroyed_in (to_z w32 (of_z w32 c.args.cache))) old c.loop-part.part-index done ∙ ap (λ (i : ℤ). map (destroyed_in i) old) id
