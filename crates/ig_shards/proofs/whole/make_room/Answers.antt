use Rattle.std.proofs.Common.{◌<◌, ℕ, List, length, take, get_or, All, sym, subst, ◌∙◌, arith}
use Rattle.std.proofs.Math.Seq.{map-set_same}
use Rattle.std.proofs.lemmas.List.{take_more_set}
use Rattle.std.proofs.lemmas.List.Elements.{All-push}
use Rattle.ig_caches.specs.CachesView.{HasRoom}
use Rattle.ig_shards.specs.declared.shard_rows.ShardRows.{ShardRows}
use Rattle.ig_shards.specs.PartView.{part_of}
use Rattle.ig_shards.proofs.whole.make_room.Goals as goal

pub loop-part-preserved : goal.loop-part-preserved
loop-part-preserved c =
    let parts : List ShardRows = c.loop-part.parts in
    let i : ℕ = c.loop-part.part-index in
    let part : ShardRows = get_or parts i c.part-item.result in
    let new : ShardRows = record part { caches = c.make_room.new.self } in
    let within : i < length parts = omega (arith, c.loop-part-test.true, c.loop-part.auto.parts) in
    let P : ShardRows → Type 0 = λ (p : ShardRows). HasRoom p.caches in
    record {
      room = subst (All P) (sym (take_more_set parts i new within)) (All-push P (take i parts) new c.loop-part.invariant.room c.in_ok-make_room.ensures.ok);
      same = map-set_same part_of parts i new c.part-item.result (λ k. record { number = part.number; shards = part.shards; caches = c.make_room.ensures.same k })
          ∙ c.loop-part.invariant.same;
    }

pub returns-in_err-make_room-clause-same : goal.returns-in_err-make_room-clause-same
returns-in_err-make_room-clause-same c =
    let parts : List ShardRows = c.loop-part.parts in
    let i : ℕ = c.loop-part.part-index in
    let part : ShardRows = get_or parts i c.part-item.result in
    let new : ShardRows = record part { caches = c.make_room.new.self } in
    map-set_same part_of parts i new c.part-item.result (λ k. record { number = part.number; shards = part.shards; caches = c.make_room.ensures.same k })
    ∙ c.loop-part.invariant.same
