use Rattle.std.proofs.Common.{◌≡◌, ◌<◌, ◌+◌, ◌-◌, ℕ, ℤ, List, ◌∷◌, length, drop, get_or, set, w32, to_z, of_z, refl, ap, sym, subst, subst₂, ◌∙◌, arith}
use Rattle.std.proofs.lemmas.Int.{to_z-of_z}
use Rattle.std.proofs.lemmas.List.{length-set}
use borrow.Rule.Slice.PartMut.{put_mid}
use Rattle.ig_caches.specs.declared.call.Call.TheVariants.{Destroy}
use Rattle.ig_caches.specs.RunsOn.{RunsOn}
use Rattle.ig_shards.specs.declared.shard_rows.ShardRows.{ShardRows}
use Rattle.ig_shards.specs.Parts.{Part, together, AreAll}
use Rattle.ig_shards.specs.PartView.{parts_of}
use Rattle.ig_shards.specs.RowsOfParts.{destroyed_in_parts}
use Rattle.ig_shards.proofs.FirstLemmas.{some_shards, after_first, first_written, destroyed_all, all_left}
use Rattle.ig_shards.proofs.whole.destroy.Goals as goal

pub returns : goal.returns
returns c =
    let old : List ShardRows = c.args.parts.now in
    let first : ShardRows = get_or old 0 c.index-parts-0.result in
    let at : first ≡ get_or old 0 first = ap (get_or old 0) c.index-parts-0.is in
    let new : ShardRows = record first { caches = c.destroy-ran.new.self } in
    let left : List ShardRows = c.destroy_in_each.new.parts in
    let id : ℤ = to_z w32 (of_z w32 c.args.cache) in
    let same : id ≡ c.args.cache = to_z-of_z w32 c.args.cache c.ranges.cache in
    let k : ℕ = length (set old 0 new) - 1 in
    let some : 0 < length old = some_shards c.requires.all.0 old first c.requires.all.1 at in
    let many : length old ≡ 1 + k = omega (arith, some, length-set old 0 new) in
    let written : put_mid 1 k (set old 0 new) left ≡ new ∷ left = first_written old new left k many in
    let leaves : parts_of left ≡ destroyed_in_parts (drop 1 (parts_of old)) id =
    c.destroy_in_each.ensures ∙ ap (λ (ps : List Part). destroyed_in_parts ps id) (after_first old new k many) in
    record {
      runs = subst₂ (λ (i : ℤ) (ps : List ShardRows). RunsOn (Destroy i) (together (parts_of old)) c.destroy-ran.result (together (parts_of ps))) same (sym written)
          (destroyed_all c.requires.all.0 old first c.requires.all.1 at id new left c.destroy-ran.result refl refl c.destroy-ran.ensures.sure c.destroy-ran.ensures.runs leaves);
      all = λ shards are. subst (λ (ps : List ShardRows). AreAll shards (parts_of ps)) (sym written)
          (all_left shards old first are at id new left c.destroy-ran.result refl refl c.destroy-ran.ensures.sure c.destroy-ran.ensures.runs leaves);
    }
