use Rattle.std.proofs.Common.{◌≡◌, ℤ, List, None, get_or, All, w32, to_z, of_z, ap, sym, subst, ◌∙◌, arith}
use Rattle.std.proofs.lemmas.Int.{to_z-of_z}
use Rattle.ig_caches.specs.PlainCaches.{cache_of}
use Rattle.ig_shards.specs.declared.shard_rows.ShardRows.{ShardRows}
use Rattle.ig_shards.specs.Parts.{Part}
use Rattle.ig_shards.specs.PartView.{parts_of}
use Rattle.ig_shards.specs.RowsOfParts.{created_in_parts}
use Rattle.ig_shards.proofs.AddLemmas.{copies_id}
use Rattle.ig_shards.proofs.FirstLemmas.{first_minor}
use Rattle.ig_shards.proofs.whole.create_in_all.Goals as goal

pub add_to_all-requires-clause-its_id : goal.add_to_all-requires-clause-its_id
add_to_all-requires-clause-its_id c = copies_id (to_z w32 (of_z w32 c.args.id)) c.args.name c.in-Ok.names.items (to_z-of_z w32 c.args.id c.ranges.id ∙ c.requires.its_id) c.in-Ok.ensures.same

pub add_to_all-requires-clause-absent : goal.add_to_all-requires-clause-absent
add_to_all-requires-clause-absent c =
    subst (λ (i : ℤ). All (λ (part : Part). cache_of part.caches.caches i ≡ None) (parts_of c.make_room.new.parts)) (sym (to_z-of_z w32 c.args.id c.ranges.id))
    (subst (All (λ (part : Part). cache_of part.caches.caches c.args.id ≡ None)) (sym c.make_room.ensures.same) c.requires.absent)

pub returns-clause-ok : goal.returns-clause-ok
returns-clause-ok c =
    c.add_to_all.ensures c.args.name c.in-Ok.ensures.same ∙ ap (λ (ps : List Part). created_in_parts ps c.args.name) c.make_room.ensures.same

pub returns-clause-answer : goal.returns-clause-answer
returns-clause-answer c =
    let new : List ShardRows = c.add_to_all.new.parts in
    let first : ShardRows = get_or new 0 c.index-parts-0.result in (
      c.answer.ensures.outcome,
      c.answer.ensures.minor ∙ first_minor new first (omega (arith, c.requires.some, c.make_room.auto.parts, c.add_to_all.auto.parts)) (ap (get_or new 0) c.index-parts-0.is),
    )
