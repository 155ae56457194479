use Rattle.std.proofs.Common.{◌≡◌, true, ℤ, List, get_or, set, None, Some, w32, to_z, of_z, refl, ap, sym, subst, ◌∙◌, rules}
use Rattle.std.specs.Int.{cast_signed}
use Rattle.std.specs.List.{list_any}
use Rattle.ig_base.specs.Hashes.{Java, units}
use Rattle.ig_caches.specs.declared.call.Call.TheVariants.{GetOrCreate}
use Rattle.ig_caches.specs.declared.answer.Outcome.TheVariants.{Done}
use Rattle.ig_caches.specs.Effect.{created}
use Rattle.ig_caches.specs.RunsOn.{RunsOn}
use Rattle.ig_caches.specs.CachesView.{plain_caches}
use Rattle.ig_caches.specs.PlainCaches.{Cache, has_id, id_of, cache_of}
use Rattle.ig_shards.specs.declared.shard_rows.ShardRows.{ShardRows}
use Rattle.ig_shards.specs.Parts.{Part, together, AreAll}
use Rattle.ig_shards.specs.PartView.{part_of, parts_of}
use Rattle.ig_shards.proofs.WholeLemmas.{absent_from, present_in}
use Rattle.ig_shards.proofs.CreationLemmas.{get_or_create_as_stands, get_or_create_spent, all_created}
use Rattle.ig_shards.proofs.FirstLemmas.{absent_in_all, first_again, run_first, get_or_created_all}
use Rattle.ig_shards.proofs.whole.get_or_create.Goals as goal

pub returns-then-has : goal.returns-then-has
returns-then-has c =
    let old : List ShardRows = c.args.parts.now in
    let first : ShardRows = get_or old 0 c.index-parts-0.result in
    let at : first ≡ get_or old 0 first = ap (get_or old 0) c.index-parts-0.is in
    let new : ShardRows = c.run.new.self in
    let all : AreAll c.requires.all.0 (parts_of old) = c.requires.all.1 in
    let same : to_z w32 (of_z w32 c.text_hash-id.result) ≡ c.text_hash-id.result = search rules in
    let id : to_z w32 (of_z w32 c.text_hash-id.result) ≡ id_of c.args.name = same ∙ c.text_hash-id.ensures ∙ ap (λ t. cast_signed w32 (Java (units t))) c.as_str.ensures in
    let some : list_any (has_id (id_of c.args.name)) (plain_caches first.caches).caches ≡ true =
    sym (c.if-has.ensures ∙ ap (λ (i : ℤ). list_any (has_id i) (plain_caches first.caches).caches) id) in
    let again : ShardRows = get_or old 0 c.index-parts-0-then-has.result in
    let at_again : again ≡ get_or old 0 again = ap (get_or old 0) c.index-parts-0-then-has.is in
    let is_first : again ≡ first = first_again c.requires.all.0 old first all at again at_again in
    let runs : RunsOn (GetOrCreate c.args.name) (part_of first).caches c.run.result (part_of new).caches =
    subst (λ (p : ShardRows). RunsOn (GetOrCreate c.args.name) (part_of p).caches c.run.result (part_of new).caches) is_first c.run.ensures.runs in
    let found : (cache : Cache) × (cache_of (plain_caches first.caches).caches (id_of c.args.name) ≡ Some cache) = present_in (plain_caches first.caches).caches (id_of c.args.name) some in
    let ran : RunsOn (GetOrCreate c.args.name) (together (parts_of old)) c.run.result (together (parts_of (set old 0 new))) × (parts_of (set old 0 new) ≡ parts_of old) =
    run_first c.requires.all.0 old first all at (GetOrCreate c.args.name) new c.run.result (c.run.ensures.number ∙ ap (λ (p : ShardRows). p.number) is_first) (c.run.ensures.shards ∙ ap (λ (p : ShardRows). p.shards) is_first) runs
    (λ like rest alike. get_or_create_as_stands like (part_of first) rest c.args.name alike found.0 found.1) in
    record { runs = ran.0; all = λ shards are. subst (AreAll shards) (sym ran.1) are }

pub returns-then-not-can_add : goal.returns-then-not-can_add
returns-then-not-can_add c =
    let old : List ShardRows = c.args.parts.now in
    let first : ShardRows = get_or old 0 c.index-parts-0.result in
    let at : first ≡ get_or old 0 first = ap (get_or old 0) c.index-parts-0.is in
    let new : ShardRows = c.run-then-not-can_add.new.self in
    let all : AreAll c.requires.all.0 (parts_of old) = c.requires.all.1 in
    let same : to_z w32 (of_z w32 c.text_hash-id.result) ≡ c.text_hash-id.result = search rules in
    let id : to_z w32 (of_z w32 c.text_hash-id.result) ≡ id_of c.args.name = same ∙ c.text_hash-id.ensures ∙ ap (λ t. cast_signed w32 (Java (units t))) c.as_str.ensures in
    let none : cache_of (plain_caches first.caches).caches (id_of c.args.name) ≡ None =
    absent_from (plain_caches first.caches).caches (id_of c.args.name) (sym (c.if-has.ensures ∙ ap (λ (i : ℤ). list_any (has_id i) (plain_caches first.caches).caches) id)) in
    let again : ShardRows = get_or old 0 c.index-parts-0-then-not-can_add.result in
    let at_again : again ≡ get_or old 0 again = ap (get_or old 0) c.index-parts-0-then-not-can_add.is in
    let is_first : again ≡ first = first_again c.requires.all.0 old first all at again at_again in
    let runs : RunsOn (GetOrCreate c.args.name) (part_of first).caches c.run-then-not-can_add.result (part_of new).caches =
    subst (λ (p : ShardRows). RunsOn (GetOrCreate c.args.name) (part_of p).caches c.run-then-not-can_add.result (part_of new).caches) is_first c.run-then-not-can_add.ensures.runs in
    let tested : ShardRows = get_or old 0 c.index-parts-0-2.result in
    let is_tested : tested ≡ first = first_again c.requires.all.0 old first all at tested (ap (get_or old 0) c.index-parts-0-2.is) in
    let stays : (created (plain_caches first.caches) c.args.name).1 ≡ plain_caches first.caches =
    subst (λ (p : ShardRows). (created (plain_caches p.caches) c.args.name).1 ≡ plain_caches p.caches) is_tested (c.if-not-can_add.ensures.no refl c.args.name) in
    let ran : RunsOn (GetOrCreate c.args.name) (together (parts_of old)) c.run-then-not-can_add.result (together (parts_of (set old 0 new))) × (parts_of (set old 0 new) ≡ parts_of old) =
    run_first c.requires.all.0 old first all at (GetOrCreate c.args.name) new c.run-then-not-can_add.result (c.run-then-not-can_add.ensures.number ∙ ap (λ (p : ShardRows). p.number) is_first)
    (c.run-then-not-can_add.ensures.shards ∙ ap (λ (p : ShardRows). p.shards) is_first) runs
    (λ like rest alike. get_or_create_spent like (part_of first) rest c.args.name alike none stays) in
    record { runs = ran.0; all = λ shards are. subst (AreAll shards) (sym ran.1) are }

pub create_in_all-requires-clause-its_id : goal.create_in_all-requires-clause-its_id
create_in_all-requires-clause-its_id c =
    let same : to_z w32 (of_z w32 c.text_hash-id.result) ≡ c.text_hash-id.result = search rules in
    same ∙ c.text_hash-id.ensures ∙ ap (λ t. cast_signed w32 (Java (units t))) c.as_str.ensures

pub create_in_all-requires-clause-absent : goal.create_in_all-requires-clause-absent
create_in_all-requires-clause-absent c =
    let old : List ShardRows = c.args.parts.now in
    let first : ShardRows = get_or old 0 c.index-parts-0.result in
    let at : first ≡ get_or old 0 first = ap (get_or old 0) c.index-parts-0.is in
    let i : ℤ = to_z w32 (of_z w32 c.text_hash-id.result) in
    absent_in_all c.requires.all.0 old first c.requires.all.1 at i (absent_from (plain_caches first.caches).caches i (sym c.if-has.ensures))

pub returns-in-Ok : goal.returns-in-Ok
returns-in-Ok c =
    let old : List ShardRows = c.args.parts.now in
    let first : ShardRows = get_or old 0 c.index-parts-0.result in
    let at : first ≡ get_or old 0 first = ap (get_or old 0) c.index-parts-0.is in
    let new : List Part = parts_of c.create_in_all.new.parts in
    let same : to_z w32 (of_z w32 c.text_hash-id.result) ≡ c.text_hash-id.result = search rules in
    let id : to_z w32 (of_z w32 c.text_hash-id.result) ≡ id_of c.args.name = same ∙ c.text_hash-id.ensures ∙ ap (λ t. cast_signed w32 (Java (units t))) c.as_str.ensures in
    let none : cache_of (plain_caches first.caches).caches (id_of c.args.name) ≡ None =
    absent_from (plain_caches first.caches).caches (id_of c.args.name) (sym (c.if-has.ensures ∙ ap (λ (i : ℤ). list_any (has_id i) (plain_caches first.caches).caches) id)) in
    let tested : ShardRows = get_or old 0 c.index-parts-0-2.result in
    let is_tested : tested ≡ first = first_again c.requires.all.0 old first c.requires.all.1 at tested (ap (get_or old 0) c.index-parts-0-2.is) in
    let done : (created (plain_caches first.caches) c.args.name).0 ≡ Done =
    subst (λ (p : ShardRows). (created (plain_caches p.caches) c.args.name).0 ≡ Done) is_tested (c.if-not-can_add.ensures.yes refl c.args.name) in
    record {
      runs = get_or_created_all c.requires.all.0 old first c.requires.all.1 at c.args.name new c.in-Ok.answer none done c.in-Ok.ensures.ok c.in-Ok.ensures.answer.0
          c.in-Ok.ensures.answer.1;
      all = λ shards are. subst (AreAll shards) (sym c.in-Ok.ensures.ok) (all_created shards (parts_of old) c.args.name are);
    }
