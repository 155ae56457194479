use Rattle.std.proofs.Common.{◌≡◌, ◌<◌, ◌≤◌, ◌+◌, ◌++◌, ℕ, ℤ, List, [], ◌∷◌, None, length, length-append, append-nil, get_or, w32, ap, sym, subst, ◌∙◌, arith}
use Rattle.std.proofs.lemmas.Int.{to_z-of_z}
use Rattle.std.proofs.Math.Numerals.{suc-eq-add-one}
use Rattle.std.proofs.lemmas.List.{append_assoc, length-map, nil_from_length}
use Rattle.ig_caches.specs.CachesView.{HasRoom, plain_caches}
use Rattle.ig_caches.specs.PlainCaches.{id_of, cache_of}
use Rattle.ig_caches.specs.Effect.{created}
use Rattle.ig_shards.specs.declared.shard_rows.ShardRows.{ShardRows}
use Rattle.ig_shards.specs.Parts.{Part}
use Rattle.ig_shards.specs.PartView.{part_of, parts_of}
use Rattle.ig_shards.specs.RowsOfParts.{created_in}
use Rattle.ig_shards.proofs.EachLemmas.{each_done}
use Rattle.ig_shards.proofs.WholeLemmas.{changed_next}
use Rattle.ig_shards.proofs.AddLemmas.{add_within, its_name, its_shard, its_part, later_stay, added}
use Rattle.ig_shards.proofs.whole.add_to_all.Goals as goal

pub loop-name-preserved : goal.loop-name-preserved
loop-name-preserved c =
    let old : List ShardRows = c.args.parts.now in
    let parts : List ShardRows = c.loop-name.parts in
    let names : List (List ℕ) = c.args.names.items in
    let before : List (List ℕ) = c.loop-name.yielded in
    let rest : List (List ℕ) = c.next.new.self.rest.items in
    let name : List ℕ = c.in-Some.name in
    let i : ℕ = c.loop-name.at in
    let part : ShardRows = get_or parts i c.index-parts-at.result in
    let at_part : part ≡ get_or parts i part = ap (get_or parts i) c.index-parts-at.is in
    let new : ShardRows = record part { caches = c.add.new.self } in
    let it = c.loop-name.invariant in
    let items : before ++ name ∷ rest ≡ names = ap (λ (ns : List (List ℕ)). before ++ ns) (sym c.in-Some.ensures.steps.0) ∙ it.items in
    let room : HasRoom part.caches = its_shard old parts names before rest name i items c.requires.count it.at part it.later at_part (λ (p : ShardRows). HasRoom p.caches) c.requires.room in
    let put : plain_caches c.add.new.self ≡ (created (plain_caches part.caches) name).1 =
    added (plain_caches part.caches) (plain_caches c.add.new.self) name c.add.result (c.add.ensures.sure room) c.add.ensures.ok in
    record {
      at = omega (arith, it.at, length-append before (name ∷ []));
      items = append_assoc before (name ∷ []) rest ∙ items;
      later = later_stay parts old i (i + 1) new (sym (suc-eq-add-one i)) it.later;
      added = λ one all.
          let same : name ≡ one = its_name old parts names before rest name i items c.requires.count it.at (λ (n : List ℕ). n ≡ one) all in
          let is : part_of new ≡ created_in one (part_of part) =
          (λ k. record { number = part.number; shards = part.shards; caches = put k }) ∙ ap (λ (n : List ℕ). created_in n (part_of part)) same in
          changed_next (created_in one) old parts i part new (add_within old parts names before rest name i items c.requires.count it.at) at_part (it.added one all) is;
    }

pub add-requires-clause-its_id : goal.add-requires-clause-its_id
add-requires-clause-its_id c =
    let before : List (List ℕ) = c.loop-name.yielded in
    let rest : List (List ℕ) = c.next.new.self.rest.items in
    let name : List ℕ = c.in-Some.name in
    let it = c.loop-name.invariant in
    let items : before ++ name ∷ rest ≡ c.args.names.items = ap (λ (ns : List (List ℕ)). before ++ ns) (sym c.in-Some.ensures.steps.0) ∙ it.items in
    to_z-of_z w32 c.args.id c.ranges.id
    ∙ its_name c.args.parts.now c.loop-name.parts c.args.names.items before rest name c.loop-name.at items c.requires.count it.at (λ (n : List ℕ). c.args.id ≡ id_of n) c.requires.its_id

pub add-requires-clause-absent : goal.add-requires-clause-absent
add-requires-clause-absent c =
    let before : List (List ℕ) = c.loop-name.yielded in
    let rest : List (List ℕ) = c.next.new.self.rest.items in
    let name : List ℕ = c.in-Some.name in
    let it = c.loop-name.invariant in
    let items : before ++ name ∷ rest ≡ c.args.names.items = ap (λ (ns : List (List ℕ)). before ++ ns) (sym c.in-Some.ensures.steps.0) ∙ it.items in
    let parts : List ShardRows = c.loop-name.parts in
    let part : ShardRows = get_or parts c.loop-name.at c.index-parts-at.result in
    subst (λ (i : ℤ). cache_of (plain_caches part.caches).caches i ≡ None) (sym (to_z-of_z w32 c.args.id c.ranges.id))
    (its_part c.args.parts.now parts c.args.names.items before rest name c.loop-name.at items c.requires.count it.at part it.later (ap (get_or parts c.loop-name.at) c.index-parts-at.is)
    (λ (p : Part). cache_of p.caches.caches c.args.id ≡ None) c.requires.absent)

pub bounds-parts-at : goal.bounds-parts-at
bounds-parts-at c =
    let before : List (List ℕ) = c.loop-name.yielded in
    let rest : List (List ℕ) = c.next.new.self.rest.items in
    let it = c.loop-name.invariant in
    let items : before ++ c.in-Some.name ∷ rest ≡ c.args.names.items = ap (λ (ns : List (List ℕ)). before ++ ns) (sym c.in-Some.ensures.steps.0) ∙ it.items in
    let within : c.loop-name.at < length c.args.parts.now = add_within c.args.parts.now c.loop-name.parts c.args.names.items before rest c.in-Some.name c.loop-name.at items c.requires.count it.at in
    omega (arith, within, c.loop-name.auto.parts)

pub returns : goal.returns
returns c = λ name all.
    let old : List Part = parts_of c.args.parts.now in
    let it = c.loop-name.invariant in
    let left : List (List ℕ) = c.loop-name.name-iterator.rest.items in
    let none : left ≡ [] = nil_from_length left (omega (arith, c.in-None.ensures.steps.0, c.loop-name.name-iterator.rest.ok.0)) in
    let yielded : c.loop-name.yielded ≡ c.args.names.items = sym (append-nil c.loop-name.yielded) ∙ ap (λ (ns : List (List ℕ)). c.loop-name.yielded ++ ns) (sym none) ∙ it.items in
    let done : length old ≤ c.loop-name.at = omega (arith, it.at, ap length yielded, c.requires.count, length-map c.args.parts.now part_of) in
    it.added name all ∙ each_done (created_in name) old c.loop-name.at done
