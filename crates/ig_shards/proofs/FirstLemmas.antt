-- Calls that the first shard answers for all, and calls that change each shard.
use Rattle.std.proofs.Common.{◌≡◌, ◌<◌, ◌+◌, ◌++◌, ℕ, ℤ, List, [], ◌∷◌, length, append-nil, take, drop, get_or, set, All, None, Result, Ok, IsOk, sym, ap, ◌∙◌, subst, subst₂, arith}
use Rattle.std.proofs.Math.ListN.{get_or-map, drop_of_length-le}
use Rattle.std.proofs.lemmas.List.{set-get_or, map-set, take_all, length-map, get_or_default}
use borrow.Rule.Slice.PartMut.{put_mid}
use Rattle.std.proofs.lemmas.List.Elements.{All-nil, All-cons, All-head, All-tail}
use Rattle.ig_base.specs.declared.memory.NoRoom.{NoRoom}
use Rattle.ig_caches.specs.declared.call.Call.{Call}
use Rattle.ig_caches.specs.declared.call.Call.TheVariants.{Create, GetOrCreate, Destroy}
use Rattle.ig_caches.specs.declared.answer.Answer.{Answer}
use Rattle.ig_caches.specs.declared.answer.Outcome.TheVariants.{Done}
use Rattle.ig_caches.specs.PlainCaches.{PlainCaches, id_of, cache_of}
use Rattle.ig_caches.specs.CachesView.{plain_caches}
use Rattle.ig_caches.specs.Effect.{created}
use Rattle.ig_caches.specs.RunsOn.{RunsOn}
use Rattle.ig_shards.specs.declared.shard_rows.ShardRows.{ShardRows}
use Rattle.ig_shards.specs.Parts.{Part, together, AreAlike, AllAlike, AreAll}
use Rattle.ig_shards.specs.PartView.{part_of, parts_of}
use Rattle.ig_shards.specs.RowsOfParts.{created_in_parts, destroyed_in, destroyed_in_parts}
use Rattle.ig_shards.proofs.BesideLemmas.{missing_in_other}
use Rattle.ig_shards.proofs.WholeLemmas.{not_none}
use Rattle.ig_shards.proofs.CreationLemmas.{RunsAsFirst, create_done, get_or_create_done, all_destroyed, destroy_in_all, destroyed_ran}

pub split_first : (first : Part) (parts : List Part) → 0 < length parts → first ≡ get_or parts 0 first → (others : List Part) × (parts ≡ first ∷ others)
split_first first [] some is = absurd (omega (arith, some))
split_first first (part ∷ parts) some is = (parts, ap (λ (p : Part). p ∷ parts) (sym is))

pub first_part : (parts : List ShardRows) (first : ShardRows) → first ≡ get_or parts 0 first → part_of first ≡ get_or (parts_of parts) 0 (part_of first)
first_part parts first at = ap part_of at ∙ sym (get_or-map part_of parts 0 first)

-- the count of the first shard is that of all
pub first_minor : (parts : List ShardRows) (first : ShardRows) → 0 < length parts → first ≡ get_or parts 0 first → first.caches.minor ≡ (together (parts_of parts)).minor
first_minor [] first some is = absurd (omega (arith, some))
first_minor (part ∷ parts) first some is = ap (λ (p : ShardRows). p.caches.minor) is

-- the shards after the first
pub after_first : (old : List ShardRows) (new : ShardRows) (k : ℕ) → length old ≡ 1 + k → parts_of (take k (drop 1 (set old 0 new))) ≡ drop 1 (parts_of old)
after_first [] new k is = absurd (omega (arith, is))
after_first (part ∷ parts) new k is = ap parts_of (take_all k parts (omega (arith, is)))

pub many_after_first : (old : List ShardRows) (new : ShardRows) (k : ℕ) → length old ≡ 1 + k → length (take k (drop 1 (set old 0 new))) ≡ k
many_after_first [] new k is = absurd (omega (arith, is))
many_after_first (part ∷ parts) new k is = let all : take k parts ≡ parts = take_all k parts (omega (arith, is)) in omega (arith, ap length all, is)

-- the first is written, and those after it
pub first_written : (old : List ShardRows) (new : ShardRows) (left : List ShardRows) (k : ℕ) → length old ≡ 1 + k → put_mid 1 k (set old 0 new) left ≡ new ∷ left
first_written [] new left k is = absurd (omega (arith, is))
first_written (part ∷ parts) new left k is =
    ap (λ (later : List ShardRows). new ∷ left ++ later) (drop_of_length-le parts (omega (arith, is))) ∙ ap (λ (later : List ShardRows). new ∷ later) (append-nil left)

-- without the cache in one of shards that are alike there is none in any
absent_each : (c : PlainCaches) (id : ℤ) (parts : List Part) → cache_of c.caches id ≡ None → AllAlike c parts → All (λ (part : Part). cache_of part.caches.caches id ≡ None) parts
absent_each c id [] none all = All-nil (λ (part : Part). cache_of part.caches.caches id ≡ None)
absent_each c id (part ∷ parts) none all =
    let P : Part → Type 0 = λ p. AreAlike c p.caches in
    All-cons (λ (p : Part). cache_of p.caches.caches id ≡ None) part parts (missing_in_other c.caches part.caches.caches id (All-head P part parts all).names none)
    (absent_each c id parts none (All-tail P part parts all))

module _ (shards : ℕ) (old : List ShardRows) (first : ShardRows) (all : AreAll shards (parts_of old)) (at : first ≡ get_or old 0 first) where
  others_of : (others : List Part) × (parts_of old ≡ part_of first ∷ others)
  others_of = split_first (part_of first) (parts_of old) (not_none shards (parts_of old) all) (first_part old first at)

  pub others : List Part
  others = others_of.0

  pub first_and_others : parts_of old ≡ part_of first ∷ others
  unfolding others
  first_and_others = others_of.1

  pub some_shards : 0 < length old
  some_shards = omega (arith, not_none shards (parts_of old) all, length-map old part_of)

  -- read again, it is the same
  pub first_again : (again : ShardRows) → again ≡ get_or old 0 again → again ≡ first
  first_again again is = is ∙ get_or_default old 0 again first some_shards ∙ sym at

  alike : AllAlike all.like (part_of first ∷ others)
  alike = subst (AllAlike all.like) first_and_others all.alike

  pub absent_in_all : (id : ℤ) → cache_of (plain_caches first.caches).caches id ≡ None → All (λ (part : Part). cache_of part.caches.caches id ≡ None) (parts_of old)
  absent_in_all id none =
      let here : AreAlike all.like (part_of first).caches = All-head (λ (p : Part). AreAlike all.like p.caches) (part_of first) others alike in
      absent_each all.like id (parts_of old) (missing_in_other (part_of first).caches.caches all.like.caches id (sym here.names) none) all.alike

  -- the first shard answers, and stays
  pub run_first : (call : Call) (new : ShardRows) (result : Result Answer (NoRoom Call)) → new.number ≡ first.number → new.shards ≡ first.shards
      → RunsOn call (part_of first).caches result (part_of new).caches
      → ((c : PlainCaches) (rest : List Part) → AllAlike c (part_of first ∷ rest) → RunsAsFirst call (part_of first) rest)
      → RunsOn call (together (parts_of old)) result (together (parts_of (set old 0 new))) × (parts_of (set old 0 new) ≡ parts_of old)
  run_first call new result number count ran as_first =
      let it : RunsOn call (together (part_of first ∷ others)) result (together (part_of first ∷ others)) × ((part_of new).caches ≡ (part_of first).caches) =
      as_first all.like others alike result (part_of new).caches ran in
      let same : part_of new ≡ part_of first = λ k. record { number = number k; shards = count k; caches = it.1 k } in
      let kept : parts_of (set old 0 new) ≡ parts_of old =
      map-set part_of old 0 new ∙ ap (set (parts_of old) 0) (same ∙ first_part old first at) ∙ set-get_or (parts_of old) 0 (part_of first) in
      let whole : RunsOn call (together (parts_of old)) result (together (parts_of old)) =
      subst (λ (ps : List Part). RunsOn call (together ps) result (together ps)) (sym first_and_others) it.0 in
      (subst (λ (ps : List Part). RunsOn call (together (parts_of old)) result (together ps)) (sym kept) whole, kept)

  module _ (name : List ℕ) (new : List Part) (answer : Answer) (none : cache_of (plain_caches first.caches).caches (id_of name) ≡ None) (done : (created (plain_caches first.caches) name).0 ≡ Done)
      (leaves : new ≡ created_in_parts (parts_of old) name) (answers : answer.outcome ≡ Done) (minor : answer.minor ≡ (together new).minor) where
    made : new ≡ created_in_parts (part_of first ∷ others) name
    made = leaves ∙ ap (λ (ps : List Part). created_in_parts ps name) first_and_others

    minor_made : answer.minor ≡ (together (created_in_parts (part_of first ∷ others) name)).minor
    minor_made = minor ∙ ap (λ (ps : List Part). (together ps).minor) made

    pub created_all : RunsOn (Create name) (together (parts_of old)) (Ok answer) (together new)
    created_all =
        subst₂ (λ (ps qs : List Part). RunsOn (Create name) (together ps) (Ok answer) (together qs)) (sym first_and_others) (sym made)
        (create_done all.like (part_of first) others name alike none done answer answers minor_made)

    pub get_or_created_all : RunsOn (GetOrCreate name) (together (parts_of old)) (Ok answer) (together new)
    get_or_created_all =
        subst₂ (λ (ps qs : List Part). RunsOn (GetOrCreate name) (together ps) (Ok answer) (together qs)) (sym first_and_others) (sym made)
        (get_or_create_done all.like (part_of first) others name alike none done answer answers minor_made)

  -- the cache is destroyed in the first shard, and then in the others
  module _ (id : ℤ) (new : ShardRows) (left : List ShardRows) (result : Result Answer (NoRoom Call)) (number : new.number ≡ first.number) (count : new.shards ≡ first.shards) (sure : IsOk result)
      (ran : RunsOn (Destroy id) (part_of first).caches result (part_of new).caches) (leaves : parts_of left ≡ destroyed_in_parts (drop 1 (parts_of old)) id) where
    new_first : part_of new ≡ record (part_of first) { caches = (part_of new).caches }
    new_first = λ k. record { number = number k; shards = count k; caches = (part_of new).caches }

    left_is : parts_of left ≡ destroyed_in_parts others id
    left_is = leaves ∙ ap (λ (ps : List Part). destroyed_in_parts (drop 1 ps) id) first_and_others

    destroyed_is : part_of new ≡ destroyed_in id (part_of first)
    destroyed_is =
        new_first ∙ ap (λ (d : PlainCaches). record (part_of first) { caches = d }) (destroyed_ran id (part_of first).caches (part_of new).caches result sure ran)

    pub destroyed_all : RunsOn (Destroy id) (together (parts_of old)) result (together (parts_of (new ∷ left)))
    destroyed_all =
        subst₂ (λ (ps qs : List Part). RunsOn (Destroy id) (together ps) result (together qs)) (sym first_and_others)
        (sym (ap (λ (ps : List Part). part_of new ∷ ps) left_is ∙ ap (λ (p : Part). p ∷ destroyed_in_parts others id) new_first))
        (destroy_in_all all.like (part_of first) others id alike result (part_of new).caches sure ran)

    pub all_left : AreAll shards (parts_of (new ∷ left))
    all_left =
        subst (AreAll shards)
        (ap (λ (ps : List Part). destroyed_in_parts ps id) first_and_others ∙ sym (ap (λ (ps : List Part). part_of new ∷ ps) left_is ∙ ap (λ (p : Part). p ∷ destroyed_in_parts others id) destroyed_is))
        (all_destroyed shards (parts_of old) id all)
