-- One more cache in all shards, and one less.
use Rattle.std.proofs.Common.{◌≡◌, ℕ, suc, ℤ, Bool, true, false, nat_le, cond, List, [], ◌∷◌, ◌++◌, length, map, All, Option, None, Some, Result, Ok, Err, IsOk, refl, sym, ap, ap₂, ◌∙◌, subst, inl, inr}
use Rattle.std.proofs.lemmas.Bool.{cases_Bool, cond-true, cond-false}
use Rattle.std.proofs.lemmas.List.Elements.{All-nil, All-cons, All-head, All-tail, All-push}
use Rattle.std.specs.Option.{option_map_or}
use Rattle.ig_base.specs.declared.memory.NoRoom.{NoRoom}
use Rattle.ig_types.specs.Join.{same_name}
use Rattle.ig_caches.specs.declared.call.Call.{Call}
use Rattle.ig_caches.specs.declared.call.Call.TheVariants.{Names, Create, GetOrCreate, Destroy}
use Rattle.ig_caches.specs.declared.answer.Answer.{Answer}
use Rattle.ig_caches.specs.declared.answer.Outcome.{Outcome}
use Rattle.ig_caches.specs.declared.answer.Outcome.TheVariants as outcome
use Rattle.ig_caches.specs.declared.answer.Outcome.TheVariants.{Done, Refused}
use Rattle.ig_caches.specs.declared.answer.Why.TheVariants as why
use Rattle.ig_caches.specs.PlainCaches.{Cache, PlainCaches, has_id, id_of, fresh_cache, cache_of, caches_without}
use Rattle.ig_caches.specs.Effect.{created, changed_to, next_count, max_caches, after_destroy, effect}
use Rattle.ig_caches.specs.Answered.{ran, answered}
use Rattle.ig_caches.specs.RunsOn.{RunsOn}
use Rattle.ig_caches.proofs.CacheLemmas.{runs, create_taken, create_free, get_or_create_stands, get_or_create_free}
use Rattle.ig_shards.specs.Spread.{union, IsPlaced}
use Rattle.ig_shards.specs.Parts.{Part, beside, both, together, AreAlike, IsPart, AreNumbered, AllAlike, AreAll}
use Rattle.ig_shards.specs.RowsOfParts.{rows_in_parts, created_in, created_in_parts, destroyed_in, destroyed_in_parts}
use Rattle.ig_shards.proofs.SpreadLemmas.{placed_none}
use Rattle.ig_shards.proofs.PartLemmas.{both_none, heads_together}
use Rattle.ig_shards.proofs.TogetherLemmas.{found_together, missing_together, created_both, alike_created, refused_alike, destroyed_both, alike_destroyed}

-- the caches after a change, by whether it can be counted, whether there are too many, and whether there is such a cache
abbrev counted : PlainCaches → List Cache → Option ℤ → Outcome × PlainCaches
counted c caches o = option_map_or (λ (minor : ℤ). (Done, record c { caches = caches; minor = minor })) o (Refused why.TooManyChanges, c)

abbrev made : PlainCaches → List ℕ → Bool → Outcome × PlainCaches
made c name b = cond b (Refused why.TooManyCaches, c) (changed_to c (c.caches ++ fresh_cache name ∷ []))

abbrev removed : PlainCaches → ℤ → Option Cache → Outcome × PlainCaches
removed c id o = option_map_or (λ (cache : Cache). changed_to c (caches_without c.caches id)) o (Refused why.NoCache, c)

-- what holds of caches as they are and of the changed ones holds whether the change is counted or refused
changed_keeps : (P : PlainCaches → Type 0) (c : PlainCaches) (caches : List Cache) → P c → ((minor : ℤ) → P (record c { caches = caches; minor = minor })) → P (changed_to c caches).1
changed_keeps P c caches before changes = by (next_count c.minor)
  where
    by : (o : Option ℤ) → P (counted c caches o).1
    by None = before
    by (Some minor) = changes minor

created_keeps : (P : PlainCaches → Type 0) (c : PlainCaches) (name : List ℕ) → P c → ((minor : ℤ) → P (record c { caches = c.caches ++ fresh_cache name ∷ []; minor = minor })) → P (created c name).1
created_keeps P c name before changes = by (nat_le max_caches (length c.caches))
  where
    by : (b : Bool) → P (made c name b).1
    by true = before
    by false = changed_keeps P c (c.caches ++ fresh_cache name ∷ []) before changes

destroyed_keeps : (P : PlainCaches → Type 0) (c : PlainCaches) (id : ℤ) → P c → ((minor : ℤ) → P (record c { caches = caches_without c.caches id; minor = minor })) → P (after_destroy id c).1
destroyed_keeps P c id before changes = by (cache_of c.caches id)
  where
    by : (o : Option Cache) → P (removed c id o).1
    by None = before
    by (Some cache) = changed_keeps P c (caches_without c.caches id) before changes

all_without : (P : Cache → Type 0) (caches : List Cache) (id : ℤ) → All P caches → All P (caches_without caches id)
all_without P [] id all = all
all_without P (a ∷ caches) id all = elim (cases_Bool (has_id id a)) [
  | inl here ↦ subst (All P) (sym (cond-true (has_id id a) caches (a ∷ caches_without caches id) here)) (All-tail P a caches all)
  | inr later ↦
      subst (All P) (sym (cond-false (has_id id a) caches (a ∷ caches_without caches id) later))
      (All-cons P a (caches_without caches id) (All-head P a caches all) (all_without P caches id (All-tail P a caches all)))
]

-- ---- a shard stays one
part_created : (name : List ℕ) (part : Part) → IsPart part → IsPart (created_in name part)
part_created name part it =
    created_keeps (λ (c : PlainCaches). IsPart (record part { caches = c })) part.caches name it (λ minor. record {
      within = it.within;
      few = it.few;
      placed = All-push (λ (cache : Cache). IsPlaced part.shards part.number cache.rows) part.caches.caches (fresh_cache name) it.placed (placed_none part.shards part.number);
      typeless = it.typeless;
    })

part_destroyed : (id : ℤ) (part : Part) → IsPart part → IsPart (destroyed_in id part)
part_destroyed id part it =
    destroyed_keeps (λ (c : PlainCaches). IsPart (record part { caches = c })) part.caches id it (λ minor. record {
      within = it.within;
      few = it.few;
      placed = all_without (λ (cache : Cache). IsPlaced part.shards part.number cache.rows) part.caches.caches id it.placed;
      typeless = it.typeless;
    })

-- ---- and all shards stay all
numbered_each : (f : Part → Part) → ((part : Part) → (f part).number ≡ part.number) → ((part : Part) → (f part).shards ≡ part.shards) → ((part : Part) → IsPart part → IsPart (f part))
    → (shards next : ℕ) (parts : List Part) → AreNumbered shards next parts → AreNumbered shards next (map f parts)
numbered_each f number count keeps shards next [] numbered = numbered
numbered_each f number count keeps shards next (part ∷ parts) numbered =
    (number part ∙ numbered.0, count part ∙ numbered.1, keeps part numbered.2, numbered_each f number count keeps shards (suc next) parts numbered.3)

alike_each : (f : Part → Part) (c d : PlainCaches) → ((part : Part) → AreAlike c part.caches → AreAlike d (f part).caches) → (parts : List Part) → AllAlike c parts → AllAlike d (map f parts)
alike_each f c d keeps [] all = All-nil (λ (part : Part). AreAlike d part.caches)
alike_each f c d keeps (part ∷ parts) all =
    let P : Part → Type 0 = λ p. AreAlike c p.caches in
    All-cons (λ (p : Part). AreAlike d p.caches) (f part) (map f parts) (keeps part (All-head P part parts all)) (alike_each f c d keeps parts (All-tail P part parts all))

pub all_created : (shards : ℕ) (parts : List Part) (name : List ℕ) → AreAll shards parts → AreAll shards (created_in_parts parts name)
all_created shards parts name all = record {
  some = all.some;
  numbered = numbered_each (created_in name) (λ part. refl) (λ part. refl) (part_created name) shards 0 parts all.numbered;
  like = (created all.like name).1;
  alike = alike_each (created_in name) all.like (created all.like name).1 (λ part it. alike_created name all.like part.caches it) parts all.alike;
}

pub all_destroyed : (shards : ℕ) (parts : List Part) (id : ℤ) → AreAll shards parts → AreAll shards (destroyed_in_parts parts id)
all_destroyed shards parts id all = record {
  some = all.some;
  numbered = numbered_each (destroyed_in id) (λ part. refl) (λ part. refl) (part_destroyed id) shards 0 parts all.numbered;
  like = (after_destroy id all.like).1;
  alike = alike_each (destroyed_in id) all.like (after_destroy id all.like).1 (λ part it. alike_destroyed id all.like part.caches it) parts all.alike;
}

-- ---- what they do together
-- the first shard and the others together are alike
alike_together : (c : PlainCaches) (first next : Part) (parts : List Part) → AllAlike c (first ∷ next ∷ parts) → AreAlike first.caches (together (next ∷ parts))
alike_together c first next parts all =
    let P : Part → Type 0 = λ p. AreAlike c p.caches in
    let others : AllAlike c (next ∷ parts) = All-tail P first (next ∷ parts) all in
    let here : AreAlike c first.caches = All-head P first (next ∷ parts) all in
    let there : AreAlike c next.caches = All-head P next parts others in
    record { names = sym here.names ∙ heads_together c [] parts next others; counts = sym here.counts ∙ there.counts }

-- a change of plain caches that is one in each of two that are alike is one in each shard
changed_together : (change : PlainCaches → Outcome × PlainCaches) → ((c d : PlainCaches) → AreAlike c d → change (both c d) ≡ ((change c).0, both (change c).1 (change d).1))
    → (c : PlainCaches) (first : Part) (parts : List Part) → AllAlike c (first ∷ parts)
    → change (together (first ∷ parts)) ≡ ((change first.caches).0, together (map (λ (part : Part). record part { caches = (change part.caches).1 }) (first ∷ parts)))
changed_together change in_both c first [] all =
    ap change (both_none first.caches) ∙ ap (λ (d : PlainCaches). ((change first.caches).0, d)) (sym (both_none (change first.caches).1))
changed_together change in_both c first (next ∷ parts) all =
    in_both first.caches (together (next ∷ parts)) (alike_together c first next parts all)
    ∙ ap (λ (r : Outcome × PlainCaches). ((change first.caches).0, both (change first.caches).1 r.1))
    (changed_together change in_both c next parts (All-tail (λ (p : Part). AreAlike c p.caches) first (next ∷ parts) all))

pub created_together : (c : PlainCaches) (first : Part) (parts : List Part) (name : List ℕ) → AllAlike c (first ∷ parts)
    → created (together (first ∷ parts)) name ≡ ((created first.caches name).0, together (created_in_parts (first ∷ parts) name))
created_together c first parts name all =
    changed_together (λ (d : PlainCaches). created d name) (λ d e alike. created_both name d e alike) c first parts all

pub destroyed_together : (c : PlainCaches) (first : Part) (parts : List Part) (id : ℤ) → AllAlike c (first ∷ parts)
    → after_destroy id (together (first ∷ parts)) ≡ ((after_destroy id first.caches).0, together (destroyed_in_parts (first ∷ parts) id))
destroyed_together c first parts id all =
    changed_together (after_destroy id) (λ d e alike. destroyed_both id d e alike) c first parts all

-- ---- the calls
-- a call that changes nothing, and answers on the first shard as on all, can run on the first alone
unchanged_in_all : (call : Call) (first all : PlainCaches) (outcome : Outcome) → ran first (effect call) ≡ (outcome, first) → ran all (effect call) ≡ (outcome, all) → first.minor ≡ all.minor
    → (result : Result Answer (NoRoom Call)) (new : PlainCaches) → RunsOn call first result new → RunsOn call all result all × (new ≡ first)
unchanged_in_all call first all outcome on_first on_all minor (Ok answer) new ran_first =
    let here : answered first call ≡ record { minor = first.minor; outcome = outcome } =
    ap (λ (r : Outcome × PlainCaches). record { minor = r.1.minor; outcome = r.0 }) on_first in
    let there : answered all call ≡ record { minor = all.minor; outcome = outcome } =
    ap (λ (r : Outcome × PlainCaches). record { minor = r.1.minor; outcome = r.0 }) on_all in (
      (ran_first.0 ∙ here ∙ ap (λ (m : ℤ). record { minor = m; outcome = outcome }) minor ∙ sym there, sym (ap (λ (r : Outcome × PlainCaches). r.1) on_all)),
      ran_first.1 ∙ ap (λ (r : Outcome × PlainCaches). r.1) on_first,
    )
unchanged_in_all call first all outcome on_first on_all minor (Err e) new ran_first = ((ran_first.0, refl), ran_first.1)

abbrev pub RunsAsFirst : Call → Part → List Part → Type 0
RunsAsFirst call first parts = (result : Result Answer (NoRoom Call)) (new : PlainCaches) → RunsOn call first.caches result new
    → RunsOn call (together (first ∷ parts)) result (together (first ∷ parts)) × (new ≡ first.caches)

names_of : (caches others : List Cache) → map (λ (cache : Cache). cache.name) (beside caches others) ≡ map (λ (cache : Cache). cache.name) caches
names_of [] others = refl
names_of (a ∷ caches) [] = refl
names_of (a ∷ caches) (b ∷ others) = ap (λ (ns : List (List ℕ)). a.name ∷ ns) (names_of caches others)

pub names_in_all : (first : Part) (parts : List Part) → RunsAsFirst Names first parts
names_in_all first parts =
    unchanged_in_all Names first.caches (together (first ∷ parts)) (outcome.Names (map (λ (cache : Cache). cache.name) first.caches.caches)) refl
    (ap (λ (ns : List (List ℕ)). (outcome.Names ns, together (first ∷ parts))) (names_of first.caches.caches (together parts).caches)) refl

module _ (c : PlainCaches) (first : Part) (parts : List Part) (name : List ℕ) (all : AllAlike c (first ∷ parts)) where
  -- a cache of this identifier stands
  pub create_stands : (cache : Cache) → cache_of first.caches.caches (id_of name) ≡ Some cache → RunsAsFirst (Create name) first parts
  create_stands cache stands =
      unchanged_in_all (Create name) first.caches (together (first ∷ parts)) (Refused why.CacheExists) (create_taken first.caches name cache stands)
      (create_taken (together (first ∷ parts)) name (record cache { rows = union (rows_in_parts (first ∷ parts) (id_of name)) }) (found_together c first parts (id_of name) cache all stands)) refl

  pub get_or_create_as_stands : (cache : Cache) → cache_of first.caches.caches (id_of name) ≡ Some cache → RunsAsFirst (GetOrCreate name) first parts
  get_or_create_as_stands cache stands =
      unchanged_in_all (GetOrCreate name) first.caches (together (first ∷ parts)) (cond (same_name cache.name name) Done (Refused why.CacheExists))
      (get_or_create_stands first.caches name cache stands)
      (get_or_create_stands (together (first ∷ parts)) name (record cache { rows = union (rows_in_parts (first ∷ parts) (id_of name)) }) (found_together c first parts (id_of name) cache all stands)) refl

  -- there is none, and none may be added
  refused_each : (ps : List Part) → (created first.caches name).1 ≡ first.caches → AllAlike first.caches ps → created_in_parts ps name ≡ ps
  refused_each [] same alike = refl
  refused_each (part ∷ ps) same alike =
      let P : Part → Type 0 = λ p. AreAlike first.caches p.caches in
      ap₂ (λ (d : PlainCaches) (qs : List Part). record part { caches = d } ∷ qs) (refused_alike name first.caches part.caches (All-head P part ps alike) same)
      (refused_each ps same (All-tail P part ps alike))

  as_first : (ps : List Part) → AreAlike c first.caches → AllAlike c ps → AllAlike first.caches ps
  as_first [] here alike = All-nil (λ (p : Part). AreAlike first.caches p.caches)
  as_first (part ∷ ps) here alike =
      let P : Part → Type 0 = λ p. AreAlike c p.caches in
      let it : AreAlike c part.caches = All-head P part ps alike in
      All-cons (λ (p : Part). AreAlike first.caches p.caches) part ps (record { names = sym here.names ∙ it.names; counts = sym here.counts ∙ it.counts })
      (as_first ps here (All-tail P part ps alike))

  like_first : AllAlike first.caches (first ∷ parts)
  like_first = as_first (first ∷ parts) (All-head (λ (p : Part). AreAlike c p.caches) first parts all) all

  created_here : (created first.caches name).1 ≡ first.caches → created first.caches name ≡ ((created first.caches name).0, first.caches)
  created_here same = ap (λ (d : PlainCaches). ((created first.caches name).0, d)) same

  created_whole : (created first.caches name).1 ≡ first.caches → created (together (first ∷ parts)) name ≡ ((created first.caches name).0, together (first ∷ parts))
  created_whole same =
      created_together c first parts name all
      ∙ ap (λ (ps : List Part). ((created first.caches name).0, together ps)) (refused_each (first ∷ parts) same like_first)

  module _ (none : cache_of first.caches.caches (id_of name) ≡ None) where
    none_in_all : cache_of (together (first ∷ parts)).caches (id_of name) ≡ None
    none_in_all = missing_together first parts (id_of name) none

    pub create_spent : (created first.caches name).1 ≡ first.caches → RunsAsFirst (Create name) first parts
    create_spent same =
        unchanged_in_all (Create name) first.caches (together (first ∷ parts)) (created first.caches name).0
        (create_free first.caches name none ∙ created_here same)
        (create_free (together (first ∷ parts)) name none_in_all ∙ created_whole same) refl

    pub get_or_create_spent : (created first.caches name).1 ≡ first.caches → RunsAsFirst (GetOrCreate name) first parts
    get_or_create_spent same =
        unchanged_in_all (GetOrCreate name) first.caches (together (first ∷ parts)) (created first.caches name).0
        (get_or_create_free first.caches name none ∙ created_here same)
        (get_or_create_free (together (first ∷ parts)) name none_in_all ∙ created_whole same) refl

    -- there is none, and one is added to each shard
    made_in_all : (created first.caches name).0 ≡ Done → created (together (first ∷ parts)) name ≡ (Done, together (created_in_parts (first ∷ parts) name))
    made_in_all done = created_together c first parts name all ∙ ap (λ (o : Outcome). (o, together (created_in_parts (first ∷ parts) name))) done

    pub create_done : (created first.caches name).0 ≡ Done → (answer : Answer) → answer.outcome ≡ Done → answer.minor ≡ (together (created_in_parts (first ∷ parts) name)).minor
        → RunsOn (Create name) (together (first ∷ parts)) (Ok answer) (together (created_in_parts (first ∷ parts) name))
    create_done done answer answers minor =
        runs (Create name) (together (first ∷ parts)) (together (created_in_parts (first ∷ parts) name)) answer Done
        (create_free (together (first ∷ parts)) name none_in_all ∙ made_in_all done) minor answers

    pub get_or_create_done : (created first.caches name).0 ≡ Done → (answer : Answer) → answer.outcome ≡ Done → answer.minor ≡ (together (created_in_parts (first ∷ parts) name)).minor
        → RunsOn (GetOrCreate name) (together (first ∷ parts)) (Ok answer) (together (created_in_parts (first ∷ parts) name))
    get_or_create_done done answer answers minor =
        runs (GetOrCreate name) (together (first ∷ parts)) (together (created_in_parts (first ∷ parts) name)) answer Done
        (get_or_create_free (together (first ∷ parts)) name none_in_all ∙ made_in_all done) minor answers

-- a destroy that runs on each shard runs on all
pub destroy_in_all : (c : PlainCaches) (first : Part) (parts : List Part) (id : ℤ) → AllAlike c (first ∷ parts) → (result : Result Answer (NoRoom Call)) (new : PlainCaches) → IsOk result
    → RunsOn (Destroy id) first.caches result new
    → RunsOn (Destroy id) (together (first ∷ parts)) result (together (record first { caches = new } ∷ destroyed_in_parts parts id))
destroy_in_all c first parts id all (Ok answer) new sure ran_first =
    let whole : after_destroy id (together (first ∷ parts)) ≡ ((after_destroy id first.caches).0, together (destroyed_in_parts (first ∷ parts) id)) =
    destroyed_together c first parts id all in (
      ran_first.0 ∙ sym (ap (λ (r : Outcome × PlainCaches). record { minor = r.1.minor; outcome = r.0 }) whole),
      ap (λ (d : PlainCaches). together (record first { caches = d } ∷ destroyed_in_parts parts id)) ran_first.1 ∙ sym (ap (λ (r : Outcome × PlainCaches). r.1) whole),
    )
destroy_in_all c first parts id all (Err e) new sure ran_first = let never : false ≡ true = sure in absurd (cc)

-- a destroy takes no memory, so it leaves what plain caches do
pub destroyed_ran : (id : ℤ) (old new : PlainCaches) (result : Result Answer (NoRoom Call)) → IsOk result → RunsOn (Destroy id) old result new → new ≡ (after_destroy id old).1
destroyed_ran id old new (Ok answer) sure ran_it = ran_it.1
destroyed_ran id old new (Err e) sure ran_it = let never : false ≡ true = sure in absurd (cc)
