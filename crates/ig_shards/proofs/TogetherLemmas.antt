-- Shards together: calls that need all of them.
use Rattle.std.proofs.Common.{◌≡◌, ◌<◌, ◌++◌, ℕ, zero, suc, ℤ, Bool, true, false, nat_le, cond, List, [], ◌∷◌, length, take, get_or, set, map, All, Option, None, Some, refl, sym, ap, ap₂, ◌∙◌, subst, inl, inr, arith}
use Rattle.std.proofs.lemmas.Bool.{cases_Bool, cond-true, cond-false}
use Rattle.std.proofs.lemmas.List.{map-append, length-append}
use Rattle.std.proofs.lemmas.List.Elements.{All-cons, All-head, All-tail}
use Rattle.std.proofs.Math.Seq.{take-nil}
use Rattle.std.specs.Ordering.{int_eq}
use Rattle.std.specs.Option.{option_map_or}
use Rattle.std.specs.FinMap as finite
use Rattle.ig_caches.specs.declared.answer.Outcome.{Outcome}
use Rattle.ig_caches.specs.declared.answer.Outcome.TheVariants.{Done, Refused}
use Rattle.ig_caches.specs.declared.answer.Why.TheVariants as why
use Rattle.ig_caches.specs.Rows.{Rows}
use Rattle.ig_caches.specs.RowsAt.{rows_at, with_rows_of}
use Rattle.ig_caches.specs.PlainCaches.{Cache, PlainCaches, has_id, fresh_cache, cache_of, caches_without}
use Rattle.ig_caches.specs.Effect.{created, changed_to, next_count, max_caches, after_destroy}
use Rattle.ig_caches.proofs.KeyLemmas.{with_twice}
use Rattle.ig_caches.proofs.CacheLemmas.{destroy_none, destroy_found}
use Rattle.ig_shards.specs.Spread.{either, union, IsPlaced, AreSpreadFrom}
use Rattle.ig_shards.specs.Parts.{Part, beside, both, together, heads, AreAlike, IsPart, AreNumbered, AllAlike}
use Rattle.ig_shards.specs.RowsOfParts.{rows_in_parts, rows_or, with_rows_in_parts}
use Rattle.ig_shards.proofs.SpreadLemmas.{either_none, placed_none}
use Rattle.ig_shards.proofs.BesideLemmas.{head, same_first, same_head, same_rest, beside_none, IsInBoth, found_in_both, missing_in_both, missing_in_other, rows_in_both, all_found, all_with_rows, heads_with_rows}
use Rattle.ig_shards.proofs.PartLemmas.{both_none, heads_together}

some_cache : Cache → Option Cache → Cache
some_cache d None = d
some_cache d (Some cache) = cache

same_some : (a b : Cache) → Some a ≡ Some b → a ≡ b
unfolding some_cache
same_some a b e = ap (some_cache a) e

-- ---- the rows of one cache in all shards
rows_found : (caches : List Cache) (id : ℤ) (cache : Cache) → cache_of caches id ≡ Some cache → rows_at caches id finite.empty ≡ cache.rows
rows_found caches id cache is = ap (λ (o : Option Cache). option_map_or (λ (k : Cache). k.rows) o finite.empty) is

-- the cache that all shards have, with the rows of all
pub found_together : (c : PlainCaches) (first : Part) (parts : List Part) (id : ℤ) (cache : Cache) → AllAlike c (first ∷ parts) → cache_of first.caches.caches id ≡ Some cache
    → cache_of (together (first ∷ parts)).caches id ≡ Some (record cache { rows = union (rows_in_parts (first ∷ parts) id) })
found_together c first [] id cache all is =
    ap (λ (cs : List Cache). cache_of cs id) (beside_none first.caches.caches) ∙ is
    ∙ ap (λ (r : Rows). Some (record cache { rows = r })) (sym (either_none (rows_at first.caches.caches id finite.empty) ∙ rows_found first.caches.caches id cache is))
found_together c first (next ∷ parts) id cache all is =
    let P : Part → Type 0 = λ p. AreAlike c p.caches in
    let rest : PlainCaches = together (next ∷ parts) in
    let others : AllAlike c (next ∷ parts) = All-tail P first (next ∷ parts) all in
    let here : heads first.caches ≡ heads c = sym (All-head P first (next ∷ parts) all).names in
    let in_next : IsInBoth first.caches.caches next.caches.caches id cache =
    found_in_both first.caches.caches next.caches.caches id cache (here ∙ (All-head P next parts others).names) is in
    let in_rest : IsInBoth first.caches.caches rest.caches id cache =
    found_in_both first.caches.caches rest.caches id cache (here ∙ heads_together c [] parts next others) is in
    let later : cache_of rest.caches id ≡ Some (record in_next.other { rows = union (rows_in_parts (next ∷ parts) id) }) =
    found_together c next parts id in_next.other others in_next.stands in
    let rows : in_rest.other.rows ≡ union (rows_in_parts (next ∷ parts) id) =
    ap (λ (k : Cache). k.rows) (same_some in_rest.other (record in_next.other { rows = union (rows_in_parts (next ∷ parts) id) }) (sym in_rest.stands ∙ later)) in
    in_rest.whole
    ∙ ap (λ (r : Rows). Some (record cache { rows = r })) (ap₂ either (sym (rows_found first.caches.caches id cache is)) rows)

-- without it in the first shard there is none
pub missing_together : (first : Part) (parts : List Part) (id : ℤ) → cache_of first.caches.caches id ≡ None → cache_of (together (first ∷ parts)).caches id ≡ None
missing_together first parts id none = missing_in_both first.caches.caches (together parts).caches id none

-- other rows in each shard are the rows of all in all
pub rows_together : (c : PlainCaches) (parts : List Part) (id : ℤ) (rows : List Rows) → AllAlike c parts → length rows ≡ length parts
    → with_rows_of (together parts) id (union rows) ≡ together (with_rows_in_parts parts id rows)
rows_together c [] id rows all long = refl
rows_together c (part ∷ parts) id [] all long = absurd (omega (arith, long))
rows_together c (part ∷ []) id (here ∷ []) all long =
    let cs : List Cache = part.caches.caches in
    ap (λ (d : PlainCaches). with_rows_of d id (either here finite.empty)) (both_none part.caches)
    ∙ ap (λ (r : Rows). with_rows_of part.caches id r) (either_none here)
    ∙ sym (both_none (with_rows_of part.caches id here))
rows_together c (part ∷ []) id (here ∷ other ∷ rows) all long = absurd (omega (arith, long))
rows_together c (part ∷ next ∷ parts) id (here ∷ rows) all long =
    let P : Part → Type 0 = λ p. AreAlike c p.caches in
    let rest : PlainCaches = together (next ∷ parts) in
    let others : AllAlike c (next ∷ parts) = All-tail P part (next ∷ parts) all in
    let names : heads part.caches ≡ heads rest = sym (All-head P part (next ∷ parts) all).names ∙ heads_together c [] parts next others in
    let later : with_rows_of rest id (union rows) ≡ together (with_rows_in_parts (next ∷ parts) id rows) =
    rows_together c (next ∷ parts) id rows others (omega (arith, long)) in
    ap (λ (cs : List Cache). record part.caches { caches = cs }) (rows_in_both part.caches.caches rest.caches id here (union rows) names)
    ∙ ap (both (with_rows_of part.caches id here)) later

-- the rows of a cache in all shards lie in their shards
placed_at : (shards shard : ℕ) (caches : List Cache) (id : ℤ) → All (λ (cache : Cache). IsPlaced shards shard cache.rows) caches → IsPlaced shards shard (rows_at caches id finite.empty)
placed_at shards shard caches id all = by (cache_of caches id) refl
  where
    by : (o : Option Cache) → cache_of caches id ≡ o → IsPlaced shards shard (rows_at caches id finite.empty)
    by None is =
        subst (IsPlaced shards shard) (sym (ap (λ (o : Option Cache). option_map_or (λ (k : Cache). k.rows) o finite.empty) is)) (placed_none shards shard)
    by (Some cache) is =
        subst (IsPlaced shards shard) (sym (rows_found caches id cache is)) (all_found (λ (k : Cache). IsPlaced shards shard k.rows) caches id cache all is)

placed_as : (shards shard : ℕ) (part : Part) (rows : Rows) → part.number ≡ shard → part.shards ≡ shards → IsPlaced part.shards part.number rows → IsPlaced shards shard rows
placed_as shards shard part rows number count placed = subst (λ n. IsPlaced n shard rows) count (subst (λ n. IsPlaced part.shards n rows) number placed)

pub spread_parts : (shards next : ℕ) (parts : List Part) (id : ℤ) → AreNumbered shards next parts → AreSpreadFrom shards next (rows_in_parts parts id)
spread_parts shards next [] id numbered = numbered
spread_parts shards next (part ∷ parts) id numbered = (
  placed_as shards next part (rows_at part.caches.caches id finite.empty) numbered.0 numbered.1 (placed_at part.shards part.number part.caches.caches id numbered.2.placed),
  spread_parts shards (suc next) parts id numbered.3,
)

-- with rows that lie in their shards they stay shards
pub numbered_rows : (shards next : ℕ) (parts : List Part) (id : ℤ) (rows : List Rows) → AreNumbered shards next parts → AreSpreadFrom shards next rows → AreNumbered shards next (with_rows_in_parts parts id rows)
numbered_rows shards next [] id rows numbered spread = numbered
numbered_rows shards next (part ∷ parts) id [] numbered spread = numbered
numbered_rows shards next (part ∷ parts) id (here ∷ rows) numbered spread =
    let it : IsPart part = numbered.2 in
    let placed : IsPlaced part.shards part.number here = subst (λ n. IsPlaced n part.number here) (sym numbered.1) (subst (λ n. IsPlaced shards n here) (sym numbered.0) spread.0) in (
      numbered.0,
      numbered.1,
      record {
        within = it.within;
        few = it.few;
        placed = all_with_rows (IsPlaced part.shards part.number) part.caches.caches id here it.placed placed;
        typeless = it.typeless;
      },
      numbered_rows shards (suc next) parts id rows numbered.3 spread.1,
    )

pub alike_rows : (c : PlainCaches) (parts : List Part) (id : ℤ) (rows : List Rows) → AllAlike c parts → AllAlike c (with_rows_in_parts parts id rows)
alike_rows c [] id rows all = all
alike_rows c (part ∷ parts) id [] all = all
alike_rows c (part ∷ parts) id (here ∷ rows) all =
    let P : Part → Type 0 = λ p. AreAlike c p.caches in
    let it : AreAlike c part.caches = All-head P part parts all in
    All-cons P (record part { caches = with_rows_of part.caches id here }) (with_rows_in_parts parts id rows)
    (record { names = it.names ∙ sym (heads_with_rows part.caches.caches id here); counts = it.counts })
    (alike_rows c parts id rows (All-tail P part parts all))

-- rows that were put twice are those that were put last
pub rows_twice : (parts : List Part) (id : ℤ) (rows more : List Rows) → length rows ≡ length more → with_rows_in_parts (with_rows_in_parts parts id rows) id more ≡ with_rows_in_parts parts id more
rows_twice [] id rows more long = refl
rows_twice (part ∷ parts) id [] [] long = refl
rows_twice (part ∷ parts) id [] (r ∷ more) long = absurd (omega (arith, long))
rows_twice (part ∷ parts) id (r ∷ rows) [] long = absurd (omega (arith, long))
rows_twice (part ∷ parts) id (r ∷ rows) (m ∷ more) long =
    ap₂ (λ (cs : List Cache) (ps : List Part). record part { caches = record part.caches { caches = cs } } ∷ ps) (with_twice part.caches.caches id r m)
    (rows_twice parts id rows more (omega (arith, long)))

-- ---- creations and destructions
added_to_both : (name : List ℕ) (caches others : List Cache) → map head caches ≡ map head others
    → beside (caches ++ fresh_cache name ∷ []) (others ++ fresh_cache name ∷ []) ≡ beside caches others ++ fresh_cache name ∷ []
added_to_both name [] [] same = ap (λ (r : Rows). record (fresh_cache name) { rows = r } ∷ []) (either_none finite.empty)
added_to_both name [] (b ∷ others) same = absurd (cc)
added_to_both name (a ∷ caches) [] same = absurd (cc)
added_to_both name (a ∷ caches) (b ∷ others) same =
    ap (λ (cs : List Cache). record a { rows = either a.rows b.rows } ∷ cs) (added_to_both name caches others (same_rest a b caches others same))

removed_from_both : (id : ℤ) (caches others : List Cache) → map head caches ≡ map head others
    → beside (caches_without caches id) (caches_without others id) ≡ caches_without (beside caches others) id
removed_from_both id [] [] same = refl
removed_from_both id [] (b ∷ others) same = absurd (cc)
removed_from_both id (a ∷ caches) [] same = absurd (cc)
removed_from_both id (a ∷ caches) (b ∷ others) same = elim (cases_Bool (has_id id a)) [
  | inl here ↦
      let there : has_id id b ≡ true = sym (ap (int_eq id) (same_first a b caches others same)) ∙ here in
      ap (λ (cs : List Cache). beside cs (caches_without (b ∷ others) id)) (cond-true (has_id id a) caches (a ∷ caches_without caches id) here)
      ∙ ap (beside caches) (cond-true (has_id id b) others (b ∷ caches_without others id) there)
      ∙ sym (cond-true (has_id id a) _ _ here)
  | inr later ↦
      let beyond : has_id id b ≡ false = sym (ap (int_eq id) (same_first a b caches others same)) ∙ later in
      ap (λ (cs : List Cache). beside cs (caches_without (b ∷ others) id)) (cond-false (has_id id a) caches (a ∷ caches_without caches id) later)
      ∙ ap (beside (a ∷ caches_without caches id)) (cond-false (has_id id b) others (b ∷ caches_without others id) beyond)
      ∙ ap (λ (cs : List Cache). record a { rows = either a.rows b.rows } ∷ cs) (removed_from_both id caches others (same_rest a b caches others same))
      ∙ sym (cond-false (has_id id a) _ _ later)
]

-- ---- the rows of a cache are taken out of each shard in turn, and put back
pub rows_none : (parts : List Part) (id : ℤ) → with_rows_in_parts parts id [] ≡ parts
rows_none [] id = refl
rows_none (part ∷ parts) id = refl

pub swapped : (parts : List Part) (id : ℤ) (rows : List Rows) (i : ℕ) (d : Part) (e : Rows) → i < length parts → length rows ≡ length parts
    → set (with_rows_in_parts parts id (take i rows)) i
    (record (get_or (with_rows_in_parts parts id (take i rows)) i d) { caches = with_rows_of (get_or (with_rows_in_parts parts id (take i rows)) i d).caches id (get_or rows i e) })
    ≡ with_rows_in_parts parts id (take (suc i) rows)
swapped [] id rows i d e within long = absurd (omega (arith, within))
swapped (part ∷ parts) id [] i d e within long = absurd (omega (arith, long))
swapped (part ∷ parts) id (r ∷ rows) zero d e within long = ap (λ (ps : List Part). record part { caches = with_rows_of part.caches id r } ∷ ps) (sym (rows_none parts id))
swapped (part ∷ parts) id (r ∷ rows) (suc i) d e within long =
    ap (λ (ps : List Part). record part { caches = with_rows_of part.caches id r } ∷ ps) (swapped parts id rows i d e (omega (arith, within)) (omega (arith, long)))

-- the shard that is next has its own rows yet
pub next_part : (parts : List Part) (id : ℤ) (rows : List Rows) (i : ℕ) (d : Part) → get_or (with_rows_in_parts parts id (take i rows)) i d ≡ get_or parts i d
next_part [] id rows i d = refl
next_part (part ∷ parts) id [] zero d = refl
next_part (part ∷ parts) id [] (suc i) d = refl
next_part (part ∷ parts) id (r ∷ rows) zero d = refl
next_part (part ∷ parts) id (r ∷ rows) (suc i) d = next_part parts id rows i d

pub taken_rows : (parts : List Part) (id : ℤ) (rows : List Rows) (i : ℕ) (d : Part) (e : Rows) → i < length parts → length rows ≡ length parts
    → set (rows_or (take i parts) id rows) i (rows_at (get_or parts i d).caches.caches id (get_or (rows_or (take i parts) id rows) i e)) ≡ rows_or (take (suc i) parts) id rows
taken_rows [] id rows i d e within long = absurd (omega (arith, within))
taken_rows (part ∷ parts) id [] i d e within long = absurd (omega (arith, long))
taken_rows (part ∷ parts) id (r ∷ rows) zero d e within long = refl
taken_rows (part ∷ parts) id (r ∷ rows) (suc i) d e within long =
    ap (λ (rs : List Rows). rows_at part.caches.caches id r ∷ rs) (taken_rows parts id rows i d e (omega (arith, within)) (omega (arith, long)))

pub next_rows : (parts : List Part) (id : ℤ) (rows : List Rows) (i : ℕ) (e : Rows) → get_or (rows_or (take i parts) id rows) i e ≡ get_or rows i e
next_rows [] id rows i e = ap (λ (ps : List Part). get_or (rows_or ps id rows) i e) (take-nil i)
next_rows (part ∷ parts) id rows zero e = refl
next_rows (part ∷ parts) id [] (suc i) e = refl
next_rows (part ∷ parts) id (r ∷ rows) (suc i) e = next_rows parts id rows i e

-- no rows are swapped with those of all shards
pub all_taken : (parts : List Part) (id : ℤ) (rows : List Rows) → All (λ (r : Rows). r ≡ finite.empty) rows → length rows ≡ length parts → rows_or parts id rows ≡ rows_in_parts parts id
all_taken [] id [] none long = refl
all_taken [] id (r ∷ rows) none long = absurd (omega (arith, long))
all_taken (part ∷ parts) id [] none long = absurd (omega (arith, long))
all_taken (part ∷ parts) id (r ∷ rows) none long =
    let P : Rows → Type 0 = λ r. r ≡ finite.empty in
    ap₂ (λ (r : Rows) (rs : List Rows). r ∷ rs) (ap (rows_at part.caches.caches id) (All-head P r rows none)) (all_taken parts id rows (All-tail P r rows none) (omega (arith, long)))

-- ---- one more cache in all shards, and one less
module _ (name : List ℕ) where
  abbrev made : PlainCaches → Bool → Outcome × PlainCaches
  made e b = cond b (Refused why.TooManyCaches, e) (changed_to e (e.caches ++ fresh_cache name ∷ []))

  abbrev counted : PlainCaches → Option ℤ → Outcome × PlainCaches
  counted e o = option_map_or (λ (minor : ℤ). (Done, record e { caches = e.caches ++ fresh_cache name ∷ []; minor = minor })) o (Refused why.TooManyChanges, e)

  length_both : (caches others : List Cache) → length (beside caches others) ≡ length caches
  length_both [] others = refl
  length_both (a ∷ caches) [] = refl
  length_both (a ∷ caches) (b ∷ others) = ap suc (length_both caches others)

  length_alike : (caches others : List Cache) → map head caches ≡ map head others → length others ≡ length caches
  length_alike [] [] same = refl
  length_alike [] (b ∷ others) same = absurd (cc)
  length_alike (a ∷ caches) [] same = absurd (cc)
  length_alike (a ∷ caches) (b ∷ others) same = ap suc (length_alike caches others (same_rest a b caches others same))

  module _ (c d : PlainCaches) (alike : AreAlike c d) where
    counted_both : (o : Option ℤ) → counted (both c d) o ≡ ((counted c o).0, both (counted c o).1 (counted d o).1)
    counted_both None = refl
    counted_both (Some minor) = ap (λ (cs : List Cache). (Done, record c { caches = cs; minor = minor })) (sym (added_to_both name c.caches d.caches alike.names))

    made_both : (b : Bool) → made (both c d) b ≡ ((made c b).0, both (made c b).1 (made d b).1)
    made_both true = refl
    made_both false =
        counted_both (next_count c.minor)
        ∙ ap (λ (o : Option ℤ). ((counted c (next_count c.minor)).0, both (counted c (next_count c.minor)).1 (counted d o).1)) (ap next_count alike.counts)

    -- a creation in two is one in each
    pub created_both : created (both c d) name ≡ ((created c name).0, both (created c name).1 (created d name).1)
    created_both =
        ap (λ n. made (both c d) (nat_le max_caches n)) (length_both c.caches d.caches)
        ∙ made_both (nat_le max_caches (length c.caches))
        ∙ ap (λ n. ((created c name).0, both (created c name).1 (made d (nat_le max_caches n)).1)) (sym (length_alike c.caches d.caches alike.names))

    unmade_counted : (o : Option ℤ) → (counted c o).1 ≡ c → (counted d o).1 ≡ d
    unmade_counted None same = refl
    unmade_counted (Some minor) same =
        let long : length (c.caches ++ fresh_cache name ∷ []) ≡ length c.caches = ap (λ (e : PlainCaches). length e.caches) same in
        absurd (omega (arith, long, length-append c.caches (fresh_cache name ∷ [])))

    unmade : (b : Bool) → (made c b).1 ≡ c → (made d b).1 ≡ d
    unmade true same = refl
    unmade false same =
        ap (λ (o : Option ℤ). (counted d o).1) (sym (ap next_count alike.counts))
        ∙ unmade_counted (next_count c.minor) same

    -- what is refused in one is refused in the other
    pub refused_alike : (created c name).1 ≡ c → (created d name).1 ≡ d
    refused_alike same =
        ap (λ n. (made d (nat_le max_caches n)).1) (length_alike c.caches d.caches alike.names) ∙ unmade (nat_le max_caches (length c.caches)) same

    alike_counted : (o : Option ℤ) → AreAlike (counted c o).1 (counted d o).1
    alike_counted None = alike
    alike_counted (Some minor) = record {
      names = map-append head c.caches (fresh_cache name ∷ []) ∙ ap (λ (hs : List (ℤ × List ℕ)). hs ++ head (fresh_cache name) ∷ []) alike.names ∙ sym (map-append head d.caches (fresh_cache name ∷ []));
      counts = refl;
    }

    alike_made : (b : Bool) → AreAlike (made c b).1 (made d b).1
    alike_made true = alike
    alike_made false =
        subst (λ (o : Option ℤ). AreAlike (counted c (next_count c.minor)).1 (counted d o).1) (ap next_count alike.counts) (alike_counted (next_count c.minor))

    -- and leaves them alike
    pub alike_created : AreAlike (created c name).1 (created d name).1
    alike_created =
        subst (λ n. AreAlike (created c name).1 (made d (nat_le max_caches n)).1) (sym (length_alike c.caches d.caches alike.names)) (alike_made (nat_le max_caches (length c.caches)))

heads_without : (id : ℤ) (caches others : List Cache) → map head caches ≡ map head others → map head (caches_without caches id) ≡ map head (caches_without others id)
heads_without id [] [] same = refl
heads_without id [] (b ∷ others) same = absurd (cc)
heads_without id (a ∷ caches) [] same = absurd (cc)
heads_without id (a ∷ caches) (b ∷ others) same = elim (cases_Bool (has_id id a)) [
  | inl here ↦
      let there : has_id id b ≡ true = sym (ap (int_eq id) (same_first a b caches others same)) ∙ here in
      ap (map head) (cond-true (has_id id a) caches (a ∷ caches_without caches id) here)
      ∙ same_rest a b caches others same
      ∙ sym (ap (map head) (cond-true (has_id id b) others (b ∷ caches_without others id) there))
  | inr later ↦
      let beyond : has_id id b ≡ false = sym (ap (int_eq id) (same_first a b caches others same)) ∙ later in
      ap (map head) (cond-false (has_id id a) caches (a ∷ caches_without caches id) later)
      ∙ ap (λ (hs : List (ℤ × List ℕ)). head a ∷ hs) (heads_without id caches others (same_rest a b caches others same))
      ∙ ap (λ (h : ℤ × List ℕ). h ∷ map head (caches_without others id)) (same_head a b caches others same)
      ∙ sym (ap (map head) (cond-false (has_id id b) others (b ∷ caches_without others id) beyond))
]

-- a destruction in two is one in each
module _ (id : ℤ) (c d : PlainCaches) (alike : AreAlike c d) where
  abbrev removed : PlainCaches → Option ℤ → Outcome × PlainCaches
  removed e o = option_map_or (λ (minor : ℤ). (Done, record e { caches = caches_without e.caches id; minor = minor })) o (Refused why.TooManyChanges, e)

  removed_both : (o : Option ℤ) → removed (both c d) o ≡ ((removed c o).0, both (removed c o).1 (removed d o).1)
  removed_both None = refl
  removed_both (Some minor) = ap (λ (cs : List Cache). (Done, record c { caches = cs; minor = minor })) (sym (removed_from_both id c.caches d.caches alike.names))

  pub destroyed_both : after_destroy id (both c d) ≡ ((after_destroy id c).0, both (after_destroy id c).1 (after_destroy id d).1)
  destroyed_both = by (cache_of c.caches id) refl
    where
      by : (o : Option Cache) → cache_of c.caches id ≡ o → after_destroy id (both c d) ≡ ((after_destroy id c).0, both (after_destroy id c).1 (after_destroy id d).1)
      by None none =
          destroy_none (both c d) id (missing_in_both c.caches d.caches id none)
          ∙ sym (ap₂ (λ (r s : Outcome × PlainCaches). (r.0, both r.1 s.1)) (destroy_none c id none) (destroy_none d id (missing_in_other c.caches d.caches id alike.names none)))
      by (Some cache) stands =
          let it : IsInBoth c.caches d.caches id cache = found_in_both c.caches d.caches id cache alike.names stands in
          destroy_found (both c d) id (record cache { rows = either cache.rows it.other.rows }) it.whole
          ∙ removed_both (next_count c.minor)
          ∙ ap (λ (o : Option ℤ). ((removed c (next_count c.minor)).0, both (removed c (next_count c.minor)).1 (removed d o).1)) (ap next_count alike.counts)
          ∙ sym (ap₂ (λ (r s : Outcome × PlainCaches). (r.0, both r.1 s.1)) (destroy_found c id cache stands) (destroy_found d id it.other it.stands))

  alike_removed : (o : Option ℤ) → AreAlike (removed c o).1 (removed d o).1
  alike_removed None = alike
  alike_removed (Some minor) = record { names = heads_without id c.caches d.caches alike.names; counts = refl }

  -- and leaves them alike
  pub alike_destroyed : AreAlike (after_destroy id c).1 (after_destroy id d).1
  alike_destroyed = by (cache_of c.caches id) refl
    where
      by : (o : Option Cache) → cache_of c.caches id ≡ o → AreAlike (after_destroy id c).1 (after_destroy id d).1
      by None none =
          subst (λ (r : Outcome × PlainCaches). AreAlike r.1 (after_destroy id d).1) (sym (destroy_none c id none))
          (subst (λ (r : Outcome × PlainCaches). AreAlike c r.1) (sym (destroy_none d id (missing_in_other c.caches d.caches id alike.names none))) alike)
      by (Some cache) stands =
          let it : IsInBoth c.caches d.caches id cache = found_in_both c.caches d.caches id cache alike.names stands in
          subst (λ (r : Outcome × PlainCaches). AreAlike r.1 (after_destroy id d).1) (sym (destroy_found c id cache stands))
          (subst (λ (r : Outcome × PlainCaches). AreAlike (removed c (next_count c.minor)).1 r.1) (sym (destroy_found d id it.other it.stands))
          (subst (λ (o : Option ℤ). AreAlike (removed c (next_count c.minor)).1 (removed d o).1) (ap next_count alike.counts) (alike_removed (next_count c.minor))))
