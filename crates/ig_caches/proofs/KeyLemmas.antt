-- Calls on one key.
use Rattle.std.proofs.Common.{◌≡◌, ℕ, ℤ, Bool, true, false, cond, List, [], ◌∷◌, Option, None, Some, refl, sym, ap, ◌∙◌, subst, inl, inr, option_map}
use Rattle.std.proofs.lemmas.Bool.{cases_Bool, cond-true, cond-false}
use Rattle.std.proofs.lemmas.Bool.Decides.{Decides-int_eq}
use Rattle.std.specs.Option.{option_map_or}
use Rattle.std.specs.Ordering.{int_eq}
use Rattle.std.specs.Cmp.Lexicographic.{nat_list_cmp_total}
use Rattle.std.specs.FinMap as finite
use Rattle.ig_value.specs.declared.value.Value.{Value}
use Rattle.ig_value.specs.Canon.{Canon}
use Rattle.ig_caches.specs.declared.call.Pair.{Pair}
use Rattle.ig_caches.specs.declared.answer.Answer.{Answer}
use Rattle.ig_caches.specs.declared.answer.Why.TheVariants.{NoCache}
use Rattle.ig_caches.specs.declared.answer.Outcome.{Outcome}
use Rattle.ig_caches.specs.declared.answer.Outcome.TheVariants.{Done, Found, Refused}
use Rattle.ig_caches.specs.Rows.{Rows, value_of}
use Rattle.ig_caches.specs.PlainCaches.{Cache, PlainCaches, has_id, cache_of, caches_with_rows}
use Rattle.ig_caches.specs.Effect.{Change, or_null, keep, store, remove, changed, at_key, Effect, on_rows, effect}
use Rattle.ig_caches.specs.Answered.{with_rows_at, ran, after, answered}
use Rattle.ig_caches.specs.Laws.{GetFindsWhatWasPut, AreApart, CallsApartCommute}
use Rattle.ig_caches.proofs.RowEntryLemmas.{ties, tied_same, same_tied, same_rows}

-- ---- the rows of caches
-- the cache with the rows
abbrev pub with_rows_in : Rows → Cache → Cache
with_rows_in rows cache = record cache { rows = rows }

pub found_with : (caches : List Cache) (id : ℤ) (rows : Rows) → cache_of (caches_with_rows caches id rows) id ≡ option_map (with_rows_in rows) (cache_of caches id)
found_with [] id rows = refl
found_with (cache ∷ caches) id rows = elim (cases_Bool (has_id id cache)) [
  | inl here ↦
      ap (λ (cs : List Cache). cache_of cs id) (cond-true (has_id id cache) _ _ here) ∙ cond-true (has_id id cache) _ _ here
      ∙ sym (ap (option_map (with_rows_in rows)) (cond-true (has_id id cache) (Some cache) (cache_of caches id) here))
  | inr later ↦
      ap (λ (cs : List Cache). cache_of cs id) (cond-false (has_id id cache) _ _ later) ∙ cond-false (has_id id cache) _ _ later ∙ found_with caches id rows
      ∙ sym (ap (option_map (with_rows_in rows)) (cond-false (has_id id cache) (Some cache) (cache_of caches id) later))
]

same_id : (a b : ℤ) → int_eq a b ≡ true → a ≡ b
same_id a b = (Decides-int_eq a b).0

-- two identifiers that differ aren't both those of a cache
not_both : (id other : ℤ) (cache : Cache) → ¬ (id ≡ other) → has_id id cache ≡ true → has_id other cache ≡ true → ⊥
not_both id other cache apart a b = apart (same_id id cache.id a ∙ sym (same_id other cache.id b))

pub found_without : (caches : List Cache) (id other : ℤ) (rows : Rows) → ¬ (id ≡ other) → cache_of (caches_with_rows caches id rows) other ≡ cache_of caches other
found_without [] id other rows apart = refl
found_without (cache ∷ caches) id other rows apart = elim (cases_Bool (has_id id cache)) [
  | inl here ↦ elim (cases_Bool (has_id other cache)) [
    | inl both ↦ absurd (not_both id other cache apart here both)
    | inr not ↦
        ap (λ (cs : List Cache). cache_of cs other) (cond-true (has_id id cache) _ _ here)
        ∙ cond-false (has_id other cache) _ _ not ∙ sym (cond-false (has_id other cache) _ _ not)
  ]
  | inr later ↦
      ap (λ (cs : List Cache). cache_of cs other) (cond-false (has_id id cache) _ _ later)
      ∙ ap (λ (o : Option Cache). cond (has_id other cache) (Some cache) o) (found_without caches id other rows apart)
]

pub with_twice : (caches : List Cache) (id : ℤ) (rows others : Rows) → caches_with_rows (caches_with_rows caches id rows) id others ≡ caches_with_rows caches id others
with_twice [] id rows others = refl
with_twice (cache ∷ caches) id rows others = elim (cases_Bool (has_id id cache)) [
  | inl here ↦
      ap (λ (cs : List Cache). caches_with_rows cs id others) (cond-true (has_id id cache) _ _ here) ∙ cond-true (has_id id cache) _ _ here
      ∙ sym (cond-true (has_id id cache) _ _ here)
  | inr later ↦
      ap (λ (cs : List Cache). caches_with_rows cs id others) (cond-false (has_id id cache) _ _ later) ∙ cond-false (has_id id cache) _ _ later
      ∙ ap (λ (cs : List Cache). cache ∷ cs) (with_twice caches id rows others) ∙ sym (cond-false (has_id id cache) _ _ later)
]

pub with_either : (caches : List Cache) (id other : ℤ) (rows others : Rows) → ¬ (id ≡ other)
    → caches_with_rows (caches_with_rows caches id rows) other others ≡ caches_with_rows (caches_with_rows caches other others) id rows
with_either [] id other rows others apart = refl
with_either (cache ∷ caches) id other rows others apart = elim (cases_Bool (has_id id cache)) [
  | inl here ↦ elim (cases_Bool (has_id other cache)) [
    | inl both ↦ absurd (not_both id other cache apart here both)
    | inr not ↦
        ap (λ (cs : List Cache). caches_with_rows cs other others) (cond-true (has_id id cache) _ _ here) ∙ cond-false (has_id other cache) _ _ not
        ∙ sym (ap (λ (cs : List Cache). caches_with_rows cs id rows) (cond-false (has_id other cache) _ _ not) ∙ cond-true (has_id id cache) _ _ here)
  ]
  | inr later ↦ elim (cases_Bool (has_id other cache)) [
    | inl here ↦
        ap (λ (cs : List Cache). caches_with_rows cs other others) (cond-false (has_id id cache) _ _ later) ∙ cond-true (has_id other cache) _ _ here
        ∙ sym (ap (λ (cs : List Cache). caches_with_rows cs id rows) (cond-true (has_id other cache) _ _ here) ∙ cond-false (has_id id cache) _ _ later)
    | inr not ↦
        ap (λ (cs : List Cache). caches_with_rows cs other others) (cond-false (has_id id cache) _ _ later) ∙ cond-false (has_id other cache) _ _ not
        ∙ ap (λ (cs : List Cache). cache ∷ cs) (with_either caches id other rows others apart)
        ∙ sym (ap (λ (cs : List Cache). caches_with_rows cs id rows) (cond-false (has_id other cache) _ _ not) ∙ cond-false (has_id id cache) _ _ later)
  ]
]

-- ---- the row of one key
-- what becomes of the row of the key
abbrev row_after : Value → Change → Option Pair → Option Pair
row_after key keep row = row
row_after key (store value) row = Some (record { key = key; value = value })
row_after key remove row = None

get-changed : (rows : Rows) (key : Value) (change : Change) (q : List ℕ) → finite.get (changed rows key change) q ≡ cond (ties q (Canon key)) (row_after key change (finite.get rows q)) (finite.get rows q)
get-changed rows key keep q = elim (cases_Bool (ties q (Canon key))) [
  | inl tied ↦ sym (cond-true (ties q (Canon key)) _ _ tied)
  | inr other ↦ sym (cond-false (ties q (Canon key)) _ _ other)
]
get-changed rows key (store value) q = finite.get-insert nat_list_cmp_total rows (Canon key) (record { key = key; value = value }) q
get-changed rows key remove q = finite.get-remove nat_list_cmp_total rows (Canon key) q

pub changed_elsewhere : (rows : Rows) (key : Value) (change : Change) (q : List ℕ) → ¬ (Canon key ≡ q) → finite.get (changed rows key change) q ≡ finite.get rows q
changed_elsewhere rows key change q apart = elim (cases_Bool (ties q (Canon key))) [
  | inl tied ↦ absurd (apart (sym (tied_same q (Canon key) tied)))
  | inr other ↦ get-changed rows key change q ∙ cond-false (ties q (Canon key)) _ _ other
]

-- two tests of which only one can pass
either : {X : Type 0} (a b : Bool) (f g : X → X) (x : X) → (a ≡ true → b ≡ true → ⊥) → cond b (g (cond a (f x) x)) (cond a (f x) x) ≡ cond a (f (cond b (g x) x)) (cond b (g x) x)
either true true f g x never = absurd (never refl refl)
either true false f g x never = refl
either false true f g x never = refl
either false false f g x never = refl

changed_either : (rows : Rows) (key other : Value) (change change' : Change) → ¬ (Canon key ≡ Canon other) → changed (changed rows key change) other change' ≡ changed (changed rows other change') key change
changed_either rows key other change change' apart = same_rows _ _ (λ q.
    get-changed (changed rows key change) other change' q
    ∙ ap (λ (o : Option Pair). cond (ties q (Canon other)) (row_after other change' o) o) (get-changed rows key change q)
    ∙ either (ties q (Canon key)) (ties q (Canon other)) (row_after key change) (row_after other change') (finite.get rows q)
    (λ a b. apart (sym (tied_same q (Canon key) a) ∙ tied_same q (Canon other) b))
    ∙ sym (get-changed (changed rows other change') key change q ∙ ap (λ (o : Option Pair). cond (ties q (Canon key)) (row_after key change o) o) (get-changed rows other change' q)))

-- ---- two calls
pub ran_none : (c : PlainCaches) (id : ℤ) (f : Rows → Outcome × Rows) → cache_of c.caches id ≡ None → ran c (on_rows id f) ≡ (Refused NoCache, c)
ran_none c id f none = ap (λ (o : Option Cache). option_map_or (λ (cache : Cache). with_rows_at c id (f cache.rows)) o (Refused NoCache, c)) none

pub ran_some : (c : PlainCaches) (id : ℤ) (f : Rows → Outcome × Rows) (cache : Cache) → cache_of c.caches id ≡ Some cache → ran c (on_rows id f) ≡ with_rows_at c id (f cache.rows)
ran_some c id f cache some = ap (λ (o : Option Cache). option_map_or (λ (cache : Cache). with_rows_at c id (f cache.rows)) o (Refused NoCache, c)) some

-- two effects come in either order
record Commutes (c : PlainCaches) (first second : Effect) : Type 0 where
  leaves : (ran (ran c first).1 second).1 ≡ (ran (ran c second).1 first).1
  answers : (ran (ran c first).1 second).0 ≡ (ran c second).0
  and_other : (ran (ran c second).1 first).0 ≡ (ran c first).0

turned : (c : PlainCaches) (first second : Effect) → Commutes c first second → Commutes c second first
turned c first second it = record { leaves = sym it.leaves; answers = it.and_other; and_other = it.answers }

module _ (c : PlainCaches) (id other : ℤ) (f g : Rows → Outcome × Rows) where
  -- a call on a cache that isn't there
  none_first : cache_of c.caches id ≡ None → ¬ (id ≡ other) → Commutes c (on_rows id f) (on_rows other g)
  none_first none apart =
      let before : ran c (on_rows id f) ≡ (Refused NoCache, c) = ran_none c id f none in
      let still : ran (ran c (on_rows other g)).1 (on_rows id f) ≡ (Refused NoCache, (ran c (on_rows other g)).1) =
      ran_none (ran c (on_rows other g)).1 id f (by (cache_of c.caches other) refl) in
      record {
        leaves = ap (λ (r : Outcome × PlainCaches). (ran r.1 (on_rows other g)).1) before ∙ sym (ap (λ (r : Outcome × PlainCaches). r.1) still);
        answers = ap (λ (r : Outcome × PlainCaches). (ran r.1 (on_rows other g)).0) before;
        and_other = ap (λ (r : Outcome × PlainCaches). r.0) still ∙ sym (ap (λ (r : Outcome × PlainCaches). r.0) before);
      }
    where
      by : (o : Option Cache) → cache_of c.caches other ≡ o → cache_of (ran c (on_rows other g)).1.caches id ≡ None
      by None is = ap (λ (r : Outcome × PlainCaches). cache_of r.1.caches id) (ran_none c other g is) ∙ none
      by (Some cache) is =
          ap (λ (r : Outcome × PlainCaches). cache_of r.1.caches id) (ran_some c other g cache is)
          ∙ found_without c.caches other id (g cache.rows).1 (λ e. apart (sym e)) ∙ none

  -- calls on two caches
  two_caches : (cache cache' : Cache) → cache_of c.caches id ≡ Some cache → cache_of c.caches other ≡ Some cache' → ¬ (id ≡ other) → Commutes c (on_rows id f) (on_rows other g)
  two_caches cache cache' is is' apart =
      let r : Outcome × Rows = f cache.rows in
      let s : Outcome × Rows = g cache'.rows in
      let a : ran c (on_rows id f) ≡ with_rows_at c id r = ran_some c id f cache is in
      let b : ran c (on_rows other g) ≡ with_rows_at c other s = ran_some c other g cache' is' in
      let ab : ran (ran c (on_rows id f)).1 (on_rows other g) ≡ with_rows_at (with_rows_at c id r).1 other s =
      ap (λ (x : Outcome × PlainCaches). ran x.1 (on_rows other g)) a
      ∙ ran_some (with_rows_at c id r).1 other g cache' (found_without c.caches id other r.1 apart ∙ is') in
      let ba : ran (ran c (on_rows other g)).1 (on_rows id f) ≡ with_rows_at (with_rows_at c other s).1 id r =
      ap (λ (x : Outcome × PlainCaches). ran x.1 (on_rows id f)) b
      ∙ ran_some (with_rows_at c other s).1 id f cache (found_without c.caches other id s.1 (λ e. apart (sym e)) ∙ is) in
      record {
        leaves = ap (λ (x : Outcome × PlainCaches). x.1) ab
            ∙ ap (λ (cs : List Cache). record c { caches = cs }) (with_either c.caches id other r.1 s.1 apart)
            ∙ sym (ap (λ (x : Outcome × PlainCaches). x.1) ba);
        answers = ap (λ (x : Outcome × PlainCaches). x.0) ab ∙ sym (ap (λ (x : Outcome × PlainCaches). x.0) b);
        and_other = ap (λ (x : Outcome × PlainCaches). x.0) ba ∙ sym (ap (λ (x : Outcome × PlainCaches). x.0) a);
      }

different : (c : PlainCaches) (id other : ℤ) (f g : Rows → Outcome × Rows) → ¬ (id ≡ other) → Commutes c (on_rows id f) (on_rows other g)
different c id other f g apart = by (cache_of c.caches id) refl (cache_of c.caches other) refl
  where
    by : (o : Option Cache) → cache_of c.caches id ≡ o → (p : Option Cache) → cache_of c.caches other ≡ p → Commutes c (on_rows id f) (on_rows other g)
    by None is p is' = none_first c id other f g is apart
    by (Some cache) is (Some cache') is' = two_caches c id other f g cache cache' is is' apart
    by (Some cache) is None is' = turned c (on_rows other g) (on_rows id f) (none_first c other id g f is' (λ e. apart (sym e)))

-- calls on two keys of one cache
module _ (c : PlainCaches) (id : ℤ) (key other : Value) (does does' : Option Value → Outcome × Change) (apart : ¬ (Canon key ≡ Canon other)) where
  unchanged : (rows : Rows) (change : Change) → value_of (changed rows key change) other ≡ value_of rows other
  unchanged rows change = ap (option_map (λ (row : Pair). row.value)) (changed_elsewhere rows key change (Canon other) apart)

  unchanged' : (rows : Rows) (change : Change) → value_of (changed rows other change) key ≡ value_of rows key
  unchanged' rows change = ap (option_map (λ (row : Pair). row.value)) (changed_elsewhere rows other change (Canon key) (λ e. apart (sym e)))

  two_keys : (cache : Cache) → cache_of c.caches id ≡ Some cache → Commutes c (on_rows id (at_key key does)) (on_rows id (at_key other does'))
  two_keys cache is =
      let rows : Rows = cache.rows in
      let f : Rows → Outcome × Rows = at_key key does in
      let g : Rows → Outcome × Rows = at_key other does' in
      let r : Outcome × Rows = f rows in
      let s : Outcome × Rows = g rows in
      let change : Change = (does (value_of rows key)).1 in
      let change' : Change = (does' (value_of rows other)).1 in
      let a : ran c (on_rows id f) ≡ with_rows_at c id r = ran_some c id f cache is in
      let b : ran c (on_rows id g) ≡ with_rows_at c id s = ran_some c id g cache is in
      let ab : ran (ran c (on_rows id f)).1 (on_rows id g) ≡ with_rows_at (with_rows_at c id r).1 id (g r.1) =
      ap (λ (x : Outcome × PlainCaches). ran x.1 (on_rows id g)) a
      ∙ ran_some (with_rows_at c id r).1 id g (with_rows_in r.1 cache) (found_with c.caches id r.1 ∙ ap (option_map (with_rows_in r.1)) is) in
      let ba : ran (ran c (on_rows id g)).1 (on_rows id f) ≡ with_rows_at (with_rows_at c id s).1 id (f s.1) =
      ap (λ (x : Outcome × PlainCaches). ran x.1 (on_rows id f)) b
      ∙ ran_some (with_rows_at c id s).1 id f (with_rows_in s.1 cache) (found_with c.caches id s.1 ∙ ap (option_map (with_rows_in s.1)) is) in
      let same : (g r.1).1 ≡ (f s.1).1 =
      ap (λ (v : Option Value). changed r.1 other (does' v).1) (unchanged rows change)
      ∙ changed_either rows key other change change' apart
      ∙ sym (ap (λ (v : Option Value). changed s.1 key (does v).1) (unchanged' rows change')) in
      record {
        leaves = ap (λ (x : Outcome × PlainCaches). x.1) ab
            ∙ ap (λ (cs : List Cache). record c { caches = cs }) (with_twice c.caches id r.1 (g r.1).1 ∙ ap (caches_with_rows c.caches id) same ∙ sym (with_twice c.caches id s.1 (f s.1).1))
            ∙ sym (ap (λ (x : Outcome × PlainCaches). x.1) ba);
        answers = ap (λ (x : Outcome × PlainCaches). x.0) ab ∙ ap (λ (v : Option Value). (does' v).0) (unchanged rows change) ∙ sym (ap (λ (x : Outcome × PlainCaches). x.0) b);
        and_other = ap (λ (x : Outcome × PlainCaches). x.0) ba ∙ ap (λ (v : Option Value). (does v).0) (unchanged' rows change') ∙ sym (ap (λ (x : Outcome × PlainCaches). x.0) a);
      }

  same_cache : Commutes c (on_rows id (at_key key does)) (on_rows id (at_key other does'))
  same_cache = by (cache_of c.caches id) refl
    where
      by : (o : Option Cache) → cache_of c.caches id ≡ o → Commutes c (on_rows id (at_key key does)) (on_rows id (at_key other does'))
      by (Some cache) is = two_keys cache is
      by None is =
          let a : ran c (on_rows id (at_key key does)) ≡ (Refused NoCache, c) = ran_none c id (at_key key does) is in
          let b : ran c (on_rows id (at_key other does')) ≡ (Refused NoCache, c) = ran_none c id (at_key other does') is in
          let ab : ran (ran c (on_rows id (at_key key does))).1 (on_rows id (at_key other does')) ≡ (Refused NoCache, c) =
          ap (λ (x : Outcome × PlainCaches). ran x.1 (on_rows id (at_key other does'))) a ∙ b in
          let ba : ran (ran c (on_rows id (at_key other does'))).1 (on_rows id (at_key key does)) ≡ (Refused NoCache, c) =
          ap (λ (x : Outcome × PlainCaches). ran x.1 (on_rows id (at_key key does))) b ∙ a in
          record {
            leaves = ap (λ (x : Outcome × PlainCaches). x.1) (ab ∙ sym ba);
            answers = ap (λ (x : Outcome × PlainCaches). x.0) (ab ∙ sym b);
            and_other = ap (λ (x : Outcome × PlainCaches). x.0) (ba ∙ sym a);
          }

apart_commute : (c : PlainCaches) (id other_id : ℤ) (key other : Value) (does does' : Option Value → Outcome × Change) → AreApart id key other_id other
    → Commutes c (on_rows id (at_key key does)) (on_rows other_id (at_key other does'))
apart_commute c id other_id key other does does' (inl ids) = different c id other_id (at_key key does) (at_key other does') ids
apart_commute c id other_id key other does does' (inr keys) = elim (cases_Bool (int_eq id other_id)) [
  | inl same ↦
      subst (λ (i : ℤ). Commutes c (on_rows id (at_key key does)) (on_rows i (at_key other does'))) (same_id id other_id same) (same_cache c id key other does does' keys)
  | inr apart ↦
      different c id other_id (at_key key does) (at_key other does') (λ e. let yes : int_eq id other_id ≡ true = (Decides-int_eq id other_id).1 e in let no : true ≡ false = sym yes ∙ apart in cc)
]

-- a call on rows counts no change
minor_stays : (c : PlainCaches) (id : ℤ) (f : Rows → Outcome × Rows) → (ran c (on_rows id f)).1.minor ≡ c.minor
minor_stays c id f = by (cache_of c.caches id) refl
  where
    by : (o : Option Cache) → cache_of c.caches id ≡ o → (ran c (on_rows id f)).1.minor ≡ c.minor
    by None is = ap (λ (r : Outcome × PlainCaches). r.1.minor) (ran_none c id f is)
    by (Some cache) is = ap (λ (r : Outcome × PlainCaches). r.1.minor) (ran_some c id f cache is)

-- an answer is its count and its outcome
same_answer : (a b : Answer) → a.minor ≡ b.minor → a.outcome ≡ b.outcome → a ≡ b
same_answer a b minor outcome = λ i. record { minor = minor i; outcome = outcome i }

pub calls_commute : CallsApartCommute
calls_commute c call other id other_id key other_key on on' apart =
    let first : Effect = on_rows id (at_key key on.does) in
    let second : Effect = on_rows other_id (at_key other_key on'.does) in
    let it : Commutes c first second = apart_commute c id other_id key other_key on.does on'.does apart in
    let a : (ran (after c call) (effect other)) ≡ ran (ran c first).1 second = λ i. ran (ran c (on.is i)).1 (on'.is i) in
    let b : (ran (after c other) (effect call)) ≡ ran (ran c second).1 first = λ i. ran (ran c (on'.is i)).1 (on.is i) in
    let f : ran c (effect call) ≡ ran c first = ap (ran c) on.is in
    let s : ran c (effect other) ≡ ran c second = ap (ran c) on'.is in (
      ap (λ (r : Outcome × PlainCaches). r.1) a ∙ it.leaves ∙ sym (ap (λ (r : Outcome × PlainCaches). r.1) b),
      same_answer (answered (after c call) other) (answered c other)
          (ap (λ (r : Outcome × PlainCaches). r.1.minor) a ∙ minor_stays (ran c first).1 other_id (at_key other_key on'.does) ∙ minor_stays c id (at_key key on.does)
          ∙ sym (ap (λ (r : Outcome × PlainCaches). r.1.minor) s ∙ minor_stays c other_id (at_key other_key on'.does)))
          (ap (λ (r : Outcome × PlainCaches). r.0) a ∙ it.answers ∙ sym (ap (λ (r : Outcome × PlainCaches). r.0) s)),
      same_answer (answered (after c other) call) (answered c call)
          (ap (λ (r : Outcome × PlainCaches). r.1.minor) b ∙ minor_stays (ran c second).1 id (at_key key on.does) ∙ minor_stays c other_id (at_key other_key on'.does)
          ∙ sym (ap (λ (r : Outcome × PlainCaches). r.1.minor) f ∙ minor_stays c id (at_key key on.does)))
          (ap (λ (r : Outcome × PlainCaches). r.0) b ∙ it.and_other ∙ sym (ap (λ (r : Outcome × PlainCaches). r.0) f)),
    )

-- ---- a get after a put
pub found_what_was_put : GetFindsWhatWasPut
found_what_was_put c id cache key other value is same =
    let row : Pair = record { key = key; value = value } in
    let put : Outcome × Rows = at_key key (λ v. (Done, store value)) cache.rows in
    let get : Rows → Outcome × Rows = at_key other (λ v. (Found (or_null v), keep)) in
    let found : value_of put.1 other ≡ Some value =
    ap (option_map (λ (row : Pair). row.value))
    (finite.get-insert nat_list_cmp_total cache.rows (Canon key) row (Canon other) ∙ cond-true (ties (Canon other) (Canon key)) _ _ (same_tied (Canon other) (Canon key) same)) in
    ap (λ (r : Outcome × PlainCaches). (ran r.1 (on_rows id get)).0) (ran_some c id (at_key key (λ v. (Done, store value))) cache is)
    ∙ ap (λ (r : Outcome × PlainCaches). r.0) (ran_some (with_rows_at c id put).1 id get (with_rows_in put.1 cache) (found_with c.caches id put.1 ∙ ap (option_map (with_rows_in put.1)) is))
    ∙ ap (λ (v : Option Value). Found (or_null v)) found
