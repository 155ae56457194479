-- Caches with the rows of two shards.
use Rattle.std.proofs.Common.{◌≡◌, ℕ, ℤ, pos, true, false, List, [], ◌∷◌, map, All, Option, None, Some, refl, sym, ap, ◌∙◌, subst, inl, inr}
use Rattle.std.proofs.lemmas.Bool.{cases_Bool, cond-true, cond-false}
use Rattle.std.proofs.lemmas.List.Elements.{All-cons, All-head, All-tail}
use Rattle.std.specs.Ordering.{int_eq}
use Rattle.std.specs.FinMap as finite
use Rattle.ig_value.specs.declared.value.Value.{Value}
use Rattle.ig_value.specs.Canon.{Canon}
use Rattle.ig_caches.specs.declared.answer.Outcome.{Outcome}
use Rattle.ig_caches.specs.Rows.{Rows}
use Rattle.ig_caches.specs.PlainCaches.{Cache, PlainCaches, has_id, cache_of, caches_with_rows}
use Rattle.ig_caches.specs.Effect.{Effect, Change, on_rows, at_key}
use Rattle.ig_caches.specs.Answered.{with_rows_at, ran}
use Rattle.ig_caches.proofs.KeyLemmas.{ran_none, ran_some}
use Rattle.ig_caches.proofs.CacheLemmas.{with_own}
use Rattle.ig_shards.specs.Spread.{either}
use Rattle.ig_shards.specs.Parts.{beside, both, heads}
use Rattle.ig_shards.proofs.SpreadLemmas.{get_second, at_key_first, at_key_second}

abbrev pub head : Cache → ℤ × List ℕ
head cache = (cache.id, cache.name)

no_head : ℤ × List ℕ
no_head = (pos 0, [])

first_of : List (ℤ × List ℕ) → ℤ × List ℕ
first_of [] = no_head
first_of (h ∷ hs) = h

rest_of : List (ℤ × List ℕ) → List (ℤ × List ℕ)
rest_of [] = []
rest_of (h ∷ hs) = hs

-- caches with the same heads, beginning with a cache, begin with one of the same identifier
pub same_first : (a b : Cache) (caches others : List Cache) → map head (a ∷ caches) ≡ map head (b ∷ others) → a.id ≡ b.id
unfolding first_of
same_first a b caches others same = ap (λ hs. (first_of hs).0) same

pub same_head : (a b : Cache) (caches others : List Cache) → map head (a ∷ caches) ≡ map head (b ∷ others) → head a ≡ head b
unfolding first_of
same_head a b caches others same = ap first_of same

pub same_rest : (a b : Cache) (caches others : List Cache) → map head (a ∷ caches) ≡ map head (b ∷ others) → map head caches ≡ map head others
unfolding rest_of
same_rest a b caches others same = ap rest_of same

-- ---- lists of caches
pub beside_none : (caches : List Cache) → beside caches [] ≡ caches
beside_none [] = refl
beside_none (cache ∷ caches) = refl

pub beside_heads : (caches others : List Cache) → map head (beside caches others) ≡ map head caches
beside_heads [] others = refl
beside_heads (cache ∷ caches) [] = refl
beside_heads (cache ∷ caches) (other ∷ others) = ap (λ hs. head cache ∷ hs) (beside_heads caches others)

-- a cache of two shards, of which the first has this one
pub record IsInBoth (caches others : List Cache) (id : ℤ) (cache : Cache) : Type 0 where
  pub other : Cache
  pub stands : cache_of others id ≡ Some other
  pub whole : cache_of (beside caches others) id ≡ Some (record cache { rows = either cache.rows other.rows })

pub found_in_both : (caches others : List Cache) (id : ℤ) (cache : Cache) → map head caches ≡ map head others → cache_of caches id ≡ Some cache → IsInBoth caches others id cache
found_in_both [] others id cache same found = absurd (cc)
found_in_both (a ∷ caches) [] id cache same found = absurd (cc)
found_in_both (a ∷ caches) (b ∷ others) id cache same found = elim (cases_Bool (has_id id a)) [
  | inl here ↦
      let one : Some a ≡ Some cache = sym (cond-true (has_id id a) _ _ here) ∙ found in
      let is : a ≡ cache = cc in
      let there : has_id id b ≡ true = sym (ap (int_eq id) (same_first a b caches others same)) ∙ here in
      record {
        other = b;
        stands = cond-true (has_id id b) _ _ there;
        whole = cond-true (has_id id a) _ _ here ∙ ap (λ (k : Cache). Some (record k { rows = either k.rows b.rows })) is;
      }
  | inr later ↦
      let beyond : has_id id b ≡ false = sym (ap (int_eq id) (same_first a b caches others same)) ∙ later in
      let it : IsInBoth caches others id cache = found_in_both caches others id cache (same_rest a b caches others same) (sym (cond-false (has_id id a) _ _ later) ∙ found) in
      record {
        other = it.other;
        stands = cond-false (has_id id b) _ _ beyond ∙ it.stands;
        whole = cond-false (has_id id a) _ _ later ∙ it.whole;
      }
]

pub missing_in_both : (caches others : List Cache) (id : ℤ) → cache_of caches id ≡ None → cache_of (beside caches others) id ≡ None
missing_in_both [] others id none = refl
missing_in_both (a ∷ caches) [] id none = none
missing_in_both (a ∷ caches) (b ∷ others) id none = elim (cases_Bool (has_id id a)) [
  | inl here ↦ let never : Some a ≡ None = sym (cond-true (has_id id a) _ _ here) ∙ none in absurd (cc)
  | inr later ↦
      cond-false (has_id id a) _ _ later ∙ missing_in_both caches others id (sym (cond-false (has_id id a) _ _ later) ∙ none)
]

pub missing_in_other : (caches others : List Cache) (id : ℤ) → map head caches ≡ map head others → cache_of caches id ≡ None → cache_of others id ≡ None
missing_in_other [] [] id same none = refl
missing_in_other [] (b ∷ others) id same none = absurd (cc)
missing_in_other (a ∷ caches) [] id same none = absurd (cc)
missing_in_other (a ∷ caches) (b ∷ others) id same none = elim (cases_Bool (has_id id a)) [
  | inl here ↦ let never : Some a ≡ None = sym (cond-true (has_id id a) _ _ here) ∙ none in absurd (cc)
  | inr later ↦
      let beyond : has_id id b ≡ false = sym (ap (int_eq id) (same_first a b caches others same)) ∙ later in
      cond-false (has_id id b) _ _ beyond ∙ missing_in_other caches others id (same_rest a b caches others same) (sym (cond-false (has_id id a) _ _ later) ∙ none)
]

-- other rows in both are other rows in each
pub rows_in_both : (caches others : List Cache) (id : ℤ) (rows more : Rows) → map head caches ≡ map head others
    → caches_with_rows (beside caches others) id (either rows more) ≡ beside (caches_with_rows caches id rows) (caches_with_rows others id more)
rows_in_both [] others id rows more same = refl
rows_in_both (a ∷ caches) [] id rows more same = absurd (cc)
rows_in_both (a ∷ caches) (b ∷ others) id rows more same = elim (cases_Bool (has_id id a)) [
  | inl here ↦
      let there : has_id id b ≡ true = sym (ap (int_eq id) (same_first a b caches others same)) ∙ here in
      cond-true (has_id id a) _ _ here
      ∙ sym (ap (λ cs. beside cs (caches_with_rows (b ∷ others) id more)) (cond-true (has_id id a) (record a { rows = rows } ∷ caches) (a ∷ caches_with_rows caches id rows) here)
      ∙ ap (λ cs. beside (record a { rows = rows } ∷ caches) cs) (cond-true (has_id id b) (record b { rows = more } ∷ others) (b ∷ caches_with_rows others id more) there))
  | inr later ↦
      let beyond : has_id id b ≡ false = sym (ap (int_eq id) (same_first a b caches others same)) ∙ later in
      cond-false (has_id id a) _ _ later
      ∙ ap (λ cs. record a { rows = either a.rows b.rows } ∷ cs) (rows_in_both caches others id rows more (same_rest a b caches others same))
      ∙ sym (ap (λ cs. beside cs (caches_with_rows (b ∷ others) id more)) (cond-false (has_id id a) (record a { rows = rows } ∷ caches) (a ∷ caches_with_rows caches id rows) later)
      ∙ ap (λ cs. beside (a ∷ caches_with_rows caches id rows) cs) (cond-false (has_id id b) (record b { rows = more } ∷ others) (b ∷ caches_with_rows others id more) beyond))
]

-- ---- rows of caches
-- the caches have no row of these bytes
abbrev pub HaveNone : List ℕ → List Cache → Type 0
HaveNone form caches = All (λ (cache : Cache). finite.get cache.rows form ≡ None) caches

pub none_in_both : (form : List ℕ) (caches others : List Cache) → HaveNone form caches → HaveNone form others → HaveNone form (beside caches others)
none_in_both form [] others none more = none
none_in_both form (a ∷ caches) [] none more = none
none_in_both form (a ∷ caches) (b ∷ others) none more =
    let P : Cache → Type 0 = λ cache. finite.get cache.rows form ≡ None in
    All-cons P (record a { rows = either a.rows b.rows }) (beside caches others)
    (get_second a.rows b.rows form (All-head P a caches none) ∙ All-head P b others more)
    (none_in_both form caches others (All-tail P a caches none) (All-tail P b others more))

-- what holds of each cache holds of the one that is found
pub all_found : (P : Cache → Type 0) (caches : List Cache) (id : ℤ) (cache : Cache) → All P caches → cache_of caches id ≡ Some cache → P cache
all_found P [] id cache all found = absurd (cc)
all_found P (a ∷ caches) id cache all found = elim (cases_Bool (has_id id a)) [
  | inl here ↦
      let one : Some a ≡ Some cache = sym (cond-true (has_id id a) _ _ here) ∙ found in
      let is : a ≡ cache = cc in
      subst P is (All-head P a caches all)
  | inr later ↦ all_found P caches id cache (All-tail P a caches all) (sym (cond-false (has_id id a) _ _ later) ∙ found)
]

-- what holds of each cache, and of these rows in any, holds of each with these rows
pub all_with_rows : (P : Rows → Type 0) (caches : List Cache) (id : ℤ) (rows : Rows) → All (λ (cache : Cache). P cache.rows) caches → P rows
    → All (λ (cache : Cache). P cache.rows) (caches_with_rows caches id rows)
all_with_rows P [] id rows all it = all
all_with_rows P (a ∷ caches) id rows all it =
    let Q : Cache → Type 0 = λ cache. P cache.rows in
    elim (cases_Bool (has_id id a)) [
      | inl here ↦
          subst (All Q) (sym (cond-true (has_id id a) (record a { rows = rows } ∷ caches) (a ∷ caches_with_rows caches id rows) here))
          (All-cons Q (record a { rows = rows }) caches it (All-tail Q a caches all))
      | inr later ↦
          subst (All Q) (sym (cond-false (has_id id a) (record a { rows = rows } ∷ caches) (a ∷ caches_with_rows caches id rows) later))
          (All-cons Q a (caches_with_rows caches id rows) (All-head Q a caches all) (all_with_rows P caches id rows (All-tail Q a caches all) it))
    ]

pub heads_with_rows : (caches : List Cache) (id : ℤ) (rows : Rows) → map head (caches_with_rows caches id rows) ≡ map head caches
heads_with_rows [] id rows = refl
heads_with_rows (a ∷ caches) id rows = elim (cases_Bool (has_id id a)) [
  | inl here ↦ ap (map head) (cond-true (has_id id a) (record a { rows = rows } ∷ caches) (a ∷ caches_with_rows caches id rows) here)
  | inr later ↦
      ap (map head) (cond-false (has_id id a) (record a { rows = rows } ∷ caches) (a ∷ caches_with_rows caches id rows) later)
      ∙ ap (λ hs. head a ∷ hs) (heads_with_rows caches id rows)
]

-- ---- a call on one key
module _ (c d : PlainCaches) (id : ℤ) (key : Value) (f : Option Value → Outcome × Change) (same : heads c ≡ heads d) where
  abbrev call_on : Effect
  call_on = on_rows id (at_key key f)

  -- that the second has no row of does with both what it does with the first
  pub key_first : HaveNone (Canon key) d.caches → ran (both c d) call_on ≡ ((ran c call_on).0, both (ran c call_on).1 d)
  key_first none = by (cache_of c.caches id) refl
    where
      by : (o : Option Cache) → cache_of c.caches id ≡ o → ran (both c d) call_on ≡ ((ran c call_on).0, both (ran c call_on).1 d)
      by None is =
          ran_none (both c d) id (at_key key f) (missing_in_both c.caches d.caches id is)
          ∙ sym (ap (λ (r : Outcome × PlainCaches). (r.0, both r.1 d)) (ran_none c id (at_key key f) is))
      by (Some cache) is =
          let it : IsInBoth c.caches d.caches id cache = found_in_both c.caches d.caches id cache same is in
          let none_there : finite.get it.other.rows (Canon key) ≡ None = all_found (λ (k : Cache). finite.get k.rows (Canon key) ≡ None) d.caches id it.other none it.stands in
          let left : Outcome × Rows = at_key key f cache.rows in
          let here : beside (caches_with_rows c.caches id left.1) (caches_with_rows d.caches id it.other.rows) ≡ beside (caches_with_rows c.caches id left.1) d.caches =
          ap (beside (caches_with_rows c.caches id left.1)) (with_own d.caches id it.other it.stands) in
          ran_some (both c d) id (at_key key f) (record cache { rows = either cache.rows it.other.rows }) it.whole
          ∙ ap (λ (r : Outcome × Rows). with_rows_at (both c d) id r) (at_key_first key f cache.rows it.other.rows none_there)
          ∙ ap (λ (cs : List Cache). (left.0, record c { caches = cs })) (rows_in_both c.caches d.caches id left.1 it.other.rows same ∙ here)
          ∙ sym (ap (λ (r : Outcome × PlainCaches). (r.0, both r.1 d)) (ran_some c id (at_key key f) cache is))

  -- and one that the first has no row of, what it does with the second
  pub key_second : HaveNone (Canon key) c.caches → ran (both c d) call_on ≡ ((ran d call_on).0, both c (ran d call_on).1)
  key_second none = by (cache_of c.caches id) refl
    where
      by : (o : Option Cache) → cache_of c.caches id ≡ o → ran (both c d) call_on ≡ ((ran d call_on).0, both c (ran d call_on).1)
      by None is =
          ran_none (both c d) id (at_key key f) (missing_in_both c.caches d.caches id is)
          ∙ sym (ap (λ (r : Outcome × PlainCaches). (r.0, both c r.1)) (ran_none d id (at_key key f) (missing_in_other c.caches d.caches id same is)))
      by (Some cache) is =
          let it : IsInBoth c.caches d.caches id cache = found_in_both c.caches d.caches id cache same is in
          let none_here : finite.get cache.rows (Canon key) ≡ None = all_found (λ (k : Cache). finite.get k.rows (Canon key) ≡ None) c.caches id cache none is in
          let left : Outcome × Rows = at_key key f it.other.rows in
          let here : beside (caches_with_rows c.caches id cache.rows) (caches_with_rows d.caches id left.1) ≡ beside c.caches (caches_with_rows d.caches id left.1) =
          ap (λ (cs : List Cache). beside cs (caches_with_rows d.caches id left.1)) (with_own c.caches id cache is) in
          ran_some (both c d) id (at_key key f) (record cache { rows = either cache.rows it.other.rows }) it.whole
          ∙ ap (λ (r : Outcome × Rows). with_rows_at (both c d) id r) (at_key_second key f cache.rows it.other.rows none_here)
          ∙ ap (λ (cs : List Cache). (left.0, record c { caches = cs })) (rows_in_both c.caches d.caches id cache.rows left.1 same ∙ here)
          ∙ sym (ap (λ (r : Outcome × PlainCaches). (r.0, both c r.1)) (ran_some d id (at_key key f) it.other it.stands))
