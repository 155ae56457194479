-- The entries of the map in which caches are kept, as caches.
use Rattle.std.proofs.Common.{◌≡◌, ◌<◌, ◌++◌, ◌||◌, ℕ, suc, ℤ, nat_le, length, arith, Bool, true, false, cond, List, [], ◌∷◌, map, Option, None, Some, option_map, is_some, Ok, refl, sym, ap, ◌∙◌, inl, inr}
use Rattle.std.proofs.lemmas.Bool.{cases_Bool, cond-true, cond-false}
use Rattle.std.proofs.lemmas.Bool.Decides.{Decides-int_eq}
use Rattle.std.specs.Ordering.{int_eq}
use Rattle.std.specs.List.{list_any}
use Rattle.std.specs.Map.{lookup, set_value, remove_entry, values_of}
use Rattle.std.specs.FinMap as finite
use Rattle.std.proofs.lemmas.Bool.Decides.{nat_tests}
use Rattle.indexmap.specs.IndexMap.{insert_entry}
use Rattle.std.specs.Option.{option_map_or}
use Rattle.ig_caches.specs.declared.caches.Cache.{Cache as Kept}
use Rattle.ig_caches.specs.Rows.{Rows}
use Rattle.ig_types.specs.Join.{same_name}
use Rattle.ig_caches.specs.declared.call.Call.{Call}
use Rattle.ig_caches.specs.declared.answer.Answer.{Answer}
use Rattle.ig_caches.specs.declared.answer.Outcome.{Outcome}
use Rattle.ig_caches.specs.declared.answer.Outcome.TheVariants.{Done, Refused}
use Rattle.ig_caches.specs.declared.answer.Why.TheVariants as why
use Rattle.ig_caches.specs.PlainCaches.{Cache, PlainCaches, has_id, id_of, fresh_cache, cache_of, caches_with_rows, caches_without}
use Rattle.ig_caches.specs.Effect.{Effect, on_rows, on_all, effect, next_count, changed_to, created, after_create, after_get_or_create, after_destroy, max_caches}
use Rattle.ig_caches.specs.Answered.{with_rows_at, ran}
use Rattle.ig_caches.specs.RunsOnRows.{OnRows, IsOnRowsOf}
use Rattle.ig_caches.specs.RunsOn.{RunsOn}
use Rattle.ig_caches.proofs.KeyLemmas.{ran_none, ran_some}
use Rattle.ig_caches.specs.CachesView.{cache_entry}

-- the kept cache under an identifier
abbrev pub kept_at : ℤ → List (ℤ × Kept) → Option Kept
kept_at id entries = lookup (int_eq id) entries

same_id : (a b : ℤ) → int_eq a b ≡ true → a ≡ b
same_id a b = (Decides-int_eq a b).0

-- the cache with an identifier is the one that is kept under it
pub cache_found : (entries : List (ℤ × Kept)) (id : ℤ) → cache_of (map cache_entry entries) id ≡ option_map (λ (kept : Kept). cache_entry (id, kept)) (kept_at id entries)
cache_found [] id = refl
cache_found (e ∷ entries) id = elim (cases_Bool (int_eq id e.0)) [
  | inl here ↦
      cond-true (int_eq id e.0) _ _ here ∙ ap (λ (i : ℤ). Some (cache_entry (i, e.1))) (sym (same_id id e.0 here))
      ∙ sym (ap (option_map (λ (kept : Kept). cache_entry (id, kept))) (cond-true (int_eq id e.0) (Some e.1) (kept_at id entries) here))
  | inr later ↦
      cond-false (int_eq id e.0) _ _ later ∙ cache_found entries id
      ∙ sym (ap (option_map (λ (kept : Kept). cache_entry (id, kept))) (cond-false (int_eq id e.0) (Some e.1) (kept_at id entries) later))
]

-- other rows in the kept cache under an identifier are other rows in the cache with it
pub rows_written : (entries : List (ℤ × Kept)) (id : ℤ) (kept written : Kept) (rows : Rows) → kept_at id entries ≡ Some kept → written.name ≡ kept.name → written.rows ≡ rows
    → map cache_entry (set_value (int_eq id) entries written) ≡ caches_with_rows (map cache_entry entries) id rows
rows_written [] id kept written rows stands name is = absurd (cc)
rows_written (e ∷ entries) id kept written rows stands name is = elim (cases_Bool (int_eq id e.0)) [
  | inl here ↦
      let one : Some e.1 ≡ Some kept = sym (cond-true (int_eq id e.0) _ _ here) ∙ stands in
      let same : e.1 ≡ kept = cc in
      ap (map cache_entry) (cond-true (int_eq id e.0) _ _ here)
      ∙ ap (λ (c : Cache). c ∷ map cache_entry entries) (λ i. record { id = e.0; name = (name ∙ sym (ap (λ (k : Kept). k.name) same)) i; rows = is i })
      ∙ sym (cond-true (int_eq id e.0) _ _ here)
  | inr later ↦
      ap (map cache_entry) (cond-false (int_eq id e.0) _ _ later)
      ∙ ap (λ (cs : List Cache). cache_entry e ∷ cs) (rows_written entries id kept written rows (sym (cond-false (int_eq id e.0) _ _ later) ∙ stands) name is)
      ∙ sym (cond-false (int_eq id e.0) _ _ later)
]

-- an identifier under which nothing is kept has no cache, and the other way round
pub not_kept : (entries : List (ℤ × Kept)) (id : ℤ) → false ≡ is_some (kept_at id entries) → cache_of (map cache_entry entries) id ≡ None
not_kept entries id none = cache_found entries id ∙ ap (option_map (λ (kept : Kept). cache_entry (id, kept))) (empty (kept_at id entries) none)
  where
    empty : (o : Option Kept) → false ≡ is_some o → o ≡ None
    empty None e = refl
    empty (Some kept) e = absurd (cc)

pub is_kept : (entries : List (ℤ × Kept)) (id : ℤ) → true ≡ is_some (kept_at id entries) → (cache : Cache) × (cache_of (map cache_entry entries) id ≡ Some cache)
is_kept entries id some = by (kept_at id entries) refl some
  where
    by : (o : Option Kept) → kept_at id entries ≡ o → true ≡ is_some o → (cache : Cache) × (cache_of (map cache_entry entries) id ≡ Some cache)
    by None is e = absurd (cc)
    by (Some kept) is e = (cache_entry (id, kept), cache_found entries id ∙ ap (option_map (λ (k : Kept). cache_entry (id, k))) is)

-- some cache has the identifier if one is kept under it
pub any_kept : (entries : List (ℤ × Kept)) (id : ℤ) → list_any (has_id id) (map cache_entry entries) ≡ is_some (kept_at id entries)
any_kept [] id = refl
any_kept (e ∷ entries) id = elim (cases_Bool (int_eq id e.0)) [
  | inl here ↦
      ap (λ (b : Bool). b || list_any (has_id id) (map cache_entry entries)) here
      ∙ sym (ap is_some (cond-true (int_eq id e.0) (Some e.1) (kept_at id entries) here))
  | inr later ↦
      ap (λ (b : Bool). b || list_any (has_id id) (map cache_entry entries)) later ∙ any_kept entries id
      ∙ sym (ap is_some (cond-false (int_eq id e.0) (Some e.1) (kept_at id entries) later))
]

-- a cache is removed
pub cache_removed : (entries : List (ℤ × Kept)) (id : ℤ) → map cache_entry (remove_entry (int_eq id) entries) ≡ caches_without (map cache_entry entries) id
cache_removed [] id = refl
cache_removed (e ∷ entries) id = elim (cases_Bool (int_eq id e.0)) [
  | inl here ↦ ap (map cache_entry) (cond-true (int_eq id e.0) _ _ here) ∙ sym (cond-true (int_eq id e.0) _ _ here)
  | inr later ↦
      ap (map cache_entry) (cond-false (int_eq id e.0) _ _ later) ∙ ap (λ (cs : List Cache). cache_entry e ∷ cs) (cache_removed entries id)
      ∙ sym (cond-false (int_eq id e.0) _ _ later)
]

-- a call that is answered as plain caches do runs as they do
pub runs : (call : Call) (c new : PlainCaches) (answer : Answer) (outcome : Outcome) → ran c (effect call) ≡ (outcome, new) → answer.minor ≡ new.minor → answer.outcome ≡ outcome
    → RunsOn call c (Ok answer) new
runs call c new answer outcome is minor answers =
    (λ i. record { minor = (minor ∙ ap (λ (r : Outcome × PlainCaches). r.1.minor) (sym is)) i; outcome = (answers ∙ ap (λ (r : Outcome × PlainCaches). r.0) (sym is)) i }, ap (λ (r : Outcome × PlainCaches). r.1) (sym is))

module _ (c : PlainCaches) (id : ℤ) where
  pub destroy_none : cache_of c.caches id ≡ None → after_destroy id c ≡ (Refused why.NoCache, c)
  destroy_none none = ap (λ o. option_map_or (λ (cache : Cache). changed_to c (caches_without c.caches id)) o (Refused why.NoCache, c)) none

  pub destroy_found : (cache : Cache) → cache_of c.caches id ≡ Some cache → after_destroy id c ≡ changed_to c (caches_without c.caches id)
  destroy_found cache stands = ap (λ o. option_map_or (λ (cache : Cache). changed_to c (caches_without c.caches id)) o (Refused why.NoCache, c)) stands

-- a change that can't be counted, and one that is
pub change_refused : (c : PlainCaches) (caches : List Cache) → next_count c.minor ≡ None → changed_to c caches ≡ (Refused why.TooManyChanges, c)
change_refused c caches spent = ap (λ o. option_map_or (λ (minor : ℤ). (Done, record c { caches = caches; minor = minor })) o (Refused why.TooManyChanges, c)) spent

pub change_done : (c : PlainCaches) (caches : List Cache) (minor : ℤ) → next_count c.minor ≡ Some minor → changed_to c caches ≡ (Done, record c { caches = caches; minor = minor })
change_done c caches minor counted = ap (λ o. option_map_or (λ (minor : ℤ). (Done, record c { caches = caches; minor = minor })) o (Refused why.TooManyChanges, c)) counted

-- the names of the caches
pub names_kept : (entries : List (ℤ × Kept)) → map (λ (kept : Kept). kept.name) (values_of entries) ≡ map (λ (cache : Cache). cache.name) (map cache_entry entries)
names_kept [] = refl
names_kept (e ∷ entries) = ap (λ ns. e.1.name ∷ ns) (names_kept entries)

module _ (c : PlainCaches) (name : List ℕ) where
  pub create_taken : (cache : Cache) → cache_of c.caches (id_of name) ≡ Some cache → after_create name c ≡ (Refused why.CacheExists, c)
  create_taken cache stands = ap (λ o. option_map_or (λ (cache : Cache). (Refused why.CacheExists, c)) o (created c name)) stands

  pub create_free : cache_of c.caches (id_of name) ≡ None → after_create name c ≡ created c name
  create_free none = ap (λ o. option_map_or (λ (cache : Cache). (Refused why.CacheExists, c)) o (created c name)) none

  -- a get or create of an identifier that is taken
  pub get_or_create_stands : (cache : Cache) → cache_of c.caches (id_of name) ≡ Some cache
      → after_get_or_create name c ≡ (cond (same_name cache.name name) Done (Refused why.CacheExists), c)
  get_or_create_stands cache stands =
      ap (λ o. option_map_or (λ (cache : Cache). cond (same_name cache.name name) (Done, c) (Refused why.CacheExists, c)) o (created c name)) stands ∙ by (same_name cache.name name)
    where
      by : (b : Bool) → ◌≡◌ {A = Outcome × PlainCaches} (cond b (Done, c) (Refused why.CacheExists, c)) (cond b Done (Refused why.CacheExists), c)
      by true = refl
      by false = refl

  pub get_or_create_free : cache_of c.caches (id_of name) ≡ None → after_get_or_create name c ≡ created c name
  get_or_create_free none = ap (λ o. option_map_or (λ (cache : Cache). cond (same_name cache.name name) (Done, c) (Refused why.CacheExists, c)) o (created c name)) none

  few : (n : ℕ) → n < max_caches → nat_le max_caches n ≡ false
  few n less = grind (arith, nat_tests)

  pub create_room : length c.caches < max_caches → created c name ≡ changed_to c (c.caches ++ fresh_cache name ∷ [])
  create_room less = cond-false (nat_le max_caches (length c.caches)) _ _ (few (length c.caches) less)

pub caches_length : (entries : List (ℤ × Kept)) → length (map cache_entry entries) ≡ length entries
caches_length [] = refl
caches_length (e ∷ entries) = ap (λ n. suc n) (caches_length entries)

-- nothing is kept under an identifier that no cache has
pub absent_kept : (entries : List (ℤ × Kept)) (id : ℤ) → cache_of (map cache_entry entries) id ≡ None → kept_at id entries ≡ None
absent_kept entries id none = by (kept_at id entries) (sym (cache_found entries id) ∙ none)
  where
    by : (o : Option Kept) → option_map (λ (kept : Kept). cache_entry (id, kept)) o ≡ None → o ≡ None
    by None e = refl
    by (Some kept) e = absurd (cc)

-- a new cache is the last
pub cache_added : (entries : List (ℤ × Kept)) (id : ℤ) (kept : Kept) (name : List ℕ) → kept_at id entries ≡ None → id ≡ id_of name → kept.name ≡ name → kept.rows ≡ finite.empty
    → map cache_entry (insert_entry int_eq entries id kept) ≡ map cache_entry entries ++ fresh_cache name ∷ []
cache_added [] id kept name none its_id its_name empty = ap (λ (c : Cache). c ∷ []) (λ i. record { id = its_id i; name = its_name i; rows = empty i })
cache_added (e ∷ entries) id kept name none its_id its_name empty = elim (cases_Bool (int_eq id e.0)) [
  | inl here ↦ let some : Some e.1 ≡ None = sym (cond-true (int_eq id e.0) _ _ here) ∙ none in absurd (cc)
  | inr later ↦
      ap (map cache_entry) (cond-false (int_eq id e.0) _ _ later)
      ∙ ap (λ (cs : List Cache). cache_entry e ∷ cs) (cache_added entries id kept name (sym (cond-false (int_eq id e.0) _ _ later) ∙ none) its_id its_name empty)
]

-- ---- calls on rows
-- a cache with its own rows
pub with_own : (caches : List Cache) (id : ℤ) (cache : Cache) → cache_of caches id ≡ Some cache → caches_with_rows caches id cache.rows ≡ caches
with_own [] id cache is = refl
with_own (first ∷ caches) id cache is = elim (cases_Bool (has_id id first)) [
  | inl here ↦
      let one : Some first ≡ Some cache = sym (cond-true (has_id id first) _ _ here) ∙ is in
      let same : first ≡ cache = cc in
      cond-true (has_id id first) _ _ here ∙ ap (λ (k : Cache). record first { rows = k.rows } ∷ caches) (sym same)
  | inr later ↦
      cond-false (has_id id first) _ _ later ∙ ap (λ (cs : List Cache). first ∷ cs) (with_own caches id cache (sym (cond-false (has_id id first) _ _ later) ∙ is))
]

-- where there is no such cache, no rows are other ones
pub none_written : (caches : List Cache) (id : ℤ) (rows : Rows) → cache_of caches id ≡ None → caches_with_rows caches id rows ≡ caches
none_written [] id rows none = refl
none_written (first ∷ caches) id rows none = elim (cases_Bool (has_id id first)) [
  | inl here ↦ let never : Some first ≡ None = sym (cond-true (has_id id first) _ _ here) ∙ none in absurd (cc)
  | inr later ↦
      cond-false (has_id id first) _ _ later
      ∙ ap (λ (cs : List Cache). first ∷ cs) (none_written caches id rows (sym (cond-false (has_id id first) _ _ later) ∙ none))
]

-- a call on the rows of a cache does what it does with these rows
pub on_rows_of : (c : PlainCaches) (e : Effect) (id : ℤ) (cache : Cache) (outcome : Outcome) (rows : Rows) → IsOnRowsOf id e → cache_of c.caches id ≡ Some cache
    → OnRows e (λ f. (outcome, rows) ≡ f cache.rows) → ran c e ≡ (outcome, record c { caches = caches_with_rows c.caches id rows })
on_rows_of c (on_all f) id cache outcome rows on stands runs = absurd on
on_rows_of c (on_rows other f) id cache outcome rows on stands runs =
    ran_some c other f cache (ap (cache_of c.caches) on ∙ stands)
    ∙ ap (λ (r : Outcome × Rows). with_rows_at c other r) (sym runs)
    ∙ ap (λ (i : ℤ). with_rows_at c i (outcome, rows)) on

-- and it is refused where there is no such cache
pub on_no_rows : (c : PlainCaches) (e : Effect) (id : ℤ) → IsOnRowsOf id e → cache_of c.caches id ≡ None → ran c e ≡ (Refused why.NoCache, c)
on_no_rows c (on_all f) id on none = absurd on
on_no_rows c (on_rows other f) id on none = ran_none c other f (ap (cache_of c.caches) on ∙ none)
