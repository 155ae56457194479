-- Rows stand under the encodings of their keys, so a scan gives each once.
use Rattle.std.proofs.Common.{◌≡◌, ◌++◌, ◌&&◌, ◌-◌, ◌^◌, min, ℕ, suc, ℤ, pos, T, nat_le, Bool, true, false, cond, List, [], ◌∷◌, map, length, Option, None, Some, refl, sym, ap, ◌∙◌, subst, inl, inr, All, Contains, is_some}
use Rattle.std.proofs.lemmas.Bool.{cases_Bool, cond-true, cond-false}
use Rattle.std.proofs.lemmas.List.Elements.{All-nil, All-cons, All-head, All-tail, All-push, All-contains, Contains-append_left, Contains-append_right, Contains-push}
use Rattle.std.specs.List.{AllByRecursion}
use Rattle.std.specs.List.Sorted.{IsStrictlySortedBy}
use Rattle.std.specs.Ordering.{is_lt, is_eq}
use Rattle.std.specs.declared.cmp.Ordering.{Ordering}
use Rattle.std.specs.declared.cmp.Ordering.TheVariants.{Less, Equal, Greater}
use Rattle.std.specs.Cmp.Lexicographic.{nat_list_cmp_total}
use Rattle.std.specs.Option.{option_map_or, is_none}
use Rattle.std.specs.FinMap as finite
use Rattle.std.specs.FinMap.Entries.{below_all, is_sorted}
use Rattle.ig_types.specs.Join.{same_name}
use Rattle.ig_types.specs.declared.clash.Clash.{Clash}
use Rattle.ig_types.specs.declared.meta.TypeMeta.{TypeMeta}
use Rattle.ig_types.specs.Registered.{put_clash, registry_after_put}
use Rattle.ig_value.specs.declared.value.Value.{Value}
use Rattle.ig_value.specs.Canon.{Canon}
use Rattle.ig_caches.specs.declared.call.Pair.{Pair}
use Rattle.ig_caches.specs.declared.call.Call.{Call}
use Rattle.ig_caches.specs.declared.call.Call.TheVariants.{Get, GetAndRemove, ContainsKey, ClearKey, RemoveKey, Put, PutIfAbsent, GetAndPut, GetAndReplace, GetAndPutIfAbsent, Replace, ReplaceIfEquals, RemoveIfEquals, GetAll, ContainsKeys, ClearKeys, RemoveKeys, PutAll, Clear, RemoveAll, Scan, Size, Names, Create, GetOrCreate, Destroy, TypeName, SetTypeName, TypeOf, PutType, Affinity}
use Rattle.ig_caches.specs.declared.answer.Why.TheVariants as why
use Rattle.ig_caches.specs.declared.answer.Outcome.{Outcome}
use Rattle.ig_caches.specs.declared.answer.Outcome.TheVariants.{Done, Pairs, Count, Refused}
use Rattle.ig_caches.specs.Rows.{Rows, row_of, value_of, with_row, without_row, with_rows, without_rows, all_rows}
use Rattle.ig_caches.specs.PlainCaches.{Cache, PlainCaches, has_id, id_of, fresh_cache, fresh_caches, cache_of, caches_with_rows, caches_without}
use Rattle.ig_caches.specs.Effect.{Change, keep, store, remove, keep_unless, is_wanted, changed, Effect, on_rows, on_all, effect, max_caches, next_count, changed_to, created, count_of}
use Rattle.ig_caches.specs.Answered.{ran}
use Rattle.ig_caches.specs.Laws.{IsKeyed, AreKeyed, RowsStandUnderTheirKeys, IsScanOf, ScansAreWhole}
use Rattle.ig_caches.proofs.RowEntryLemmas.{by_bytes, ties, tied_same, same_tied}
use Rattle.ig_caches.proofs.KeyLemmas.{ran_none, ran_some}

-- ---- rows under the encodings of their keys
keyed_empty : IsKeyed finite.empty
keyed_empty bytes row is = let never : None ≡ Some row = sym (finite.get-empty by_bytes bytes) ∙ is in cc

keyed_put : (rows : Rows) (row : Pair) → IsKeyed rows → IsKeyed (with_row rows row)
keyed_put rows row keyed q other is = elim (cases_Bool (ties q (Canon row.key))) [
  | inl tied ↦
      let one : Some row ≡ Some other = sym (finite.get-insert nat_list_cmp_total rows (Canon row.key) row q ∙ cond-true (ties q (Canon row.key)) _ _ tied) ∙ is in
      let same : row ≡ other = cc in
      ap (λ (r : Pair). Canon r.key) (sym same) ∙ sym (tied_same q (Canon row.key) tied)
  | inr apart ↦ keyed q other (sym (finite.get-insert nat_list_cmp_total rows (Canon row.key) row q ∙ cond-false (ties q (Canon row.key)) _ _ apart) ∙ is)
]

keyed_removed : (rows : Rows) (key : Value) → IsKeyed rows → IsKeyed (without_row rows key)
keyed_removed rows key keyed q other is = elim (cases_Bool (ties q (Canon key))) [
  | inl tied ↦
      let never : None ≡ Some other = sym (finite.get-remove nat_list_cmp_total rows (Canon key) q ∙ cond-true (ties q (Canon key)) _ _ tied) ∙ is in
      absurd (cc)
  | inr apart ↦ keyed q other (sym (finite.get-remove nat_list_cmp_total rows (Canon key) q ∙ cond-false (ties q (Canon key)) _ _ apart) ∙ is)
]

keyed_changed : (rows : Rows) (key : Value) (change : Change) → IsKeyed rows → IsKeyed (changed rows key change)
keyed_changed rows key keep keyed = keyed
keyed_changed rows key (store value) keyed = keyed_put rows (record { key = key; value = value }) keyed
keyed_changed rows key remove keyed = keyed_removed rows key keyed

keyed_puts : (pairs : List Pair) (rows : Rows) → IsKeyed rows → IsKeyed (with_rows rows pairs)
keyed_puts [] rows keyed = keyed
keyed_puts (pair ∷ pairs) rows keyed = keyed_puts pairs (with_row rows pair) (keyed_put rows pair keyed)

keyed_removes : (keys : List Value) (rows : Rows) → IsKeyed rows → IsKeyed (without_rows rows keys)
keyed_removes [] rows keyed = keyed
keyed_removes (key ∷ keys) rows keyed = keyed_removes keys (without_row rows key) (keyed_removed rows key keyed)

-- ---- caches of such rows
abbrev Keyed : Cache → Type 0
Keyed cache = IsKeyed cache.rows

found_keyed : (caches : List Cache) (id : ℤ) (cache : Cache) → AreKeyed caches → cache_of caches id ≡ Some cache → Keyed cache
found_keyed [] id cache all is = absurd (cc)
found_keyed (first ∷ caches) id cache all is = elim (cases_Bool (has_id id first)) [
  | inl here ↦
      let one : Some first ≡ Some cache = sym (cond-true (has_id id first) _ _ here) ∙ is in
      let same : first ≡ cache = cc in
      subst Keyed same (All-head Keyed first caches all)
  | inr later ↦ found_keyed caches id cache (All-tail Keyed first caches all) (sym (cond-false (has_id id first) _ _ later) ∙ is)
]

keyed_with : (caches : List Cache) (id : ℤ) (rows : Rows) → AreKeyed caches → IsKeyed rows → AreKeyed (caches_with_rows caches id rows)
keyed_with [] id rows all keyed = all
keyed_with (first ∷ caches) id rows all keyed = elim (cases_Bool (has_id id first)) [
  | inl here ↦
      subst AreKeyed (sym (cond-true (has_id id first) _ _ here)) (All-cons Keyed (record first { rows = rows }) caches keyed (All-tail Keyed first caches all))
  | inr later ↦
      subst AreKeyed (sym (cond-false (has_id id first) _ _ later))
      (All-cons Keyed first (caches_with_rows caches id rows) (All-head Keyed first caches all) (keyed_with caches id rows (All-tail Keyed first caches all) keyed))
]

keyed_without : (caches : List Cache) (id : ℤ) → AreKeyed caches → AreKeyed (caches_without caches id)
keyed_without [] id all = all
keyed_without (first ∷ caches) id all = elim (cases_Bool (has_id id first)) [
  | inl here ↦ subst AreKeyed (sym (cond-true (has_id id first) _ _ here)) (All-tail Keyed first caches all)
  | inr later ↦
      subst AreKeyed (sym (cond-false (has_id id first) _ _ later))
      (All-cons Keyed first (caches_without caches id) (All-head Keyed first caches all) (keyed_without caches id (All-tail Keyed first caches all)))
]

keyed_fresh : (names : List (List ℕ)) → AreKeyed (fresh_caches names).caches
keyed_fresh [] = All-nil Keyed
keyed_fresh (name ∷ names) = All-cons Keyed (fresh_cache name) (fresh_caches names).caches keyed_empty (keyed_fresh names)

-- ---- calls keep rows so
abbrev KeepsKeyed : Effect → Type 0
KeepsKeyed (on_rows id f) = (rows : Rows) → IsKeyed rows → IsKeyed (f rows).1
KeepsKeyed (on_all f) = (c : PlainCaches) → AreKeyed c.caches → AreKeyed (f c).1.caches

ran_keyed : (c : PlainCaches) (e : Effect) → KeepsKeyed e → AreKeyed c.caches → AreKeyed (ran c e).1.caches
ran_keyed c (on_all f) keeps all = keeps c all
ran_keyed c (on_rows id f) keeps all = by (cache_of c.caches id) refl
  where
    by : (o : Option Cache) → cache_of c.caches id ≡ o → AreKeyed (ran c (on_rows id f)).1.caches
    by None is = subst (λ (r : Outcome × PlainCaches). AreKeyed r.1.caches) (sym (ran_none c id f is)) all
    by (Some cache) is =
        subst (λ (r : Outcome × PlainCaches). AreKeyed r.1.caches) (sym (ran_some c id f cache is))
        (keyed_with c.caches id (f cache.rows).1 all (keeps cache.rows (found_keyed c.caches id cache all is)))

changes_keep : (c : PlainCaches) (caches : List Cache) (o : Option ℤ) → AreKeyed c.caches → AreKeyed caches
    → AreKeyed (option_map_or {U = Outcome × PlainCaches} (λ minor. (Done, record c { caches = caches; minor = minor })) o (Refused why.TooManyChanges, c)).1.caches
changes_keep c caches None old new = old
changes_keep c caches (Some minor) old new = new

created_keeps : (c : PlainCaches) (name : List ℕ) → AreKeyed c.caches → AreKeyed (created c name).1.caches
created_keeps c name all = by (nat_le max_caches (length c.caches))
  where
    by : (b : Bool) → AreKeyed (cond {A = Outcome × PlainCaches} b (Refused why.TooManyCaches, c) (changed_to c (c.caches ++ fresh_cache name ∷ []))).1.caches
    by true = all
    by false = changes_keep c (c.caches ++ fresh_cache name ∷ []) (next_count c.minor) all (All-push Keyed c.caches (fresh_cache name) all keyed_empty)

create_keeps : (name : List ℕ) (c : PlainCaches) (o : Option Cache) → AreKeyed c.caches → AreKeyed (option_map_or {U = Outcome × PlainCaches} (λ cache. (Refused why.CacheExists, c)) o (created c name)).1.caches
create_keeps name c None all = created_keeps c name all
create_keeps name c (Some cache) all = all

stands_keeps : (c : PlainCaches) (same : Bool) → AreKeyed c.caches → AreKeyed (cond {A = Outcome × PlainCaches} same (Done, c) (Refused why.CacheExists, c)).1.caches
stands_keeps c true all = all
stands_keeps c false all = all

get_or_create_keeps : (name : List ℕ) (c : PlainCaches) (o : Option Cache) → AreKeyed c.caches
    → AreKeyed (option_map_or {U = Outcome × PlainCaches} (λ cache. cond {A = Outcome × PlainCaches} (same_name cache.name name) (Done, c) (Refused why.CacheExists, c)) o (created c name)).1.caches
get_or_create_keeps name c None all = created_keeps c name all
get_or_create_keeps name c (Some cache) all = stands_keeps c (same_name cache.name name) all

destroy_keeps : (id : ℤ) (c : PlainCaches) (o : Option Cache) → AreKeyed c.caches
    → AreKeyed (option_map_or {U = Outcome × PlainCaches} (λ cache. changed_to c (caches_without c.caches id)) o (Refused why.NoCache, c)).1.caches
destroy_keeps id c None all = all
destroy_keeps id c (Some cache) all = changes_keep c (caches_without c.caches id) (next_count c.minor) all (keyed_without c.caches id all)

put_type_keeps : (meta : TypeMeta) (c : PlainCaches) (o : Option Clash) → AreKeyed c.caches
    → AreKeyed (option_map_or {U = Outcome × PlainCaches} (λ clash. (Refused (why.Clash clash), c)) o (Done, record c { registry = registry_after_put c.registry meta })).1.caches
put_type_keeps meta c None all = all
put_type_keeps meta c (Some clash) all = all

call_keeps : (call : Call) → KeepsKeyed (effect call)
call_keeps (Get id key) = λ rows keyed. keyed
call_keeps (ContainsKey id key) = λ rows keyed. keyed
call_keeps (Put id key value) = λ rows keyed. keyed_changed rows key (store value) keyed
call_keeps (PutIfAbsent id key value) = λ rows keyed. keyed_changed rows key (keep_unless (is_none (value_of rows key)) (store value)) keyed
call_keeps (GetAndPut id key value) = λ rows keyed. keyed_changed rows key (store value) keyed
call_keeps (GetAndReplace id key value) = λ rows keyed. keyed_changed rows key (keep_unless (is_some (value_of rows key)) (store value)) keyed
call_keeps (GetAndPutIfAbsent id key value) = λ rows keyed. keyed_changed rows key (keep_unless (is_none (value_of rows key)) (store value)) keyed
call_keeps (GetAndRemove id key) = λ rows keyed. keyed_changed rows key remove keyed
call_keeps (Replace id key value) = λ rows keyed. keyed_changed rows key (keep_unless (is_some (value_of rows key)) (store value)) keyed
call_keeps (ReplaceIfEquals id key wanted value) = λ rows keyed. keyed_changed rows key (keep_unless (is_wanted wanted (value_of rows key)) (store value)) keyed
call_keeps (ClearKey id key) = λ rows keyed. keyed_changed rows key remove keyed
call_keeps (RemoveKey id key) = λ rows keyed. keyed_changed rows key remove keyed
call_keeps (RemoveIfEquals id key wanted) = λ rows keyed. keyed_changed rows key (keep_unless (is_wanted wanted (value_of rows key)) remove) keyed
call_keeps (GetAll id keys) = λ rows keyed. keyed
call_keeps (ContainsKeys id keys) = λ rows keyed. keyed
call_keeps (PutAll id pairs) = λ rows keyed. keyed_puts pairs rows keyed
call_keeps (ClearKeys id keys) = λ rows keyed. keyed_removes keys rows keyed
call_keeps (RemoveKeys id keys) = λ rows keyed. keyed_removes keys rows keyed
call_keeps (Clear id) = λ rows keyed. keyed_empty
call_keeps (RemoveAll id) = λ rows keyed. keyed_empty
call_keeps (Scan id) = λ rows keyed. keyed
call_keeps (Size id modes) = λ rows keyed. keyed
call_keeps Names = λ c all. all
call_keeps (Create name) = λ c all. create_keeps name c (cache_of c.caches (id_of name)) all
call_keeps (GetOrCreate name) = λ c all. get_or_create_keeps name c (cache_of c.caches (id_of name)) all
call_keeps (Destroy id) = λ c all. destroy_keeps id c (cache_of c.caches id) all
call_keeps (TypeName platform type) = λ c all. all
call_keeps (SetTypeName platform type name) = λ c all. all
call_keeps (TypeOf type) = λ c all. all
call_keeps (PutType meta) = λ c all. put_type_keeps meta c (put_clash c.registry meta) all
call_keeps (Affinity ids) = λ c all. all

pub rows_stand : RowsStandUnderTheirKeys
rows_stand = (keyed_fresh, λ c call all. ran_keyed c (effect call) (call_keeps call) all)

-- ---- the rows of a scan
both_true : (a b : Bool) → (a && b) ≡ true → (a ≡ true) × (b ≡ true)
both_true true true e = (refl, refl)
both_true true false e = absurd (cc)
both_true false b e = absurd (cc)

less_from : (o : Ordering) → is_lt o ≡ true → o ≡ Less
less_from Less e = refl
less_from Equal e = absurd (cc)
less_from Greater e = absurd (cc)

below_keys : (k : List ℕ) (es : List (List ℕ × Pair)) → below_all by_bytes k es ≡ true → AllByRecursion (λ (q : List ℕ). by_bytes k q ≡ Less) (map (λ (e : List ℕ × Pair). e.0) es)
below_keys k [] h = tt
below_keys k (e ∷ es) h =
    let two : (is_lt (by_bytes k e.0) ≡ true) × (below_all by_bytes k es ≡ true) = both_true (is_lt (by_bytes k e.0)) (below_all by_bytes k es) h in
    (less_from (by_bytes k e.0) two.0, below_keys k es two.1)

sorted_keys : (es : List (List ℕ × Pair)) → is_sorted by_bytes es ≡ true → IsStrictlySortedBy by_bytes (map (λ (e : List ℕ × Pair). e.0) es)
unfolding IsStrictlySortedBy
sorted_keys [] h = tt
sorted_keys (e ∷ es) h =
    let two : (below_all by_bytes e.0 es ≡ true) × (is_sorted by_bytes es ≡ true) = both_true (below_all by_bytes e.0 es) (is_sorted by_bytes es) h in
    (below_keys e.0 es two.0, sorted_keys es two.1)

-- a key above another doesn't tie with it
apart_from : (k q : List ℕ) → by_bytes k q ≡ Less → ties q k ≡ false
apart_from k q less = elim (cases_Bool (ties q k)) [
  | inl tied ↦
      let at : is_eq (by_bytes k q) ≡ true = same_tied k q (sym (tied_same q k tied)) in
      let never : false ≡ true = sym (ap is_eq less) ∙ at in
      absurd (cc)
  | inr apart ↦ apart
]

found_later : (e : List ℕ × Pair) (es rest : List (List ℕ × Pair)) → below_all by_bytes e.0 rest ≡ true → AllByRecursion (λ (x : List ℕ × Pair). finite.find by_bytes x.0 es ≡ Some x.1) rest
    → AllByRecursion (λ (x : List ℕ × Pair). finite.find by_bytes x.0 (e ∷ es) ≡ Some x.1) rest
found_later e es [] h all = tt
found_later e es (x ∷ rest) h all =
    let two : (is_lt (by_bytes e.0 x.0) ≡ true) × (below_all by_bytes e.0 rest ≡ true) = both_true (is_lt (by_bytes e.0 x.0)) (below_all by_bytes e.0 rest) h in
    (cond-false (ties x.0 e.0) _ _ (apart_from e.0 x.0 (less_from (by_bytes e.0 x.0) two.0)) ∙ all.0, found_later e es rest two.1 all.1)

entries_found : (es : List (List ℕ × Pair)) → is_sorted by_bytes es ≡ true → AllByRecursion (λ (x : List ℕ × Pair). finite.find by_bytes x.0 es ≡ Some x.1) es
entries_found [] h = tt
entries_found (e ∷ es) h =
    let two : (below_all by_bytes e.0 es ≡ true) × (is_sorted by_bytes es ≡ true) = both_true (below_all by_bytes e.0 es) (is_sorted by_bytes es) h in
    (cond-true (ties e.0 e.0) _ _ (same_tied e.0 e.0 refl), found_later e es es two.0 (entries_found es two.1))

found_in : (es : List (List ℕ × Pair)) (q : List ℕ) (row : Pair) → finite.find by_bytes q es ≡ Some row → Contains (map (λ (e : List ℕ × Pair). e.1) es) row
found_in [] q row is = absurd (cc)
found_in (e ∷ es) q row is = elim (cases_Bool (ties q e.0)) [
  | inl tied ↦
      let one : Some e.1 ≡ Some row = sym (cond-true (ties q e.0) _ _ tied) ∙ is in
      let same : e.1 ≡ row = cc in
      subst (λ (r : Pair). Contains (e.1 ∷ map (λ (e : List ℕ × Pair). e.1) es) r) same (Contains-append_left (e.1 ∷ []) (map (λ (e : List ℕ × Pair). e.1) es) e.1 (Contains-push [] e.1))
  | inr apart ↦
      Contains-append_right (e.1 ∷ []) (map (λ (e : List ℕ × Pair). e.1) es) row (found_in es q row (sym (cond-false (ties q e.0) _ _ apart) ∙ is))
]

-- of each entry that is found, the row is keyed
abbrev IsEntryOf : Rows → List ℕ × Pair → Type 0
IsEntryOf rows e = finite.find by_bytes e.0 (finite.entries rows) ≡ Some e.1

got : (rows : Rows) (e : List ℕ × Pair) → IsEntryOf rows e → finite.get rows e.0 ≡ Some e.1
got rows e is = finite.get-entries rows e.0 ∙ is

keys_of_rows : (rows : Rows) → IsKeyed rows → (es : List (List ℕ × Pair)) → AllByRecursion (IsEntryOf rows) es
    → map (λ (row : Pair). Canon row.key) (map (λ (e : List ℕ × Pair). e.1) es) ≡ map (λ (e : List ℕ × Pair). e.0) es
keys_of_rows rows keyed [] all = refl
keys_of_rows rows keyed (e ∷ es) all =
    λ i. (keyed e.0 e.1 (got rows e all.0)) i ∷ (keys_of_rows rows keyed es all.1) i

rows_found : (rows : Rows) → IsKeyed rows → (es : List (List ℕ × Pair)) → AllByRecursion (IsEntryOf rows) es → All (λ (row : Pair). row_of rows row.key ≡ Some row) (map (λ (e : List ℕ × Pair). e.1) es)
rows_found rows keyed [] all = All-nil (λ (row : Pair). row_of rows row.key ≡ Some row)
rows_found rows keyed (e ∷ es) all =
    All-cons (λ (row : Pair). row_of rows row.key ≡ Some row) e.1 (map (λ (e : List ℕ × Pair). e.1) es)
    (ap (finite.get rows) (keyed e.0 e.1 (got rows e all.0)) ∙ got rows e all.0) (rows_found rows keyed es all.1)

true_from : (b : Bool) → T b → b ≡ true
true_from true t = refl
true_from false t = absurd t

pub scan_of : (cache : Cache) → IsKeyed cache.rows → IsScanOf cache (all_rows cache.rows)
scan_of cache keyed =
    let rows : Rows = cache.rows in
    let sorted : is_sorted by_bytes (finite.entries rows) ≡ true = true_from (is_sorted by_bytes (finite.entries rows)) (finite.entries_sorted rows) in
    let found : AllByRecursion (IsEntryOf rows) (finite.entries rows) = entries_found (finite.entries rows) sorted in
    record {
      ordered = subst (IsStrictlySortedBy by_bytes) (sym (keys_of_rows rows keyed (finite.entries rows) found)) (sorted_keys (finite.entries rows) sorted);
      exactly = λ row. (
        All-contains (λ (row : Pair). row_of rows row.key ≡ Some row) (all_rows rows) row (rows_found rows keyed (finite.entries rows) found),
        λ is. found_in (finite.entries rows) (Canon row.key) row (sym (finite.get-entries rows (Canon row.key)) ∙ is),
      );
    }

length_values : (es : List (List ℕ × Pair)) → length (map (λ (e : List ℕ × Pair). e.1) es) ≡ length es
length_values [] = refl
length_values (e ∷ es) = ap (λ n. suc n) (length_values es)

pub scans_whole : ScansAreWhole
scans_whole c id cache all is = record {
  rows = all_rows cache.rows;
  scanned = ap (λ (r : Outcome × PlainCaches). r.0) (ran_some c id (λ rows. (Pairs (all_rows rows), rows)) cache is);
  all = scan_of cache (found_keyed c.caches id cache all is);
  counted = ap (λ (r : Outcome × PlainCaches). r.0) (ran_some c id (λ rows. (Count (count_of rows), rows)) cache is)
      ∙ ap (λ (n : ℕ). Count (pos (min n (2 ^ 63 - 1)))) (finite.len-entries cache.rows ∙ sym (length_values (finite.entries cache.rows)));
}
