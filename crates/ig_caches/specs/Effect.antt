-- What each call answers, and what it leaves.
use Rattle.std.specs.Prelude.{ℕ, ℤ, pos, ◌+ℤ◌, Bool, false, ◌==◌, ◌||◌, ◌-◌, ◌^◌, nat_le, min, List, [], ◌∷◌, ◌++◌, map, length, is_some, Option, None, Some, unwrap_or, if◌then◌else◌}
use Rattle.std.specs.List.{list_all, list_any}
use Rattle.std.specs.Option.{is_none, option_map_or}
use Rattle.std.specs.Ordering.{int_eq}
use Rattle.std.specs.FinMap as finite
use Rattle.ig_value.specs.declared.value.Value.{Value}
use Rattle.ig_value.specs.declared.value.Value.TheVariants.{Null}
use Rattle.ig_types.specs.declared.meta.TypeMeta.{TypeMeta}
use Rattle.ig_types.specs.Join.{same_name}
use Rattle.ig_types.specs.Registered.{put_clash, registry_after_put, admits_name, registry_after_name}
use Rattle.ig_types.specs.AffinityPair.{affinity_pairs_of}
use Rattle.ig_caches.specs.declared.call.Call.{Call}
use Rattle.ig_caches.specs.declared.call.Call.TheVariants.{Get, GetAndRemove, ContainsKey, ClearKey, RemoveKey, Put, PutIfAbsent, GetAndPut, GetAndReplace, GetAndPutIfAbsent, Replace, ReplaceIfEquals, RemoveIfEquals, GetAll, ContainsKeys, ClearKeys, RemoveKeys, PutAll, Clear, RemoveAll, Scan, Size, Names, Create, GetOrCreate, Destroy, TypeName, SetTypeName, TypeOf, PutType, Affinity}
use Rattle.ig_caches.specs.declared.answer.Why.TheVariants as why
use Rattle.ig_caches.specs.declared.answer.Outcome.{Outcome}
use Rattle.ig_caches.specs.declared.answer.Outcome.TheVariants as outcome
use Rattle.ig_caches.specs.declared.answer.Outcome.TheVariants.{Done, Found, Yes, Pairs, Count, Name, Meta, Keys, Refused}
use Rattle.ig_caches.specs.Rows.{Rows, is_same, value_of, has_row, with_row, without_row, with_rows, without_rows, rows_of, all_rows}
use Rattle.ig_caches.specs.PlainCaches.{Cache, PlainCaches, id_of, fresh_cache, has_id, cache_of, caches_without}

-- ---- the row of one key

-- what becomes of the row of a key: it stays as it is, it gets a value, or it goes
pub data Change : Type 0 where
  keep : Change
  store : Value → Change
  remove : Change

-- the value, null without one
abbrev pub or_null : Option Value → Value
or_null value = unwrap_or value Null

-- tests whether there is a value, and it is the wanted one
abbrev pub is_wanted : Value → Option Value → Bool
is_wanted wanted value = option_map_or (is_same wanted) value false

-- the change if the test passes
abbrev pub keep_unless : Bool → Change → Change
keep_unless test change = if test then change else keep

-- the rows after the row of the key has changed
abbrev pub changed : Rows → Value → Change → Rows
changed rows key keep = rows
changed rows key (store value) = with_row rows (record { key = key; value = value })
changed rows key remove = without_row rows key

-- what a call on one key answers and leaves, where `f` says it of the key's value
abbrev pub at_key : Value → (Option Value → Outcome × Change) → Rows → Outcome × Rows
at_key key f rows = let answer = f (value_of rows key) in (answer.0, changed rows key answer.1)

-- ---- the number of rows

-- tests whether a mode asks for all rows
abbrev pub names_all : ℕ → Bool
names_all mode = mode == 0 || mode == 2

-- tests whether the modes ask for all rows: there are none, or 0 or 2 is one of them
abbrev pub asks_for_all : List ℕ → Bool
asks_for_all modes = length modes == 0 || list_any names_all modes

-- the number of rows, at most 2^63 - 1
abbrev pub count_of : Rows → ℤ
count_of rows = pos (min (finite.len rows) (2 ^ 63 - 1))

-- ---- caches

-- the most caches that may stand
abbrev pub max_caches : ℕ
max_caches = 1024

-- the most creations and destructions
abbrev pub max_changes : ℤ
max_changes = pos (2 ^ 31 - 1)

-- the count after one more creation or destruction, if that may be counted
abbrev pub next_count : ℤ → Option ℤ
next_count n = if int_eq n max_changes then None else Some (n +ℤ pos 1)

-- these caches stand after one more creation or destruction, unless no more may be counted
abbrev pub changed_to : PlainCaches → List Cache → Outcome × PlainCaches
changed_to c caches =
    option_map_or (λ minor. (Done, record c { caches = caches; minor = minor })) (next_count c.minor)
    (Refused why.TooManyChanges, c)

-- a creation of a cache whose identifier isn't taken: the new one is the last
abbrev pub created : PlainCaches → List ℕ → Outcome × PlainCaches
created c name =
    if nat_le max_caches (length c.caches) then (Refused why.TooManyCaches, c)
    else changed_to c (c.caches ++ fresh_cache name ∷ [])

-- a create is refused if a cache has the identifier
abbrev pub after_create : List ℕ → PlainCaches → Outcome × PlainCaches
after_create name c = option_map_or (λ cache. (Refused why.CacheExists, c)) (cache_of c.caches (id_of name)) (created c name)

-- a get or create is refused if a cache of another name has the identifier, and one of this name may stand
abbrev pub after_get_or_create : List ℕ → PlainCaches → Outcome × PlainCaches
after_get_or_create name c =
    option_map_or (λ cache. if same_name cache.name name then (Done, c) else (Refused why.CacheExists, c))
    (cache_of c.caches (id_of name)) (created c name)

-- a destroy is refused if no cache has the identifier
abbrev pub after_destroy : ℤ → PlainCaches → Outcome × PlainCaches
after_destroy id c =
    option_map_or (λ cache. changed_to c (caches_without c.caches id)) (cache_of c.caches id) (Refused why.NoCache, c)

-- ---- types

-- the name of a type, if it has one
abbrev pub type_name : Option (List ℕ) → Outcome
type_name name = option_map_or (λ n. Name n) name (Refused why.NoTypeName)

-- a description is put unless it clashes with the one of its type
abbrev pub after_put_type : TypeMeta → PlainCaches → Outcome × PlainCaches
after_put_type meta c =
    option_map_or (λ clash. (Refused (why.Clash clash), c)) (put_clash c.registry meta)
    (Done, record c { registry = registry_after_put c.registry meta })

-- the pairs of types and their fields, if each identifier is that of a cache
abbrev pub affinity_of : PlainCaches → List ℤ → Outcome
affinity_of c ids =
    if list_all (λ id. list_any (has_id id) c.caches) ids then Keys (affinity_pairs_of c.registry)
    else Refused why.NoCache

-- ---- calls

-- what a call does: it answers of the rows of one cache and leaves rows there, or it does so of all
pub data Effect : Type 0 where
  on_rows : ℤ → (Rows → Outcome × Rows) → Effect
  on_all : (PlainCaches → Outcome × PlainCaches) → Effect

-- one line a call: what it answers, and what it leaves
abbrev pub effect : Call → Effect
effect (Get id key) = on_rows id (at_key key (λ v. (Found (or_null v), keep)))
effect (ContainsKey id key) = on_rows id (at_key key (λ v. (Yes (is_some v), keep)))
effect (Put id key value) = on_rows id (at_key key (λ v. (Done, store value)))
effect (PutIfAbsent id key value) = on_rows id (at_key key (λ v. (Yes (is_none v), keep_unless (is_none v) (store value))))
effect (GetAndPut id key value) = on_rows id (at_key key (λ v. (Found (or_null v), store value)))
effect (GetAndReplace id key value) = on_rows id (at_key key (λ v. (Found (or_null v), keep_unless (is_some v) (store value))))
effect (GetAndPutIfAbsent id key value) = on_rows id (at_key key (λ v. (Found (or_null v), keep_unless (is_none v) (store value))))
effect (GetAndRemove id key) = on_rows id (at_key key (λ v. (Found (or_null v), remove)))
effect (Replace id key value) = on_rows id (at_key key (λ v. (Yes (is_some v), keep_unless (is_some v) (store value))))
effect (ReplaceIfEquals id key wanted value) =
    on_rows id (at_key key (λ v. (Yes (is_wanted wanted v), keep_unless (is_wanted wanted v) (store value))))
effect (ClearKey id key) = on_rows id (at_key key (λ v. (Done, remove)))
effect (RemoveKey id key) = on_rows id (at_key key (λ v. (Yes (is_some v), remove)))
effect (RemoveIfEquals id key wanted) =
    on_rows id (at_key key (λ v. (Yes (is_wanted wanted v), keep_unless (is_wanted wanted v) remove)))
effect (GetAll id keys) = on_rows id (λ rows. (Pairs (rows_of rows keys), rows))
effect (ContainsKeys id keys) = on_rows id (λ rows. (Yes (list_all (has_row rows) keys), rows))
effect (PutAll id pairs) = on_rows id (λ rows. (Done, with_rows rows pairs))
effect (ClearKeys id keys) = on_rows id (λ rows. (Done, without_rows rows keys))
effect (RemoveKeys id keys) = on_rows id (λ rows. (Done, without_rows rows keys))
effect (Clear id) = on_rows id (λ rows. (Done, finite.empty))
effect (RemoveAll id) = on_rows id (λ rows. (Done, finite.empty))
effect (Scan id) = on_rows id (λ rows. (Pairs (all_rows rows), rows))
effect (Size id modes) = on_rows id (λ rows. (Count (if asks_for_all modes then count_of rows else pos 0), rows))
effect Names = on_all (λ c. (outcome.Names (map (λ cache. cache.name) c.caches), c))
effect (Create name) = on_all (after_create name)
effect (GetOrCreate name) = on_all (after_get_or_create name)
effect (Destroy id) = on_all (after_destroy id)
effect (TypeName platform type) = on_all (λ c. (type_name (finite.get c.registry.names (platform, type)), c))
effect (SetTypeName platform type name) =
    on_all (λ c. (
      Yes (admits_name c.registry (platform, type) name),
      record c { registry = registry_after_name c.registry (platform, type) name },
    ))
effect (TypeOf type) = on_all (λ c. (Meta (finite.get c.registry.types type), c))
effect (PutType meta) = on_all (after_put_type meta)
effect (Affinity ids) = on_all (λ c. (affinity_of c ids, c))
