-- Which outcomes calls have, and what refused calls leave.
use Rattle.std.proofs.Common.{◌≡◌, ℕ, ℤ, nat_le, length, ◌++◌, Bool, true, false, cond, List, [], ◌∷◌, Option, None, Some, refl, sym, subst}
use Rattle.std.specs.FinMap as finite
use Rattle.std.specs.List.{list_all, list_any}
use Rattle.std.specs.Option.{option_map_or}
use Rattle.ig_types.specs.declared.meta.TypeMeta.{TypeMeta}
use Rattle.ig_types.specs.declared.clash.Clash.{Clash}
use Rattle.ig_types.specs.Join.{same_name}
use Rattle.ig_types.specs.Registered.{put_clash, registry_after_put}
use Rattle.ig_types.specs.AffinityPair.{affinity_pairs_of}
use Rattle.ig_caches.specs.declared.call.Call.{Call}
use Rattle.ig_caches.specs.declared.call.Call.TheVariants.{Get, GetAndRemove, ContainsKey, ClearKey, RemoveKey, Put, PutIfAbsent, GetAndPut, GetAndReplace, GetAndPutIfAbsent, Replace, ReplaceIfEquals, RemoveIfEquals, GetAll, ContainsKeys, ClearKeys, RemoveKeys, PutAll, Clear, RemoveAll, Scan, Size, Names, Create, GetOrCreate, Destroy, TypeName, SetTypeName, TypeOf, PutType, Affinity}
use Rattle.ig_caches.specs.declared.answer.Why.{Why}
use Rattle.ig_caches.specs.declared.answer.Why.TheVariants as why
use Rattle.ig_caches.specs.declared.answer.Outcome.{Outcome}
use Rattle.ig_caches.specs.declared.answer.Outcome.TheVariants.{Done, Keys, Refused}
use Rattle.ig_caches.specs.Rows.{Rows}
use Rattle.ig_caches.specs.PlainCaches.{Cache, PlainCaches, has_id, fresh_cache, id_of, cache_of, caches_without}
use Rattle.ig_caches.specs.Effect.{Effect, on_rows, on_all, effect, max_caches, next_count, changed_to, created, type_name}
use Rattle.ig_caches.specs.Answered.{ran}
use Rattle.ig_caches.specs.AnswersKind.{OutcomeKind, done, name as name_kind, keys as keys_kind, IsOfKind, kind_of}
use Rattle.ig_caches.specs.Laws.{RefusedCallsChangeNothing, AnswersFit}
use Rattle.ig_caches.proofs.KeyLemmas.{ran_none, ran_some}

-- the outcome is of the kind, and where it is a refusal the caches after it are those before
record Fits (kind : OutcomeKind) (c : PlainCaches) (r : Outcome × PlainCaches) : Type 0 where
  of_kind : IsOfKind kind r.0
  stays : (w : Why) → r.0 ≡ Refused w → r.1 ≡ c

-- a call on rows is never refused, and one on all caches changes nothing where it is
abbrev EffectFits : OutcomeKind → Effect → Type 0
EffectFits kind (on_rows id f) = (rows : Rows) → IsOfKind kind (f rows).0 × ((w : Why) → ¬ ((f rows).0 ≡ Refused w))
EffectFits kind (on_all f) = (c : PlainCaches) → Fits kind c (f c)

ran_fits : (kind : OutcomeKind) (c : PlainCaches) (e : Effect) → EffectFits kind e → Fits kind c (ran c e)
ran_fits kind c (on_all f) fits = fits c
ran_fits kind c (on_rows id f) fits = by (cache_of c.caches id) refl
  where
    by : (o : Option Cache) → cache_of c.caches id ≡ o → Fits kind c (ran c (on_rows id f))
    by None is = subst (Fits kind c) (sym (ran_none c id f is)) (record { of_kind = tt; stays = λ w e. refl })
    by (Some cache) is =
        subst (Fits kind c) (sym (ran_some c id f cache is))
        (record { of_kind = (fits cache.rows).0; stays = λ w e. absurd ((fits cache.rows).1 w e) })

-- a refusal that changes nothing
refuses : (kind : OutcomeKind) (c : PlainCaches) (w : Why) → Fits kind c (Refused w, c)
refuses kind c w = record { of_kind = tt; stays = λ w e. refl }

does : (c new : PlainCaches) → Fits done c (Done, new)
does c new = record { of_kind = refl; stays = λ w e. absurd (cc) }

changes : (c : PlainCaches) (caches : List Cache) (o : Option ℤ)
    → Fits done c (option_map_or (λ minor. (Done, record c { caches = caches; minor = minor })) o (Refused why.TooManyChanges, c))
changes c caches None = refuses done c why.TooManyChanges
changes c caches (Some minor) = does c (record c { caches = caches; minor = minor })

creates : (c : PlainCaches) (name : List ℕ) → Fits done c (created c name)
creates c name = by (nat_le max_caches (length c.caches))
  where
    by : (b : Bool) → Fits done c (cond b (Refused why.TooManyCaches, c) (changed_to c (c.caches ++ fresh_cache name ∷ [])))
    by true = refuses done c why.TooManyCaches
    by false = changes c (c.caches ++ fresh_cache name ∷ []) (next_count c.minor)

create_fits : (name : List ℕ) (c : PlainCaches) (o : Option Cache) → Fits done c (option_map_or (λ cache. (Refused why.CacheExists, c)) o (created c name))
create_fits name c None = creates c name
create_fits name c (Some cache) = refuses done c why.CacheExists

stands_fits : (c : PlainCaches) (same : Bool) → Fits done c (cond same (Done, c) (Refused why.CacheExists, c))
stands_fits c true = does c c
stands_fits c false = refuses done c why.CacheExists

get_or_create_fits : (name : List ℕ) (c : PlainCaches) (o : Option Cache)
    → Fits done c (option_map_or (λ cache. cond (same_name cache.name name) (Done, c) (Refused why.CacheExists, c)) o (created c name))
get_or_create_fits name c None = creates c name
get_or_create_fits name c (Some cache) = stands_fits c (same_name cache.name name)

destroy_fits : (id : ℤ) (c : PlainCaches) (o : Option Cache) → Fits done c (option_map_or (λ cache. changed_to c (caches_without c.caches id)) o (Refused why.NoCache, c))
destroy_fits id c None = refuses done c why.NoCache
destroy_fits id c (Some cache) = changes c (caches_without c.caches id) (next_count c.minor)

name_fits : (c : PlainCaches) (o : Option (List ℕ)) → Fits name_kind c (type_name o, c)
name_fits c None = refuses name_kind c why.NoTypeName
name_fits c (Some n) = record { of_kind = refl; stays = λ w e. refl }

put_type_fits : (meta : TypeMeta) (c : PlainCaches) (o : Option Clash)
    → Fits done c (option_map_or (λ clash. (Refused (why.Clash clash), c)) o (Done, record c { registry = registry_after_put c.registry meta }))
put_type_fits meta c None = does c (record c { registry = registry_after_put c.registry meta })
put_type_fits meta c (Some clash) = refuses done c (why.Clash clash)

affinity_fits : (c : PlainCaches) (b : Bool) → Fits keys_kind c (cond b (Keys (affinity_pairs_of c.registry)) (Refused why.NoCache), c)
affinity_fits c true = record { of_kind = refl; stays = λ w e. refl }
affinity_fits c false = refuses keys_kind c why.NoCache

call_fits : (call : Call) → EffectFits (kind_of call) (effect call)
call_fits (Get id key) = λ rows. (refl, λ w e. cc)
call_fits (ContainsKey id key) = λ rows. (refl, λ w e. cc)
call_fits (Put id key value) = λ rows. (refl, λ w e. cc)
call_fits (PutIfAbsent id key value) = λ rows. (refl, λ w e. cc)
call_fits (GetAndPut id key value) = λ rows. (refl, λ w e. cc)
call_fits (GetAndReplace id key value) = λ rows. (refl, λ w e. cc)
call_fits (GetAndPutIfAbsent id key value) = λ rows. (refl, λ w e. cc)
call_fits (GetAndRemove id key) = λ rows. (refl, λ w e. cc)
call_fits (Replace id key value) = λ rows. (refl, λ w e. cc)
call_fits (ReplaceIfEquals id key wanted value) = λ rows. (refl, λ w e. cc)
call_fits (ClearKey id key) = λ rows. (refl, λ w e. cc)
call_fits (RemoveKey id key) = λ rows. (refl, λ w e. cc)
call_fits (RemoveIfEquals id key wanted) = λ rows. (refl, λ w e. cc)
call_fits (GetAll id keys) = λ rows. (refl, λ w e. cc)
call_fits (ContainsKeys id keys) = λ rows. (refl, λ w e. cc)
call_fits (PutAll id pairs) = λ rows. (refl, λ w e. cc)
call_fits (ClearKeys id keys) = λ rows. (refl, λ w e. cc)
call_fits (RemoveKeys id keys) = λ rows. (refl, λ w e. cc)
call_fits (Clear id) = λ rows. (refl, λ w e. cc)
call_fits (RemoveAll id) = λ rows. (refl, λ w e. cc)
call_fits (Scan id) = λ rows. (refl, λ w e. cc)
call_fits (Size id modes) = λ rows. (refl, λ w e. cc)
call_fits Names = λ c. record { of_kind = refl; stays = λ w e. refl }
call_fits (Create name) = λ c. create_fits name c (cache_of c.caches (id_of name))
call_fits (GetOrCreate name) = λ c. get_or_create_fits name c (cache_of c.caches (id_of name))
call_fits (Destroy id) = λ c. destroy_fits id c (cache_of c.caches id)
call_fits (TypeName platform type) = λ c. name_fits c (finite.get c.registry.names (platform, type))
call_fits (SetTypeName platform type name) = λ c. record { of_kind = refl; stays = λ w e. absurd (cc) }
call_fits (TypeOf type) = λ c. record { of_kind = refl; stays = λ w e. refl }
call_fits (PutType meta) = λ c. put_type_fits meta c (put_clash c.registry meta)
call_fits (Affinity ids) = λ c. affinity_fits c (list_all (λ id. list_any (has_id id) c.caches) ids)

pub refused_stays : RefusedCallsChangeNothing
refused_stays c call w refused = (ran_fits (kind_of call) c (effect call) (call_fits call)).stays w refused

pub answers_fit : AnswersFit
answers_fit c call = (ran_fits (kind_of call) c (effect call) (call_fits call)).of_kind
