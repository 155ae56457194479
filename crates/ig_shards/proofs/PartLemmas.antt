-- Shards together: a call that touches one of them needs this one alone.
use Rattle.std.proofs.Common.{◌≡◌, ◌<◌, ◌+◌, ◌⊎◌, ◌&&◌, ◌||◌, ℕ, zero, suc, ℤ, Bool, cond, List, [], ◌∷◌, ◌++◌, length, take, drop, get_or, set, map, All, Option, None, Some, is_some, refl, sym, ap, ap₂, ◌∙◌, subst, inl, inr, arith}
use Rattle.std.proofs.lemmas.List.Elements.{All-nil, All-cons, All-head, All-tail}
use Rattle.std.specs.Option.{is_none, option_map_or}
use Rattle.std.specs.List.{list_all, list_any}
use Rattle.std.specs.FinMap as finite
use Rattle.ig_value.specs.declared.value.Value.{Value}
use Rattle.ig_value.specs.Canon.{Canon}
use Rattle.ig_types.specs.declared.clash.Clash.{Clash}
use Rattle.ig_types.specs.declared.meta.TypeMeta.{TypeMeta}
use Rattle.ig_types.specs.Registered.{Registered, put_clash, registry_after_put, admits_name, registry_after_name}
use Rattle.ig_types.specs.AffinityPair.{affinity_pairs_of}
use Rattle.ig_caches.specs.declared.call.Call.{Call}
use Rattle.ig_caches.specs.declared.call.Call.TheVariants.{Get, GetAndRemove, ContainsKey, ClearKey, RemoveKey, Put, PutIfAbsent, GetAndPut, GetAndReplace, GetAndPutIfAbsent, Replace, ReplaceIfEquals, RemoveIfEquals, TypeName, SetTypeName, TypeOf, PutType, Affinity}
use Rattle.ig_caches.specs.declared.answer.Why.TheVariants as why
use Rattle.ig_caches.specs.declared.answer.Outcome.{Outcome}
use Rattle.ig_caches.specs.declared.answer.Outcome.TheVariants.{Done, Found, Yes, Meta, Keys, Refused}
use Rattle.ig_caches.specs.Rows.{Rows}
use Rattle.ig_caches.specs.PlainCaches.{Cache, PlainCaches, has_id, cache_of, fresh_caches}
use Rattle.ig_caches.specs.Effect.{Effect, Change, on_rows, on_all, keep, store, remove, at_key, effect, or_null, is_wanted, keep_unless, type_name, after_put_type, affinity_of}
use Rattle.ig_caches.specs.Answered.{ran}
use Rattle.ig_caches.specs.Laws.{IsOnKey}
use Rattle.ig_caches.proofs.KeyLemmas.{ran_none, ran_some}
use Rattle.ig_shards.specs.declared.touch.Touched.{Touched}
use Rattle.ig_shards.specs.declared.touch.Touched.TheVariants as touched
use Rattle.ig_shards.specs.ShardOf.{shard_of, shard_of_key}
use Rattle.ig_shards.specs.Touches.{touches}
use Rattle.ig_shards.specs.Spread.{IsPlaced}
use Rattle.ig_shards.specs.LegalAt.{cut_cache, cut_to}
use Rattle.ig_shards.proofs.CutLemmas.{caches_cut_twice}
use Rattle.ig_shards.specs.Parts.{Part, beside, both, together, heads, AreAlike, IsPart, AreNumbered, AllAlike}
use Rattle.ig_shards.proofs.SpreadLemmas.{not_less, less_next, not_first, none_elsewhere, placed_changed}
use Rattle.ig_shards.proofs.BesideLemmas.{head, beside_none, beside_heads, HaveNone, none_in_both, all_found, all_with_rows, heads_with_rows, key_first, key_second}

-- ---- calls that touch one shard
-- the call is on types: it looks at no row, leaves the caches, and their number
pub record IsOnTypes (call : Call) : Type 0 where
  pub does : PlainCaches → Outcome × PlainCaches
  pub is : effect call ≡ on_all does
  pub alone : (c d : PlainCaches) → does (both c d) ≡ ((does c).0, both (does c).1 d)
  pub caches : (c : PlainCaches) → (does c).1.caches ≡ c.caches
  pub counts : (c : PlainCaches) → (does c).1.minor ≡ c.minor
  pub answers : (shards : ℕ) (c : PlainCaches) → (does c).0 ≡ (does (cut_to shards 0 c)).0
  pub leaves : (shards : ℕ) (c : PlainCaches) → cut_to shards 0 (does c).1 ≡ cut_to shards 0 (does (cut_to shards 0 c)).1

-- a call on a key that lies in the shard
pub record IsOnKeyIn (call : Call) (shards shard : ℕ) : Type 0 where
  pub id : ℤ
  pub key : Value
  pub on : IsOnKey call id key
  pub there : shard_of_key shards key ≡ shard

-- what a call that touches one shard is
abbrev pub IsApart : Call → ℕ → ℕ → Type 0
IsApart call shards shard = IsOnKeyIn call shards shard ⊎ (IsOnTypes call × (shard ≡ 0))

the_shard : Touched → ℕ
the_shard (touched.One shard) = shard
the_shard _ = 0

one_shard : (a b : ℕ) → touched.One a ≡ touched.One b → a ≡ b
unfolding the_shard
one_shard a b e = ap the_shard e

module _ (call : Call) (shards shard : ℕ) (id : ℤ) (key : Value) where
  on_key : (f : Option Value → Outcome × Change) → effect call ≡ on_rows id (at_key key f) → touched.One (shard_of_key shards key) ≡ touched.One shard → IsApart call shards shard
  on_key f is there = inl (record { id = id; key = key; on = record { does = f; is = is }; there = one_shard (shard_of_key shards key) shard there })

any_in_both : (id : ℤ) (caches others : List Cache) → list_any (has_id id) (beside caches others) ≡ list_any (has_id id) caches
any_in_both id [] others = refl
any_in_both id (a ∷ caches) [] = refl
any_in_both id (a ∷ caches) (b ∷ others) = ap (λ (t : Bool). has_id id a || t) (any_in_both id caches others)

all_in_both : (ids : List ℤ) (caches others : List Cache) → list_all (λ id. list_any (has_id id) (beside caches others)) ids ≡ list_all (λ id. list_any (has_id id) caches) ids
all_in_both [] caches others = refl
all_in_both (id ∷ ids) caches others = ap₂ (λ (s t : Bool). s && t) (any_in_both id caches others) (all_in_both ids caches others)

-- other types, whether the rows were cut before or not
cut_types : (shards : ℕ) (c : PlainCaches) (r : Registered) → cut_to shards 0 (record c { registry = r }) ≡ cut_to shards 0 (record (cut_to shards 0 c) { registry = r })
cut_types shards c r = ap (λ (d : PlainCaches). record d { registry = r }) (sym (caches_cut_twice shards 0 c))

module _ (meta : TypeMeta) (c d : PlainCaches) where
  put_left : PlainCaches → Option Clash → Outcome × PlainCaches
  put_left e o = option_map_or (λ (clash : Clash). (Refused (why.Clash clash), e)) o (Done, record e { registry = registry_after_put c.registry meta })

  put_beside : (o : Option Clash) → put_left (both c d) o ≡ ((put_left c o).0, both (put_left c o).1 d)
  unfolding put_left
  put_beside None = refl
  put_beside (Some clash) = refl

  put_caches : (o : Option Clash) → (put_left c o).1.caches ≡ c.caches
  unfolding put_left
  put_caches None = refl
  put_caches (Some clash) = refl

  put_counts : (o : Option Clash) → (put_left c o).1.minor ≡ c.minor
  unfolding put_left
  put_counts None = refl
  put_counts (Some clash) = refl

  put_cut : (shards : ℕ) (o : Option Clash) → ((put_left c o).0 ≡ (put_left (cut_to shards 0 c) o).0) × (cut_to shards 0 (put_left c o).1 ≡ cut_to shards 0 (put_left (cut_to shards 0 c) o).1)
  unfolding put_left
  put_cut shards None = (refl, cut_types shards c (registry_after_put c.registry meta))
  put_cut shards (Some clash) = (refl, sym (caches_cut_twice shards 0 c))

  put_answers : (shards : ℕ) → (after_put_type meta c).0 ≡ (after_put_type meta (cut_to shards 0 c)).0
  unfolding put_left
  put_answers shards = (put_cut shards (put_clash c.registry meta)).0

  put_seen : (shards : ℕ) → cut_to shards 0 (after_put_type meta c).1 ≡ cut_to shards 0 (after_put_type meta (cut_to shards 0 c)).1
  unfolding put_left
  put_seen shards = (put_cut shards (put_clash c.registry meta)).1

  put_alone : after_put_type meta (both c d) ≡ ((after_put_type meta c).0, both (after_put_type meta c).1 d)
  unfolding put_left
  put_alone = put_beside (put_clash c.registry meta)

  put_leaves : (after_put_type meta c).1.caches ≡ c.caches
  unfolding put_left
  put_leaves = put_caches (put_clash c.registry meta)

  put_same_count : (after_put_type meta c).1.minor ≡ c.minor
  unfolding put_left
  put_same_count = put_counts (put_clash c.registry meta)

any_seen : (shards : ℕ) (id : ℤ) (caches : List Cache) → list_any (has_id id) (map (cut_cache shards 0) caches) ≡ list_any (has_id id) caches
any_seen shards id [] = refl
any_seen shards id (a ∷ caches) = ap (λ (t : Bool). has_id id a || t) (any_seen shards id caches)

all_ids_seen : (shards : ℕ) (ids : List ℤ) (caches : List Cache) → list_all (λ id. list_any (has_id id) (map (cut_cache shards 0) caches)) ids ≡ list_all (λ id. list_any (has_id id) caches) ids
all_ids_seen shards [] caches = refl
all_ids_seen shards (id ∷ ids) caches = ap₂ (λ (s t : Bool). s && t) (any_seen shards id caches) (all_ids_seen shards ids caches)

keys_seen : (ids : List ℤ) (shards : ℕ) (c : PlainCaches) → affinity_of (cut_to shards 0 c) ids ≡ affinity_of c ids
keys_seen ids shards c = ap (λ (t : Bool). cond t (Keys (affinity_pairs_of c.registry)) (Refused why.NoCache)) (all_ids_seen shards ids c.caches)

keys_alone : (ids : List ℤ) (c d : PlainCaches) → affinity_of (both c d) ids ≡ affinity_of c ids
keys_alone ids c d = ap (λ (t : Bool). cond t (Keys (affinity_pairs_of c.registry)) (Refused why.NoCache)) (all_in_both ids c.caches d.caches)

pub apart : (call : Call) (shards shard : ℕ) → touches call shards ≡ touched.One shard → IsApart call shards shard
apart (Get id key) n s is = on_key (Get id key) n s id key (λ v. (Found (or_null v), keep)) refl is
apart (ContainsKey id key) n s is = on_key (ContainsKey id key) n s id key (λ v. (Yes (is_some v), keep)) refl is
apart (Put id key value) n s is = on_key (Put id key value) n s id key (λ v. (Done, store value)) refl is
apart (PutIfAbsent id key value) n s is =
    on_key (PutIfAbsent id key value) n s id key (λ v. (Yes (is_none v), keep_unless (is_none v) (store value))) refl is
apart (GetAndPut id key value) n s is = on_key (GetAndPut id key value) n s id key (λ v. (Found (or_null v), store value)) refl is
apart (GetAndReplace id key value) n s is =
    on_key (GetAndReplace id key value) n s id key (λ v. (Found (or_null v), keep_unless (is_some v) (store value))) refl is
apart (GetAndPutIfAbsent id key value) n s is =
    on_key (GetAndPutIfAbsent id key value) n s id key (λ v. (Found (or_null v), keep_unless (is_none v) (store value))) refl is
apart (GetAndRemove id key) n s is = on_key (GetAndRemove id key) n s id key (λ v. (Found (or_null v), remove)) refl is
apart (Replace id key value) n s is =
    on_key (Replace id key value) n s id key (λ v. (Yes (is_some v), keep_unless (is_some v) (store value))) refl is
apart (ReplaceIfEquals id key wanted value) n s is =
    on_key (ReplaceIfEquals id key wanted value) n s id key (λ v. (Yes (is_wanted wanted v), keep_unless (is_wanted wanted v) (store value))) refl is
apart (ClearKey id key) n s is = on_key (ClearKey id key) n s id key (λ v. (Done, remove)) refl is
apart (RemoveKey id key) n s is = on_key (RemoveKey id key) n s id key (λ v. (Yes (is_some v), remove)) refl is
apart (RemoveIfEquals id key wanted) n s is =
    on_key (RemoveIfEquals id key wanted) n s id key (λ v. (Yes (is_wanted wanted v), keep_unless (is_wanted wanted v) remove)) refl is
apart (TypeName platform type) n s is = inr (
  record {
    does = λ c. (type_name (finite.get c.registry.names (platform, type)), c);
    is = refl;
    alone = λ c d. refl;
    caches = λ c. refl;
    counts = λ c. refl;
    answers = λ shards c. refl;
    leaves = λ shards c. sym (caches_cut_twice shards 0 c);
  },
  one_shard s 0 (sym is),
)
apart (SetTypeName platform type name) n s is = inr (
  record {
    does = λ c. (Yes (admits_name c.registry (platform, type) name), record c { registry = registry_after_name c.registry (platform, type) name });
    is = refl;
    alone = λ c d. refl;
    caches = λ c. refl;
    counts = λ c. refl;
    answers = λ shards c. refl;
    leaves = λ shards c. cut_types shards c (registry_after_name c.registry (platform, type) name);
  },
  one_shard s 0 (sym is),
)
apart (TypeOf type) n s is = inr (
  record {
    does = λ c. (Meta (finite.get c.registry.types type), c);
    is = refl;
    alone = λ c d. refl;
    caches = λ c. refl;
    counts = λ c. refl;
    answers = λ shards c. refl;
    leaves = λ shards c. sym (caches_cut_twice shards 0 c);
  },
  one_shard s 0 (sym is),
)
apart (PutType meta) n s is = inr (
  record {
    does = after_put_type meta;
    is = refl;
    alone = λ c d. put_alone meta c d;
    caches = λ c. put_leaves meta c c;
    counts = λ c. put_same_count meta c c;
    answers = λ shards c. put_answers meta c c shards;
    leaves = λ shards c. put_seen meta c c shards;
  },
  one_shard s 0 (sym is),
)
apart (Affinity ids) n s is = inr (
  record {
    does = λ c. (affinity_of c ids, c);
    is = refl;
    alone = λ c d. ap (λ (o : Outcome). (o, both c d)) (keys_alone ids c d);
    caches = λ c. refl;
    counts = λ c. refl;
    answers = λ shards c. sym (keys_seen ids shards c);
    leaves = λ shards c. sym (caches_cut_twice shards 0 c);
  },
  one_shard s 0 (sym is),
)
apart _ n s is = absurd (cc)

-- ---- rows that lie in their shards
none_placed : (shards shard : ℕ) (form : List ℕ) (caches : List Cache) → All (λ (cache : Cache). IsPlaced shards shard cache.rows) caches → (shard_of shards form ≡ shard → ⊥) → HaveNone form caches
none_placed shards shard form [] placed other = All-nil (λ (cache : Cache). finite.get cache.rows form ≡ None)
none_placed shards shard form (cache ∷ caches) placed other =
    let P : Cache → Type 0 = λ k. IsPlaced shards shard k.rows in
    All-cons (λ (k : Cache). finite.get k.rows form ≡ None) cache caches
    (none_elsewhere shards shard cache.rows form (All-head P cache caches placed) other)
    (none_placed shards shard form caches (All-tail P cache caches placed) other)

-- another shard has no row of these bytes
pub none_in_part : (shards shard : ℕ) (form : List ℕ) (part : Part) → IsPart part → part.number ≡ shard → part.shards ≡ shards → (shard_of shards form ≡ shard → ⊥)
    → HaveNone form part.caches.caches
none_in_part shards shard form part it number count other =
    none_placed part.shards part.number form part.caches.caches it.placed
    (λ here. other (sym (ap (λ n. shard_of n form) count) ∙ here ∙ number))

-- and so have all shards from a higher number on
pub none_after : (shards next : ℕ) (form : List ℕ) (parts : List Part) → AreNumbered shards next parts → shard_of shards form < next → HaveNone form (together parts).caches
none_after shards next form [] numbered before = All-nil (λ (cache : Cache). finite.get cache.rows form ≡ None)
none_after shards next form (part ∷ parts) numbered before =
    none_in_both form part.caches.caches (together parts).caches
    (none_in_part shards next form part numbered.2 numbered.0 numbered.1 (λ here. not_less (shard_of shards form) next here before))
    (none_after shards (suc next) form parts numbered.3 (less_next (shard_of shards form) next before))

-- ---- lists of shards
pub number_at : (shards next : ℕ) (before later : List Part) (part : Part) → AreNumbered shards next (before ++ part ∷ later) → part.number ≡ next + length before
number_at shards next [] later part numbered = let e : part.number ≡ next = numbered.0 in omega (arith, e)
number_at shards next (first ∷ before) later part numbered =
    let e : part.number ≡ suc next + length before = number_at shards (suc next) before later part numbered.3 in
    omega (arith, e)

pub part_at : (shards next : ℕ) (before later : List Part) (part : Part) → AreNumbered shards next (before ++ part ∷ later) → IsPart part × (part.shards ≡ shards)
part_at shards next [] later part numbered = (numbered.2, numbered.1)
part_at shards next (first ∷ before) later part numbered = part_at shards (suc next) before later part numbered.3

numbered_later : (shards next : ℕ) (part : Part) (parts : List Part) → AreNumbered shards next (part ∷ parts) → AreNumbered shards (suc next) parts
numbered_later shards next part parts numbered = numbered.3

pub alike_at : (c : PlainCaches) (before later : List Part) (part : Part) → AllAlike c (before ++ part ∷ later) → AreAlike c part.caches
alike_at c [] later part all = All-head (λ (p : Part). AreAlike c p.caches) part later all
alike_at c (first ∷ before) later part all = alike_at c before later part (All-tail (λ (p : Part). AreAlike c p.caches) first (before ++ part ∷ later) all)

-- all shards have the names of any of them
pub heads_together : (c : PlainCaches) (before later : List Part) (part : Part) → AllAlike c (before ++ part ∷ later) → heads c ≡ heads (together (before ++ part ∷ later))
heads_together c [] later part all =
    (All-head (λ (p : Part). AreAlike c p.caches) part later all).names ∙ sym (beside_heads part.caches.caches (together later).caches)
heads_together c (first ∷ before) later part all =
    (All-head (λ (p : Part). AreAlike c p.caches) first (before ++ part ∷ later) all).names
    ∙ sym (beside_heads first.caches.caches (together (before ++ part ∷ later)).caches)

pub both_none : (c : PlainCaches) → both c (fresh_caches []) ≡ c
both_none c = ap (λ (cs : List Cache). record c { caches = cs }) (beside_none c.caches)

before_next : (a m n : ℕ) → a ≡ m → m ≡ n → a < suc n
before_next a m n e f = omega (arith, e, f)

-- ---- the call needs its shard alone
first_alone : (shards next : ℕ) (c : PlainCaches) (later : List Part) (part : Part) (call : Call) → AreNumbered shards next (part ∷ later) → AllAlike c (part ∷ later) → IsApart call shards part.number
    → ran (together (part ∷ later)) (effect call) ≡ ((ran part.caches (effect call)).0, both (ran part.caches (effect call)).1 (together later))
first_alone shards next c [] part call numbered all it =
    ap (λ (d : PlainCaches). ran d (effect call)) (both_none part.caches)
    ∙ ap (λ (d : PlainCaches). ((ran part.caches (effect call)).0, d)) (sym (both_none (ran part.caches (effect call)).1))
first_alone shards next c (other ∷ later) part call numbered all (inl it) =
    let P : Part → Type 0 = λ p. AreAlike c p.caches in
    let rest : PlainCaches = together (other ∷ later) in
    let names : heads part.caches ≡ heads rest =
    sym (All-head P part (other ∷ later) all).names ∙ heads_together c [] later other (All-tail P part (other ∷ later) all) in
    let none : HaveNone (Canon it.key) rest.caches =
    none_after shards (suc next) (Canon it.key) (other ∷ later) numbered.3 (before_next (shard_of_key shards it.key) part.number next it.there numbered.0) in
    ap (ran (both part.caches rest)) it.on.is
    ∙ key_first part.caches rest it.id it.key it.on.does names none
    ∙ sym (ap (λ (e : Effect). ((ran part.caches e).0, both (ran part.caches e).1 rest)) it.on.is)
first_alone shards next c (other ∷ later) part call numbered all (inr it) =
    let rest : PlainCaches = together (other ∷ later) in
    ap (ran (both part.caches rest)) it.0.is ∙ it.0.alone part.caches rest
    ∙ sym (ap (λ (e : Effect). ((ran part.caches e).0, both (ran part.caches e).1 rest)) it.0.is)

pub alone : (shards next : ℕ) (c : PlainCaches) (before later : List Part) (part : Part) (call : Call) → AreNumbered shards next (before ++ part ∷ later) → AllAlike c (before ++ part ∷ later)
    → IsApart call shards part.number
    → ran (together (before ++ part ∷ later)) (effect call)
    ≡ ((ran part.caches (effect call)).0, together (before ++ record part { caches = (ran part.caches (effect call)).1 } ∷ later))
alone shards next c [] later part call numbered all it = first_alone shards next c later part call numbered all it
alone shards next c (first ∷ before) later part call numbered all (inl it) =
    let P : Part → Type 0 = λ p. AreAlike c p.caches in
    let rest : PlainCaches = together (before ++ part ∷ later) in
    let others : AllAlike c (before ++ part ∷ later) = All-tail P first (before ++ part ∷ later) all in
    let names : heads first.caches ≡ heads rest = sym (All-head P first (before ++ part ∷ later) all).names ∙ heads_together c before later part others in
    let number : part.number ≡ next + suc (length before) = number_at shards next (first ∷ before) later part numbered in
    let none : HaveNone (Canon it.key) first.caches.caches =
    none_in_part shards next (Canon it.key) first numbered.2 numbered.0 numbered.1 (λ here. not_first (shard_of_key shards it.key) next (length before) here (it.there ∙ number)) in
    ap (ran (both first.caches rest)) it.on.is
    ∙ key_second first.caches rest it.id it.key it.on.does names none
    ∙ sym (ap (λ (e : Effect). ((ran rest e).0, both first.caches (ran rest e).1)) it.on.is)
    ∙ ap (λ (r : Outcome × PlainCaches). (r.0, both first.caches r.1)) (alone shards (suc next) c before later part call numbered.3 others (inl it))
alone shards next c (first ∷ before) later part call numbered all (inr it) =
    let number : part.number ≡ next + suc (length before) = number_at shards next (first ∷ before) later part numbered in
    absurd (omega (arith, number, it.1))

-- ---- what a call on one shard leaves of it
key_keeps : (shards shard : ℕ) (c : PlainCaches) (id : ℤ) (key : Value) (f : Option Value → Outcome × Change) → shard_of_key shards key ≡ shard
    → All (λ (cache : Cache). IsPlaced shards shard cache.rows) c.caches
    → All (λ (cache : Cache). IsPlaced shards shard cache.rows) (ran c (on_rows id (at_key key f))).1.caches × AreAlike c (ran c (on_rows id (at_key key f))).1
key_keeps shards shard c id key f there placed = by (cache_of c.caches id) refl
  where
    by : (o : Option Cache) → cache_of c.caches id ≡ o → All (λ (cache : Cache). IsPlaced shards shard cache.rows) (ran c (on_rows id (at_key key f))).1.caches × AreAlike c (ran c (on_rows id (at_key key f))).1
    by None is =
        let P : Outcome × PlainCaches → Type 0 = λ r. All (λ (cache : Cache). IsPlaced shards shard cache.rows) r.1.caches × AreAlike c r.1 in
        subst P (sym (ran_none c id (at_key key f) is)) (placed, record { names = refl; counts = refl })
    by (Some cache) is =
        let P : Outcome × PlainCaches → Type 0 = λ r. All (λ (cache : Cache). IsPlaced shards shard cache.rows) r.1.caches × AreAlike c r.1 in
        let rows : Rows = (at_key key f cache.rows).1 in
        let it : IsPlaced shards shard rows =
        placed_changed shards shard cache.rows key (f _).1 there (all_found (λ (k : Cache). IsPlaced shards shard k.rows) c.caches id cache placed is) in
        subst P (sym (ran_some c id (at_key key f) cache is))
        (all_with_rows (IsPlaced shards shard) c.caches id rows placed it, record { names = sym (heads_with_rows c.caches id rows); counts = refl })

key_types : (c : PlainCaches) (id : ℤ) (key : Value) (f : Option Value → Outcome × Change) → (ran c (on_rows id (at_key key f))).1.registry ≡ c.registry
key_types c id key f = by (cache_of c.caches id) refl
  where
    by : (o : Option Cache) → cache_of c.caches id ≡ o → (ran c (on_rows id (at_key key f))).1.registry ≡ c.registry
    by None is = ap (λ (r : Outcome × PlainCaches). r.1.registry) (ran_none c id (at_key key f) is)
    by (Some cache) is = ap (λ (r : Outcome × PlainCaches). r.1.registry) (ran_some c id (at_key key f) cache is)

-- it stays a shard, with its names and its count
pub apart_keeps : (part : Part) (call : Call) → IsPart part → IsApart call part.shards part.number
    → IsPart (record part { caches = (ran part.caches (effect call)).1 }) × AreAlike part.caches (ran part.caches (effect call)).1
apart_keeps part call it (inl on) =
    let left : Effect → Type 0 = λ e. IsPart (record part { caches = (ran part.caches e).1 }) × AreAlike part.caches (ran part.caches e).1 in
    let kept = key_keeps part.shards part.number part.caches on.id on.key on.on.does on.there it.placed in
    subst left (sym on.on.is) (record { within = it.within; few = it.few; placed = kept.0; typeless = λ other. key_types part.caches on.id on.key on.on.does ∙ it.typeless other }, kept.1)
apart_keeps part call it (inr on) =
    let left : Effect → Type 0 = λ e. IsPart (record part { caches = (ran part.caches e).1 }) × AreAlike part.caches (ran part.caches e).1 in
    subst left (sym on.0.is) (
      record {
        within = it.within;
        few = it.few;
        placed = subst (All (λ (cache : Cache). IsPlaced part.shards part.number cache.rows)) (sym (on.0.caches part.caches)) it.placed;
        typeless = λ other. absurd (other on.1);
      },
      record { names = ap (map head) (sym (on.0.caches part.caches)); counts = sym (on.0.counts part.caches) },
    )

-- ---- a list of shards, at an index
pub split_parts : (parts : List Part) (i : ℕ) (d : Part) → i < length parts → take i parts ++ get_or parts i d ∷ drop (suc i) parts ≡ parts
split_parts [] i d within = absurd (omega (arith, within))
split_parts (part ∷ parts) zero d within = refl
split_parts (part ∷ parts) (suc i) d within = ap (λ (ps : List Part). part ∷ ps) (split_parts parts i d (omega (arith, within)))

pub split_set : (parts : List Part) (i : ℕ) (new : Part) → i < length parts → set parts i new ≡ take i parts ++ new ∷ drop (suc i) parts
split_set [] i new within = absurd (omega (arith, within))
split_set (part ∷ parts) zero new within = refl
split_set (part ∷ parts) (suc i) new within = ap (λ (ps : List Part). part ∷ ps) (split_set parts i new (omega (arith, within)))

-- with another part of the same number they stay the shards
pub numbered_set : (shards next i : ℕ) (parts : List Part) (new d : Part) → AreNumbered shards next parts → i < length parts → new.number ≡ (get_or parts i d).number → new.shards ≡ (get_or parts i d).shards → IsPart new
    → AreNumbered shards next (set parts i new)
numbered_set shards next i [] new d numbered within number count it = numbered
numbered_set shards next zero (part ∷ parts) new d numbered within number count it = (number ∙ numbered.0, count ∙ numbered.1, it, numbered.3)
numbered_set shards next (suc i) (part ∷ parts) new d numbered within number count it =
    (numbered.0, numbered.1, numbered.2, numbered_set shards (suc next) i parts new d numbered.3 (omega (arith, within)) number count it)

pub alike_set : (c : PlainCaches) (i : ℕ) (parts : List Part) (new : Part) → AllAlike c parts → AreAlike c new.caches → AllAlike c (set parts i new)
alike_set c i [] new all it = all
alike_set c zero (part ∷ parts) new all it =
    let P : Part → Type 0 = λ p. AreAlike c p.caches in
    All-cons P new parts it (All-tail P part parts all)
alike_set c (suc i) (part ∷ parts) new all it =
    let P : Part → Type 0 = λ p. AreAlike c p.caches in
    All-cons P part (set parts i new) (All-head P part parts all) (alike_set c i parts new (All-tail P part parts all) it)
