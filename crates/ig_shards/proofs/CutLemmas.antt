-- What a shard sees of calls: caches cut to it.
use Rattle.std.proofs.Common.{◌≡◌, ◌⊎◌, ℕ, ℤ, nat_eq, Bool, true, false, cond, List, [], ◌∷◌, map, Option, None, Some, option_map, refl, sym, ap, ap₂, ◌∙◌, inl, inr}
use Rattle.std.proofs.lemmas.Bool.{cases_Bool, cond-true, cond-false}
use Rattle.std.specs.Cmp.Lexicographic.{nat_list_cmp_total}
use Rattle.std.specs.FinMap as finite
use Rattle.ig_value.specs.declared.value.Value.{Value}
use Rattle.ig_value.specs.Canon.{Canon}
use Rattle.ig_types.specs.Registered.{Registered, empty_registry}
use Rattle.ig_caches.specs.declared.call.Pair.{Pair}
use Rattle.ig_caches.specs.declared.answer.Outcome.{Outcome}
use Rattle.ig_caches.specs.Rows.{Rows, with_row, without_row, with_rows, without_rows}
use Rattle.ig_caches.specs.PlainCaches.{Cache, PlainCaches, has_id, cache_of, caches_with_rows}
use Rattle.ig_caches.specs.Effect.{Effect, Change, on_rows, keep, store, remove, changed}
use Rattle.ig_caches.specs.Answered.{ran}
use Rattle.ig_caches.proofs.RowEntryLemmas.{exact, ties, tied_same, same_rows}
use Rattle.ig_caches.proofs.KeyLemmas.{ran_none, ran_some}
use Rattle.ig_caches.proofs.CacheLemmas.{with_own}
use Rattle.ig_shards.specs.ShardOf.{shard_of}
use Rattle.ig_shards.specs.LegalAt.{rows_in, types_in, cut_cache, cut_to}

module _ (shards shard : ℕ) where
  -- tests whether the bytes lie in the shard
  abbrev pub lies : List ℕ → Bool
  lies form = nat_eq (shard_of shards form) shard

  abbrev cut : Rows → Rows
  cut rows = rows_in shards shard rows

  -- the rows agree on the shard
  abbrev pub Agree : Rows → Rows → Type 0
  Agree a b = (q : List ℕ) → lies q ≡ true → finite.get a q ≡ finite.get b q

  get_cut : (rows : Rows) (q : List ℕ) → finite.get (cut rows) q ≡ cond (lies q) (finite.get rows q) None
  get_cut rows q = finite.get-retain_keys rows lies q (λ x t. ap lies (sym (exact q x t)))

  pub cut_agrees : (rows : Rows) → Agree (cut rows) rows
  cut_agrees rows q in_it = get_cut rows q ∙ cond-true (lies q) _ _ in_it

  -- rows that agree are cut to the same
  pub same_cut : (a b : Rows) → Agree a b → cut a ≡ cut b
  same_cut a b agree = same_rows (cut a) (cut b) (λ q. get_cut a q ∙ at q (cases_Bool (lies q)) ∙ sym (get_cut b q))
    where
      at : (q : List ℕ) → (lies q ≡ true) ⊎ (lies q ≡ false) → cond (lies q) (finite.get a q) None ≡ cond (lies q) (finite.get b q) None
      at q (inl in_it) = ap (λ (o : Option Pair). cond (lies q) o None) (agree q in_it)
      at q (inr out) = cond-false (lies q) _ _ out ∙ sym (cond-false (lies q) _ _ out)

  pub agree_with : (a b : Rows) (form : List ℕ) (row : Pair) → Agree a b → Agree (finite.insert a form row) (finite.insert b form row)
  agree_with a b form row agree q in_it =
      finite.get-insert nat_list_cmp_total a form row q ∙ ap (cond (ties q form) (Some row)) (agree q in_it) ∙ sym (finite.get-insert nat_list_cmp_total b form row q)

  pub agree_without : (a b : Rows) (form : List ℕ) → Agree a b → Agree (finite.remove a form) (finite.remove b form)
  agree_without a b form agree q in_it =
      finite.get-remove nat_list_cmp_total a form q ∙ ap (cond (ties q form) None) (agree q in_it) ∙ sym (finite.get-remove nat_list_cmp_total b form q)

  pub agree_rows : (a b : Rows) (pairs : List Pair) → Agree a b → Agree (with_rows a pairs) (with_rows b pairs)
  agree_rows a b [] agree = agree
  agree_rows a b (pair ∷ pairs) agree = agree_rows (with_row a pair) (with_row b pair) pairs (agree_with a b (Canon pair.key) pair agree)

  pub agree_without_rows : (a b : Rows) (keys : List Value) → Agree a b → Agree (without_rows a keys) (without_rows b keys)
  agree_without_rows a b [] agree = agree
  agree_without_rows a b (key ∷ keys) agree = agree_without_rows (without_row a key) (without_row b key) keys (agree_without a b (Canon key) agree)

  -- rows under bytes of another shard change nothing here
  pub agree_elsewhere : (rows : Rows) (key : Value) (change : Change) → lies (Canon key) ≡ false → Agree (changed rows key change) rows
  agree_elsewhere rows key keep out q in_it = refl
  agree_elsewhere rows key (store value) out q in_it = elim (cases_Bool (ties q (Canon key))) [
    | inl tied ↦ let never : false ≡ true = sym out ∙ ap lies (sym (tied_same q (Canon key) tied)) ∙ in_it in absurd (cc)
    | inr apart ↦ finite.get-insert nat_list_cmp_total rows (Canon key) (record { key = key; value = value }) q ∙ cond-false (ties q (Canon key)) _ _ apart
  ]
  agree_elsewhere rows key remove out q in_it = elim (cases_Bool (ties q (Canon key))) [
    | inl tied ↦ let never : false ≡ true = sym out ∙ ap lies (sym (tied_same q (Canon key) tied)) ∙ in_it in absurd (cc)
    | inr apart ↦ finite.get-remove nat_list_cmp_total rows (Canon key) q ∙ cond-false (ties q (Canon key)) _ _ apart
  ]

  pub agree_changed : (a b : Rows) (key : Value) (change : Change) → Agree a b → Agree (changed a key change) (changed b key change)
  agree_changed a b key keep agree = agree
  agree_changed a b key (store value) agree = agree_with a b (Canon key) (record { key = key; value = value }) agree
  agree_changed a b key remove agree = agree_without a b (Canon key) agree

  -- ---- caches
  abbrev cut_it : Cache → Cache
  cut_it cache = cut_cache shards shard cache

  cut_twice : (rows : Rows) → cut (cut rows) ≡ cut rows
  cut_twice rows = same_cut (cut rows) rows (cut_agrees rows)

  pub found_cut : (caches : List Cache) (id : ℤ) → cache_of (map cut_it caches) id ≡ option_map cut_it (cache_of caches id)
  found_cut [] id = refl
  found_cut (a ∷ caches) id = elim (cases_Bool (has_id id a)) [
    | inl here ↦ cond-true (has_id id a) _ _ here ∙ sym (ap (option_map cut_it) (cond-true (has_id id a) (Some a) (cache_of caches id) here))
    | inr later ↦
        cond-false (has_id id a) _ _ later ∙ found_cut caches id
        ∙ sym (ap (option_map cut_it) (cond-false (has_id id a) (Some a) (cache_of caches id) later))
  ]

  with_rows_cut : (caches : List Cache) (id : ℤ) (rows : Rows) → map cut_it (caches_with_rows caches id rows) ≡ caches_with_rows (map cut_it caches) id (cut rows)
  with_rows_cut [] id rows = refl
  with_rows_cut (a ∷ caches) id rows = elim (cases_Bool (has_id id a)) [
    | inl here ↦ ap (map cut_it) (cond-true (has_id id a) _ _ here) ∙ sym (cond-true (has_id id a) _ _ here)
    | inr later ↦
        ap (map cut_it) (cond-false (has_id id a) _ _ later) ∙ ap (λ cs. cut_it a ∷ cs) (with_rows_cut caches id rows)
        ∙ sym (cond-false (has_id id a) _ _ later)
  ]

  caches_twice : (caches : List Cache) → map cut_it (map cut_it caches) ≡ map cut_it caches
  caches_twice [] = refl
  caches_twice (a ∷ caches) = ap₂ (λ (r : Rows) (cs : List Cache). record a { rows = r } ∷ cs) (cut_twice a.rows) (caches_twice caches)

  types_twice : (r : Registered) → types_in shard (types_in shard r) ≡ types_in shard r
  types_twice r = by (nat_eq shard 0)
    where
      by : (t : Bool) → cond t (cond t r empty_registry) empty_registry ≡ cond t r empty_registry
      by true = refl
      by false = refl

  pub caches_cut_twice : (c : PlainCaches) → cut_to shards shard (cut_to shards shard c) ≡ cut_to shards shard c
  caches_cut_twice c = λ i. record { caches = caches_twice c.caches i; registry = types_twice c.registry i; minor = c.minor }

  -- a call on rows that depends on rows of this shard alone, as to what it leaves here
  abbrev pub Respects : (Rows → Outcome × Rows) → Type 0
  Respects f = (a b : Rows) → Agree a b → Agree (f a).1 (f b).1

  module _ (c : PlainCaches) (id : ℤ) (f : Rows → Outcome × Rows) where
    abbrev call_on : Effect
    call_on = on_rows id f

    -- leaves here what it leaves of the caches cut to the shard
    pub rows_left : Respects f → cut_to shards shard (ran c call_on).1 ≡ cut_to shards shard (ran (cut_to shards shard c) call_on).1
    rows_left respects = by (cache_of c.caches id) refl
      where
        by : (o : Option Cache) → cache_of c.caches id ≡ o → cut_to shards shard (ran c call_on).1 ≡ cut_to shards shard (ran (cut_to shards shard c) call_on).1
        by None is =
            ap (λ (r : Outcome × PlainCaches). cut_to shards shard r.1) (ran_none c id f is)
            ∙ sym (caches_cut_twice c)
            ∙ sym (ap (λ (r : Outcome × PlainCaches). cut_to shards shard r.1) (ran_none (cut_to shards shard c) id f (found_cut c.caches id ∙ ap (option_map cut_it) is)))
        by (Some cache) is =
            let here : Rows = (f cache.rows).1 in
            let there : Rows = (f (cut cache.rows)).1 in
            let same : cut there ≡ cut here = same_cut there here (respects (cut cache.rows) cache.rows (cut_agrees cache.rows)) in
            let caches : map cut_it (caches_with_rows (map cut_it c.caches) id there) ≡ map cut_it (caches_with_rows c.caches id here) =
            with_rows_cut (map cut_it c.caches) id there
            ∙ ap₂ (λ (cs : List Cache) (r : Rows). caches_with_rows cs id r) (caches_twice c.caches) same ∙ sym (with_rows_cut c.caches id here) in
            ap (λ (r : Outcome × PlainCaches). cut_to shards shard r.1) (ran_some c id f cache is)
            ∙ sym (ap (λ (r : Outcome × PlainCaches). cut_to shards shard r.1)
            (ran_some (cut_to shards shard c) id f (cut_it cache) (found_cut c.caches id ∙ ap (option_map cut_it) is))
            ∙ λ i. record { caches = caches i; registry = types_twice c.registry i; minor = c.minor })

    -- with the outcome the same
    pub rows_answered : ((a b : Rows) → Agree a b → (f a).0 ≡ (f b).0) → (ran c call_on).0 ≡ (ran (cut_to shards shard c) call_on).0
    rows_answered same = by (cache_of c.caches id) refl
      where
        by : (o : Option Cache) → cache_of c.caches id ≡ o → (ran c call_on).0 ≡ (ran (cut_to shards shard c) call_on).0
        by None is =
            ap (λ (r : Outcome × PlainCaches). r.0) (ran_none c id f is)
            ∙ sym (ap (λ (r : Outcome × PlainCaches). r.0) (ran_none (cut_to shards shard c) id f (found_cut c.caches id ∙ ap (option_map cut_it) is)))
        by (Some cache) is =
            ap (λ (r : Outcome × PlainCaches). r.0) (ran_some c id f cache is)
            ∙ sym (same (cut cache.rows) cache.rows (cut_agrees cache.rows))
            ∙ sym (ap (λ (r : Outcome × PlainCaches). r.0) (ran_some (cut_to shards shard c) id f (cut_it cache) (found_cut c.caches id ∙ ap (option_map cut_it) is)))

    -- a call that leaves the rows of this shard leaves the caches as the shard has them
    pub rows_elsewhere : ((a : Rows) → Agree (f a).1 a) → cut_to shards shard (ran c call_on).1 ≡ cut_to shards shard c
    rows_elsewhere stays = by (cache_of c.caches id) refl
      where
        by : (o : Option Cache) → cache_of c.caches id ≡ o → cut_to shards shard (ran c call_on).1 ≡ cut_to shards shard c
        by None is = ap (λ (r : Outcome × PlainCaches). cut_to shards shard r.1) (ran_none c id f is)
        by (Some cache) is =
            let caches : map cut_it (caches_with_rows c.caches id (f cache.rows).1) ≡ map cut_it c.caches =
            with_rows_cut c.caches id (f cache.rows).1
            ∙ ap (caches_with_rows (map cut_it c.caches) id) (same_cut (f cache.rows).1 cache.rows (stays cache.rows))
            ∙ sym (with_rows_cut c.caches id cache.rows)
            ∙ ap (map cut_it) (with_own c.caches id cache is) in
            ap (λ (r : Outcome × PlainCaches). cut_to shards shard r.1) (ran_some c id f cache is)
            ∙ λ i. record { caches = caches i; registry = types_in shard c.registry; minor = c.minor }
