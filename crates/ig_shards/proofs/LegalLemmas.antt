-- Of a legal history each shard sees a legal one.
use Rattle.std.proofs.Common.{◌≡◌, ◌++◌, ℕ, suc, ℤ, pos, nat_eq, nat_le, Bool, true, false, cond, List, [], ◌∷◌, length, map, Option, None, Some, option_map, refl, sym, ap, ap₂, ◌∙◌, subst, inl, inr, arith}
use Rattle.std.proofs.lemmas.Bool.{cond-false}
use Rattle.std.proofs.lemmas.Bool.Decides.{nat_tests}
use Rattle.std.specs.Option.{option_map_or}
use Rattle.std.specs.List.{list_all}
use Rattle.std.specs.FinMap as finite
use Rattle.ig_base.specs.declared.entry.Entry.{Entry}
use Rattle.ig_value.specs.declared.value.Value.{Value}
use Rattle.ig_value.specs.Canon.{Canon}
use Rattle.ig_types.specs.Join.{same_name}
use Rattle.ig_types.specs.Registered.{Registered, empty_registry}
use Rattle.ig_caches.specs.declared.call.Call.{Call}
use Rattle.ig_caches.specs.declared.call.Call.TheVariants as call
use Rattle.ig_caches.specs.declared.call.Pair.{Pair}
use Rattle.ig_caches.specs.declared.answer.Outcome.{Outcome}
use Rattle.ig_caches.specs.declared.answer.Outcome.TheVariants.{Done, Yes, Pairs, Count, Refused}
use Rattle.ig_caches.specs.declared.answer.Why.TheVariants as why
use Rattle.ig_caches.specs.declared.answer.Answer.{Answer}
use Rattle.ig_caches.specs.Rows.{Rows, value_of, has_row, with_rows, without_rows, rows_of, all_rows}
use Rattle.ig_caches.specs.PlainCaches.{Cache, PlainCaches, has_id, id_of, fresh_cache, cache_of, caches_without}
use Rattle.ig_caches.specs.Effect.{Effect, Change, on_rows, effect, changed, at_key, created, changed_to, next_count, max_caches, asks_for_all, count_of, after_create, after_get_or_create, after_destroy}
use Rattle.ig_caches.specs.Answered.{with_rows_at, ran, answered, after}
use Rattle.ig_caches.specs.Legal.{Legal}
use Rattle.ig_shards.specs.declared.touch.Touched.{Touched}
use Rattle.ig_shards.specs.declared.touch.Touched.TheVariants as touched
use Rattle.ig_shards.specs.ShardOf.{shard_of_key}
use Rattle.ig_shards.specs.Touches.{touches}
use Rattle.ig_shards.specs.LegalAt.{rows_in, types_in, cut_cache, cut_to, is_touched, entries_at, IsAnswerAt, LegalAt}
use Rattle.ig_shards.specs.Laws.{LegalAtEachShard}
use Rattle.ig_shards.proofs.CutLemmas.{Agree, Respects, caches_cut_twice, agree_changed, agree_elsewhere, agree_rows, agree_without_rows, cut_agrees, same_cut, found_cut, rows_left, rows_answered, rows_elsewhere}
use Rattle.ig_shards.proofs.PartLemmas.{IsOnTypes, IsApart, apart}

module _ (shards shard : ℕ) where
  abbrev see : PlainCaches → PlainCaches
  see c = cut_to shards shard c

  -- the same is left here, and the same count
  abbrev LeavesAlike : Outcome × PlainCaches → Outcome × PlainCaches → Type 0
  LeavesAlike r s = (see r.1 ≡ see s.1) × (r.1.minor ≡ s.1.minor)

  -- ---- calls on rows
  rows_minor : (c : PlainCaches) (id : ℤ) (f : Rows → Outcome × Rows) → (ran c (on_rows id f)).1.minor ≡ c.minor
  rows_minor c id f = by (cache_of c.caches id)
    where
      by : (o : Option Cache) → (option_map_or (λ (cache : Cache). with_rows_at c id (f cache.rows)) o (Refused why.NoCache, c)).1.minor ≡ c.minor
      by None = refl
      by (Some cache) = refl

  rows_seen : (c : PlainCaches) (id : ℤ) (f : Rows → Outcome × Rows) → Respects shards shard f → LeavesAlike (ran c (on_rows id f)) (ran (see c) (on_rows id f))
  rows_seen c id f respects = (rows_left shards shard c id f respects, rows_minor c id f ∙ sym (rows_minor (see c) id f))

  -- ---- creations and destructions
  cut_rows_twice : (cache : Cache) → cut_cache shards shard (cut_cache shards shard cache) ≡ cut_cache shards shard cache
  cut_rows_twice cache = ap (λ (r : Rows). record cache { rows = r }) (same_cut shards shard (rows_in shards shard cache.rows) cache.rows (cut_agrees shards shard cache.rows))

  added_cut : (name : List ℕ) (caches : List Cache)
      → map (cut_cache shards shard) (caches ++ fresh_cache name ∷ []) ≡ map (cut_cache shards shard) (map (cut_cache shards shard) caches ++ fresh_cache name ∷ [])
  added_cut name [] = refl
  added_cut name (a ∷ caches) = ap₂ (λ (k : Cache) (cs : List Cache). k ∷ cs) (sym (cut_rows_twice a)) (added_cut name caches)

  seen_twice : (cs : List Cache) → map (cut_cache shards shard) cs ≡ map (cut_cache shards shard) (map (cut_cache shards shard) cs)
  seen_twice [] = refl
  seen_twice (k ∷ cs) = ap₂ (λ (k : Cache) (cs : List Cache). k ∷ cs) (sym (cut_rows_twice k)) (seen_twice cs)

  removed_by : (id : ℤ) (a : Cache) (caches : List Cache) (b : Bool)
      → map (cut_cache shards shard) (caches_without caches id) ≡ map (cut_cache shards shard) (caches_without (map (cut_cache shards shard) caches) id)
      → map (cut_cache shards shard) (cond b caches (a ∷ caches_without caches id))
      ≡ map (cut_cache shards shard) (cond b (map (cut_cache shards shard) caches) (cut_cache shards shard a ∷ caches_without (map (cut_cache shards shard) caches) id))
  removed_by id a caches true rest = seen_twice caches
  removed_by id a caches false rest = ap₂ (λ (k : Cache) (cs : List Cache). k ∷ cs) (sym (cut_rows_twice a)) rest

  removed_cut : (id : ℤ) (caches : List Cache)
      → map (cut_cache shards shard) (caches_without caches id) ≡ map (cut_cache shards shard) (caches_without (map (cut_cache shards shard) caches) id)
  removed_cut id [] = refl
  removed_cut id (a ∷ caches) = removed_by id a caches (has_id id a) (removed_cut id caches)

  cut_length : (caches : List Cache) → length (map (cut_cache shards shard) caches) ≡ length caches
  cut_length [] = refl
  cut_length (a ∷ caches) = ap suc (cut_length caches)

  types_seen_twice : (r : Registered) → types_in shard (types_in shard r) ≡ types_in shard r
  types_seen_twice r = by (nat_eq shard 0)
    where
      by : (t : Bool) → cond t (cond t r empty_registry) empty_registry ≡ cond t r empty_registry
      by true = refl
      by false = refl

  abbrev made_seen : PlainCaches → List ℕ → Outcome × PlainCaches
  made_seen c name = changed_to (see c) ((see c).caches ++ fresh_cache name ∷ [])

  abbrev create_found : List ℕ → Option Cache → PlainCaches → Outcome × PlainCaches
  create_found name o d = option_map_or (λ (cache : Cache). (Refused why.CacheExists, d)) o (created d name)

  abbrev get_or_create_found : List ℕ → Option Cache → PlainCaches → Outcome × PlainCaches
  get_or_create_found name o d = option_map_or (λ (cache : Cache). cond (same_name cache.name name) (Done, d) (Refused why.CacheExists, d)) o (created d name)

  abbrev destroy_found : ℤ → Option Cache → PlainCaches → Outcome × PlainCaches
  destroy_found id o d = option_map_or (λ (cache : Cache). changed_to d (caches_without d.caches id)) o (Refused why.NoCache, d)

  module _ (c : PlainCaches) where
    changed_seen : (caches others : List Cache) → map (cut_cache shards shard) caches ≡ map (cut_cache shards shard) others → LeavesAlike (changed_to c caches) (changed_to (see c) others)
    changed_seen caches others same = by (next_count c.minor)
      where
        by : (o : Option ℤ) → LeavesAlike (option_map_or (λ (minor : ℤ). (Done, record c { caches = caches; minor = minor })) o (Refused why.TooManyChanges, c))
            (option_map_or (λ (minor : ℤ). (Done, record (see c) { caches = others; minor = minor })) o (Refused why.TooManyChanges, see c))
        by None = (sym (caches_cut_twice shards shard c), refl)
        by (Some minor) = (λ i. record { caches = same i; registry = sym (types_seen_twice c.registry) i; minor = minor }, refl)

    created_seen : (name : List ℕ) → LeavesAlike (created c name) (created (see c) name)
    created_seen name = subst (λ n. LeavesAlike (created c name) (cond (nat_le max_caches n) (Refused why.TooManyCaches, see c) (made_seen c name))) (sym (cut_length c.caches)) (by (nat_le max_caches (length c.caches)))
      where
        by : (b : Bool) → LeavesAlike (cond b (Refused why.TooManyCaches, c) (changed_to c (c.caches ++ fresh_cache name ∷ []))) (cond b (Refused why.TooManyCaches, see c) (made_seen c name))
        by true = (sym (caches_cut_twice shards shard c), refl)
        by false = changed_seen (c.caches ++ fresh_cache name ∷ []) ((see c).caches ++ fresh_cache name ∷ []) (added_cut name c.caches)

    create_seen : (name : List ℕ) → LeavesAlike (after_create name c) (after_create name (see c))
    create_seen name = subst (λ o. LeavesAlike (after_create name c) (create_found name o (see c))) (sym (found_cut shards shard c.caches (id_of name))) (by (cache_of c.caches (id_of name)))
      where
        by : (o : Option Cache) → LeavesAlike (create_found name o c) (create_found name (option_map (cut_cache shards shard) o) (see c))
        by None = created_seen name
        by (Some cache) = (sym (caches_cut_twice shards shard c), refl)

    get_or_create_seen : (name : List ℕ) → LeavesAlike (after_get_or_create name c) (after_get_or_create name (see c))
    get_or_create_seen name = subst (λ o. LeavesAlike (after_get_or_create name c) (get_or_create_found name o (see c))) (sym (found_cut shards shard c.caches (id_of name))) (by (cache_of c.caches (id_of name)))
      where
        stands : (b : Bool) → LeavesAlike (cond b (Done, c) (Refused why.CacheExists, c)) (cond b (Done, see c) (Refused why.CacheExists, see c))
        stands true = (sym (caches_cut_twice shards shard c), refl)
        stands false = (sym (caches_cut_twice shards shard c), refl)

        by : (o : Option Cache) → LeavesAlike (get_or_create_found name o c) (get_or_create_found name (option_map (cut_cache shards shard) o) (see c))
        by None = created_seen name
        by (Some cache) = stands (same_name cache.name name)

    destroy_seen : (id : ℤ) → LeavesAlike (after_destroy id c) (after_destroy id (see c))
    destroy_seen id = subst (λ o. LeavesAlike (after_destroy id c) (destroy_found id o (see c))) (sym (found_cut shards shard c.caches id)) (by (cache_of c.caches id))
      where
        by : (o : Option Cache) → LeavesAlike (destroy_found id o c) (destroy_found id (option_map (cut_cache shards shard) o) (see c))
        by None = (sym (caches_cut_twice shards shard c), refl)
        by (Some cache) = changed_seen (caches_without c.caches id) (caches_without (see c).caches id) (removed_cut id c.caches)

  -- ---- calls that touch all shards
  all_seen : (ask : Call) (c : PlainCaches) → touches ask shards ≡ touched.All → LeavesAlike (ran c (effect ask)) (ran (see c) (effect ask))
  all_seen (call.GetAll id keys) c is = rows_seen c id (λ rows. (Pairs (rows_of rows keys), rows)) (λ a b agree. agree)
  all_seen (call.ContainsKeys id keys) c is = rows_seen c id (λ rows. (Yes (list_all (has_row rows) keys), rows)) (λ a b agree. agree)
  all_seen (call.PutAll id pairs) c is = rows_seen c id (λ rows. (Done, with_rows rows pairs)) (λ a b agree. agree_rows shards shard a b pairs agree)
  all_seen (call.ClearKeys id keys) c is = rows_seen c id (λ rows. (Done, without_rows rows keys)) (λ a b agree. agree_without_rows shards shard a b keys agree)
  all_seen (call.RemoveKeys id keys) c is = rows_seen c id (λ rows. (Done, without_rows rows keys)) (λ a b agree. agree_without_rows shards shard a b keys agree)
  all_seen (call.Clear id) c is = rows_seen c id (λ rows. (Done, finite.empty)) (λ a b agree q in_it. refl)
  all_seen (call.RemoveAll id) c is = rows_seen c id (λ rows. (Done, finite.empty)) (λ a b agree q in_it. refl)
  all_seen (call.Scan id) c is = rows_seen c id (λ rows. (Pairs (all_rows rows), rows)) (λ a b agree. agree)
  all_seen (call.Size id modes) c is = rows_seen c id (λ rows. (Count (cond (asks_for_all modes) (count_of rows) (pos 0)), rows)) (λ a b agree. agree)
  all_seen call.Names c is = (sym (caches_cut_twice shards shard c), refl)
  all_seen (call.Create name) c is = create_seen c name
  all_seen (call.GetOrCreate name) c is = get_or_create_seen c name
  all_seen (call.Destroy id) c is = destroy_seen c id
  all_seen _ c is = absurd (cc)

  -- ---- calls that touch one shard
  -- a call on a key that lies here
  key_seen : (c : PlainCaches) (id : ℤ) (key : Value) (f : Option Value → Outcome × Change) → nat_eq (shard_of_key shards key) shard ≡ true
      → LeavesAlike (ran c (on_rows id (at_key key f))) (ran (see c) (on_rows id (at_key key f))) × ((ran c (on_rows id (at_key key f))).0 ≡ (ran (see c) (on_rows id (at_key key f))).0)
  key_seen c id key f here = (rows_seen c id (at_key key f) respects, rows_answered shards shard c id (at_key key f) answers)
    where
      value : (a b : Rows) → Agree shards shard a b → value_of a key ≡ value_of b key
      value a b agree = ap (option_map (λ (row : Pair). row.value)) (agree (Canon key) here)

      respects : (a b : Rows) → Agree shards shard a b → Agree shards shard (at_key key f a).1 (at_key key f b).1
      respects a b agree = subst (λ (v : Option Value). Agree shards shard (changed a key (f (value_of a key)).1) (changed b key (f v).1)) (value a b agree) (agree_changed shards shard a b key (f (value_of a key)).1 agree)

      answers : (a b : Rows) → Agree shards shard a b → (at_key key f a).0 ≡ (at_key key f b).0
      answers a b agree = ap (λ (v : Option Value). (f v).0) (value a b agree)

  -- a call on a key that lies elsewhere
  key_unseen : (c : PlainCaches) (id : ℤ) (key : Value) (f : Option Value → Outcome × Change) → nat_eq (shard_of_key shards key) shard ≡ false
      → see (ran c (on_rows id (at_key key f))).1 ≡ see c
  key_unseen c id key f out = rows_elsewhere shards shard c id (at_key key f) (λ a. agree_elsewhere shards shard a key (f (value_of a key)).1 out)

  -- a call on types leaves the other shards
  types_unseen : (c : PlainCaches) (ask : Call) → IsOnTypes ask → nat_eq 0 shard ≡ false → see (ran c (effect ask)).1 ≡ see c
  types_unseen c ask it out =
      let types : (r : Registered) → types_in shard r ≡ empty_registry = λ r. cond-false (nat_eq shard 0) r empty_registry (turned shard out) in
      ap (λ (e : Effect). see (ran c e).1) it.is
      ∙ λ i. record { caches = map (cut_cache shards shard) (it.caches c i); registry = (types (it.does c).1.registry ∙ sym (types c.registry)) i; minor = it.counts c i }
    where
      turned : (n : ℕ) → nat_eq 0 n ≡ false → nat_eq n 0 ≡ false
      turned n e = grind (arith, nat_tests)

  one_other : (a b : ℕ) → nat_eq a b ≡ true → a ≡ b
  one_other a b e = grind (arith, nat_tests)

  -- a call that touches this shard alone is answered of what the shard has
  one_seen : (ask : Call) (c : PlainCaches) (other : ℕ) → IsApart ask shards other → nat_eq other shard ≡ true
      → LeavesAlike (ran c (effect ask)) (ran (see c) (effect ask)) × ((ran c (effect ask)).0 ≡ (ran (see c) (effect ask)).0)
  one_seen ask c other (inl it) here =
      let P : Effect → Type 0 = λ e. LeavesAlike (ran c e) (ran (see c) e) × ((ran c e).0 ≡ (ran (see c) e).0) in
      subst P (sym it.on.is) (key_seen c it.id it.key it.on.does (ap (λ n. nat_eq n shard) it.there ∙ here))
  one_seen ask c other (inr it) here =
      let at : 0 ≡ shard = sym it.1 ∙ one_other other shard here in
      let P : ℕ → Type 0 = λ s. ((cut_to shards s (it.0.does c).1 ≡ cut_to shards s (it.0.does (cut_to shards s c)).1) × ((it.0.does c).1.minor ≡ (it.0.does (cut_to shards s c)).1.minor))
      × ((it.0.does c).0 ≡ (it.0.does (cut_to shards s c)).0) in
      let Q : Effect → Type 0 = λ e. LeavesAlike (ran c e) (ran (see c) e) × ((ran c e).0 ≡ (ran (see c) e).0) in
      subst Q (sym it.0.is) (subst P at ((it.0.leaves shards c, it.0.counts c ∙ sym (it.0.counts (cut_to shards 0 c))), it.0.answers shards c))

  -- and one that touches another leaves what this one has
  one_unseen : (ask : Call) (c : PlainCaches) (other : ℕ) → IsApart ask shards other → nat_eq other shard ≡ false → see (after c ask) ≡ see c
  one_unseen ask c other (inl it) out =
      ap (λ (e : Effect). see (ran c e).1) it.on.is ∙ key_unseen c it.id it.key it.on.does (ap (λ n. nat_eq n shard) it.there ∙ out)
  one_unseen ask c other (inr it) out = types_unseen c ask it.0 (sym (ap (λ n. nat_eq n shard) it.1) ∙ out)

  abbrev answer_of : Outcome × PlainCaches → Answer
  answer_of r = record { minor = r.1.minor; outcome = r.0 }

  same_answer : (r s : Outcome × PlainCaches) → r.0 ≡ s.0 → r.1.minor ≡ s.1.minor → answer_of r ≡ answer_of s
  same_answer r s outcome minor = λ i. record { minor = minor i; outcome = outcome i }

  -- ---- histories
  abbrev seen_entry : PlainCaches → Entry Call Answer → List (Entry Call Answer) → Touched → Type 0
  seen_entry c entry entries t = LegalAt shards shard (see c) (cond (is_touched t shard) (entry ∷ entries_at shards shard entries) (entries_at shards shard entries))

  module _ (c : PlainCaches) (entry : Entry Call Answer) (entries : List (Entry Call Answer)) (got : entry.got ≡ answered c entry.ask)
      (rest : LegalAt shards shard (see (after c entry.ask)) (entries_at shards shard entries)) where
    from_here : (t : Touched) → touches entry.ask shards ≡ t → IsAnswerAt t (see c) entry → see (after c entry.ask) ≡ see (after (see c) entry.ask)
        → LegalAt shards shard (see c) (entry ∷ entries_at shards shard entries)
    from_here t is answer leaves =
        (subst (λ u. IsAnswerAt u (see c) entry) (sym is) answer, subst (λ d. LegalAt shards shard d (entries_at shards shard entries)) leaves rest)

    at_one : (other : ℕ) → touches entry.ask shards ≡ touched.One other → (b : Bool) → nat_eq other shard ≡ b
        → LegalAt shards shard (see c) (cond b (entry ∷ entries_at shards shard entries) (entries_at shards shard entries))
    at_one other is true here =
        let seen = one_seen entry.ask c other (apart entry.ask shards other is) here in
        from_here (touched.One other) is (got ∙ same_answer (ran c (effect entry.ask)) (ran (see c) (effect entry.ask)) seen.1 seen.0.1) seen.0.0
    at_one other is false out =
        subst (λ d. LegalAt shards shard d (entries_at shards shard entries)) (one_unseen entry.ask c other (apart entry.ask shards other is) out) rest

    legal_step : (t : Touched) → touches entry.ask shards ≡ t → LegalAt shards shard (see c) (entries_at shards shard (entry ∷ entries))
    legal_step (touched.One other) is = subst (seen_entry c entry entries) (sym is) (at_one other is (nat_eq other shard) refl)
    legal_step touched.All is =
        let seen = all_seen entry.ask c is in
        subst (seen_entry c entry entries) (sym is) (from_here touched.All is (ap (λ (a : Answer). a.minor) got ∙ seen.1) seen.0)

  legal_at : (entries : List (Entry Call Answer)) (c : PlainCaches) → Legal c entries → LegalAt shards shard (see c) (entries_at shards shard entries)
  legal_at [] c legal = tt
  legal_at (entry ∷ entries) c legal =
      legal_step c entry entries legal.0 (legal_at entries (after c entry.ask) legal.1) (touches entry.ask shards) refl

pub legal_at_each : LegalAtEachShard
legal_at_each shards shard c entries within legal = legal_at shards shard entries c legal
