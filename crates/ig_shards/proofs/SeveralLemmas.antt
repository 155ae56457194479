-- A call on several rows of a cache: its rows are taken out of the shards, the call runs on them, and they are put back.
use Rattle.std.proofs.Common.{◌≡◌, ◌≤◌, ◌+◌, ◌++◌, ℕ, ℤ, true, List, length, take, drop, get_or, All, Some, Result, Ok, Err, sym, ap, ◌∙◌, subst, subst₂, arith}
use Rattle.std.proofs.lemmas.List.{length-map}
use Rattle.std.specs.FinMap as finite
use Rattle.std.specs.List.{list_any}
use Rattle.ig_base.specs.declared.memory.NoRoom.{NoRoom}
use Rattle.ig_caches.specs.declared.call.Call.{Call}
use Rattle.ig_caches.specs.declared.answer.Answer.{Answer}
use Rattle.ig_caches.specs.declared.answer.Outcome.{Outcome}
use Rattle.ig_caches.specs.Rows.{Rows}
use Rattle.ig_caches.specs.CachesView.{plain_caches}
use Rattle.ig_caches.specs.PlainCaches.{Cache, PlainCaches, has_id, cache_of}
use Rattle.ig_caches.specs.Effect.{effect}
use Rattle.ig_caches.specs.RunsOn.{RunsOn}
use Rattle.ig_caches.specs.RunsOnRows.{IsOnRowsOf, RunsOnRows}
use Rattle.ig_shards.specs.declared.shard_rows.ShardRows.{ShardRows}
use Rattle.ig_shards.specs.Spread.{union, AreSpreadFrom}
use Rattle.ig_shards.specs.Parts.{Part, together, AreNumbered, AreAll}
use Rattle.ig_shards.specs.PartView.{part_of, parts_of}
use Rattle.ig_shards.specs.RowsOfParts.{rows_in_parts, rows_or, with_rows_in_parts}
use Rattle.ig_shards.proofs.SpreadLemmas.{spread_length, all_written}
use Rattle.ig_shards.proofs.TogetherLemmas.{rows_together, spread_parts, all_taken}
use Rattle.ig_shards.proofs.WholeLemmas.{present_in, number_of_parts, few_parts, all_with_rows_in, put_back, ran_all, failed_all}
use Rattle.ig_shards.proofs.FirstLemmas.{first_part, first_minor, first_and_others, others}

module _ (shards : ℕ) (id : ℤ) (old mid : List ShardRows) (none lent : List Rows) (all : AreAll shards (parts_of old)) (many : length none ≡ length old)
    (empty : All (λ (r : Rows). r ≡ finite.empty) none) (given : parts_of mid ≡ with_rows_in_parts (parts_of old) id none) (taken : lent ≡ rows_or (parts_of old) id none) where
  abbrev before : List Part
  before = parts_of old

  as_many : length none ≡ length before
  as_many = many ∙ sym (length-map old part_of)

  lent_is : lent ≡ rows_in_parts before id
  lent_is = taken ∙ all_taken before id none empty as_many

  pub lent_spread : AreSpreadFrom shards 0 lent
  lent_spread = subst (AreSpreadFrom shards 0) (sym lent_is) (spread_parts shards 0 before id all.numbered)

  pub lent_length : length lent ≡ shards
  lent_length = let e : 0 + length lent ≡ shards = spread_length shards 0 lent lent_spread in omega (arith, e)

  old_length : length old ≡ shards
  old_length = let e : 0 + length before ≡ shards = number_of_parts shards 0 before all.numbered in omega (arith, e, length-map old part_of)

  -- the changed rows are put back
  module _ (new : List ShardRows) (left : List Rows) (back : parts_of new ≡ with_rows_in_parts (parts_of mid) id left) (spread : AreSpreadFrom shards 0 left) where
    left_length : length left ≡ shards
    left_length = let e : 0 + length left ≡ shards = spread_length shards 0 left spread in omega (arith, e)

    new_is : parts_of new ≡ with_rows_in_parts before id left
    new_is = put_back before (parts_of mid) (parts_of new) id none left (omega (arith, many, old_length, left_length)) given back

    pub all_back : AreAll shards (parts_of new)
    all_back = subst (AreAll shards) (sym new_is) (all_with_rows_in shards before id left all spread)

    module _ (call : Call) (first : ShardRows) (on : IsOnRowsOf id (effect call)) (at : first ≡ get_or old 0 first) (some : list_any (has_id id) (plain_caches first.caches).caches ≡ true) where
      found : (cache : Cache) × (cache_of (plain_caches first.caches).caches id ≡ Some cache)
      found = present_in (plain_caches first.caches).caches id some

      long : length left ≡ length before
      long = omega (arith, left_length, old_length, length-map old part_of)

      minor_stays : (together (parts_of new)).minor ≡ (part_of first).caches.minor
      minor_stays =
          ap (λ (ps : List Part). (together ps).minor) new_is ∙ sym (ap (λ (c : PlainCaches). c.minor) (rows_together all.like before id left all.alike long))
          ∙ sym (first_minor old first (omega (arith, old_length, all.some)) at)

      rows_run : (result : Result Outcome (NoRoom Call)) → RunsOnRows call (union lent) result (union left) → RunsOnRows call (union (rows_in_parts before id)) result (union left)
      rows_run result ran = subst (λ (rs : List Rows). RunsOnRows call (union rs) result (union left)) lent_is ran

      pub ran_back : (outcome : Outcome) (answer : Answer) → RunsOnRows call (union lent) (Ok outcome) (union left) → answer.outcome ≡ outcome → answer.minor ≡ (together (parts_of new)).minor
          → RunsOn call (together before) (Ok answer) (together (parts_of new))
      ran_back outcome answer ran answers minor =
          subst (λ (ps : List Part). RunsOn call (together before) (Ok answer) (together ps)) (sym new_is)
          (ran_all shards id call (part_of first) on found.0 found.1 left before all (first_part old first at) long outcome answer (rows_run (Ok outcome) ran) answers (minor ∙ minor_stays))

      pub failed_back : (e : NoRoom Call) → RunsOnRows call (union lent) (Err e) (union left) → RunsOn call (together before) (Err e) (together (parts_of new))
      failed_back e failed =
          subst (λ (ps : List Part). RunsOn call (together before) (Err e) (together ps)) (sym new_is)
          (failed_all shards id call (part_of first) on found.0 found.1 left before all (first_part old first at) long e (rows_run (Err e) failed))

pub few_shards : (shards : ℕ) (old : List ShardRows) (first : ShardRows) (all : AreAll shards (parts_of old)) → first ≡ get_or old 0 first → shards ≤ 256
few_shards shards old first all at =
    let others_here : List Part = others shards old first all at in
    few_parts shards 0 (part_of first) others_here (subst (AreNumbered shards 0) (first_and_others shards old first all at) all.numbered)

-- the rows stand in a vector, and are lent whole
module _ (shards : ℕ) (id : ℤ) (old mid : List ShardRows) (items none lent : List Rows) (len : ℕ) (all : AreAll shards (parts_of old)) (held : length items ≡ len) (value : none ≡ items)
    (count : length items ≡ length old) (empty : All (λ (r : Rows). r ≡ finite.empty) items) (same_len : length lent ≡ length none)
    (given : parts_of mid ≡ with_rows_in_parts (parts_of old) id none) (taken : lent ≡ rows_or (parts_of old) id none) where
  many_none : length none ≡ length old
  many_none = ap length value ∙ count

  empty_none : All (λ (r : Rows). r ≡ finite.empty) none
  empty_none = subst (λ (rs : List Rows). All (λ (r : Rows). r ≡ finite.empty) rs) (sym value) empty

  pub len_is : len ≡ shards
  len_is = omega (arith, held, same_len, ap length value, lent_length shards id old mid none lent all many_none empty_none given taken)

  lent_whole : take len (lent ++ drop (length lent) items) ≡ lent
  lent_whole = all_written lent items len (omega (arith, held, same_len, ap length value)) held

  pub whole_spread : AreSpreadFrom len 0 (take len (lent ++ drop (length lent) items))
  whole_spread =
      subst₂ (λ (n : ℕ) (rs : List Rows). AreSpreadFrom n 0 rs) (sym len_is) (sym lent_whole)
      (lent_spread shards id old mid none lent all many_none empty_none given taken)

  -- and the changed ones are put back
  module _ (new : List ShardRows) (items_left left : List Rows) (len_left : ℕ) (value_left : left ≡ items_left) (len_same : len_left ≡ len)
      (back : parts_of new ≡ with_rows_in_parts (parts_of mid) id left) (spread : AreSpreadFrom len_left 0 items_left) where
    spread_left : AreSpreadFrom shards 0 left
    spread_left = subst₂ (λ (n : ℕ) (rs : List Rows). AreSpreadFrom n 0 rs) (len_same ∙ len_is) (sym value_left) spread

    pub whole_back : AreAll shards (parts_of new)
    whole_back = all_back shards id old mid none lent all many_none empty_none given taken new left back spread_left

    module _ (call : Call) (first : ShardRows) (on : IsOnRowsOf id (effect call)) (at : first ≡ get_or old 0 first) (some : list_any (has_id id) (plain_caches first.caches).caches ≡ true) where
      whole_runs : (result : Result Outcome (NoRoom Call)) → RunsOnRows call (union (take len (lent ++ drop (length lent) items))) result (union items_left)
          → RunsOnRows call (union lent) result (union left)
      whole_runs result ran = subst₂ (λ (a b : Rows). RunsOnRows call a result b) (ap union lent_whole) (ap union (sym value_left)) ran

      pub whole_ran : (outcome : Outcome) (answer : Answer) → RunsOnRows call (union (take len (lent ++ drop (length lent) items))) (Ok outcome) (union items_left) → answer.outcome ≡ outcome
          → answer.minor ≡ (together (parts_of new)).minor → RunsOn call (together (parts_of old)) (Ok answer) (together (parts_of new))
      whole_ran outcome answer ran answers minor =
          ran_back shards id old mid none lent all many_none empty_none given taken new left back spread_left call first on at some outcome answer (whole_runs (Ok outcome) ran) answers minor

      pub whole_failed : (e : NoRoom Call) → RunsOnRows call (union (take len (lent ++ drop (length lent) items))) (Err e) (union items_left)
          → RunsOn call (together (parts_of old)) (Err e) (together (parts_of new))
      whole_failed e failed =
          failed_back shards id old mid none lent all many_none empty_none given taken new left back spread_left call first on at some e (whole_runs (Err e) failed)
