-- Calls on all shards.
use Rattle.std.proofs.Common.{◌≡◌, ◌<◌, ◌≤◌, ◌+◌, ◌++◌, ◌||◌, ℕ, suc, ℤ, Bool, true, false, List, [], ◌∷◌, length, take, drop, get_or, set, map, None, Some, Ok, Err, refl, sym, ap, ap₂, ◌∙◌, inl, inr, arith}
use Rattle.std.proofs.lemmas.Bool.{cases_Bool, cond-true, cond-false}
use Rattle.std.proofs.Math.ListN.{get_or-map}
use Rattle.std.proofs.Math.Numerals.{suc-eq-add-one}
use Rattle.std.proofs.lemmas.List.{length-map, map-set}
use Rattle.std.specs.List.{list_any}
use Rattle.ig_base.specs.declared.memory.NoRoom.{NoRoom}
use Rattle.ig_caches.specs.declared.call.Call.{Call}
use Rattle.ig_caches.specs.declared.answer.Answer.{Answer}
use Rattle.ig_caches.specs.declared.answer.Outcome.{Outcome}
use Rattle.ig_caches.specs.declared.answer.Outcome.TheVariants.{Refused}
use Rattle.ig_caches.specs.declared.answer.Why.TheVariants as why
use Rattle.ig_caches.specs.Rows.{Rows}
use Rattle.ig_caches.specs.RowsAt.{rows_at, with_rows_of}
use Rattle.ig_caches.specs.CachesView.{plain_caches}
use Rattle.ig_caches.specs.PlainCaches.{Cache, PlainCaches, has_id, cache_of}
use Rattle.ig_caches.specs.Effect.{effect}
use Rattle.ig_caches.specs.RunsOn.{RunsOn}
use Rattle.ig_caches.specs.RunsOnRows.{IsOnRowsOf, RunsOnRows}
use Rattle.ig_caches.proofs.CacheLemmas.{runs, with_own, on_rows_of, on_no_rows}
use Rattle.ig_shards.specs.Spread.{union, AreSpreadFrom}
use Rattle.ig_shards.specs.Parts.{Part, together, AreNumbered, AreAll}
use Rattle.ig_shards.specs.declared.shard_rows.ShardRows.{ShardRows}
use Rattle.ig_shards.specs.PartView.{part_of, parts_of}
use Rattle.ig_shards.specs.RowsOfParts.{rows_in_parts, rows_or, with_rows_in_parts}
use Rattle.ig_shards.proofs.EachLemmas.{each_next, each_step}
use Rattle.ig_shards.proofs.TogetherLemmas.{found_together, missing_together, rows_together, numbered_rows, alike_rows, rows_twice, swapped, next_part, taken_rows, next_rows}

-- ---- whether a cache stands
pub absent_from : (caches : List Cache) (id : ℤ) → list_any (has_id id) caches ≡ false → cache_of caches id ≡ None
absent_from [] id none = refl
absent_from (a ∷ caches) id none = elim (cases_Bool (has_id id a)) [
  | inl here ↦ let never : true ≡ false = sym (ap (λ (b : Bool). b || list_any (has_id id) caches) here) ∙ none in absurd (cc)
  | inr later ↦
      cond-false (has_id id a) _ _ later ∙ absent_from caches id (sym (ap (λ (b : Bool). b || list_any (has_id id) caches) later) ∙ none)
]

pub present_in : (caches : List Cache) (id : ℤ) → list_any (has_id id) caches ≡ true → (cache : Cache) × (cache_of caches id ≡ Some cache)
present_in [] id some = absurd (cc)
present_in (a ∷ caches) id some = elim (cases_Bool (has_id id a)) [
  | inl here ↦ (a, cond-true (has_id id a) (Some a) (cache_of caches id) here)
  | inr later ↦
      let it : (cache : Cache) × (cache_of caches id ≡ Some cache) = present_in caches id (sym (ap (λ (b : Bool). b || list_any (has_id id) caches) later) ∙ some) in
      (it.0, cond-false (has_id id a) (Some a) (cache_of caches id) later ∙ it.1)
]

-- ---- all shards
-- there are as many as they say
pub number_of_parts : (shards next : ℕ) (parts : List Part) → AreNumbered shards next parts → next + length parts ≡ shards
number_of_parts shards next [] numbered = let e : next ≡ shards = numbered in omega (arith, e)
number_of_parts shards next (part ∷ parts) numbered =
    let e : suc next + length parts ≡ shards = number_of_parts shards (suc next) parts numbered.3 in
    omega (arith, e)

pub few_parts : (shards next : ℕ) (part : Part) (parts : List Part) → AreNumbered shards next (part ∷ parts) → shards ≤ 256
few_parts shards next part parts numbered = let count : part.shards ≡ shards = numbered.1 in omega (arith, count, numbered.2.few)

-- all shards are some
pub not_none : (shards : ℕ) (parts : List Part) → AreAll shards parts → 0 < length parts
not_none shards [] all = let e : 0 ≡ shards = all.numbered in omega (arith, e, all.some)
not_none shards (part ∷ parts) all = omega arith

-- with rows that lie in their shards they stay all shards
pub all_with_rows_in : (shards : ℕ) (parts : List Part) (id : ℤ) (rows : List Rows) → AreAll shards parts → AreSpreadFrom shards 0 rows → AreAll shards (with_rows_in_parts parts id rows)
all_with_rows_in shards parts id rows all spread = record {
  some = all.some;
  numbered = numbered_rows shards 0 parts id rows all.numbered spread;
  like = all.like;
  alike = alike_rows all.like parts id rows all.alike;
}

module _ (shards : ℕ) (first : Part) (parts : List Part) (id : ℤ) (call : Call) (all : AreAll shards (first ∷ parts)) (on : IsOnRowsOf id (effect call)) where
  -- without the cache the call is refused
  pub refused_in_all : cache_of first.caches.caches id ≡ None → (answer : Answer) → answer.outcome ≡ Refused why.NoCache → answer.minor ≡ first.caches.minor
      → RunsOn call (together (first ∷ parts)) (Ok answer) (together (first ∷ parts))
  refused_in_all none answer outcome minor =
      runs call (together (first ∷ parts)) (together (first ∷ parts)) answer (Refused why.NoCache)
      (on_no_rows (together (first ∷ parts)) (effect call) id on (missing_together first parts id none)) minor outcome

  module _ (cache : Cache) (stands : cache_of first.caches.caches id ≡ Some cache) (rows : List Rows) (long : length rows ≡ length (first ∷ parts)) where
    whole : PlainCaches
    whole = together (first ∷ parts)

    taken : Rows
    taken = union (rows_in_parts (first ∷ parts) id)

    found : cache_of whole.caches id ≡ Some (record cache { rows = taken })
    unfolding whole taken
    found = found_together all.like first parts id cache all.alike stands

    put : with_rows_of whole id (union rows) ≡ together (with_rows_in_parts (first ∷ parts) id rows)
    unfolding whole
    put = rows_together all.like (first ∷ parts) id rows all.alike long

    -- a call that runs on the rows of all shards runs on all
    pub ran_in_all : (outcome : Outcome) (answer : Answer) → RunsOnRows call (union (rows_in_parts (first ∷ parts) id)) (Ok outcome) (union rows) → answer.outcome ≡ outcome → answer.minor ≡ first.caches.minor
        → RunsOn call (together (first ∷ parts)) (Ok answer) (together (with_rows_in_parts (first ∷ parts) id rows))
    unfolding whole taken
    ran_in_all outcome answer ran_on answers minor =
        runs call whole (together (with_rows_in_parts (first ∷ parts) id rows)) answer outcome
        (on_rows_of whole (effect call) id (record cache { rows = taken }) outcome (union rows) on found ran_on ∙ ap (λ (c : PlainCaches). (outcome, c)) put)
        (minor ∙ ap (λ (c : PlainCaches). c.minor) put) answers

    pub failed_in_all : (e : NoRoom Call) → RunsOnRows call (union (rows_in_parts (first ∷ parts) id)) (Err e) (union rows)
        → RunsOn call (together (first ∷ parts)) (Err e) (together (with_rows_in_parts (first ∷ parts) id rows))
    unfolding whole taken
    failed_in_all e failed = (
      failed.0,
      sym put ∙ ap (with_rows_of whole id) failed.1
          ∙ ap (λ (cs : List Cache). record whole { caches = cs }) (with_own whole.caches id (record cache { rows = taken }) found),
    )

-- ---- the shards are changed in turn
pub changed_next : (f : Part → Part) (old parts : List ShardRows) (i : ℕ) (part new : ShardRows) → i < length old → part ≡ get_or parts i part
    → parts_of parts ≡ map f (take i (parts_of old)) ++ drop i (parts_of old) → part_of new ≡ f (part_of part)
    → parts_of (set parts i new) ≡ map f (take (i + 1) (parts_of old)) ++ drop (i + 1) (parts_of old)
changed_next f old parts i part new within at_part so_far is =
    let before : List Part = parts_of old in
    let midway : List Part = map f (take i before) ++ drop i before in
    let inside : i < length before = omega (arith, within, length-map old part_of) in
    let here : part_of part ≡ get_or before i (part_of part) =
    ap part_of at_part ∙ sym (get_or-map part_of parts i part) ∙ ap (λ (ps : List Part). get_or ps i (part_of part)) so_far ∙ each_next f before i (part_of part) in
    map-set part_of parts i new ∙ ap (λ (ps : List Part). set ps i (part_of new)) so_far
    ∙ ap (set midway i) (is ∙ ap f here) ∙ each_step f before i (i + 1) (part_of part) inside (sym (suc-eq-add-one i))

-- ---- the rows of the shards are swapped in turn
module _ (id : ℤ) (old parts : List ShardRows) (given rows : List Rows) (i : ℕ) (part new : ShardRows) (row left : Rows) (within : i < length old) (long : length given ≡ length old)
    (at_part : part ≡ get_or parts i part) (at_row : row ≡ get_or rows i row)
    (is_given : parts_of parts ≡ with_rows_in_parts (parts_of old) id (take i given)) (is_taken : rows ≡ rows_or (take i (parts_of old)) id given)
    (number : new.number ≡ part.number) (count : new.shards ≡ part.shards)
    (put : plain_caches new.caches ≡ with_rows_of (plain_caches part.caches) id row) (got : left ≡ rows_at (plain_caches part.caches).caches id row) where
  abbrev before : List Part
  before = parts_of old

  abbrev midway : List Part
  midway = with_rows_in_parts before id (take i given)

  abbrev lent : List Rows
  lent = rows_or (take i before) id given

  inside : i < length before
  inside = omega (arith, within, length-map old part_of)

  as_many : length given ≡ length before
  as_many = long ∙ sym (length-map old part_of)

  part_is : part_of part ≡ get_or midway i (part_of part)
  part_is = ap part_of at_part ∙ sym (get_or-map part_of parts i part) ∙ ap (λ (ps : List Part). get_or ps i (part_of part)) is_given

  row_is : row ≡ get_or lent i row
  row_is = at_row ∙ ap (λ (rs : List Rows). get_or rs i row) is_taken

  new_is : part_of new ≡ record (part_of part) { caches = with_rows_of (part_of part).caches id row }
  new_is = λ k. record { number = number k; shards = count k; caches = put k }

  pub swap_given : parts_of (set parts i new) ≡ with_rows_in_parts before id (take (i + 1) given)
  swap_given =
      map-set part_of parts i new ∙ ap (λ (ps : List Part). set ps i (part_of new)) is_given
      ∙ ap (set midway i) (
      new_is
      ∙ ap₂ (λ (p : Part) (r : Rows). record p { caches = with_rows_of p.caches id r }) part_is (row_is ∙ next_rows before id given i row)
      )
      ∙ swapped before id given i (part_of part) row inside as_many ∙ ap (λ (n : ℕ). with_rows_in_parts before id (take n given)) (suc-eq-add-one i)

  pub swap_taken : set rows i left ≡ rows_or (take (i + 1) before) id given
  swap_taken =
      ap (λ (rs : List Rows). set rs i left) is_taken
      ∙ ap (set lent i) (got ∙ ap₂ (λ (p : Part) (r : Rows). rows_at p.caches.caches id r) (part_is ∙ next_part before id given i (part_of part)) row_is)
      ∙ taken_rows before id given i (part_of part) row inside as_many ∙ ap (λ (n : ℕ). rows_or (take n before) id given) (suc-eq-add-one i)

-- ---- the call on the rows of all shards
-- taken out with no rows in their place, and put back changed
pub put_back : (old mid new : List Part) (id : ℤ) (none left : List Rows) → length none ≡ length left → mid ≡ with_rows_in_parts old id none → new ≡ with_rows_in_parts mid id left
    → new ≡ with_rows_in_parts old id left
put_back old mid new id none left long given back = back ∙ ap (λ (ps : List Part). with_rows_in_parts ps id left) given ∙ rows_twice old id none left long

module _ (shards : ℕ) (id : ℤ) (call : Call) (first : Part) (all_on : IsOnRowsOf id (effect call)) where
  pub refused_all : (parts : List Part) → AreAll shards parts → first ≡ get_or parts 0 first → cache_of first.caches.caches id ≡ None → (answer : Answer) → answer.outcome ≡ Refused why.NoCache
      → answer.minor ≡ first.caches.minor → RunsOn call (together parts) (Ok answer) (together parts)
  refused_all [] all is none answer outcome minor = absurd (omega (arith, not_none shards [] all))
  refused_all (p ∷ parts) all is none answer outcome minor =
      refused_in_all shards p parts id call all all_on (ap (λ (q : Part). cache_of q.caches.caches id) (sym is) ∙ none) answer outcome
      (minor ∙ ap (λ (q : Part). q.caches.minor) is)

  module _ (cache : Cache) (stands : cache_of first.caches.caches id ≡ Some cache) (rows : List Rows) where
    pub ran_all : (parts : List Part) → AreAll shards parts → first ≡ get_or parts 0 first → length rows ≡ length parts → (outcome : Outcome) (answer : Answer)
        → RunsOnRows call (union (rows_in_parts parts id)) (Ok outcome) (union rows) → answer.outcome ≡ outcome → answer.minor ≡ first.caches.minor
        → RunsOn call (together parts) (Ok answer) (together (with_rows_in_parts parts id rows))
    ran_all [] all is long outcome answer ran_on answers minor = absurd (omega (arith, not_none shards [] all))
    ran_all (p ∷ parts) all is long outcome answer ran_on answers minor =
        ran_in_all shards p parts id call all all_on cache (ap (λ (q : Part). cache_of q.caches.caches id) (sym is) ∙ stands) rows long outcome answer ran_on answers
        (minor ∙ ap (λ (q : Part). q.caches.minor) is)

    pub failed_all : (parts : List Part) → AreAll shards parts → first ≡ get_or parts 0 first → length rows ≡ length parts → (e : NoRoom Call)
        → RunsOnRows call (union (rows_in_parts parts id)) (Err e) (union rows) → RunsOn call (together parts) (Err e) (together (with_rows_in_parts parts id rows))
    failed_all [] all is long e failed = absurd (omega (arith, not_none shards [] all))
    failed_all (p ∷ parts) all is long e failed =
        failed_in_all shards p parts id call all all_on cache (ap (λ (q : Part). cache_of q.caches.caches id) (sym is) ∙ stands) rows long e failed
