-- What a call on its shard alone is of all shards.
use Rattle.std.proofs.Common.{◌≡◌, ◌<◌, ◌≤◌, ◌+◌, ◌++◌, ℕ, suc, List, [], ◌∷◌, length, take, drop, get_or, set, Result, Ok, Err, IfOk, OnOk, IfErr, OnErr, refl, sym, ap, ◌∙◌, subst, arith}
use Rattle.std.proofs.Math.ListN.{get_or-map}
use Rattle.std.proofs.lemmas.List.{set-get_or, length-take, length-map, map-set}
use Rattle.std.proofs.lemmas.List.Elements.{All-cons, All-head, All-tail}
use Rattle.ig_base.specs.declared.memory.NoRoom.{NoRoom}
use Rattle.ig_caches.specs.declared.call.Call.{Call}
use Rattle.ig_caches.specs.declared.answer.Outcome.{Outcome}
use Rattle.ig_caches.specs.declared.answer.Answer.{Answer}
use Rattle.ig_caches.specs.PlainCaches.{PlainCaches}
use Rattle.ig_caches.specs.Effect.{effect}
use Rattle.ig_caches.specs.Answered.{ran, answered, after}
use Rattle.ig_caches.specs.RunsOn.{RunsOn}
use Rattle.ig_shards.specs.declared.shard_rows.ShardRows.{ShardRows}
use Rattle.ig_shards.specs.declared.touch.Touched.TheVariants as touched
use Rattle.ig_shards.specs.Touches.{touches}
use Rattle.ig_shards.specs.Parts.{Part, together, AreAlike, IsPart, AreNumbered, AllAlike, AreAll}
use Rattle.ig_shards.specs.PartView.{part_of, parts_of}
use Rattle.ig_shards.specs.Laws.{NeedsItsShardAlone}
use Rattle.ig_shards.proofs.WholeLemmas.{few_parts, not_none}
use Rattle.ig_shards.proofs.PartLemmas.{IsApart, apart, alone, apart_keeps, number_at, part_at, alike_at, split_parts, split_set, numbered_set, alike_set}

-- an answer is the outcome with the count after it
abbrev answer_of : PlainCaches → Outcome → Answer
answer_of c outcome = record { minor = c.minor; outcome = outcome }

-- the count of the first shard is that of any
count_at : (c : PlainCaches) (before later : List Part) (part : Part) → AllAlike c (before ++ part ∷ later) → c.minor ≡ (together (before ++ part ∷ later)).minor
count_at c [] later part all = (alike_at c [] later part all).counts
count_at c (first ∷ before) later part all = (alike_at c [] (before ++ part ∷ later) first all).counts

-- what holds of a shard in the list, by what it is apart for
module _ (shards : ℕ) (before later : List Part) (part : Part) (call : Call) (all : AreAll shards (before ++ part ∷ later)) (touches_it : touches call shards ≡ touched.One part.number) where
  is_part : IsPart part
  is_part = (part_at shards 0 before later part all.numbered).0

  of_all : part.shards ≡ shards
  of_all = (part_at shards 0 before later part all.numbered).1

  is_apart : IsApart call shards part.number
  is_apart = apart call shards part.number touches_it

  pub left_part : Part
  left_part = record part { caches = after part.caches call }

  pub stays_part : IsPart left_part × AreAlike part.caches left_part.caches
  unfolding left_part
  stays_part = apart_keeps part call is_part (subst (λ n. IsApart call n part.number) (sym of_all) is_apart)

  ran_alone : ran (together (before ++ part ∷ later)) (effect call) ≡ ((ran part.caches (effect call)).0, together (before ++ left_part ∷ later))
  unfolding left_part
  ran_alone = alone shards 0 all.like before later part call all.numbered all.alike is_apart

  pub left_alone : after (together (before ++ part ∷ later)) call ≡ together (before ++ left_part ∷ later)
  unfolding left_part
  left_alone = ap (λ (r : Outcome × PlainCaches). r.1) ran_alone

  alike_left : AreAlike all.like left_part.caches
  unfolding left_part
  alike_left =
      let it : AreAlike all.like part.caches = alike_at all.like before later part all.alike in
      let kept : AreAlike part.caches (after part.caches call) = stays_part.1 in
      record { names = it.names ∙ kept.names; counts = it.counts ∙ kept.counts }

  replaced : (ps : List Part) → AllAlike all.like (ps ++ part ∷ later) → AllAlike all.like (ps ++ left_part ∷ later)
  replaced [] alike = alike_set all.like 0 (part ∷ later) left_part alike alike_left
  replaced (p ∷ ps) alike =
      let P : Part → Type 0 = λ q. AreAlike all.like q.caches in
      All-cons P p (ps ++ left_part ∷ later) (All-head P p (ps ++ part ∷ later) alike) (replaced ps (All-tail P p (ps ++ part ∷ later) alike))

  count_left : (together (before ++ left_part ∷ later)).minor ≡ left_part.caches.minor
  count_left = sym (count_at all.like before later left_part (replaced before all.alike)) ∙ alike_left.counts

  pub answered_alone : answered (together (before ++ part ∷ later)) call ≡ answered part.caches call
  unfolding left_part
  answered_alone =
      ap (λ (r : Outcome × PlainCaches). answer_of r.1 r.0) ran_alone
      ∙ ap (λ n. record { minor = n; outcome = (ran part.caches (effect call)).0 }) count_left

-- ---- at an index
same_part : (part new : Part) → new.number ≡ part.number → new.shards ≡ part.shards → new.caches ≡ part.caches → new ≡ part
same_part part new number count caches = λ i. record { number = number i; shards = count i; caches = caches i }

number_of : (shards i : ℕ) (parts : List Part) (d : Part) → AreNumbered shards 0 parts → i < length parts → (get_or parts i d).number ≡ i
number_of shards i parts d numbered within =
    let at : (get_or parts i d).number ≡ 0 + length (take i parts) =
    number_at shards 0 (take i parts) (drop (suc i) parts) (get_or parts i d) (subst (AreNumbered shards 0) (sym (split_parts parts i d within)) numbered) in
    omega (arith, at, length-take i parts, within)

module _ (shards i : ℕ) (parts : List Part) (d new : Part) (call : Call) (all : AreAll shards parts) (within : i < length parts) (touches_it : touches call shards ≡ touched.One i)
    (number : new.number ≡ (get_or parts i d).number) (count : new.shards ≡ (get_or parts i d).shards) where
  abbrev this : Part
  this = get_or parts i d

  abbrev lower : List Part
  lower = take i parts

  abbrev higher : List Part
  higher = drop (suc i) parts

  split : AreAll shards (lower ++ this ∷ higher)
  split = subst (AreAll shards) (sym (split_parts parts i d within)) all

  touches_part : touches call shards ≡ touched.One this.number
  touches_part = touches_it ∙ ap (λ n. touched.One n) (sym (number_of shards i parts d all.numbered within))

  -- a call that runs on its shard runs on all
  pub runs_alone : (result : Result Answer (NoRoom Call)) → RunsOn call this.caches result new.caches
      → RunsOn call (together parts) result (together (set parts i new)) × AreAll shards (set parts i new)
  unfolding left_part
  runs_alone (Ok answer) runs =
      let left : Part = left_part shards lower higher this call split touches_part in
      let is : new ≡ left = λ k. record { number = number k; shards = count k; caches = runs.1 k } in
      let put : set parts i left ≡ lower ++ left ∷ higher = split_set parts i left within in
      let whole : lower ++ this ∷ higher ≡ parts = split_parts parts i d within in
      let stays : IsPart left × AreAlike this.caches left.caches = stays_part shards lower higher this call split touches_part in
      let alike : AreAlike all.like this.caches = alike_at all.like lower higher this (subst (AllAlike all.like) (sym whole) all.alike) in
      let answers : answered (together parts) call ≡ answered this.caches call =
      ap (λ ps. answered (together ps) call) (sym whole) ∙ answered_alone shards lower higher this call split touches_part in
      let leaves : after (together parts) call ≡ together (set parts i new) =
      ap (λ ps. after (together ps) call) (sym whole) ∙ left_alone shards lower higher this call split touches_part
      ∙ ap together (sym put) ∙ ap (λ p. together (set parts i p)) (sym is) in (
        (runs.0 ∙ sym answers, sym leaves),
        subst (λ p. AreAll shards (set parts i p)) (sym is) (record {
          some = all.some;
          numbered = numbered_set shards 0 i parts left d all.numbered within refl refl stays.0;
          like = all.like;
          alike = alike_set all.like i parts left all.alike (record { names = alike.names ∙ stays.1.names; counts = alike.counts ∙ stays.1.counts });
        }),
      )
  runs_alone (Err e) runs =
      let same : set parts i new ≡ parts = ap (set parts i) (same_part this new number count runs.1) ∙ set-get_or parts i d in
      ((runs.0, ap together same), subst (AreAll shards) (sym same) all)

pub needs_alone : NeedsItsShardAlone
unfolding left_part
needs_alone shards before later part call all touches_it =
    (answered_alone shards before later part call all touches_it, left_alone shards before later part call all touches_it)

-- what a call answers and leaves, in one
pub as_run : (call : Call) (old new : PlainCaches) (result : Result Answer (NoRoom Call)) → IfOk result (λ answer. answer ≡ answered old call) → OnOk result (new ≡ after old call)
    → IfErr result (λ e. e.back ≡ call) → OnErr result (new ≡ old) → RunsOn call old result new
as_run call old new (Ok answer) answers leaves back same = (answers, leaves)
as_run call old new (Err e) answers leaves back same = (back, same)

pub run_answers : (call : Call) (old new : PlainCaches) (result : Result Answer (NoRoom Call)) → RunsOn call old result new → IfOk result (λ answer. answer ≡ answered old call)
run_answers call old new (Ok answer) runs = runs.0
run_answers call old new (Err e) runs = tt

pub run_leaves : (call : Call) (old new : PlainCaches) (result : Result Answer (NoRoom Call)) → RunsOn call old result new → OnOk result (new ≡ after old call)
run_leaves call old new (Ok answer) runs = runs.1
run_leaves call old new (Err e) runs = tt

pub run_hands_back : (call : Call) (old new : PlainCaches) (result : Result Answer (NoRoom Call)) → RunsOn call old result new → IfErr result (λ e. e.back ≡ call)
run_hands_back call old new (Ok answer) runs = tt
run_hands_back call old new (Err e) runs = runs.0

pub run_keeps : (call : Call) (old new : PlainCaches) (result : Result Answer (NoRoom Call)) → RunsOn call old result new → OnErr result (new ≡ old)
run_keeps call old new (Ok answer) runs = tt
run_keeps call old new (Err e) runs = runs.1

-- ---- a shard in the list of all
pub few_in_all : (shards : ℕ) (parts : List Part) → AreAll shards parts → shards ≤ 256
few_in_all shards [] all = absurd (omega (arith, not_none shards [] all))
few_in_all shards (part ∷ parts) all = few_parts shards 0 part parts all.numbered

module _ (shards i : ℕ) (all : List ShardRows) (here new : ShardRows) (call : Call) (result : Result Answer (NoRoom Call)) (are_all : AreAll shards (parts_of all)) (within : i < length all)
    (at : here ≡ get_or all i here) (touches_it : touches call shards ≡ touched.One i) (number : new.number ≡ here.number) (count : new.shards ≡ here.shards)
    (runs : RunsOn call (part_of here).caches result (part_of new).caches) where
  this_is : get_or (parts_of all) i (part_of here) ≡ part_of here
  this_is = get_or-map part_of all i here ∙ ap part_of (sym at)

  -- a call that runs on the one that it touches runs on all
  pub run_here : RunsOn call (together (parts_of all)) result (together (parts_of (set all i new))) × AreAll shards (parts_of (set all i new))
  run_here =
      let inside : i < length (parts_of all) = omega (arith, within, length-map all part_of) in
      let same_number : new.number ≡ (get_or (parts_of all) i (part_of here)).number = number ∙ sym (ap (λ (p : Part). p.number) this_is) in
      let same_count : new.shards ≡ (get_or (parts_of all) i (part_of here)).shards = count ∙ sym (ap (λ (p : Part). p.shards) this_is) in
      let runs_there : RunsOn call (get_or (parts_of all) i (part_of here)).caches result (part_of new).caches =
      subst (λ (p : Part). RunsOn call p.caches result (part_of new).caches) (sym this_is) runs in
      subst (λ (ps : List Part). RunsOn call (together (parts_of all)) result (together ps) × AreAll shards ps) (sym (map-set part_of all i new))
      (runs_alone shards i (parts_of all) (part_of here) (part_of new) call are_all inside touches_it same_number same_count result runs_there)
