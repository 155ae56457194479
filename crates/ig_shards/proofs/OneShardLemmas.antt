-- A call on the one shard that it touches.
use Rattle.std.proofs.Common.{◌≡◌, ℕ, ℤ, List, [], ◌∷◌, get_or, set, Result, Ok, Err, refl, sym, ap, ◌∙◌, subst}
use Rattle.ig_base.specs.declared.memory.NoRoom.{NoRoom}
use Rattle.ig_caches.specs.declared.call.Call.{Call}
use Rattle.ig_caches.specs.declared.call.Call.TheVariants.{GetAll, PutAll, ContainsKeys, ClearKeys, RemoveKeys, Clear, RemoveAll, Scan, Size, Names, Create, GetOrCreate, Destroy}
use Rattle.ig_caches.specs.declared.answer.Answer.{Answer}
use Rattle.ig_caches.specs.PlainCaches.{PlainCaches}
use Rattle.ig_caches.specs.Answered.{after}
use Rattle.ig_caches.specs.RunsOn.{RunsOn}
use Rattle.ig_shards.specs.declared.shard_rows.ShardRows.{ShardRows}
use Rattle.ig_shards.specs.declared.touch.Touched.{Touched}
use Rattle.ig_shards.specs.declared.touch.Touched.TheVariants.{One, All}
use Rattle.ig_shards.specs.Touches.{touches}
use Rattle.ig_shards.specs.Marks.{IsOnSeveral}
use Rattle.ig_shards.specs.Parts.{Part, together, IsPart}
use Rattle.ig_shards.specs.PartView.{part_of, parts_of}
use Rattle.ig_shards.specs.RunsOnParts.{IsThe, AreThose, AreTouched}
use Rattle.ig_shards.proofs.PartLemmas.{IsApart, apart, apart_keeps, both_none}

-- a call on several rows touches all shards
pub several_all : (call : Call) (shards : ℕ) → IsOnSeveral call → touches call shards ≡ All
several_all (GetAll id keys) shards several = refl
several_all (PutAll id pairs) shards several = refl
several_all (ContainsKeys id keys) shards several = refl
several_all (ClearKeys id keys) shards several = refl
several_all (RemoveKeys id keys) shards several = refl
several_all (Clear id) shards several = refl
several_all (RemoveAll id) shards several = refl
several_all (Scan id) shards several = refl
several_all (Size id modes) shards several = refl
several_all _ shards several = absurd several

-- a call that touches all shards runs on several rows of a cache, or on all caches
pub needs_all : (call : Call) (shards : ℕ) → (IsOnSeveral call → ⊥) → (call ≡ Names → ⊥) → ((name : List ℕ) → call ≡ Create name → ⊥) → ((name : List ℕ) → call ≡ GetOrCreate name → ⊥)
    → ((id : ℤ) → call ≡ Destroy id → ⊥) → touches call shards ≡ All → ⊥
needs_all (GetAll id keys) shards several names create get_or_create destroy is = several tt
needs_all (PutAll id pairs) shards several names create get_or_create destroy is = several tt
needs_all (ContainsKeys id keys) shards several names create get_or_create destroy is = several tt
needs_all (ClearKeys id keys) shards several names create get_or_create destroy is = several tt
needs_all (RemoveKeys id keys) shards several names create get_or_create destroy is = several tt
needs_all (Clear id) shards several names create get_or_create destroy is = several tt
needs_all (RemoveAll id) shards several names create get_or_create destroy is = several tt
needs_all (Scan id) shards several names create get_or_create destroy is = several tt
needs_all (Size id modes) shards several names create get_or_create destroy is = several tt
needs_all Names shards several names create get_or_create destroy is = names refl
needs_all (Create name) shards several names create get_or_create destroy is = create name refl
needs_all (GetOrCreate name) shards several names create get_or_create destroy is = get_or_create name refl
needs_all (Destroy id) shards several names create get_or_create destroy is = destroy id refl
needs_all _ shards several names create get_or_create destroy is = cc

-- the shard stays one
stays : (shards shard : ℕ) (part new : Part) (call : Call) → touches call shards ≡ One shard → part.number ≡ shard → part.shards ≡ shards → IsPart part → new.number ≡ part.number → new.shards ≡ part.shards
    → (result : Result Answer (NoRoom Call)) → RunsOn call part.caches result new.caches → IsPart new
stays shards shard part new call is here count it number same (Ok answer) ran =
    let alone : IsApart call part.shards part.number =
    subst (λ (n : ℕ). IsApart call n part.number) (sym count) (subst (IsApart call shards) (sym here) (apart call shards shard is)) in
    let left : new ≡ record part { caches = after part.caches call } = λ k. record { number = number k; shards = same k; caches = ran.1 k } in
    subst IsPart (sym left) (apart_keeps part call it alone).0
stays shards shard part new call is here count it number same (Err e) ran =
    let left : new ≡ part = λ k. record { number = number k; shards = same k; caches = ran.1 k } in
    subst IsPart (sym left) it

module _ (shards : ℕ) (first new : ShardRows) (call : Call) (result : Result Answer (NoRoom Call)) (number : new.number ≡ first.number) (count : new.shards ≡ first.shards)
    (ran : RunsOn call (part_of first).caches result (part_of new).caches) where
  abbrev Left : Touched → List ShardRows → Type 0
  Left t old = RunsOn call (together (parts_of old)) result (together (parts_of (set old 0 new))) × AreThose shards t (parts_of (set old 0 new))

  the_one : (shard : ℕ) (old : List ShardRows) → touches call shards ≡ One shard → first ≡ get_or old 0 first → IsThe shards shard (parts_of old) → Left (One shard) old
  the_one shard [] is at those = absurd those
  the_one shard (part ∷ []) is at those =
      let here : part_of first ≡ part_of part = ap part_of at in
      let runs_alone : RunsOn call (together (part_of part ∷ [])) result (together (part_of new ∷ [])) =
      subst (λ (d : PlainCaches). RunsOn call d result (together (part_of new ∷ []))) (sym (both_none (part_of part).caches))
      (subst (λ (d : PlainCaches). RunsOn call (part_of part).caches result d) (sym (both_none (part_of new).caches))
      (subst (λ (p : Part). RunsOn call p.caches result (part_of new).caches) here ran)) in
      let at_number : (part_of first).number ≡ shard = ap (λ (p : Part). p.number) here ∙ those.0 in
      let at_count : (part_of first).shards ≡ shards = ap (λ (p : Part). p.shards) here ∙ those.1 in (
        runs_alone,
        (
          number ∙ at_number,
          count ∙ at_count,
          stays shards shard (part_of first) (part_of new) call is at_number at_count (subst IsPart (sym here) those.2) number count result ran,
        ),
      )
  the_one shard (part ∷ other ∷ parts) is at those = absurd those

  -- a call that does not touch all shards runs on the one
  pub run_one : (old : List ShardRows) → first ≡ get_or old 0 first → (touches call shards ≡ All → ⊥) → AreTouched shards call (parts_of old)
      → RunsOn call (together (parts_of old)) result (together (parts_of (set old 0 new))) × AreTouched shards call (parts_of (set old 0 new))
  run_one old at one touched = by (touches call shards) refl touched
    where
      by : (t : Touched) → touches call shards ≡ t → AreThose shards t (parts_of old) → Left t old
      by All is those = absurd (one is)
      by (One shard) is those = the_one shard old is at those
