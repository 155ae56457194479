-- Shards with names, and without rows or types.
use Rattle.std.proofs.Common.{◌≡◌, ◌≤◌, ◌+◌, ◌++◌, ℕ, zero, suc, List, [], ◌∷◌, length, map, All, refl, ap, ap₂, ◌∙◌, arith}
use Rattle.std.proofs.lemmas.List.Elements.{All-nil, All-cons}
use Rattle.std.specs.FinMap as finite
use Rattle.ig_caches.specs.Rows.{Rows}
use Rattle.ig_caches.specs.PlainCaches.{Cache, fresh_cache, fresh_caches}
use Rattle.ig_shards.specs.Spread.{IsPlaced}
use Rattle.ig_shards.specs.Parts.{Part, beside, both, together, AreAlike, AreNumbered, AllAlike, AreAll}
use Rattle.ig_shards.proofs.SpreadLemmas.{either_none, placed_none}
use Rattle.ig_shards.proofs.PartLemmas.{both_none}

abbrev pub fresh_part : List (List ℕ) → ℕ → ℕ → Part
fresh_part names shards number = record { number = number; shards = shards; caches = fresh_caches names }

-- as many shards from this number on
abbrev pub fresh_parts : List (List ℕ) → ℕ → ℕ → ℕ → List Part
fresh_parts names shards next zero = []
fresh_parts names shards next (suc count) = fresh_part names shards next ∷ fresh_parts names shards (suc next) count

pub fresh_push : (names : List (List ℕ)) (shards next count : ℕ) → fresh_parts names shards next count ++ fresh_part names shards (next + count) ∷ [] ≡ fresh_parts names shards next (suc count)
fresh_push names shards next zero = ap (λ n. fresh_part names shards n ∷ []) (plus_none next)
  where
    plus_none : (n : ℕ) → n + 0 ≡ n
    plus_none n = omega arith
fresh_push names shards next (suc count) =
    ap (λ (ps : List Part). fresh_part names shards next ∷ ps) (ap (λ n. fresh_parts names shards (suc next) count ++ fresh_part names shards n ∷ []) (moved next count) ∙ fresh_push names shards (suc next) count)
  where
    moved : (n m : ℕ) → n + suc m ≡ suc n + m
    moved n m = omega arith

placed_fresh : (shards shard : ℕ) (names : List (List ℕ)) → All (λ (cache : Cache). IsPlaced shards shard cache.rows) (map fresh_cache names)
placed_fresh shards shard [] = All-nil (λ (cache : Cache). IsPlaced shards shard cache.rows)
placed_fresh shards shard (name ∷ names) =
    All-cons (λ (cache : Cache). IsPlaced shards shard cache.rows) (fresh_cache name) (map fresh_cache names) (placed_none shards shard) (placed_fresh shards shard names)

numbered_fresh : (names : List (List ℕ)) (shards next count : ℕ) → next + count ≡ shards → shards ≤ 256 → AreNumbered shards next (fresh_parts names shards next count)
numbered_fresh names shards next zero e few = omega (arith, e)
numbered_fresh names shards next (suc count) e few = (
  refl,
  refl,
  record { within = omega (arith, e); few = few; placed = placed_fresh shards next names; typeless = λ other. refl },
  numbered_fresh names shards (suc next) count (omega (arith, e)) few,
)

alike_fresh : (names : List (List ℕ)) (shards next count : ℕ) → AllAlike (fresh_caches names) (fresh_parts names shards next count)
alike_fresh names shards next zero = All-nil (λ (part : Part). AreAlike (fresh_caches names) part.caches)
alike_fresh names shards next (suc count) =
    All-cons (λ (part : Part). AreAlike (fresh_caches names) part.caches) (fresh_part names shards next) (fresh_parts names shards (suc next) count)
    (record { names = refl; counts = refl }) (alike_fresh names shards (suc next) count)

beside_fresh : (names : List (List ℕ)) → beside (map fresh_cache names) (map fresh_cache names) ≡ map fresh_cache names
beside_fresh [] = refl
beside_fresh (name ∷ names) = ap₂ (λ (r : Rows) (cs : List Cache). record (fresh_cache name) { rows = r } ∷ cs) (either_none finite.empty) (beside_fresh names)

together_fresh : (names : List (List ℕ)) (shards next count : ℕ) → together (fresh_parts names shards next (suc count)) ≡ fresh_caches names
together_fresh names shards next zero = both_none (fresh_caches names)
together_fresh names shards next (suc count) =
    ap (both (fresh_caches names)) (together_fresh names shards (suc next) count) ∙ ap (λ (cs : List Cache). record (fresh_caches names) { caches = cs }) (beside_fresh names)

-- all shards at the start
pub all_fresh : (names : List (List ℕ)) (shards : ℕ) → 1 ≤ shards → shards ≤ 256 → AreAll shards (fresh_parts names shards 0 shards)
all_fresh names shards some few = record {
  some = omega (arith, some);
  numbered = numbered_fresh names shards 0 shards (omega arith) few;
  like = fresh_caches names;
  alike = alike_fresh names shards 0 shards;
}

pub fresh_together : (names : List (List ℕ)) (shards : ℕ) → 1 ≤ shards → together (fresh_parts names shards 0 shards) ≡ fresh_caches names
fresh_together names zero some = absurd (omega (arith, some))
fresh_together names (suc count) some = together_fresh names (suc count) 0 count

pub fresh_length : (names : List (List ℕ)) (shards next count : ℕ) → length (fresh_parts names shards next count) ≡ count
fresh_length names shards next zero = refl
fresh_length names shards next (suc count) = ap suc (fresh_length names shards (suc next) count)
