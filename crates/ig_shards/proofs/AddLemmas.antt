-- Adding a cache to each shard in turn.
use Rattle.std.proofs.Common.{◌≡◌, ◌<◌, ◌++◌, ℕ, zero, suc, ℤ, true, false, List, [], ◌∷◌, length, length-append, drop, get_or, set, All, Result, Ok, Err, IfOk, IsOk, refl, ap, sym, ◌∙◌, subst, arith}
use Rattle.std.proofs.Math.ListN.{get_or-map}
use Rattle.std.proofs.lemmas.List.{drop-set-lt, length-map}
use Rattle.std.proofs.lemmas.List.Elements.{All-nil, All-cons, All-head, All-tail, All-get_or}
use Rattle.ig_base.specs.declared.memory.NoRoom.{NoRoom}
use Rattle.ig_caches.specs.declared.answer.Outcome.{Outcome}
use Rattle.ig_caches.specs.PlainCaches.{PlainCaches, id_of}
use Rattle.ig_caches.specs.Effect.{created}
use Rattle.ig_shards.specs.declared.shard_rows.ShardRows.{ShardRows}
use Rattle.ig_shards.specs.Parts.{Part}
use Rattle.ig_shards.specs.PartView.{part_of, parts_of}

-- what holds of all items holds of the one in the middle
pub all_middle : {X : Type 0} (P : X → Type 0) (before later : List X) (x : X) → All P (before ++ x ∷ later) → P x
all_middle P [] later x all = All-head P x later all
all_middle P (first ∷ before) later x all = all_middle P before later x (All-tail P first (before ++ x ∷ later) all)

-- lists that are the same from an index on have the same item there
pub later_same : {X : Type 0} (xs ys : List X) (i : ℕ) (d : X) → drop i xs ≡ drop i ys → get_or xs i d ≡ get_or ys i d
later_same {X} xs ys i d same = sym (first_of_drop xs i d) ∙ ap (λ l. get_or l 0 d) same ∙ first_of_drop ys i d
  where
    first_of_drop : (l : List X) (j : ℕ) (e : X) → get_or (drop j l) 0 e ≡ get_or l j e
    first_of_drop [] zero e = refl
    first_of_drop [] (suc j) e = refl
    first_of_drop (x ∷ l) zero e = refl
    first_of_drop (x ∷ l) (suc j) e = first_of_drop l j e

-- one item is written, and those after it stay
pub later_stay : {X : Type 0} (xs ys : List X) (i next : ℕ) (x : X) → next ≡ suc i → drop i xs ≡ drop i ys → drop next (set xs i x) ≡ drop next ys
later_stay {X} xs ys i next x is same =
    drop-set-lt next xs i x (omega (arith, is)) ∙ ap (λ n. drop n xs) is ∙ tail_same xs ys i same ∙ ap (λ n. drop n ys) (sym is)
  where
    tail : List X → List X
    tail [] = []
    tail (y ∷ l) = l

    tail_is : (l : List X) (j : ℕ) → tail (drop j l) ≡ drop (suc j) l
    tail_is [] zero = refl
    tail_is [] (suc j) = refl
    tail_is (y ∷ l) zero = refl
    tail_is (y ∷ l) (suc j) = tail_is l j

    tail_same : (l m : List X) (j : ℕ) → drop j l ≡ drop j m → drop (suc j) l ≡ drop (suc j) m
    tail_same l m j e = sym (tail_is l j) ∙ ap tail e ∙ tail_is m j

-- copies of a name have its identifier
pub copies_id : (id : ℤ) (name : List ℕ) (names : List (List ℕ)) → id ≡ id_of name → All (λ n. n ≡ name) names → All (λ n. id ≡ id_of n) names
copies_id id name [] is all = All-nil (λ n. id ≡ id_of n)
copies_id id name (first ∷ names) is all =
    let P : List ℕ → Type 0 = λ n. n ≡ name in
    All-cons (λ n. id ≡ id_of n) first names (is ∙ ap id_of (sym (All-head P first names all))) (copies_id id name names is (All-tail P first names all))

-- where there was room the cache is added
pub added : (old new : PlainCaches) (name : List ℕ) (result : Result Outcome (NoRoom (List ℕ))) → IsOk result → IfOk result (λ outcome. (outcome, new) ≡ created old name) → new ≡ (created old name).1
added old new name (Ok outcome) sure is = ap (λ (r : Outcome × PlainCaches). r.1) is
added old new name (Err e) sure is = let never : false ≡ true = sure in absurd (cc)

-- the name that is next, and the shard that it is for
module _ (old parts : List ShardRows) (names before later : List (List ℕ)) (name : List ℕ) (i : ℕ) (items : before ++ name ∷ later ≡ names) (count : length names ≡ length old) (at : i ≡ length before) where
  pub add_within : i < length old
  add_within = omega (arith, count, at, ap length items, length-append before (name ∷ later))

  pub its_name : (P : List ℕ → Type 0) → All P names → P name
  its_name P all = all_middle P before later name (subst (All P) (sym items) all)

  module _ (part : ShardRows) (same : drop i parts ≡ drop i old) (at_part : part ≡ get_or parts i part) where
    part_was : part ≡ get_or old i part
    part_was = at_part ∙ later_same parts old i part same

    pub its_shard : (P : ShardRows → Type 0) → All P old → P part
    its_shard P all = subst P (sym part_was) (All-get_or P old i part add_within all)

    pub its_part : (P : Part → Type 0) → All P (parts_of old) → P (part_of part)
    its_part P all =
        subst P (get_or-map part_of old i part ∙ sym (ap part_of part_was))
        (All-get_or P (parts_of old) i (part_of part) (omega (arith, add_within, length-map old part_of)) all)
