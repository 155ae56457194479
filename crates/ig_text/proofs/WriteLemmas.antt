-- Steps of the writers of values that go over lists: the depth of an item, and the last entry.
use Rattle.std.proofs.Common.{◌≡◌, ℕ, ℤ, ◌+◌, ◌*◌, ◌<◌, ◌≤◌, List, [], ◌∷◌, ◌++◌, length, map, drop, get_or, refl, sym, ap, ◌∙◌, arith}
use Rattle.std.proofs.lemmas.List.{drop_all}
use Rattle.ig_value.specs.Limits.{greatest}
use Rattle.ig_value.proofs.DepthLemmas.{greatest_item}
use Rattle.ig_text.specs.Tokens.{until_text}
use Rattle.ig_text.specs.TextOf.{entries}

-- an item is no deeper than the list, nor than one with another item in front
pub item_within : {X : Type 0} (f : X → ℕ) (xs : List X) (i : ℕ) (x : X) → i < length xs → x ≡ get_or xs i x → f x ≤ greatest (map f xs)
item_within f xs i x lt is = let same : f x ≡ f (get_or xs i x) = ap f is in omega (arith, same, greatest_item f xs i x lt)

pub later_within : {X : Type 0} (f : X → ℕ) (xs ys : List X) (first : X) (i : ℕ) (x : X) → xs ≡ first ∷ ys → i < length ys → x ≡ get_or ys i x → f x ≤ greatest (map f xs)
later_within {X} f xs ys first i x whole lt is =
    let same : greatest (map f xs) ≡ greatest (map f (first ∷ ys)) = ap (λ (l : List X). greatest (map f l)) whole in
    omega (arith, same, item_within f ys i x lt is)

entries_none : {X : Type 0} (ids : List ℤ) → entries {X = X} ids [] ≡ []
entries_none [] = refl
entries_none (id ∷ ids) = refl

-- no field is left
pub entries_end : {X : Type 0} (close : ℕ) (T : ℤ × X → List ℕ) (ids : List ℤ) (xs : List X) (i : ℕ) (now whole : List ℕ) → length xs ≤ i → now ++ until_text close T (entries (drop i ids) (drop i xs)) ≡ whole → now ++ close ∷ [] ≡ whole
entries_end {X} close T ids xs i now whole le before =
    let none : entries (drop i ids) (drop i xs) ≡ [] = ap (entries {X = X} (drop i ids)) (drop_all i xs le) ∙ entries_none (drop i ids) in
    ap (λ (l : List (ℤ × X)). now ++ until_text close T l) (sym none) ∙ before
