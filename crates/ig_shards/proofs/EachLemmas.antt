-- A list of which each item is changed in turn.
use Rattle.std.proofs.Common.{◌≡◌, ◌<◌, ◌≤◌, ℕ, zero, suc, List, [], ◌∷◌, ◌++◌, length, take, drop, get_or, set, map, append-nil, refl, sym, ap, ap₂, ◌∙◌, arith}
use Rattle.std.proofs.Math.ListN.{drop_of_length-le}
use Rattle.std.proofs.lemmas.List.{take_all}

module _ {X : Type 0} (f : X → X) where
  -- the next item is as it was
  pub each_next : (xs : List X) (i : ℕ) (d : X) → get_or (map f (take i xs) ++ drop i xs) i d ≡ get_or xs i d
  each_next [] zero d = refl
  each_next [] (suc i) d = refl
  each_next (x ∷ xs) zero d = refl
  each_next (x ∷ xs) (suc i) d = each_next xs i d

  each_more : (xs : List X) (i : ℕ) (d : X) → i < length xs → set (map f (take i xs) ++ drop i xs) i (f (get_or xs i d)) ≡ map f (take (suc i) xs) ++ drop (suc i) xs
  each_more [] i d within = absurd (omega (arith, within))
  each_more (x ∷ xs) zero d within = refl
  each_more (x ∷ xs) (suc i) d within = ap (λ (ys : List X). f x ∷ ys) (each_more xs i d (omega (arith, within)))

  -- and is changed
  pub each_step : (xs : List X) (i next : ℕ) (d : X) → i < length xs → next ≡ suc i → set (map f (take i xs) ++ drop i xs) i (f (get_or xs i d)) ≡ map f (take next xs) ++ drop next xs
  each_step xs i next d within is = each_more xs i d within ∙ ap (λ (j : ℕ). map f (take j xs) ++ drop j xs) (sym is)

  -- until all are
  pub each_done : (xs : List X) (i : ℕ) → length xs ≤ i → map f (take i xs) ++ drop i xs ≡ map f xs
  each_done xs i past =
      ap₂ (λ (ys zs : List X). map f ys ++ zs) (take_all i xs past) (drop_of_length-le xs past) ∙ append-nil (map f xs)
