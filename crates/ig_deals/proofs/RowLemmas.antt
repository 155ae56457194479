-- A page is cut off the end of the rows in reverse.
use Rattle.std.proofs.Common.{◌≡◌, ℕ, ◌-◌, List, ◌++◌, length, take, drop, sym, ap, ◌∙◌, arith, take-append-drop}
use Rattle.std.specs.Prelude.{min, reverse}
use Rattle.std.proofs.lemmas.List.{reverse-append, length-reverse, length-drop, take_at, take_min, drop_at, drop_min}

module _ {A : Type 0} where
  -- the reverse, cut where the last rows begin
  reverse_cut : (n : ℕ) (xs : List A) → reverse xs ≡ reverse (drop (length xs - n) xs) ++ reverse (take (length xs - n) xs)
  reverse_cut n xs =
      ap reverse (sym (take-append-drop (length xs - n) xs)) ∙ reverse-append (take (length xs - n) xs) (drop (length xs - n) xs)

  last_length : (n : ℕ) (xs : List A) → length (reverse (drop (length xs - n) xs)) ≡ min n (length (reverse xs))
  last_length n xs =
      omega (arith, length-reverse (drop (length xs - n) xs), length-drop (length xs - n) xs, length-reverse xs)

  pub take-reverse : (n : ℕ) (xs : List A) → take n (reverse xs) ≡ reverse (drop (length xs - n) xs)
  take-reverse n xs =
      sym (take_min n (reverse xs)) ∙ ap (take (min n (length (reverse xs)))) (reverse_cut n xs)
      ∙ take_at (reverse (drop (length xs - n) xs)) (reverse (take (length xs - n) xs)) (min n (length (reverse xs))) (last_length n xs)

  pub drop-reverse : (n : ℕ) (xs : List A) → drop n (reverse xs) ≡ reverse (take (length xs - n) xs)
  drop-reverse n xs =
      sym (drop_min n (reverse xs)) ∙ ap (drop (min n (length (reverse xs)))) (reverse_cut n xs)
      ∙ drop_at (reverse (drop (length xs - n) xs)) (reverse (take (length xs - n) xs)) (min n (length (reverse xs))) (last_length n xs)
