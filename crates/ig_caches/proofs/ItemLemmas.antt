-- The item at an index of a list.
use Rattle.std.proofs.Common.{◌≡◌, ◌<◌, ◌+◌, ℕ, suc, List, [], ◌∷◌, ◌++◌, length, take, drop, get_or, sym, ap, ◌∙◌, add-one}
use Rattle.std.proofs.Math.Seq.{take-suc, drop-cons}

pub split_at : {X : Type 0} (items : List X) (i : ℕ) (item : X) → i < length items → item ≡ get_or items i item → drop i items ≡ item ∷ drop (i + 1) items
split_at {X} items i item less is = rw add-one (drop-cons items i item less ∙ ap (λ (x : X). x ∷ drop (suc i) items) (sym is))

pub taken_at : {X : Type 0} (items : List X) (i : ℕ) (item : X) → i < length items → item ≡ get_or items i item → take (i + 1) items ≡ take i items ++ item ∷ []
taken_at {X} items i item less is = rw add-one (take-suc items i item less ∙ ap (λ (x : X). take i items ++ x ∷ []) (sym is))
