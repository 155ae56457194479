-- Merging the ordered rows of two shards.
use Rattle.std.specs.Prelude.{◌≡◌, ◌⊎◌, ℕ, suc, List, [], ◌∷◌, None}
use Rattle.std.specs.FinMap as finite
use Rattle.ig_caches.specs.Rows.{Rows}
use Rattle.ig_shards.specs.Spread.{IsPlaced}

-- under no bytes have both a row
abbrev pub AreApart : Rows → Rows → Type 0
AreApart a b = (form : List ℕ) → (finite.get a form ≡ None) ⊎ (finite.get b form ≡ None)

-- the rows of some shards from this number on, each in its shard
abbrev pub ArePlacedFrom : ℕ → ℕ → List Rows → Type 0
ArePlacedFrom shards next [] = Unit {0}
ArePlacedFrom shards next (rows ∷ others) = IsPlaced shards next rows × ArePlacedFrom shards (suc next) others
