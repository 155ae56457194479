-- On which shards a call runs.
use Rattle.std.specs.Prelude.{◌≡◌, ℕ, List, [], ◌∷◌}
use Rattle.ig_caches.specs.declared.call.Call.{Call}
use Rattle.ig_shards.specs.declared.touch.Touched.{Touched}
use Rattle.ig_shards.specs.declared.touch.Touched.TheVariants.{One, All}
use Rattle.ig_shards.specs.Touches.{touches}
use Rattle.ig_shards.specs.Parts.{Part, IsPart, AreAll}

-- the one shard
abbrev pub IsThe : ℕ → ℕ → List Part → Type 0
IsThe shards shard [] = ⊥
IsThe shards shard (part ∷ []) = (part.number ≡ shard) × (part.shards ≡ shards) × IsPart part
IsThe shards shard (part ∷ other ∷ parts) = ⊥

-- these are the touched shards
abbrev pub AreThose : ℕ → Touched → List Part → Type 0
AreThose shards (One shard) parts = IsThe shards shard parts
AreThose shards All parts = AreAll shards parts

-- these are the shards that the call touches, of as many in all
abbrev pub AreTouched : ℕ → Call → List Part → Type 0
AreTouched shards call parts = AreThose shards (touches call shards) parts
