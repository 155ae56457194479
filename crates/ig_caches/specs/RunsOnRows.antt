-- How a call runs on the rows of its cache.
use Rattle.std.specs.Prelude.{◌≡◌, ℤ, Result, Ok, Err}
use Rattle.ig_base.specs.declared.memory.NoRoom.{NoRoom}
use Rattle.ig_caches.specs.declared.call.Call.{Call}
use Rattle.ig_caches.specs.declared.call.Call.TheVariants.{ContainsKey, Size}
use Rattle.ig_caches.specs.declared.answer.Outcome.{Outcome}
use Rattle.ig_caches.specs.Rows.{Rows}
use Rattle.ig_caches.specs.Effect.{Effect, on_rows, on_all, effect}

-- the effect is one on rows, and P holds of it
abbrev pub OnRows : Effect → ((Rows → Outcome × Rows) → Type 0) → Type 0
OnRows (on_rows id f) P = P f
OnRows (on_all f) P = ⊥

-- a call on the rows of a cache
abbrev pub IsOnRows : Call → Type 0
IsOnRows call = OnRows (effect call) (λ f. Unit {0})

-- the call answers and leaves what its effect says, or there is no memory: then it comes back, and the rows stay
abbrev pub RunsOnRows : Call → Rows → Result Outcome (NoRoom Call) → Rows → Type 0
RunsOnRows call old (Ok outcome) new = OnRows (effect call) (λ f. (outcome, new) ≡ f old)
RunsOnRows call old (Err e) new = (e.back ≡ call) × (new ≡ old)

-- a call that takes no memory
abbrev pub TakesNoMemory : Call → Type 0
TakesNoMemory (ContainsKey id key) = Unit {0}
TakesNoMemory (Size id modes) = Unit {0}
TakesNoMemory _ = ⊥

-- an effect on all caches
abbrev pub IsOnAll : Effect → Type 0
IsOnAll (on_rows id f) = ⊥
IsOnAll (on_all f) = Unit {0}

-- an effect on the rows of the cache with this identifier
abbrev pub IsOnRowsOf : ℤ → Effect → Type 0
IsOnRowsOf id (on_rows other f) = other ≡ id
IsOnRowsOf id (on_all f) = ⊥
