-- The histories of callers.
use Rattle.std.specs.Prelude.{◌≡◌, ℕ, List, [], ◌∷◌, ◌++◌}
use Rattle.ig_base.specs.declared.entry.Entry.{Entry}
use Rattle.ig_caches.specs.declared.call.Call.{Call}
use Rattle.ig_caches.specs.declared.answer.Answer.{Answer}
use Rattle.ig_caches.specs.PlainCaches.{PlainCaches}

-- each entry is under this number
abbrev pub AreUnder : ℕ → List (Entry Call Answer) → Type 0
AreUnder seat [] = Unit {0}
AreUnder seat (entry ∷ entries) = (entry.seat ≡ seat) × AreUnder seat entries

-- each history that the old caller may have, the new one may have with these entries appended
pub record StandsOn {C : Type 0} (stands : C → PlainCaches → List (Entry Call Answer) → Type 0) (old new : C) (more : List (Entry Call Answer)) : Type 0 where
  pub keeps : (start : PlainCaches) (own : List (Entry Call Answer)) → stands old start own → stands new start (own ++ more)
