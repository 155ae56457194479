-- Which lists of names caches start with, and which are refused.
use Rattle.std.specs.Prelude.{◌≡◌, ℕ, ◌<◌, ◌≤◌, List, [], Some, length, slice_get}
use Rattle.ig_caches.specs.declared.fault.StartFault.{StartFault}
use Rattle.ig_caches.specs.declared.fault.StartFault.TheVariants as fault
use Rattle.ig_caches.specs.PlainCaches.{id_of}
use Rattle.ig_caches.specs.Effect.{max_caches}

-- the name at the index is empty
abbrev pub IsEmptyAt : List (List ℕ) → ℕ → Type 0
IsEmptyAt names at = slice_get names at ≡ Some []

-- the name at the index has the identifier of the name at an earlier one
pub record IsTakenAt (names : List (List ℕ)) (at : ℕ) : Type 0 where
  pub name : List ℕ
  pub here : slice_get names at ≡ Some name
  pub earlier : ℕ
  pub is_earlier : earlier < at
  pub other : List ℕ
  pub there : slice_get names earlier ≡ Some other
  pub one_id : id_of other ≡ id_of name

-- P holds at the index and at no lower one
pub record IsFirst (P : ℕ → Type 0) (at : ℕ) : Type 0 where
  pub here : P at
  pub none_before : (k : ℕ) → k < at → ¬ (P k)

-- P holds at no index
abbrev pub IsNowhere : (ℕ → Type 0) → Type 0
IsNowhere P = (k : ℕ) → ¬ (P k)

-- names with which caches start
pub record CanStart (names : List (List ℕ)) : Type 0 where
  pub few : length names ≤ max_caches
  pub no_empty : IsNowhere (IsEmptyAt names)
  pub distinct : IsNowhere (IsTakenAt names)

-- there are too many names; else the first empty one is refused; else the first whose identifier is taken
abbrev pub IsStartFault : List (List ℕ) → StartFault → Type 0
IsStartFault names fault.TooMany = max_caches < length names
IsStartFault names (fault.Empty at) = (length names ≤ max_caches) × IsFirst (IsEmptyAt names) at
IsStartFault names (fault.Taken at) =
    (length names ≤ max_caches) × IsNowhere (IsEmptyAt names) × IsFirst (IsTakenAt names) at
IsStartFault names fault.NoMemory = Unit {0}
