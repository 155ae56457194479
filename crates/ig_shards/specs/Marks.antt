-- Putting several rows: a row is put first under each key that has none, and these keys are marked.
use Rattle.std.specs.Prelude.{◌≡◌, ◌⊎◌, ℕ, Bool, true, false, ◌&&◌, ◌||◌, List, [], ◌∷◌, ◌++◌, None, is_some}
use Rattle.std.specs.Ordering.{nat_cmp, eq_by_cmp}
use Rattle.std.specs.Cmp.Lexicographic.{slice_cmp}
use Rattle.std.specs.FinMap as finite
use Rattle.ig_value.specs.declared.value.Value.{Value}
use Rattle.ig_value.specs.Canon.{Canon}
use Rattle.ig_caches.specs.declared.call.Call.{Call}
use Rattle.ig_caches.specs.declared.call.Call.TheVariants.{GetAll, PutAll, ContainsKeys, ClearKeys, RemoveKeys, Clear, RemoveAll, Scan, Size}
use Rattle.ig_caches.specs.declared.call.Pair.{Pair}
use Rattle.ig_caches.specs.Rows.{Rows, has_row, with_row}
use Rattle.ig_caches.specs.Reserved.{has_key}

-- tests whether the bytes are the canonical encoding of a marked key
abbrev pub is_marked : List Bool → List Pair → List ℕ → Bool
is_marked [] pairs form = false
is_marked (mark ∷ marks) [] form = false
is_marked (mark ∷ marks) (pair ∷ pairs) form = (mark && eq_by_cmp (slice_cmp nat_cmp) form (Canon pair.key)) || is_marked marks pairs form

-- no marked key had a row
abbrev pub AreNew : Rows → List Bool → List Pair → Type 0
AreNew old marks pairs = (form : List ℕ) → is_marked marks pairs form ≡ true → finite.get old form ≡ None

-- the new rows are the old ones, and some under marked keys, which had none
abbrev pub IsMarked : Rows → Rows → List Bool → List Pair → Type 0
IsMarked old new marks pairs = (form : List ℕ) → (finite.get new form ≡ finite.get old form) ⊎ (is_marked marks pairs form ≡ true)

-- each key of the pairs has a row
abbrev pub HasRows : Rows → List Pair → Type 0
HasRows rows pairs = (form : List ℕ) → has_key pairs form ≡ true → is_some (finite.get rows form) ≡ true

-- a key that has a row is not marked; one that has none is marked, and a row is put under it
abbrev pub IsReserved : Rows → Rows → List Bool → List Bool → Value → Type 0
IsReserved old new before marks key =
    ((has_row old key ≡ true) × (new ≡ old) × (marks ≡ before ++ false ∷ []))
    ⊎ ((row : Pair) × (row.key ≡ key) × (has_row old key ≡ false) × (new ≡ with_row old row) × (marks ≡ before ++ true ∷ []))

-- no row is put, and the key is marked only if it has none
abbrev pub IsLeft : Rows → Rows → List Bool → List Bool → Value → Type 0
IsLeft old new before marks key = (new ≡ old) × ((marks ≡ before) ⊎ ((has_row old key ≡ false) × (marks ≡ before ++ true ∷ [])))

-- a call on several rows of a cache, or on all
abbrev pub IsOnSeveral : Call → Type 0
IsOnSeveral (GetAll id keys) = Unit {0}
IsOnSeveral (ContainsKeys id keys) = Unit {0}
IsOnSeveral (ClearKeys id keys) = Unit {0}
IsOnSeveral (RemoveKeys id keys) = Unit {0}
IsOnSeveral (PutAll id pairs) = Unit {0}
IsOnSeveral (Clear id) = Unit {0}
IsOnSeveral (RemoveAll id) = Unit {0}
IsOnSeveral (Scan id) = Unit {0}
IsOnSeveral (Size id modes) = Unit {0}
IsOnSeveral _ = ⊥
