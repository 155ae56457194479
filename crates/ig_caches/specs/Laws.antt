-- Laws of calls, over the definitions of plain caches alone.
use Rattle.std.specs.Prelude.{◌≡◌, ◌↔◌, ◌⊎◌, ℕ, ℤ, pos, ◌-◌, ◌^◌, min, List, [], map, length, Option, Some, All, Contains}
use Rattle.std.specs.List.Sorted.{IsStrictlySortedBy}
use Rattle.std.specs.Ordering.{nat_cmp}
use Rattle.std.specs.Cmp.Lexicographic.{slice_cmp}
use Rattle.std.specs.FinMap as finite
use Rattle.ig_value.specs.declared.value.Value.{Value}
use Rattle.ig_value.specs.Canon.{Canon}
use Rattle.ig_caches.specs.declared.call.Pair.{Pair}
use Rattle.ig_caches.specs.declared.call.Call.{Call}
use Rattle.ig_caches.specs.declared.call.Call.TheVariants.{Get, Put, Scan, Size}
use Rattle.ig_caches.specs.declared.answer.Why.{Why}
use Rattle.ig_caches.specs.declared.answer.Outcome.{Outcome}
use Rattle.ig_caches.specs.declared.answer.Outcome.TheVariants.{Found, Pairs, Count, Refused}
use Rattle.ig_caches.specs.Rows.{Rows, row_of}
use Rattle.ig_caches.specs.PlainCaches.{Cache, PlainCaches, cache_of, fresh_caches}
use Rattle.ig_caches.specs.Effect.{Change, on_rows, at_key, effect}
use Rattle.ig_caches.specs.Answered.{answered, after}
use Rattle.ig_caches.specs.AnswersKind.{AnswersKind}

-- a get after a put of an equal key finds the value that was put, in a cache that stands
abbrev pub GetFindsWhatWasPut : Type 0
GetFindsWhatWasPut = (c : PlainCaches) (id : ℤ) (cache : Cache) (key other value : Value) → cache_of c.caches id ≡ Some cache → Canon other ≡ Canon key
    → (answered (after c (Put id key value)) (Get id other)).outcome ≡ Found value

-- the call is on one key of one cache
pub record IsOnKey (call : Call) (id : ℤ) (key : Value) : Type 0 where
  pub does : Option Value → Outcome × Change
  pub is : effect call ≡ on_rows id (at_key key does)

-- two keys of one cache that aren't equal, or keys of two caches
abbrev pub AreApart : ℤ → Value → ℤ → Value → Type 0
AreApart id key other_id other = ¬ (id ≡ other_id) ⊎ ¬ (Canon key ≡ Canon other)

-- calls on two such keys leave the same in either order, and neither changes the outcome of the other
abbrev pub CallsApartCommute : Type 0
CallsApartCommute = (c : PlainCaches) (call other : Call) (id other_id : ℤ) (key other_key : Value) → IsOnKey call id key → IsOnKey other other_id other_key
    → AreApart id key other_id other_key
    → (after (after c call) other ≡ after (after c other) call) × (answered (after c call) other ≡ answered c other) × (answered (after c other) call ≡ answered c call)

-- a refused call changes nothing
abbrev pub RefusedCallsChangeNothing : Type 0
RefusedCallsChangeNothing = (c : PlainCaches) (call : Call) (why : Why) → (answered c call).outcome ≡ Refused why → after c call ≡ c

-- an answer has the kind that its call asks for, or it is a refusal
abbrev pub AnswersFit : Type 0
AnswersFit = (c : PlainCaches) (call : Call) → AnswersKind call (answered c call).outcome

-- each row stands under the canonical encoding of its key
abbrev pub IsKeyed : Rows → Type 0
IsKeyed rows = (bytes : List ℕ) (row : Pair) → finite.get rows bytes ≡ Some row → Canon row.key ≡ bytes

abbrev pub AreKeyed : List Cache → Type 0
AreKeyed caches = All (λ cache. IsKeyed cache.rows) caches

-- so it is at first, and calls leave it so
abbrev pub RowsStandUnderTheirKeys : Type 0
RowsStandUnderTheirKeys = ((names : List (List ℕ)) → AreKeyed (fresh_caches names).caches)
    × ((c : PlainCaches) (call : Call) → AreKeyed c.caches → AreKeyed (after c call).caches)

-- the rows are all rows of the cache, each key once, in the order of the canonical encodings of the keys
pub record IsScanOf (cache : Cache) (rows : List Pair) : Type 0 where
  pub ordered : IsStrictlySortedBy (slice_cmp nat_cmp) (map (λ row. Canon row.key) rows)
  pub exactly : (row : Pair) → Contains rows row ↔ (row_of cache.rows row.key ≡ Some row)

-- a scan answers all rows, and a size counts them
pub record ScansAllRows (c : PlainCaches) (id : ℤ) (cache : Cache) : Type 0 where
  pub rows : List Pair
  pub scanned : (answered c (Scan id)).outcome ≡ Pairs rows
  pub all : IsScanOf cache rows
  pub counted : (answered c (Size id [])).outcome ≡ Count (pos (min (length rows) (2 ^ 63 - 1)))

abbrev pub ScansAreWhole : Type 0
ScansAreWhole = (c : PlainCaches) (id : ℤ) (cache : Cache) → AreKeyed c.caches → cache_of c.caches id ≡ Some cache → ScansAllRows c id cache
