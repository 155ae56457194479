-- Rows that are spread over shards, as the rows of all.
use Rattle.std.proofs.Common.{◌≡◌, ◌<◌, ◌≤◌, ◌⊎◌, ◌+◌, T, ◌&&◌, sum_by, All, ℕ, zero, suc, Bool, true, false, cond, List, [], ◌∷◌, ◌++◌, length, get_or, set, take, drop, append-nil, Option, None, Some, refl, sym, ap, ap₂, ◌∙◌, subst, inl, inr, arith, option_map, is_some}
use Rattle.std.proofs.lemmas.Bool.{cases_Bool, cond-true, cond-false}
use Rattle.std.specs.Cmp.Lexicographic.{nat_list_cmp_total}
use Rattle.std.proofs.Math.ListN.{drop_of_length-le}
use Rattle.std.proofs.lemmas.List.{take_all, get_or_default}
use Rattle.std.proofs.lemmas.List.Elements.{All-head, All-tail}
use Rattle.std.proofs.lemmas.List.Sums.{sum_by-cons}
use Rattle.std.specs.declared.cmp.Ordering.{Ordering}
use Rattle.std.specs.declared.cmp.Ordering.TheVariants.{Less, Equal, Greater}
use Rattle.std.specs.Ordering.{is_eq, is_lt}
use Rattle.std.specs.FinMap as finite
use Rattle.std.specs.FinMap.{FinMap}
use Rattle.std.specs.FinMap.Entries.{below_all}
use Rattle.ig_value.specs.declared.value.Value.{Value}
use Rattle.ig_value.specs.Canon.{Canon}
use Rattle.ig_caches.specs.declared.call.Pair.{Pair}
use Rattle.ig_caches.specs.declared.answer.Outcome.{Outcome}
use Rattle.ig_caches.specs.Rows.{Rows, row_of, value_of, has_row}
use Rattle.ig_caches.specs.Effect.{Change, keep, store, remove, changed, at_key}
use Rattle.ig_caches.proofs.RowEntryLemmas.{by_bytes, ties, tied_same, same_tied, same_rows}
use Rattle.ig_shards.specs.ShardOf.{shard_of}
use Rattle.ig_shards.specs.Spread.{either, union, IsPlaced, AreSpreadFrom}

-- ---- numbers
pub not_less : (a b : ℕ) → a ≡ b → a < b → ⊥
not_less a b e less = omega (arith, e, less)

pub less_next : (a b : ℕ) → a < b → a < suc b
less_next a b less = omega (arith, less)

pub at_next : (a n : ℕ) → a ≡ n + 0 → a < suc n
at_next a n e = omega (arith, e)

pub not_first : (a n i : ℕ) → a ≡ n → a ≡ n + suc i → ⊥
not_first a n i here there = omega (arith, here, there)

pub in_rest : (a n i : ℕ) → a ≡ n + suc i → a ≡ suc n + i
in_rest a n i e = omega (arith, e)

pub within_rest : (i n : ℕ) → suc i < suc n → i < n
within_rest i n less = omega (arith, less)

not_within : (i : ℕ) → i < 0 → ⊥
not_within i less = omega (arith, less)

at_first : (a n : ℕ) → a ≡ n + 0 → a ≡ n
at_first a n e = omega (arith, e)

not_after : (a n : ℕ) → a ≡ n → suc n ≤ a → ⊥
not_after a n e more = omega (arith, e, more)

-- the first of two that is there
abbrev pub or_else : Option Pair → Option Pair → Option Pair
or_else (Some x) o = Some x
or_else None o = o

or_none : (o : Option Pair) → or_else o None ≡ o
or_none (Some x) = refl
or_none None = refl

-- ---- the rows of two
find_after : (q : List ℕ) (xs ys : List (List ℕ × Pair)) → finite.find by_bytes q (xs ++ ys) ≡ or_else (finite.find by_bytes q xs) (finite.find by_bytes q ys)
find_after q [] ys = refl
find_after q (x ∷ xs) ys = elim (cases_Bool (ties q x.0)) [
  | inl tied ↦
      cond-true (ties q x.0) _ _ tied
      ∙ sym (ap (λ (o : Option Pair). or_else o (finite.find by_bytes q ys)) (cond-true (ties q x.0) (Some x.1) (finite.find by_bytes q xs) tied))
  | inr other ↦
      cond-false (ties q x.0) _ _ other ∙ find_after q xs ys
      ∙ sym (ap (λ (o : Option Pair). or_else o (finite.find by_bytes q ys)) (cond-false (ties q x.0) (Some x.1) (finite.find by_bytes q xs) other))
]

pub get_either : (a b : Rows) (q : List ℕ) → finite.get (either a b) q ≡ or_else (finite.get a q) (finite.get b q)
get_either a b q =
    finite.get-from_entries nat_list_cmp_total (finite.entries a ++ finite.entries b) q ∙ find_after q (finite.entries a) (finite.entries b)
    ∙ ap₂ or_else (sym (finite.get-entries a q)) (sym (finite.get-entries b q))

-- where the second has no row, the first says
pub get_first : (a b : Rows) (q : List ℕ) → finite.get b q ≡ None → finite.get (either a b) q ≡ finite.get a q
get_first a b q none = get_either a b q ∙ ap (or_else (finite.get a q)) none ∙ or_none (finite.get a q)

-- where the first has none, the second
pub get_second : (a b : Rows) (q : List ℕ) → finite.get a q ≡ None → finite.get (either a b) q ≡ finite.get b q
get_second a b q none = get_either a b q ∙ ap (λ (o : Option Pair). or_else o (finite.get b q)) none

pub either_none : (a : Rows) → either a finite.empty ≡ a
either_none a = same_rows (either a finite.empty) a (λ q. get_first a finite.empty q (finite.get-empty by_bytes q))

put_first : (t : Bool) (row : Pair) (x y : Option Pair) → or_else (cond t (Some row) x) y ≡ cond t (Some row) (or_else x y)
put_first true row x y = refl
put_first false row x y = refl

pub inserted_first : (a b : Rows) (form : List ℕ) (row : Pair) → either (finite.insert a form row) b ≡ finite.insert (either a b) form row
inserted_first a b form row = same_rows (either (finite.insert a form row) b) (finite.insert (either a b) form row) (λ q.
    get_either (finite.insert a form row) b q
    ∙ ap (λ (o : Option Pair). or_else o (finite.get b q)) (finite.get-insert nat_list_cmp_total a form row q)
    ∙ put_first (ties q form) row (finite.get a q) (finite.get b q)
    ∙ sym (finite.get-insert nat_list_cmp_total (either a b) form row q ∙ ap (cond (ties q form) (Some row)) (get_either a b q)))

put_second : (t : Bool) (row : Pair) (x y : Option Pair) → (t ≡ true → x ≡ None) → or_else x (cond t (Some row) y) ≡ cond t (Some row) (or_else x y)
put_second true row x y none = ap (λ (o : Option Pair). or_else o (Some row)) (none refl)
put_second false row x y none = refl

-- bytes that tie are the same bytes
none_where_tied : (a : Rows) (form q : List ℕ) → finite.get a form ≡ None → ties q form ≡ true → finite.get a q ≡ None
none_where_tied a form q none tied = ap (finite.get a) (tied_same q form tied) ∙ none

pub inserted_second : (a b : Rows) (form : List ℕ) (row : Pair) → finite.get a form ≡ None → either a (finite.insert b form row) ≡ finite.insert (either a b) form row
inserted_second a b form row none = same_rows (either a (finite.insert b form row)) (finite.insert (either a b) form row) (λ q.
    get_either a (finite.insert b form row) q
    ∙ ap (or_else (finite.get a q)) (finite.get-insert nat_list_cmp_total b form row q)
    ∙ put_second (ties q form) row (finite.get a q) (finite.get b q) (none_where_tied a form q none)
    ∙ sym (finite.get-insert nat_list_cmp_total (either a b) form row q ∙ ap (cond (ties q form) (Some row)) (get_either a b q)))

take_first : (t : Bool) (x y : Option Pair) → (t ≡ true → y ≡ None) → or_else (cond t None x) y ≡ cond t None (or_else x y)
take_first true x y none = none refl
take_first false x y none = refl

take_second : (t : Bool) (x y : Option Pair) → (t ≡ true → x ≡ None) → or_else x (cond t None y) ≡ cond t None (or_else x y)
take_second true x y none = or_none x ∙ none refl
take_second false x y none = refl

pub removed_first : (a b : Rows) (form : List ℕ) → finite.get b form ≡ None → either (finite.remove a form) b ≡ finite.remove (either a b) form
removed_first a b form none = same_rows (either (finite.remove a form) b) (finite.remove (either a b) form) (λ q.
    get_either (finite.remove a form) b q
    ∙ ap (λ (o : Option Pair). or_else o (finite.get b q)) (finite.get-remove nat_list_cmp_total a form q)
    ∙ take_first (ties q form) (finite.get a q) (finite.get b q) (none_where_tied b form q none)
    ∙ sym (finite.get-remove nat_list_cmp_total (either a b) form q ∙ ap (cond (ties q form) None) (get_either a b q)))

pub removed_second : (a b : Rows) (form : List ℕ) → finite.get a form ≡ None → either a (finite.remove b form) ≡ finite.remove (either a b) form
removed_second a b form none = same_rows (either a (finite.remove b form)) (finite.remove (either a b) form) (λ q.
    get_either a (finite.remove b form) q
    ∙ ap (or_else (finite.get a q)) (finite.get-remove nat_list_cmp_total b form q)
    ∙ take_second (ties q form) (finite.get a q) (finite.get b q) (none_where_tied a form q none)
    ∙ sym (finite.get-remove nat_list_cmp_total (either a b) form q ∙ ap (cond (ties q form) None) (get_either a b q)))

-- ---- the row of a key changes in one of two
pub changed_first : (a b : Rows) (key : Value) (change : Change) → finite.get b (Canon key) ≡ None → either (changed a key change) b ≡ changed (either a b) key change
changed_first a b key keep none = refl
changed_first a b key (store value) none = inserted_first a b (Canon key) (record { key = key; value = value })
changed_first a b key remove none = removed_first a b (Canon key) none

pub changed_second : (a b : Rows) (key : Value) (change : Change) → finite.get a (Canon key) ≡ None → either a (changed b key change) ≡ changed (either a b) key change
changed_second a b key keep none = refl
changed_second a b key (store value) none = inserted_second a b (Canon key) (record { key = key; value = value }) none
changed_second a b key remove none = removed_second a b (Canon key) none

module _ (key : Value) (f : Option Value → Outcome × Change) (a b : Rows) where
  value_in : Option Pair → Option Value
  value_in o = option_map (λ (row : Pair). row.value) o

  -- a call on a key that the second has no row of does what it does with the first
  pub at_key_first : finite.get b (Canon key) ≡ None → at_key key f (either a b) ≡ ((at_key key f a).0, either (at_key key f a).1 b)
  unfolding value_in
  at_key_first none =
      let value : value_of (either a b) key ≡ value_of a key = ap value_in (get_first a b (Canon key) none) in
      ap (λ (v : Option Value). ((f v).0, changed (either a b) key (f v).1)) value
      ∙ ap (λ (r : Rows). ((f (value_of a key)).0, r)) (sym (changed_first a b key (f (value_of a key)).1 none))

  -- and one that the first has no row of, with the second
  pub at_key_second : finite.get a (Canon key) ≡ None → at_key key f (either a b) ≡ ((at_key key f b).0, either a (at_key key f b).1)
  unfolding value_in
  at_key_second none =
      let value : value_of (either a b) key ≡ value_of b key = ap value_in (get_second a b (Canon key) none) in
      ap (λ (v : Option Value). ((f v).0, changed (either a b) key (f v).1)) value
      ∙ ap (λ (r : Rows). ((f (value_of b key)).0, r)) (sym (changed_second a b key (f (value_of b key)).1 none))

-- ---- rows in their shards
-- rows of another shard have no row of these bytes
pub none_elsewhere : (shards shard : ℕ) (rows : Rows) (form : List ℕ) → IsPlaced shards shard rows → (shard_of shards form ≡ shard → ⊥) → finite.get rows form ≡ None
none_elsewhere shards shard rows form placed other = by (finite.get rows form) refl
  where
    by : (o : Option Pair) → finite.get rows form ≡ o → o ≡ None
    by None is = refl
    by (Some row) is = absurd (other (placed form row is))

pub placed_none : (shards shard : ℕ) → IsPlaced shards shard finite.empty
placed_none shards shard form row is =
    let never : None ≡ Some row = sym (finite.get-empty by_bytes form) ∙ is in
    absurd (cc)

pub placed_inserted : (shards shard : ℕ) (rows : Rows) (form : List ℕ) (row : Pair) → shard_of shards form ≡ shard → IsPlaced shards shard rows → IsPlaced shards shard (finite.insert rows form row)
placed_inserted shards shard rows form row here placed q other is = elim (cases_Bool (ties q form)) [
  | inl tied ↦ ap (shard_of shards) (tied_same q form tied) ∙ here
  | inr apart ↦ placed q other (sym (cond-false (ties q form) _ _ apart) ∙ sym (finite.get-insert nat_list_cmp_total rows form row q) ∙ is)
]

pub placed_removed : (shards shard : ℕ) (rows : Rows) (form : List ℕ) → IsPlaced shards shard rows → IsPlaced shards shard (finite.remove rows form)
placed_removed shards shard rows form placed q other is = elim (cases_Bool (ties q form)) [
  | inl tied ↦
      let never : None ≡ Some other = sym (cond-true (ties q form) _ _ tied) ∙ sym (finite.get-remove nat_list_cmp_total rows form q) ∙ is in
      absurd (cc)
  | inr apart ↦ placed q other (sym (cond-false (ties q form) _ _ apart) ∙ sym (finite.get-remove nat_list_cmp_total rows form q) ∙ is)
]

pub placed_changed : (shards shard : ℕ) (rows : Rows) (key : Value) (change : Change) → shard_of shards (Canon key) ≡ shard → IsPlaced shards shard rows → IsPlaced shards shard (changed rows key change)
placed_changed shards shard rows key keep here placed = placed
placed_changed shards shard rows key (store value) here placed = placed_inserted shards shard rows (Canon key) (record { key = key; value = value }) here placed
placed_changed shards shard rows key remove here placed = placed_removed shards shard rows (Canon key) placed

-- ---- the rows of all shards
-- shards from a higher number on have no row of these bytes
pub none_later : (shards next : ℕ) (form : List ℕ) (all : List Rows) → AreSpreadFrom shards next all → shard_of shards form < next → finite.get (union all) form ≡ None
none_later shards next form [] spread before = finite.get-empty by_bytes form
none_later shards next form (rows ∷ others) spread before =
    get_second rows (union others) form (none_elsewhere shards next rows form spread.0 (λ here. not_less (shard_of shards form) next here before))
    ∙ none_later shards (suc next) form others spread.1 (less_next (shard_of shards form) next before)

-- what stands under bytes stands in their shard
pub get_union : (shards next i : ℕ) (form : List ℕ) (all : List Rows) → AreSpreadFrom shards next all → shard_of shards form ≡ next + i → i < length all
    → finite.get (union all) form ≡ finite.get (get_or all i finite.empty) form
get_union shards next i form [] spread at within = absurd (not_within i within)
get_union shards next zero form (rows ∷ others) spread at within =
    get_first rows (union others) form (none_later shards (suc next) form others spread.1 (at_next (shard_of shards form) next at))
get_union shards next (suc i) form (rows ∷ others) spread at within =
    get_second rows (union others) form (none_elsewhere shards next rows form spread.0 (λ here. not_first (shard_of shards form) next i here at))
    ∙ get_union shards (suc next) i form others spread.1 (in_rest (shard_of shards form) next i at) (within_rest i (length others) within)

-- the row of a key changes in its shard
pub union_changed : (shards next i : ℕ) (key : Value) (change : Change) (all : List Rows) → AreSpreadFrom shards next all → shard_of shards (Canon key) ≡ next + i → i < length all
    → union (set all i (changed (get_or all i finite.empty) key change)) ≡ changed (union all) key change
union_changed shards next i key change [] spread at within = absurd (not_within i within)
union_changed shards next zero key change (rows ∷ others) spread at within =
    changed_first rows (union others) key change (none_later shards (suc next) (Canon key) others spread.1 (at_next (shard_of shards (Canon key)) next at))
union_changed shards next (suc i) key change (rows ∷ others) spread at within =
    ap (either rows) (union_changed shards (suc next) i key change others spread.1 (in_rest (shard_of shards (Canon key)) next i at) (within_rest i (length others) within))
    ∙ changed_second rows (union others) key change (none_elsewhere shards next rows (Canon key) spread.0 (λ here. not_first (shard_of shards (Canon key)) next i here at))

-- and the rows stay in their shards
pub spread_changed : (shards next i : ℕ) (key : Value) (change : Change) (all : List Rows) → AreSpreadFrom shards next all → shard_of shards (Canon key) ≡ next + i
    → AreSpreadFrom shards next (set all i (changed (get_or all i finite.empty) key change))
spread_changed shards next i key change [] spread at = spread
spread_changed shards next zero key change (rows ∷ others) spread at =
    let here : shard_of shards (Canon key) ≡ next = at_first (shard_of shards (Canon key)) next at in
    (placed_changed shards next rows key change here spread.0, spread.1)
spread_changed shards next (suc i) key change (rows ∷ others) spread at =
    (spread.0, spread_changed shards (suc next) i key change others spread.1 (in_rest (shard_of shards (Canon key)) next i at))

-- as many shards as there are numbers from the first on
pub spread_length : (shards next : ℕ) (all : List Rows) → AreSpreadFrom shards next all → next + length all ≡ shards
spread_length shards next [] spread = let e : next ≡ shards = spread in omega (arith, e)
spread_length shards next (rows ∷ others) spread =
    let e : suc next + length others ≡ shards = spread_length shards (suc next) others spread.1 in
    omega (arith, e)

-- ---- how many rows there are
pub both_true : (a b : Bool) → T (a && b) → T a × T b
both_true true b e = (tt, e)
both_true false b e = absurd e

pub nat_cases : (a b : ℕ) → (a < b) ⊎ (b ≤ a)
nat_cases zero zero = inr (omega arith)
nat_cases zero (suc b) = inl (omega arith)
nat_cases (suc a) zero = inr (omega arith)
nat_cases (suc a) (suc b) = elim (nat_cases a b) [
  | inl less ↦ inl (omega (arith, less))
  | inr more ↦ inr (omega (arith, more))
]

not_below : (o : Ordering) → T (is_lt o) → is_eq o ≡ false
not_below Less below = refl
not_below Equal below = absurd below
not_below Greater below = absurd below

no_row : (q : List ℕ) (es : List (List ℕ × Pair)) → T (below_all by_bytes q es) → finite.find by_bytes q es ≡ None
no_row q [] below = refl
no_row q (e ∷ es) below =
    let halves : T (is_lt (by_bytes q e.0)) × T (below_all by_bytes q es) = both_true (is_lt (by_bytes q e.0)) (below_all by_bytes q es) below in
    cond-false (ties q e.0) (Some e.1) (finite.find by_bytes q es) (not_below (by_bytes q e.0) halves.0) ∙ no_row q es halves.1

-- rows of two that are apart
len_after : (xs ys : List (List ℕ × Pair)) → T (finite.is_sorted by_bytes xs) → ((q : List ℕ) → (finite.find by_bytes q xs ≡ None) ⊎ (finite.find by_bytes q ys ≡ None))
    → finite.len (finite.from_entries {R = by_bytes} (xs ++ ys)) ≡ length xs + finite.len (finite.from_entries {R = by_bytes} ys)
len_after [] ys sorted apart = omega arith
len_after (x ∷ xs) ys sorted apart =
    let rest : FinMap by_bytes Pair = finite.from_entries (xs ++ ys) in
    let halves : T (below_all by_bytes x.0 xs) × T (finite.is_sorted by_bytes xs) = both_true (below_all by_bytes x.0 xs) (finite.is_sorted by_bytes xs) sorted in
    let in_xs : finite.find by_bytes x.0 xs ≡ None = no_row x.0 xs halves.0 in
    let in_ys : finite.find by_bytes x.0 ys ≡ None = other_none x.0 in
    let absent : finite.get rest x.0 ≡ None =
    finite.get-from_entries nat_list_cmp_total (xs ++ ys) x.0 ∙ find_after x.0 xs ys ∙ ap (λ (o : Option Pair). or_else o (finite.find by_bytes x.0 ys)) in_xs ∙ in_ys in
    let more : finite.len rest ≡ length xs + finite.len (finite.from_entries {R = by_bytes} ys) = len_after xs ys halves.1 later in
    let one : finite.len (finite.insert rest x.0 x.1) ≡ finite.len rest + 1 =
    finite.len-insert nat_list_cmp_total rest x.0 x.1 ∙ cond-false (is_some (finite.get rest x.0)) _ _ (ap is_some absent) in
    omega (arith, one, more)
  where
    other_none : (q : List ℕ) → finite.find by_bytes x.0 ys ≡ None
    other_none q = elim (apart x.0) [
      | inl none ↦ let never : Some x.1 ≡ None = sym (cond-true (ties x.0 x.0) (Some x.1) (finite.find by_bytes x.0 xs) (same_tied x.0 x.0 refl)) ∙ none in absurd (cc)
      | inr none ↦ none
    ]

    later : (q : List ℕ) → (finite.find by_bytes q xs ≡ None) ⊎ (finite.find by_bytes q ys ≡ None)
    later q = elim (apart q) [
      | inl none ↦ elim (cases_Bool (ties q x.0)) [
        | inl tied ↦ let never : Some x.1 ≡ None = sym (cond-true (ties q x.0) (Some x.1) (finite.find by_bytes q xs) tied) ∙ none in absurd (cc)
        | inr other ↦ inl (sym (cond-false (ties q x.0) (Some x.1) (finite.find by_bytes q xs) other) ∙ none)
      ]
      | inr none ↦ inr none
    ]

from_own : (b : Rows) → finite.from_entries (finite.entries b) ≡ b
from_own b = same_rows (finite.from_entries (finite.entries b)) b (λ q. finite.get-from_entries nat_list_cmp_total (finite.entries b) q ∙ sym (finite.get-entries b q))

pub len_either : (a b : Rows) → ((q : List ℕ) → (finite.get a q ≡ None) ⊎ (finite.get b q ≡ None)) → finite.len (either a b) ≡ finite.len a + finite.len b
len_either a b apart =
    let each : (q : List ℕ) → (finite.find by_bytes q (finite.entries a) ≡ None) ⊎ (finite.find by_bytes q (finite.entries b) ≡ None) = λ q. elim (apart q) [
      | inl none ↦ inl (sym (finite.get-entries a q) ∙ none)
      | inr none ↦ inr (sym (finite.get-entries b q) ∙ none)
    ] in
    len_after (finite.entries a) (finite.entries b) (finite.entries_sorted a) each
    ∙ ap₂ (λ m n. m + n) (sym (finite.len-entries a)) (ap finite.len (from_own b))

-- the rows of one shard and those of later ones
pub later_apart : (shards next : ℕ) (rows : Rows) (others : List Rows) → IsPlaced shards next rows → AreSpreadFrom shards (suc next) others → (q : List ℕ)
    → (finite.get rows q ≡ None) ⊎ (finite.get (union others) q ≡ None)
later_apart shards next rows others placed spread q = elim (nat_cases (shard_of shards q) (suc next)) [
  | inl before ↦ inr (none_later shards (suc next) q others spread before)
  | inr after ↦ inl (none_elsewhere shards next rows q placed (λ here. not_after (shard_of shards q) next here after))
]

pub len_union : (shards next : ℕ) (all : List Rows) → AreSpreadFrom shards next all → finite.len (union all) ≡ sum_by finite.len all
len_union shards next [] spread = finite.len-empty by_bytes Pair
len_union shards next (rows ∷ others) spread =
    len_either rows (union others) (later_apart shards next rows others spread.0 spread.1)
    ∙ ap (λ n. finite.len rows + n) (len_union shards (suc next) others spread.1)
    ∙ sym (sum_by-cons finite.len rows others)

-- shards without rows
pub union_none : (all : List Rows) → All (λ (rows : Rows). rows ≡ finite.empty) all → union all ≡ finite.empty
union_none [] none = refl
union_none (rows ∷ others) none =
    let P : Rows → Type 0 = λ r. r ≡ finite.empty in
    ap₂ either (All-head P rows others none) (union_none others (All-tail P rows others none)) ∙ either_none finite.empty

pub spread_none : (shards next : ℕ) (all : List Rows) → next + length all ≡ shards → All (λ (rows : Rows). rows ≡ finite.empty) all → AreSpreadFrom shards next all
spread_none shards next [] count none = omega (arith, count)
spread_none shards next (rows ∷ others) count none =
    let P : Rows → Type 0 = λ r. r ≡ finite.empty in
    (subst (IsPlaced shards next) (sym (All-head P rows others none)) (placed_none shards next), spread_none shards (suc next) others (omega (arith, count)) (All-tail P rows others none))

-- ---- the shard of a key
at_zero : (a i : ℕ) → i ≡ a → a ≡ 0 + i
at_zero a i e = omega (arith, e)

some_value : (o : Option Pair) (v : Value) → option_map (λ (row : Pair). row.value) o ≡ Some v → is_some o ≡ true
some_value None v is = absurd (cc)
some_value (Some row) v is = refl

no_value : (o : Option Pair) → option_map (λ (row : Pair). row.value) o ≡ None → is_some o ≡ false
no_value None is = refl
no_value (Some row) is = absurd (cc)

-- the shard with this number, of all, is that of the key
pub record IsItsShard (shards i : ℕ) (key : Value) (all : List Rows) : Type 0 where
  pub spread : AreSpreadFrom shards 0 all
  pub is : i ≡ shard_of shards (Canon key)
  pub within : i < length all

pub its_shard : {shards i : ℕ} {key : Value} {all : List Rows} (count : ℕ) → AreSpreadFrom shards 0 all → i ≡ shard_of count (Canon key) → i < count → count ≡ shards → IsItsShard shards i key all
its_shard {shards} {i} {key} {all} count spread is less same = record {
  spread = spread;
  is = is ∙ ap (λ n. shard_of n (Canon key)) same;
  within = let many : 0 + length all ≡ shards = spread_length shards 0 all spread in omega (arith, less, same, many);
}

module _ {shards i : ℕ} {key : Value} {all : List Rows} (it : IsItsShard shards i key all) (here : Rows) where
  at : shard_of shards (Canon key) ≡ 0 + i
  at = at_zero (shard_of shards (Canon key)) i it.is

  same_here : get_or all i here ≡ get_or all i finite.empty
  same_here = get_or_default all i here finite.empty it.within

  -- it says what all say of the key
  pub row_here : here ≡ get_or all i here → row_of here key ≡ row_of (union all) key
  row_here value = ap (λ (r : Rows). finite.get r (Canon key)) (value ∙ same_here) ∙ sym (get_union shards 0 i (Canon key) all it.spread at it.within)

  -- the row of the key changes in all as it does here
  pub changed_here : (change : Change) (new : Rows) → here ≡ get_or all i here → new ≡ changed here key change → union (set all i new) ≡ changed (union all) key change
  changed_here change new value leaves =
      ap (λ (r : Rows). union (set all i r)) (leaves ∙ ap (λ (r : Rows). changed r key change) (value ∙ same_here))
      ∙ union_changed shards 0 i key change all it.spread at it.within

  pub spread_here : (change : Change) (new : Rows) → here ≡ get_or all i here → new ≡ changed here key change → AreSpreadFrom shards 0 (set all i new)
  spread_here change new value leaves =
      subst (λ (r : Rows). AreSpreadFrom shards 0 (set all i r)) (sym (leaves ∙ ap (λ (r : Rows). changed r key change) (value ∙ same_here)))
      (spread_changed shards 0 i key change all it.spread at)

  -- so a value that the key has here is one that it has in all, and where it has none it has none
  pub has_here : (v : Value) → here ≡ get_or all i here → value_of here key ≡ Some v → has_row (union all) key ≡ true
  has_here v value is = ap is_some (sym (row_here value)) ∙ some_value (row_of here key) v is

  pub none_here : here ≡ get_or all i here → value_of here key ≡ None → has_row (union all) key ≡ false
  none_here value is = ap is_some (sym (row_here value)) ∙ no_value (row_of here key) is

-- ---- a list that was lent and written
-- as many items as there were take the place of all
pub all_written : {X : Type 0} (new old : List X) (n : ℕ) → length new ≡ n → length old ≡ n → take n (new ++ drop (length new) old) ≡ new
all_written {X} new old n many same =
    ap (λ (l : List X). take n (new ++ l)) (drop_of_length-le old (omega (arith, many, same))) ∙ ap (take n) (append-nil new) ∙ take_all n new (omega (arith, many))
