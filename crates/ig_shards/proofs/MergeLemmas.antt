-- Merging the ordered rows of two.
use Rattle.std.proofs.Common.{◌≡◌, ◌<◌, ◌≤◌, ◌+◌, ◌⊎◌, T, ◌&&◌, ℕ, zero, suc, Bool, true, false, List, [], ◌∷◌, ◌++◌, length, take, drop, get_or, Option, None, Some, refl, sym, ap, ap₂, ◌∙◌, subst, subst₂, All, inl, inr, append-nil, arith}
use Rattle.std.proofs.lemmas.Bool.{cases_Bool, cond-true, cond-false}
use Rattle.std.proofs.Math.ListN.{drop_of_length-le}
use Rattle.std.proofs.lemmas.List.{append_assoc, nil_from_length, take-append-drop, map-append, map_push}
use Rattle.std.proofs.lemmas.List.Elements.{All-head, All-tail}
use Rattle.std.specs.Cmp.Lexicographic.{nat_list_cmp_total}
use Rattle.std.specs.declared.cmp.Ordering.{Ordering}
use Rattle.std.specs.declared.cmp.Ordering.TheVariants.{Less, Equal, Greater}
use Rattle.std.specs.Ordering.{is_lt, ordering_reverse}
use Rattle.std.specs.Borrow.{Bor}
use Rattle.std.specs.FinMap as finite
use Rattle.std.specs.FinMap.Entries.{below_all, by_order}
use Rattle.ig_value.specs.declared.value.Value.{Value}
use Rattle.ig_caches.specs.declared.call.Pair.{Pair}
use Rattle.ig_caches.specs.Rows.{Rows}
use Rattle.ig_caches.specs.LentRows.{lent_row, lent_rows}
use Rattle.ig_caches.proofs.RowEntryLemmas.{by_bytes, ties, exact, same_tied, same_rows}
use Rattle.ig_shards.specs.ShardOf.{shard_of}
use Rattle.ig_shards.specs.Spread.{either, union, AreSpreadFrom}
use Rattle.ig_shards.specs.Merges.{AreApart, ArePlacedFrom}
use Rattle.ig_shards.proofs.SpreadLemmas.{or_else, get_either, get_second, either_none, none_elsewhere, not_less, less_next, nat_cases, both_true}

abbrev pub Entries : Type 0
Entries = List (List ℕ × Pair)

both_hold : (a b : Bool) → T a → T b → T (a && b)
both_hold true b p q = q
both_hold false b p q = absurd p

less_from : (o : Ordering) → T (is_lt o) → o ≡ Less
less_from Less p = refl
less_from Equal p = absurd p
less_from Greater p = absurd p

is_less : (o : Ordering) → o ≡ Less → T (is_lt o)
is_less o e = subst (λ (r : Ordering). T (is_lt r)) (sym e) tt

-- ---- bytes that are less than those of all entries
below_less : (x y : List ℕ) (es : Entries) → by_bytes x y ≡ Less → T (below_all by_bytes y es) → T (below_all by_bytes x es)
below_less x y [] less below = tt
below_less x y (e ∷ es) less below =
    let halves : T (is_lt (by_bytes y e.0)) × T (below_all by_bytes y es) = both_true (is_lt (by_bytes y e.0)) (below_all by_bytes y es) below in
    both_hold (is_lt (by_bytes x e.0)) (below_all by_bytes x es)
    (is_less (by_bytes x e.0) (nat_list_cmp_total.trans x y e.0 less (less_from (by_bytes y e.0) halves.0)))
    (below_less x y es less halves.1)

below_append : (x : List ℕ) (es others : Entries) → T (below_all by_bytes x es) → T (below_all by_bytes x others) → T (below_all by_bytes x (es ++ others))
below_append x [] others below too = too
below_append x (e ∷ es) others below too =
    let halves : T (is_lt (by_bytes x e.0)) × T (below_all by_bytes x es) = both_true (is_lt (by_bytes x e.0)) (below_all by_bytes x es) below in
    both_hold (is_lt (by_bytes x e.0)) (below_all by_bytes x (es ++ others)) halves.0 (below_append x es others halves.1 too)

below_by : (o : Ordering) (x k : List ℕ) (row : Pair) (e : List ℕ × Pair) (es : Entries) → T (is_lt (by_bytes x k)) → T (below_all by_bytes x (e ∷ es)) → T (below_all by_bytes x (finite.put by_bytes k row es))
    → T (below_all by_bytes x (by_order o ((k, row) ∷ e ∷ es) ((e.0, row) ∷ es) (e ∷ finite.put by_bytes k row es)))
below_by Less x k row e es less below rest = both_hold (is_lt (by_bytes x k)) (below_all by_bytes x (e ∷ es)) less below
below_by Equal x k row e es less below rest = below
below_by Greater x k row e es less below rest =
    let halves : T (is_lt (by_bytes x e.0)) × T (below_all by_bytes x es) = both_true (is_lt (by_bytes x e.0)) (below_all by_bytes x es) below in
    both_hold (is_lt (by_bytes x e.0)) (below_all by_bytes x (finite.put by_bytes k row es)) halves.0 rest

below_put : (x k : List ℕ) (row : Pair) (es : Entries) → T (is_lt (by_bytes x k)) → T (below_all by_bytes x es) → T (below_all by_bytes x (finite.put by_bytes k row es))
below_put x k row [] less below = both_hold (is_lt (by_bytes x k)) true less tt
below_put x k row (e ∷ es) less below =
    let halves : T (is_lt (by_bytes x e.0)) × T (below_all by_bytes x es) = both_true (is_lt (by_bytes x e.0)) (below_all by_bytes x es) below in
    below_by (by_bytes k e.0) x k row e es less below (below_put x k row es less halves.1)

pub no_entries : finite.entries (finite.empty {X = Pair} {R = by_bytes}) ≡ []
no_entries = nil_from_length _ (sym (finite.len-entries (finite.empty {X = Pair} {R = by_bytes})) ∙ finite.len-empty by_bytes Pair)

-- also where these are put into a map
below_from : (x : List ℕ) (es : Entries) → T (below_all by_bytes x es) → T (below_all by_bytes x (finite.entries (finite.from_entries {R = by_bytes} es)))
below_from x [] below = subst (λ (l : Entries). T (below_all by_bytes x l)) (sym no_entries) tt
below_from x (e ∷ es) below =
    let halves : T (is_lt (by_bytes x e.0)) × T (below_all by_bytes x es) = both_true (is_lt (by_bytes x e.0)) (below_all by_bytes x es) below in
    subst (λ (l : Entries). T (below_all by_bytes x l)) (sym (finite.entries-insert nat_list_cmp_total (finite.from_entries es) e.0 e.1))
    (below_put x e.0 e.1 (finite.entries (finite.from_entries es)) halves.0 (below_from x es halves.1))

-- ---- the first entry
put_front : (k : List ℕ) (row : Pair) (es : Entries) → T (below_all by_bytes k es) → finite.put by_bytes k row es ≡ (k, row) ∷ es
put_front k row [] below = refl
put_front k row (e ∷ es) below =
    let halves : T (is_lt (by_bytes k e.0)) × T (below_all by_bytes k es) = both_true (is_lt (by_bytes k e.0)) (below_all by_bytes k es) below in
    ap (λ r. by_order r ((k, row) ∷ e ∷ es) ((e.0, row) ∷ es) (e ∷ finite.put by_bytes k row es)) (less_from (by_bytes k e.0) halves.0)

-- sorted entries are those of the map that they make
own_entries : (es : Entries) → T (finite.is_sorted by_bytes es) → finite.entries (finite.from_entries {R = by_bytes} es) ≡ es
own_entries [] sorted = no_entries
own_entries (e ∷ es) sorted =
    let halves : T (below_all by_bytes e.0 es) × T (finite.is_sorted by_bytes es) = both_true (below_all by_bytes e.0 es) (finite.is_sorted by_bytes es) sorted in
    finite.entries-insert nat_list_cmp_total (finite.from_entries es) e.0 e.1 ∙ ap (finite.put by_bytes e.0 e.1) (own_entries es halves.1) ∙ put_front e.0 e.1 es halves.0

-- the least of all entries is the first
first_entry : (e : List ℕ × Pair) (es : Entries) → T (below_all by_bytes e.0 es)
    → finite.entries (finite.from_entries {R = by_bytes} (e ∷ es)) ≡ e ∷ finite.entries (finite.from_entries {R = by_bytes} es)
first_entry e es below =
    finite.entries-insert nat_list_cmp_total (finite.from_entries es) e.0 e.1
    ∙ put_front e.0 e.1 (finite.entries (finite.from_entries es)) (below_from e.0 es below)

-- ---- two that are apart come in either order
or_turned : (x y : Option Pair) → (x ≡ None) ⊎ (y ≡ None) → or_else x y ≡ or_else y x
or_turned None None apart = refl
or_turned None (Some y) apart = refl
or_turned (Some x) None apart = refl
or_turned (Some x) (Some y) (inl none) = absurd (cc)
or_turned (Some x) (Some y) (inr none) = absurd (cc)

either_turned : (a b : Rows) → AreApart a b → either a b ≡ either b a
either_turned a b apart = same_rows (either a b) (either b a) (λ q. get_either a b q ∙ or_turned (finite.get a q) (finite.get b q) (apart q) ∙ sym (get_either b a q))

-- ---- merging
-- what was merged and then the rows of the two lists in order are the whole
pub record Merges (merged left right whole : Entries) : Type 0 where
  pub a : Rows
  pub b : Rows
  pub of_left : left ≡ finite.entries a
  pub of_right : right ≡ finite.entries b
  pub apart : AreApart a b
  pub whole_is : merged ++ finite.entries (either a b) ≡ whole

pub merge_start : (left right : Entries) (a b : Rows) → left ≡ finite.entries a → right ≡ finite.entries b → AreApart a b → Merges [] left right (finite.entries (either a b))
merge_start left right a b of_left of_right apart = record { a = a; b = b; of_left = of_left; of_right = of_right; apart = apart; whole_is = refl }

turned : (merged left right whole : Entries) → Merges merged left right whole → Merges merged right left whole
turned merged left right whole m = record {
  a = m.b;
  b = m.a;
  of_left = m.of_right;
  of_right = m.of_left;
  apart = λ q. elim (m.apart q) [ inl none ↦ inr none | inr none ↦ inl none ];
  whole_is = ap (λ (r : Rows). merged ++ finite.entries r) (sym (either_turned m.a m.b m.apart)) ∙ m.whole_is;
}

sorted_left : (merged left right whole : Entries) → Merges merged left right whole → T (finite.is_sorted by_bytes left)
sorted_left merged left right whole m = subst (λ (l : Entries). T (finite.is_sorted by_bytes l)) (sym m.of_left) (finite.entries_sorted m.a)

none_in_rest : (q : List ℕ) (x : List ℕ × Pair) (xs : Entries) → finite.find by_bytes q (x ∷ xs) ≡ None → finite.find by_bytes q xs ≡ None
none_in_rest q x xs none = elim (cases_Bool (ties q x.0)) [
  | inl tied ↦ let never : Some x.1 ≡ None = sym (cond-true (ties q x.0) (Some x.1) (finite.find by_bytes q xs) tied) ∙ none in absurd (cc)
  | inr other ↦ sym (cond-false (ties q x.0) (Some x.1) (finite.find by_bytes q xs) other) ∙ none
]

-- the first of the left, less than all of the right, comes next
next_left : (merged xs right whole : Entries) (x : List ℕ × Pair) → T (below_all by_bytes x.0 right) → Merges merged (x ∷ xs) right whole → Merges (merged ++ x ∷ []) xs right whole
next_left merged xs right whole x below m =
    let halves : T (below_all by_bytes x.0 xs) × T (finite.is_sorted by_bytes xs) =
    both_true (below_all by_bytes x.0 xs) (finite.is_sorted by_bytes xs) (sorted_left merged (x ∷ xs) right whole m) in
    let rest : Rows = finite.from_entries xs in
    let own : finite.entries rest ≡ xs = own_entries xs halves.1 in
    let first : finite.entries (either m.a m.b) ≡ x ∷ finite.entries (either rest m.b) =
    ap (λ (l : Entries). finite.entries (finite.from_entries {R = by_bytes} (l ++ finite.entries m.b))) (sym m.of_left)
    ∙ first_entry x (xs ++ finite.entries m.b) (below_append x.0 xs (finite.entries m.b) halves.0 (subst (λ (l : Entries). T (below_all by_bytes x.0 l)) m.of_right below))
    ∙ ap (λ (l : Entries). x ∷ finite.entries (finite.from_entries {R = by_bytes} (l ++ finite.entries m.b))) (sym own) in
    record {
      a = rest;
      b = m.b;
      of_left = sym own;
      of_right = m.of_right;
      apart = λ q. elim (m.apart q) [
        | inl none ↦
            inl (finite.get-from_entries nat_list_cmp_total xs q
            ∙ none_in_rest q x xs (ap (finite.find by_bytes q) m.of_left ∙ sym (finite.get-entries m.a q) ∙ none))
        | inr none ↦ inr none
      ];
      whole_is = append_assoc merged (x ∷ []) (finite.entries (either rest m.b)) ∙ ap (λ (l : Entries). merged ++ l) (sym first) ∙ m.whole_is;
    }

-- less than the first is less than all
below_sorted : (k : List ℕ) (e : List ℕ × Pair) (es : Entries) → by_bytes k e.0 ≡ Less → T (finite.is_sorted by_bytes (e ∷ es)) → T (below_all by_bytes k (e ∷ es))
below_sorted k e es less sorted =
    both_hold (is_lt (by_bytes k e.0)) (below_all by_bytes k es) (is_less (by_bytes k e.0) less)
    (below_less k e.0 es less (both_true (below_all by_bytes e.0 es) (finite.is_sorted by_bytes es) sorted).0)

-- the first of the right is less than that of the left
pub merge_right : (merged xs ys whole : Entries) (x y : List ℕ × Pair) → is_lt (by_bytes y.0 x.0) ≡ true → Merges merged (x ∷ xs) (y ∷ ys) whole
    → Merges (merged ++ y ∷ []) (x ∷ xs) ys whole
merge_right merged xs ys whole x y less m =
    let below : T (below_all by_bytes y.0 (x ∷ xs)) =
    below_sorted y.0 x xs (less_from (by_bytes y.0 x.0) (subst T (sym less) tt)) (sorted_left merged (x ∷ xs) (y ∷ ys) whole m) in
    turned (merged ++ y ∷ []) ys (x ∷ xs) whole (next_left merged ys (x ∷ xs) whole y below (turned merged (x ∷ xs) (y ∷ ys) whole m))

-- or that of the left is less
pub merge_left : (merged xs ys whole : Entries) (x y : List ℕ × Pair) → is_lt (by_bytes y.0 x.0) ≡ false → Merges merged (x ∷ xs) (y ∷ ys) whole
    → Merges (merged ++ x ∷ []) xs (y ∷ ys) whole
merge_left merged xs ys whole x y more m = by (by_bytes y.0 x.0) refl
  where
    some_left : finite.get m.a x.0 ≡ Some x.1
    some_left =
        finite.get-entries m.a x.0 ∙ ap (finite.find by_bytes x.0) (sym m.of_left)
        ∙ cond-true (ties x.0 x.0) (Some x.1) (finite.find by_bytes x.0 xs) (same_tied x.0 x.0 refl)

    some_right : y.0 ≡ x.0 → finite.get m.b x.0 ≡ Some y.1
    some_right e =
        finite.get-entries m.b x.0 ∙ ap (finite.find by_bytes x.0) (sym m.of_right)
        ∙ cond-true (ties x.0 y.0) (Some y.1) (finite.find by_bytes x.0 ys) (same_tied x.0 y.0 (sym e))

    never : y.0 ≡ x.0 → ⊥
    never e = elim (m.apart x.0) [
      | inl none ↦ let some : Some x.1 ≡ None = sym some_left ∙ none in absurd (cc)
      | inr none ↦ let some : Some y.1 ≡ None = sym (some_right e) ∙ none in absurd (cc)
    ]

    by : (o : Ordering) → by_bytes y.0 x.0 ≡ o → Merges (merged ++ x ∷ []) xs (y ∷ ys) whole
    by Less is = let both : true ≡ false = sym (ap is_lt is) ∙ more in absurd (cc)
    by Equal is = absurd (never (exact y.0 x.0 is))
    by Greater is =
        next_left merged xs (y ∷ ys) whole x
        (below_sorted x.0 y ys (nat_list_cmp_total.antisymm x.0 y.0 ∙ ap ordering_reverse is) (sorted_left merged (y ∷ ys) (x ∷ xs) whole (turned merged (x ∷ xs) (y ∷ ys) whole m))) m

-- what is left of one alone comes last
pub merge_end_right : (merged right whole : Entries) → Merges merged [] right whole → (merged ++ []) ++ right ≡ whole
merge_end_right merged right whole m =
    ap (λ (l : Entries). l ++ right) (append-nil merged)
    ∙ ap (λ (l : Entries). merged ++ l) (sym (own_entries right (sorted_left merged right [] whole (turned merged [] right whole m))))
    ∙ ap₂ (λ (l r : Entries). merged ++ finite.entries (finite.from_entries {R = by_bytes} (l ++ r))) m.of_left m.of_right ∙ m.whole_is

pub merge_end_left : (merged left whole : Entries) → Merges merged left [] whole → (merged ++ left) ++ [] ≡ whole
merge_end_left merged left whole m =
    append-nil (merged ++ left)
    ∙ ap (λ (l : Entries). merged ++ l) (sym (own_entries left (sorted_left merged left [] whole m)) ∙ ap (λ (l : Entries). finite.entries (finite.from_entries {R = by_bytes} l)) (sym (append-nil left)))
    ∙ ap₂ (λ (l r : Entries). merged ++ finite.entries (finite.from_entries {R = by_bytes} (l ++ r))) m.of_left m.of_right ∙ m.whole_is

-- ---- merging rows that are lent
abbrev pub Lent : Type 0
Lent = Bor (List ℕ) × Bor Value

-- what holds of all entries holds of the one at an index
pub all_at : (P : Lent → Type 0) (es rest : List Lent) (i : ℕ) (e : Lent) → drop i es ≡ e ∷ rest → All P es → P e
all_at P [] rest zero e at all = absurd (cc)
all_at P [] rest (suc i) e at all = absurd (cc)
all_at P (x ∷ es) rest zero e at all = let it : x ≡ e = cc in subst P it (All-head P x es all)
all_at P (x ∷ es) rest (suc i) e at all = all_at P es rest i e at (All-tail P x es all)

module _ (left right merged : List Lent) (i j : ℕ) (x y : Lent) (whole : Entries) (at_left : drop i left ≡ x ∷ drop (i + 1) left) (at_right : drop j right ≡ y ∷ drop (j + 1) right)
    (m : Merges (lent_rows merged) (lent_rows (drop i left)) (lent_rows (drop j right)) whole) where
  heads_of : Merges (lent_rows merged) (lent_row x ∷ lent_rows (drop (i + 1) left)) (lent_row y ∷ lent_rows (drop (j + 1) right)) whole
  heads_of = subst₂ (λ (l r : List Lent). Merges (lent_rows merged) (lent_rows l) (lent_rows r) whole) at_left at_right m

  pub step_right : is_lt (by_bytes y.0.now x.0.now) ≡ true → Merges (lent_rows (merged ++ y ∷ [])) (lent_rows (drop i left)) (lent_rows (drop (j + 1) right)) whole
  step_right less =
      subst₂ (λ (ms l : Entries). Merges ms l (lent_rows (drop (j + 1) right)) whole) (sym (map_push lent_row merged y)) (ap lent_rows (sym at_left))
      (merge_right (lent_rows merged) (lent_rows (drop (i + 1) left)) (lent_rows (drop (j + 1) right)) whole (lent_row x) (lent_row y) less heads_of)

  pub step_left : is_lt (by_bytes y.0.now x.0.now) ≡ false → Merges (lent_rows (merged ++ x ∷ [])) (lent_rows (drop (i + 1) left)) (lent_rows (drop j right)) whole
  step_left more =
      subst₂ (λ (ms r : Entries). Merges ms (lent_rows (drop (i + 1) left)) r whole) (sym (map_push lent_row merged x)) (ap lent_rows (sym at_right))
      (merge_left (lent_rows merged) (lent_rows (drop (i + 1) left)) (lent_rows (drop (j + 1) right)) whole (lent_row x) (lent_row y) more heads_of)

-- the rows that are left of one come after those that were merged
pub merged_end : (merged left right : List Lent) (whole : Entries) → (left ≡ []) ⊎ (right ≡ []) → Merges (lent_rows merged) (lent_rows left) (lent_rows right) whole
    → lent_rows ((merged ++ left) ++ right) ≡ whole
merged_end merged left right whole (inl none) m =
    let more : lent_rows ((merged ++ left) ++ right) ≡ (lent_rows merged ++ []) ++ lent_rows right =
    ap (λ (l : List Lent). lent_rows ((merged ++ l) ++ right)) none ∙ map-append lent_row (merged ++ []) right ∙ ap (λ (l : Entries). l ++ lent_rows right) (map-append lent_row merged []) in
    more ∙ merge_end_right (lent_rows merged) (lent_rows right) whole (subst (λ (l : List Lent). Merges (lent_rows merged) (lent_rows l) (lent_rows right) whole) none m)
merged_end merged left right whole (inr none) m =
    let more : lent_rows ((merged ++ left) ++ right) ≡ (lent_rows merged ++ lent_rows left) ++ [] =
    ap (λ (l : List Lent). lent_rows ((merged ++ left) ++ l)) none ∙ map-append lent_row (merged ++ left) [] ∙ ap (λ (l : Entries). l ++ []) (map-append lent_row merged left) in
    more ∙ merge_end_left (lent_rows merged) (lent_rows left) whole (subst (λ (l : List Lent). Merges (lent_rows merged) (lent_rows left) (lent_rows l) whole) none m)

-- one of two places is past the end of its list
pub one_done : (left right : List Lent) (i j : ℕ) → (length left ≤ i) ⊎ (length right ≤ j) → (drop i left ≡ []) ⊎ (drop j right ≡ [])
one_done left right i j (inl past) = inl (drop_of_length-le left past)
one_done left right i j (inr past) = inr (drop_of_length-le right past)

-- ---- the rows of some shards
pub spread_placed : (shards next : ℕ) (all : List Rows) → AreSpreadFrom shards next all → ArePlacedFrom shards next all
spread_placed shards next [] spread = tt
spread_placed shards next (rows ∷ others) spread = (spread.0, spread_placed shards (suc next) others spread.1)

same_sum : (n m : ℕ) → suc n + m ≡ n + suc m
same_sum n m = omega arith

no_more : (n : ℕ) → n + 0 ≡ n
no_more n = omega arith

not_above : (a n m : ℕ) → a ≡ n → n + suc m ≤ a → ⊥
not_above a n m e above = omega (arith, e, above)

still_above : (a n m : ℕ) → n + suc m ≤ a → suc n + m ≤ a
still_above a n m above = omega (arith, above)

pub placed_take : (shards next n : ℕ) (all : List Rows) → ArePlacedFrom shards next all → ArePlacedFrom shards next (take n all)
placed_take shards next zero [] placed = tt
placed_take shards next (suc n) [] placed = tt
placed_take shards next zero (rows ∷ others) placed = tt
placed_take shards next (suc n) (rows ∷ others) placed = (placed.0, placed_take shards (suc next) n others placed.1)

pub placed_drop : (shards next n : ℕ) (all : List Rows) → ArePlacedFrom shards next all → ArePlacedFrom shards (next + n) (drop n all)
placed_drop shards next zero [] placed = tt
placed_drop shards next (suc n) [] placed = tt
placed_drop shards next zero (rows ∷ others) placed = subst (λ m. ArePlacedFrom shards m (rows ∷ others)) (sym (no_more next)) placed
placed_drop shards next (suc n) (rows ∷ others) placed = subst (λ m. ArePlacedFrom shards m (drop n others)) (same_sum next n) (placed_drop shards (suc next) n others placed.1)

-- in shards of higher numbers there is no row of these bytes
none_lower : (shards next : ℕ) (form : List ℕ) (all : List Rows) → ArePlacedFrom shards next all → shard_of shards form < next → finite.get (union all) form ≡ None
none_lower shards next form [] placed below = finite.get-empty by_bytes form
none_lower shards next form (rows ∷ others) placed below =
    get_second rows (union others) form (none_elsewhere shards next rows form placed.0 (λ here. not_less (shard_of shards form) next here below))
    ∙ none_lower shards (suc next) form others placed.1 (less_next (shard_of shards form) next below)

-- nor in those of lower ones
none_higher : (shards next : ℕ) (form : List ℕ) (all : List Rows) → ArePlacedFrom shards next all → next + length all ≤ shard_of shards form → finite.get (union all) form ≡ None
none_higher shards next form [] placed above = finite.get-empty by_bytes form
none_higher shards next form (rows ∷ others) placed above =
    get_second rows (union others) form (none_elsewhere shards next rows form placed.0 (λ here. not_above (shard_of shards form) next (length others) here above))
    ∙ none_higher shards (suc next) form others placed.1 (still_above (shard_of shards form) next (length others) above)

apart_placed : (shards next : ℕ) (all others : List Rows) → ArePlacedFrom shards next all → ArePlacedFrom shards (next + length all) others → AreApart (union all) (union others)
apart_placed shards next all others placed later form = elim (nat_cases (shard_of shards form) (next + length all)) [
  | inl below ↦ inr (none_lower shards (next + length all) form others later below)
  | inr above ↦ inl (none_higher shards next form all placed above)
]

none_either : (b : Rows) → either finite.empty b ≡ b
none_either b = same_rows (either finite.empty b) b (λ q. get_second finite.empty b q (finite.get-empty by_bytes q))

or_assoc : (x y z : Option Pair) → or_else x (or_else y z) ≡ or_else (or_else x y) z
or_assoc None y z = refl
or_assoc (Some row) y z = refl

either_assoc : (a b c : Rows) → either a (either b c) ≡ either (either a b) c
either_assoc a b c = same_rows (either a (either b c)) (either (either a b) c) (λ q.
    get_either a (either b c) q ∙ ap (or_else (finite.get a q)) (get_either b c q)
    ∙ or_assoc (finite.get a q) (finite.get b q) (finite.get c q)
    ∙ sym (get_either (either a b) c q ∙ ap (λ (o : Option Pair). or_else o (finite.get c q)) (get_either a b q)))

union_append : (all others : List Rows) → union (all ++ others) ≡ either (union all) (union others)
union_append [] others = sym (none_either (union others))
union_append (rows ∷ all) others = ap (either rows) (union_append all others) ∙ either_assoc rows (union all) (union others)

-- the rows of the first shards and those of the others
pub union_halves : (n : ℕ) (all : List Rows) → either (union (take n all)) (union (drop n all)) ≡ union all
union_halves n all = sym (union_append (take n all) (drop n all)) ∙ ap union (take-append-drop n all)

pub halves_apart : (shards next n : ℕ) (all : List Rows) → length (take n all) ≡ n → ArePlacedFrom shards next all → AreApart (union (take n all)) (union (drop n all))
halves_apart shards next n all long placed =
    apart_placed shards next (take n all) (drop n all) (placed_take shards next n all placed)
    (subst (λ m. ArePlacedFrom shards (next + m) (drop n all)) (sym long) (placed_drop shards next n all placed))

pub one_shard : (rows : Rows) → union (rows ∷ []) ≡ rows
one_shard rows = either_none rows

pub only_one : (all : List Rows) (rows d : Rows) → 1 ≤ length all → length all < 2 → rows ≡ get_or all 0 d → all ≡ rows ∷ []
only_one [] rows d some few is = absurd (omega (arith, some))
only_one (first ∷ []) rows d some few is = ap (λ (r : Rows). r ∷ []) (sym is)
only_one (first ∷ second ∷ others) rows d some few is = absurd (omega (arith, few))
