-- Putting several rows: rows are put first under keys that have none, and taken out again or written.
use Rattle.std.proofs.Common.{◌≡◌, ◌<◌, ◌≤◌, ◌⊎◌, ◌+◌, ◌++◌, ◌&&◌, ◌||◌, ℕ, zero, suc, Bool, true, false, cond, List, [], ◌∷◌, length, take, drop, get_or, Option, None, Some, is_some, refl, sym, ap, ◌∙◌, subst, subst₂, inl, inr, length-append, arith, rules, ℤ, pos, w32, FitsSigned, Result, Ok, Err, OnOk}
use Rattle.std.proofs.lemmas.Bool.{cases_Bool, cond-true, cond-false}
use Rattle.std.specs.Cmp.Lexicographic.{nat_list_cmp_total}
use Rattle.std.specs.FinMap as finite
use Rattle.ig_base.proofs.NumberLemmas.{length-LE_32}
use Rattle.ig_value.proofs.FoldLemmas.{Canon_out}
use Rattle.ig_value.specs.declared.value.Value.{Value}
use Rattle.ig_value.specs.declared.value.Value.TheVariants as value
use Rattle.ig_value.specs.declared.value.Value.TheOpen.{Value-F}
use Rattle.ig_value.specs.Limits.{Fits, FitsPart, FitsTo}
use Rattle.ig_value.specs.Table.{content, parts}
use Rattle.ig_value.specs.Canon.{Canon, layer_bytes}
use Rattle.ig_caches.specs.declared.call.Pair.{Pair}
use Rattle.ig_caches.specs.IsRunnable.{IsItem}
use Rattle.ig_caches.specs.Rows.{Rows, has_row, with_row, without_row, with_rows}
use Rattle.ig_caches.specs.Reserved.{has_key}
use Rattle.ig_caches.proofs.ItemLemmas.{taken_at}
use Rattle.ig_caches.proofs.RowEntryLemmas.{ties, tied_same, same_tied, same_rows}
use Rattle.ig_caches.proofs.ReserveLemmas.{same_written}
use Rattle.ig_shards.specs.Marks.{is_marked, AreNew, IsMarked, HasRows, IsReserved, IsLeft}

or_none : (b : Bool) → (b || false) ≡ b
or_none true = refl
or_none false = refl

or_true : (b : Bool) → (b || true) ≡ true
or_true true = refl
or_true false = refl

or_turn : (a b c : Bool) → ((a || b) || c) ≡ (a || (b || c))
or_turn true b c = refl
or_turn false b c = refl

or_cases : (a b : Bool) → (a || b) ≡ true → (a ≡ true) ⊎ (b ≡ true)
or_cases true b e = inl refl
or_cases false b e = inr e

none_from : (o : Option Pair) → is_some o ≡ false → o ≡ None
none_from None e = refl
none_from (Some row) e = absurd (cc)

-- what stands under the bytes that are written, and under others
here : (rows : Rows) (form : List ℕ) (row : Pair) (q : List ℕ) → ties q form ≡ true → finite.get (finite.insert rows form row) q ≡ Some row
here rows form row q tied = finite.get-insert nat_list_cmp_total rows form row q ∙ cond-true (ties q form) _ _ tied

elsewhere : (rows : Rows) (form : List ℕ) (row : Pair) (q : List ℕ) → ties q form ≡ false → finite.get (finite.insert rows form row) q ≡ finite.get rows q
elsewhere rows form row q apart = finite.get-insert nat_list_cmp_total rows form row q ∙ cond-false (ties q form) _ _ apart

gone : (rows : Rows) (form q : List ℕ) → ties q form ≡ true → finite.get (finite.remove rows form) q ≡ None
gone rows form q tied = finite.get-remove nat_list_cmp_total rows form q ∙ cond-true (ties q form) _ _ tied

left : (rows : Rows) (form q : List ℕ) → ties q form ≡ false → finite.get (finite.remove rows form) q ≡ finite.get rows q
left rows form q apart = finite.get-remove nat_list_cmp_total rows form q ∙ cond-false (ties q form) _ _ apart

-- ---- marks
-- one more mark
pub marked_push : (marks : List Bool) (mark : Bool) (pairs : List Pair) (pair d : Pair) (q : List ℕ) → length marks < length pairs → pair ≡ get_or pairs (length marks) d
    → is_marked (marks ++ mark ∷ []) pairs q ≡ (is_marked marks pairs q || (mark && ties q (Canon pair.key)))
marked_push [] mark [] pair d q within is = absurd (omega (arith, within))
marked_push [] mark (first ∷ pairs) pair d q within is =
    ap (λ (p : Pair). (mark && ties q (Canon p.key)) || false) (sym is) ∙ or_none (mark && ties q (Canon pair.key))
marked_push (m ∷ marks) mark [] pair d q within is = absurd (omega (arith, within))
marked_push (m ∷ marks) mark (first ∷ pairs) pair d q within is =
    ap (λ (b : Bool). (m && ties q (Canon first.key)) || b) (marked_push marks mark pairs pair d q (omega (arith, within)) is)
    ∙ sym (or_turn (m && ties q (Canon first.key)) (is_marked marks pairs q) (mark && ties q (Canon pair.key)))

-- what is marked is a key of the pairs
and_second : (a b : Bool) → (a && b) ≡ true → b ≡ true
and_second true b e = e
and_second false b e = absurd (cc)

pub marked_named : (marks : List Bool) (pairs : List Pair) (q : List ℕ) → is_marked marks pairs q ≡ true → has_key pairs q ≡ true
marked_named [] pairs q e = absurd (cc)
marked_named (m ∷ marks) [] q e = absurd (cc)
marked_named (m ∷ marks) (pair ∷ pairs) q e = elim (or_cases (m && ties q (Canon pair.key)) (is_marked marks pairs q) e) [
  | inl first ↦ ap (λ (b : Bool). b || has_key pairs q) (and_second m (ties q (Canon pair.key)) first)
  | inr later ↦ ap (λ (b : Bool). ties q (Canon pair.key) || b) (marked_named marks pairs q later) ∙ or_true (ties q (Canon pair.key))
]

-- ---- putting rows under keys that have none
pub none_marked : (rows : Rows) (pairs : List Pair) → IsMarked rows rows [] pairs
none_marked rows pairs = λ q. inl refl

pub none_new : (rows : Rows) (pairs : List Pair) → AreNew rows [] pairs
none_new rows pairs = λ q e. absurd (cc)

-- what held with fewer marks holds with one more
pub marked_more : (old now : Rows) (marks : List Bool) (mark : Bool) (pairs : List Pair) (pair d : Pair) → length marks < length pairs → pair ≡ get_or pairs (length marks) d
    → IsMarked old now marks pairs → IsMarked old now (marks ++ mark ∷ []) pairs
marked_more old now marks mark pairs pair d within is all q = elim (all q) [
  | inl same ↦ inl same
  | inr it ↦ inr (marked_push marks mark pairs pair d q within is ∙ ap (λ (b : Bool). b || (mark && ties q (Canon pair.key))) it)
]

-- a row is put under a key that is marked
pub marked_put : (old now : Rows) (marks : List Bool) (pairs : List Pair) (pair row d : Pair) → length marks < length pairs → pair ≡ get_or pairs (length marks) d → row.key ≡ pair.key
    → IsMarked old now marks pairs → IsMarked old (with_row now row) (marks ++ true ∷ []) pairs
marked_put old now marks pairs pair row d within is key all q = elim (cases_Bool (ties q (Canon row.key))) [
  | inl tied ↦
      inr (marked_push marks true pairs pair d q within is ∙ ap (λ (b : Bool). is_marked marks pairs q || b) (ap (λ (k : Value). ties q (Canon k)) (sym key) ∙ tied) ∙ or_true (is_marked marks pairs q))
  | inr apart ↦ elim (all q) [
    | inl same ↦ inl (elsewhere now (Canon row.key) row q apart ∙ same)
    | inr it ↦ inr (marked_push marks true pairs pair d q within is ∙ ap (λ (b : Bool). b || ties q (Canon pair.key)) it)
  ]
]

-- a key is marked only if it has no row, and then it had none
pub new_push : (old now : Rows) (marks : List Bool) (mark : Bool) (pairs : List Pair) (pair d : Pair) → length marks < length pairs → pair ≡ get_or pairs (length marks) d
    → (mark ≡ true → has_row now pair.key ≡ false) → IsMarked old now marks pairs → AreNew old marks pairs → AreNew old (marks ++ mark ∷ []) pairs
new_push old now marks mark pairs pair d within is absent all new q e =
    by (or_cases (is_marked marks pairs q) (mark && ties q (Canon pair.key)) (sym (marked_push marks mark pairs pair d q within is) ∙ e))
  where
    none : mark ≡ true → finite.get old (Canon pair.key) ≡ None
    none on = elim (all (Canon pair.key)) [
      | inl same ↦ sym same ∙ none_from (finite.get now (Canon pair.key)) (absent on)
      | inr it ↦ new (Canon pair.key) it
    ]

    first : (a b : Bool) → (a && b) ≡ true → a ≡ true
    first true b e = refl
    first false b e = absurd (cc)

    by : (is_marked marks pairs q ≡ true) ⊎ ((mark && ties q (Canon pair.key)) ≡ true) → finite.get old q ≡ None
    by (inl before) = new q before
    by (inr last) = ap (finite.get old) (tied_same q (Canon pair.key) (and_second mark (ties q (Canon pair.key)) last)) ∙ none (first mark (ties q (Canon pair.key)) last)

-- ---- keys that have rows
pub no_keys : (rows : Rows) → HasRows rows []
no_keys rows = λ q e. absurd (cc)

has_key_push : (pairs : List Pair) (pair : Pair) (q : List ℕ) → has_key (pairs ++ pair ∷ []) q ≡ (has_key pairs q || ties q (Canon pair.key))
has_key_push [] pair q = or_none (ties q (Canon pair.key))
has_key_push (first ∷ pairs) pair q =
    ap (λ (b : Bool). ties q (Canon first.key) || b) (has_key_push pairs pair q) ∙ sym (or_turn (ties q (Canon first.key)) (has_key pairs q) (ties q (Canon pair.key)))

-- one more key that has a row
pub has_push : (rows : Rows) (pairs : List Pair) (pair : Pair) → HasRows rows pairs → has_row rows pair.key ≡ true → HasRows rows (pairs ++ pair ∷ [])
has_push rows pairs pair all there q e = by (or_cases (has_key pairs q) (ties q (Canon pair.key)) (sym (has_key_push pairs pair q) ∙ e))
  where
    by : (has_key pairs q ≡ true) ⊎ (ties q (Canon pair.key) ≡ true) → is_some (finite.get rows q) ≡ true
    by (inl before) = all q before
    by (inr tied) = ap (λ (l : List ℕ). is_some (finite.get rows l)) (tied_same q (Canon pair.key) tied) ∙ there

-- keys that have rows have them with one more row
pub has_with : (rows : Rows) (pairs : List Pair) (row : Pair) → HasRows rows pairs → HasRows (with_row rows row) pairs
has_with rows pairs row all q e = elim (cases_Bool (ties q (Canon row.key))) [
  | inl tied ↦ ap is_some (here rows (Canon row.key) row q tied)
  | inr apart ↦ ap is_some (elsewhere rows (Canon row.key) row q apart) ∙ all q e
]

pub has_put : (rows : Rows) (row : Pair) (key : Value) → row.key ≡ key → has_row (with_row rows row) key ≡ true
has_put rows row key is = ap is_some (here rows (Canon row.key) row (Canon key) (same_tied (Canon key) (Canon row.key) (ap Canon (sym is))))

-- a key that is marked at an index
pub marked_there : (i : ℕ) (marks later : List Bool) (pairs others : List Pair) (pair : Pair) → drop i marks ≡ true ∷ later → drop i pairs ≡ pair ∷ others → is_marked marks pairs (Canon pair.key) ≡ true
marked_there zero [] later pairs others pair at_mark at_pair = absurd (cc)
marked_there zero (mark ∷ marks) later [] others pair at_mark at_pair = absurd (cc)
marked_there zero (mark ∷ marks) later (first ∷ pairs) others pair at_mark at_pair =
    let on : mark ≡ true = cc in
    let it : first ≡ pair = cc in
    ap (λ (b : Bool). (b && ties (Canon pair.key) (Canon first.key)) || is_marked marks pairs (Canon pair.key)) on
    ∙ ap (λ (b : Bool). b || is_marked marks pairs (Canon pair.key)) (same_tied (Canon pair.key) (Canon first.key) (ap (λ (p : Pair). Canon p.key) (sym it)))
marked_there (suc i) [] later pairs others pair at_mark at_pair = absurd (cc)
marked_there (suc i) (mark ∷ marks) later [] others pair at_mark at_pair = absurd (cc)
marked_there (suc i) (mark ∷ marks) later (first ∷ pairs) others pair at_mark at_pair =
    ap (λ (b : Bool). (mark && ties (Canon pair.key) (Canon first.key)) || b) (marked_there i marks later pairs others pair at_mark at_pair)
    ∙ or_true (mark && ties (Canon pair.key) (Canon first.key))

-- ---- taking marked rows out again
pub released : (old now : Rows) (mark : Bool) (marks : List Bool) (pair : Pair) (pairs : List Pair) → (mark ≡ true → finite.get old (Canon pair.key) ≡ None)
    → IsMarked old now (mark ∷ marks) (pair ∷ pairs) → IsMarked old (cond mark (without_row now pair.key) now) marks pairs
released old now true marks pair pairs new all q = elim (cases_Bool (ties q (Canon pair.key))) [
  | inl tied ↦ inl (gone now (Canon pair.key) q tied ∙ sym (ap (finite.get old) (tied_same q (Canon pair.key) tied) ∙ new refl))
  | inr apart ↦ elim (all q) [
    | inl same ↦ inl (left now (Canon pair.key) q apart ∙ same)
    | inr it ↦ inr (sym (ap (λ (b : Bool). b || is_marked marks pairs q) apart) ∙ it)
  ]
]
released old now false marks pair pairs new all q = elim (all q) [
  | inl same ↦ inl same
  | inr it ↦ inr it
]

-- with no mark left the rows are the old ones
pub all_released : (old now : Rows) (pairs : List Pair) → IsMarked old now [] pairs → now ≡ old
all_released old now pairs all = same_rows now old (λ q. elim (all q) [
  | inl same ↦ same
  | inr it ↦ absurd (cc)
])

-- ---- writing
-- rows that were put under keys of the pairs are written over
pub written_over_marked : (old now : Rows) (marks : List Bool) (pairs : List Pair) → IsMarked old now marks pairs → with_rows now pairs ≡ with_rows old pairs
written_over_marked old now marks pairs all = same_written pairs now old (λ q. elim (all q) [
  | inl same ↦ inl same
  | inr it ↦ inr (marked_named marks pairs q it)
])

-- ---- a key at an index is reserved
module _ (old now new : Rows) (marks next : List Bool) (pairs : List Pair) (i : ℕ) (pair : Pair) (count : length marks ≡ i) (within : i < length pairs) (is : pair ≡ get_or pairs i pair)
    (all : IsMarked old now marks pairs) (fresh : AreNew old marks pairs) where
  in_marks : length marks < length pairs
  in_marks = omega (arith, count, within)

  at_marks : pair ≡ get_or pairs (length marks) pair
  at_marks = is ∙ ap (λ n. get_or pairs n pair) (sym count)

  new_with : (mark : Bool) → (mark ≡ true → has_row now pair.key ≡ false) → AreNew old (marks ++ mark ∷ []) pairs
  new_with mark absent = new_push old now marks mark pairs pair pair in_marks at_marks absent all fresh

  next_taken : take (i + 1) pairs ≡ take i pairs ++ pair ∷ []
  next_taken = taken_at pairs i pair within is

  pub reserved_count : IsReserved now new marks next pair.key → length next ≡ i + 1
  reserved_count (inl r) = omega (arith, count, ap length r.2, length-append marks (false ∷ []))
  reserved_count (inr r) = omega (arith, count, ap length r.4, length-append marks (true ∷ []))

  pub reserved_marked : IsReserved now new marks next pair.key → IsMarked old new next pairs
  reserved_marked (inl r) = subst₂ (λ (n : Rows) (ms : List Bool). IsMarked old n ms pairs) (sym r.1) (sym r.2) (marked_more old now marks false pairs pair pair in_marks at_marks all)
  reserved_marked (inr r) = subst₂ (λ (n : Rows) (ms : List Bool). IsMarked old n ms pairs) (sym r.3) (sym r.4) (marked_put old now marks pairs pair r.0 pair in_marks at_marks r.1 all)

  pub reserved_new : IsReserved now new marks next pair.key → AreNew old next pairs
  reserved_new (inl r) = subst (λ (ms : List Bool). AreNew old ms pairs) (sym r.2) (new_with false (λ e. absurd (cc)))
  reserved_new (inr r) = subst (λ (ms : List Bool). AreNew old ms pairs) (sym r.4) (new_with true (λ e. r.2))

  pub reserved_stand : IsReserved now new marks next pair.key → HasRows now (take i pairs) → HasRows new (take (i + 1) pairs)
  reserved_stand (inl r) stand = subst₂ HasRows (sym r.1) (sym next_taken) (has_push now (take i pairs) pair stand r.0)
  reserved_stand (inr r) stand =
      subst₂ HasRows (sym r.3) (sym next_taken)
      (has_push (with_row now r.0) (take i pairs) pair (has_with now (take i pairs) r.0 stand) (has_put now r.0 pair.key r.1))

  -- without memory, too, it is marked only where there is no row
  pub left_marked : IsLeft now new marks next pair.key → IsMarked old new next pairs
  left_marked l = elim l.1 [
    | inl kept ↦ subst₂ (λ (n : Rows) (ms : List Bool). IsMarked old n ms pairs) (sym l.0) (sym kept) all
    | inr more ↦
        subst₂ (λ (n : Rows) (ms : List Bool). IsMarked old n ms pairs) (sym l.0) (sym more.1) (marked_more old now marks true pairs pair pair in_marks at_marks all)
  ]

  pub left_new : IsLeft now new marks next pair.key → AreNew old next pairs
  left_new l = elim l.1 [
    | inl kept ↦ subst (λ (ms : List Bool). AreNew old ms pairs) (sym kept) fresh
    | inr more ↦ subst (λ (ms : List Bool). AreNew old ms pairs) (sym more.1) (new_with true (λ e. more.0))
  ]

  pub left_within : IsLeft now new marks next pair.key → length next ≤ length pairs
  left_within l = elim l.1 [
    | inl kept ↦ omega (arith, count, within, ap length kept)
    | inr more ↦ omega (arith, count, within, ap length more.1, length-append marks (true ∷ []))
  ]

-- one more row is written after the others
pub written_push : (pairs : List Pair) (pair : Pair) (rows : Rows) → with_rows rows (pairs ++ pair ∷ []) ≡ with_row (with_rows rows pairs) pair
written_push [] pair rows = refl
written_push (first ∷ pairs) pair rows = written_push pairs pair (with_row rows first)

-- ---- a value that stands for none
int_long : (x : ℤ) → length (Canon (value.Int x)) ≡ 5
int_long x = ap length (Canon_out (value.Int x) ∙ ap (layer_bytes Canon) (value.outs-Int x)) ∙ ap (λ n. suc n) (length-LE_32 x)

int_fits : (x : ℤ) → FitsSigned w32 x → Fits (value.Int x)
unfolding Fits
int_fits x range = subst (λ (o : Value-F Value). FitsPart (FitsTo 31) (content (parts o).0) (parts o).1) (sym (value.outs-Int x)) range

pub none_item : IsItem (value.Int (pos 0))
none_item = record { present = λ e. cc; fits = int_fits (pos 0) (search rules); sendable = omega (arith, int_long (pos 0)) }

-- what follows of a result that isn't an error
pub on_ok : {A E P Q : Type 0} (r : Result A E) → (P → Q) → OnOk r P → OnOk r Q
on_ok (Ok x) f p = f p
on_ok (Err e) f p = tt
