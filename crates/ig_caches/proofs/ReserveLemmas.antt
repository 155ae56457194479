-- Rows that are reserved, taken out again, or written.
use Rattle.std.proofs.Common.{◌≡◌, ◌≢◌, ◌≤◌, ◌<◌, ◌⊎◌, ℕ, ◌+◌, Bool, true, false, ◌||◌, List, [], ◌∷◌, ◌++◌, length, take, drop, get_or, Option, None, Some, is_some, refl, sym, ap, ◌∙◌, subst, inl, inr, arith, All}
use Rattle.std.proofs.lemmas.Bool.{cases_Bool, cond-true, cond-false, or_cases}
use Rattle.std.proofs.lemmas.List.Elements.{All-head, All-tail}
use Rattle.std.proofs.lemmas.List.Folds.{list_any-append}
use Rattle.std.proofs.lemmas.List.{take-append-drop}
use Rattle.std.specs.Cmp.Lexicographic.{nat_list_cmp_total}
use Rattle.std.specs.FinMap as finite
use Rattle.ig_value.specs.declared.value.Value.{Value}
use Rattle.ig_value.specs.declared.value.Value.TheVariants.{Null}
use Rattle.ig_value.specs.Canon.{Canon}
use Rattle.ig_value.specs.Laws.{SpelledIsRead, CanonSpells}
use Rattle.ig_caches.specs.declared.call.Pair.{Pair}
use Rattle.ig_caches.specs.IsRunnable.{IsRow}
use Rattle.ig_caches.specs.Rows.{Rows, with_row, with_rows}
use Rattle.ig_caches.specs.RowEntries.{row_under, IsKept, AreKept}
use Rattle.ig_caches.specs.Reserved.{reserved, is_null, is_reserved, released, has_key, IsReservedAt, Reserves, AllStand}
use Rattle.ig_caches.proofs.ItemLemmas.{split_at}
use Rattle.ig_caches.proofs.RowEntryLemmas.{ties, tied_same, same_tied, same_rows}
use Rattle.ig_caches.proofs.RowLemmas.{row_of_key, kept_row, kept_inserted}

-- ---- look-ups
here : (rows : Rows) (form : List ℕ) (row : Pair) (q : List ℕ) → ties q form ≡ true → finite.get (finite.insert rows form row) q ≡ Some row
here rows form row q tied = finite.get-insert nat_list_cmp_total rows form row q ∙ cond-true (ties q form) _ _ tied

elsewhere : (rows : Rows) (form : List ℕ) (row : Pair) (q : List ℕ) → ties q form ≡ false → finite.get (finite.insert rows form row) q ≡ finite.get rows q
elsewhere rows form row q apart = finite.get-insert nat_list_cmp_total rows form row q ∙ cond-false (ties q form) _ _ apart

gone : (rows : Rows) (form q : List ℕ) → ties q form ≡ true → finite.get (finite.remove rows form) q ≡ None
gone rows form q tied = finite.get-remove nat_list_cmp_total rows form q ∙ cond-true (ties q form) _ _ tied

left : (rows : Rows) (form q : List ℕ) → ties q form ≡ false → finite.get (finite.remove rows form) q ≡ finite.get rows q
left rows form q apart = finite.get-remove nat_list_cmp_total rows form q ∙ cond-false (ties q form) _ _ apart

-- the keys of one more pair
has_key-push : (pairs : List Pair) (pair : Pair) (q : List ℕ) → has_key (pairs ++ pair ∷ []) q ≡ (has_key pairs q || (ties q (Canon pair.key) || false))
has_key-push pairs pair q = list_any-append (λ (p : Pair). ties q (Canon p.key)) pairs (pair ∷ [])

or_true : (b : Bool) → (b || true) ≡ true
or_true true = refl
or_true false = refl

-- a pair's key is among the keys of pairs
pub named_in : (before rest : List Pair) (pair : Pair) → has_key (before ++ pair ∷ rest) (Canon pair.key) ≡ true
named_in [] rest pair = ap (λ (b : Bool). b || has_key rest (Canon pair.key)) (same_tied (Canon pair.key) (Canon pair.key) refl)
named_in (first ∷ before) rest pair =
    ap (λ (b : Bool). ties (Canon pair.key) (Canon first.key) || b) (named_in before rest pair) ∙ or_true (ties (Canon pair.key) (Canon first.key))

-- and so is that of the pair at an index
pub named_at : (pairs : List Pair) (i : ℕ) (pair : Pair) → i < length pairs → pair ≡ get_or pairs i pair → has_key pairs (Canon pair.key) ≡ true
named_at pairs i pair less is =
    subst (λ (ps : List Pair). has_key ps (Canon pair.key) ≡ true) (ap (λ (ps : List Pair). take i pairs ++ ps) (sym (split_at pairs i pair less is)) ∙ take-append-drop i pairs)
    (named_in (take i pairs) (drop (i + 1) pairs) pair)

none_from : (o : Option Pair) → is_some o ≡ false → o ≡ None
none_from None e = refl
none_from (Some row) e = absurd (cc)

-- ---- reserving
reserved-there : (rows : Rows) (form : List ℕ) → is_some (finite.get rows form) ≡ true → reserved rows form ≡ rows
reserved-there rows form there = cond-true (is_some (finite.get rows form)) _ _ there

pub reserved-new : (rows : Rows) (form : List ℕ) → is_some (finite.get rows form) ≡ false → reserved rows form ≡ finite.insert rows form (row_under form Null)
reserved-new rows form absent = cond-false (is_some (finite.get rows form)) _ _ absent

-- a row stands where one was reserved
pub reserved_stands : (rows : Rows) (form : List ℕ) → is_some (finite.get (reserved rows form) form) ≡ true
reserved_stands rows form = elim (cases_Bool (is_some (finite.get rows form))) [
  | inl there ↦ ap (λ (r : Rows). is_some (finite.get r form)) (reserved-there rows form there) ∙ there
  | inr absent ↦
      ap (λ (r : Rows). is_some (finite.get r form)) (reserved-new rows form absent)
      ∙ ap is_some (here rows form (row_under form Null) form (same_tied form form refl))
]

-- and rows that stand go on to
pub reserved_keeps : (rows : Rows) (form q : List ℕ) → is_some (finite.get rows q) ≡ true → is_some (finite.get (reserved rows form) q) ≡ true
reserved_keeps rows form q there = elim (cases_Bool (ties q form)) [
  | inl tied ↦ subst (λ (l : List ℕ). is_some (finite.get (reserved rows form) l) ≡ true) (sym (tied_same q form tied)) (reserved_stands rows form)
  | inr apart ↦ elim (cases_Bool (is_some (finite.get rows form))) [
    | inl has ↦ ap (λ (r : Rows). is_some (finite.get r q)) (reserved-there rows form has) ∙ there
    | inr absent ↦
        ap (λ (r : Rows). is_some (finite.get r q)) (reserved-new rows form absent) ∙ ap is_some (elsewhere rows form (row_under form Null) q apart) ∙ there
  ]
]

pub reserves_none : (most : ℕ) (rows : Rows) (pairs : List Pair) → Reserves most rows rows pairs
reserves_none most rows pairs = λ q. inl refl

pub reserves_more : (most more : ℕ) (old new : Rows) (pairs : List Pair) → most ≤ more → Reserves most old new pairs → Reserves more old new pairs
reserves_more most more old new pairs le all q = elim (all q) [
  | inl same ↦ inl same
  | inr it ↦ let s : length q ≤ most = it.short in inr (record { free = it.free; marked = it.marked; short = omega arith; named = it.named })
]

-- a row is reserved for one of the keys
pub reserves_step : (most : ℕ) (old now : Rows) (pairs : List Pair) (form : List ℕ) → has_key pairs form ≡ true → length form ≤ most → Reserves most old now pairs
    → Reserves most old (reserved now form) pairs
reserves_step most old now pairs form named short all q = elim (cases_Bool (is_some (finite.get now form))) [
  | inl there ↦ subst (λ (r : Rows). (finite.get r q ≡ finite.get old q) ⊎ IsReservedAt most old r pairs q) (sym (reserved-there now form there)) (all q)
  | inr absent ↦
      subst (λ (r : Rows). (finite.get r q ≡ finite.get old q) ⊎ IsReservedAt most old r pairs q) (sym (reserved-new now form absent))
      (elim (cases_Bool (ties q form)) [
        | inl tied ↦ inr (fresh (none_from (finite.get now form) absent) (tied_same q form tied))
        | inr apart ↦ elim (all q) [
          | inl same ↦ inl (elsewhere now form (row_under form Null) q apart ∙ same)
          | inr it ↦ inr (record {
            free = it.free;
            marked = ap is_reserved (elsewhere now form (row_under form Null) q apart) ∙ it.marked;
            short = it.short;
            named = it.named;
          })
        ]
      ])
]
  where
    none_before : finite.get now form ≡ None → (finite.get now form ≡ finite.get old form) ⊎ IsReservedAt most old now pairs form → finite.get old form ≡ None
    none_before absent (inl same) = sym same ∙ absent
    none_before absent (inr it) = it.free

    fresh : finite.get now form ≡ None → q ≡ form → IsReservedAt most old (finite.insert now form (row_under form Null)) pairs q
    fresh absent at = record {
      free = ap (finite.get old) at ∙ none_before absent (all form);
      marked = ap is_reserved (here now form (row_under form Null) q (same_tied q form at));
      short = subst (λ (l : List ℕ). length l ≤ most) (sym at) short;
      named = ap (has_key pairs) at ∙ named;
    }

pub stand_none : (most : ℕ) (rows : Rows) → AllStand most rows []
stand_none most rows q named = absurd (cc)

-- one more key has a row
pub stand_step : (most more : ℕ) (rows : Rows) (pairs : List Pair) (pair : Pair) → most ≤ more → length (Canon pair.key) ≤ more → AllStand most rows pairs
    → AllStand more (reserved rows (Canon pair.key)) (pairs ++ pair ∷ [])
stand_step most more rows pairs pair le short all q named = by (or_cases (has_key pairs q) (ties q (Canon pair.key) || false) (sym (has_key-push pairs pair q) ∙ named))
  where
    by : (has_key pairs q ≡ true) ⊎ ((ties q (Canon pair.key) || false) ≡ true) → (is_some (finite.get (reserved rows (Canon pair.key)) q) ≡ true) × (length q ≤ more)
    by (inl before) =
        let it : (is_some (finite.get rows q) ≡ true) × (length q ≤ most) = all q before in
        let s : length q ≤ most = it.1 in
        (reserved_keeps rows (Canon pair.key) q it.0, omega arith)
    by (inr last) = elim (cases_Bool (ties q (Canon pair.key))) [
      | inl tied ↦
          let at : q ≡ Canon pair.key = tied_same q (Canon pair.key) tied in
          (subst (λ (l : List ℕ). is_some (finite.get (reserved rows (Canon pair.key)) l) ≡ true) (sym at) (reserved_stands rows (Canon pair.key)), subst (λ (l : List ℕ). length l ≤ more) (sym at) short)
      | inr apart ↦ let never : false ≡ true = sym (ap (λ (b : Bool). b || false) apart) ∙ last in absurd (cc)
    ]

-- ---- taking reserved rows out again
-- a value that isn't null
pub not_null : (v : Value) → v ≢ Null → is_null v ≡ false
not_null Null h = absurd (h refl)
not_null _ h = refl

-- a row that may stand isn't a reserved one
null_from : (v : Value) → is_null v ≡ true → v ≡ Null
null_from Null e = refl
null_from _ e = absurd (cc)

not_reserved : (most : ℕ) (old : Rows) (q : List ℕ) (o : Option Pair) → AreKept most old → finite.get old q ≡ o → is_reserved o ≡ true → ⊥
not_reserved most old q None kept is e = cc
not_reserved most old q (Some row) kept is e = (kept q row is).present (null_from row.value e)

released-out : (rows : Rows) (form : List ℕ) → is_reserved (finite.get rows form) ≡ true → released rows form ≡ finite.remove rows form
released-out rows form it = cond-true (is_reserved (finite.get rows form)) _ _ it

released-not : (rows : Rows) (form : List ℕ) → is_reserved (finite.get rows form) ≡ false → released rows form ≡ rows
released-not rows form not = cond-false (is_reserved (finite.get rows form)) _ _ not

-- the key of one pair less
later : (pair : Pair) (pairs : List Pair) (q : List ℕ) → ties q (Canon pair.key) ≡ false → has_key (pair ∷ pairs) q ≡ true → has_key pairs q ≡ true
later pair pairs q apart named = sym (ap (λ (b : Bool). b || has_key pairs q) apart) ∙ named

pub released_step : (before most : ℕ) (old now : Rows) (pair : Pair) (pairs : List Pair) → AreKept before old → Reserves most old now (pair ∷ pairs)
    → Reserves most old (released now (Canon pair.key)) pairs
released_step before most old now pair pairs kept all q = elim (cases_Bool (is_reserved (finite.get now (Canon pair.key)))) [
  | inl it ↦
      subst (λ (r : Rows). (finite.get r q ≡ finite.get old q) ⊎ IsReservedAt most old r pairs q) (sym (released-out now (Canon pair.key) it))
      (elim (cases_Bool (ties q (Canon pair.key))) [
        | inl tied ↦
            let at : q ≡ Canon pair.key = tied_same q (Canon pair.key) tied in
            inl (gone now (Canon pair.key) q tied ∙ sym (ap (finite.get old) at ∙ none_before it (all (Canon pair.key))))
        | inr apart ↦ elim (all q) [
          | inl same ↦ inl (left now (Canon pair.key) q apart ∙ same)
          | inr at ↦ inr (record {
            free = at.free;
            marked = ap is_reserved (left now (Canon pair.key) q apart) ∙ at.marked;
            short = at.short;
            named = later pair pairs q apart at.named;
          })
        ]
      ])
  | inr not ↦
      subst (λ (r : Rows). (finite.get r q ≡ finite.get old q) ⊎ IsReservedAt most old r pairs q) (sym (released-not now (Canon pair.key) not))
      (elim (all q) [
        | inl same ↦ inl same
        | inr at ↦ elim (cases_Bool (ties q (Canon pair.key))) [
          | inl tied ↦
              let never : true ≡ false = sym at.marked ∙ ap (λ (l : List ℕ). is_reserved (finite.get now l)) (tied_same q (Canon pair.key) tied) ∙ not in
              absurd (cc)
          | inr apart ↦ inr (record { free = at.free; marked = at.marked; short = at.short; named = later pair pairs q apart at.named })
        ]
      ])
]
  where
    none_before : is_reserved (finite.get now (Canon pair.key)) ≡ true → (finite.get now (Canon pair.key) ≡ finite.get old (Canon pair.key)) ⊎ IsReservedAt most old now (pair ∷ pairs) (Canon pair.key)
        → finite.get old (Canon pair.key) ≡ None
    none_before it (inl same) = absurd (not_reserved before old (Canon pair.key) (finite.get old (Canon pair.key)) kept refl (ap is_reserved (sym same) ∙ it))
    none_before it (inr at) = at.free

-- a key that is longer than all bytes has no reserved row
pub skipped_step : (most : ℕ) (old now : Rows) (pair : Pair) (pairs : List Pair) → most < length (Canon pair.key) → Reserves most old now (pair ∷ pairs) → Reserves most old now pairs
skipped_step most old now pair pairs long all q = elim (all q) [
  | inl same ↦ inl same
  | inr at ↦ elim (cases_Bool (ties q (Canon pair.key))) [
    | inl tied ↦
        let s : length (Canon pair.key) ≤ most = subst (λ (l : List ℕ). length l ≤ most) (tied_same q (Canon pair.key) tied) at.short in
        absurd (omega arith)
    | inr apart ↦ inr (record { free = at.free; marked = at.marked; short = at.short; named = later pair pairs q apart at.named })
  ]
]

-- with no pair left the rows are the old ones
pub reserves_nothing : (most : ℕ) (old now : Rows) → Reserves most old now [] → now ≡ old
reserves_nothing most old now all = same_rows now old (λ q. elim (all q) [
  | inl same ↦ same
  | inr at ↦ let never : false ≡ true = at.named in absurd (cc)
])

-- ---- writing
-- rows that differ under the keys of the pairs alone are the same after the pairs are put
pub same_written : (pairs : List Pair) (rows others : Rows) → ((q : List ℕ) → (finite.get rows q ≡ finite.get others q) ⊎ (has_key pairs q ≡ true)) → with_rows rows pairs ≡ with_rows others pairs
same_written [] rows others all = same_rows rows others (λ q. elim (all q) [
  | inl same ↦ same
  | inr named ↦ absurd (cc)
])
same_written (pair ∷ pairs) rows others all = same_written pairs (with_row rows pair) (with_row others pair) (λ q. elim (cases_Bool (ties q (Canon pair.key))) [
  | inl tied ↦ inl (here rows (Canon pair.key) pair q tied ∙ sym (here others (Canon pair.key) pair q tied))
  | inr apart ↦ elim (all q) [
    | inl same ↦ inl (elsewhere rows (Canon pair.key) pair q apart ∙ same ∙ sym (elsewhere others (Canon pair.key) pair q apart))
    | inr named ↦ inr (later pair pairs q apart named)
  ]
])

pub written_over : (most : ℕ) (old now : Rows) (pairs : List Pair) → Reserves most old now pairs → with_rows now pairs ≡ with_rows old pairs
written_over most old now pairs all = same_written pairs now old (λ q. elim (all q) [
  | inl same ↦ inl same
  | inr at ↦ inr at.named
])

-- rows that stand go on to while pairs are put
pub written_keeps : (pairs : List Pair) (rows : Rows) (q : List ℕ) → is_some (finite.get rows q) ≡ true → is_some (finite.get (with_rows rows pairs) q) ≡ true
written_keeps [] rows q there = there
written_keeps (pair ∷ pairs) rows q there = written_keeps pairs (with_row rows pair) q (elim (cases_Bool (ties q (Canon pair.key))) [
  | inl tied ↦ ap is_some (here rows (Canon pair.key) pair q tied)
  | inr apart ↦ ap is_some (elsewhere rows (Canon pair.key) pair q apart) ∙ there
])

-- rows that are put are kept
pub kept_written : SpelledIsRead → CanonSpells → (most : ℕ) (pairs : List Pair) (rows : Rows) → All IsRow pairs → ((q : List ℕ) → has_key pairs q ≡ true → length q ≤ most)
    → AreKept most rows → AreKept most (with_rows rows pairs)
kept_written read spells most [] rows all short kept = kept
kept_written read spells most (pair ∷ pairs) rows all short kept =
    let it : IsRow pair = All-head IsRow pair pairs all in
    let first : has_key (pair ∷ pairs) (Canon pair.key) ≡ true = ap (λ (b : Bool). b || has_key pairs (Canon pair.key)) (same_tied (Canon pair.key) (Canon pair.key) refl) in
    let one : IsKept most (Canon pair.key) pair =
    subst (IsKept most (Canon pair.key)) (row_of_key read spells pair.key pair.value it.0) (kept_row read spells most (Canon pair.key) pair it refl (short (Canon pair.key) first)) in
    kept_written read spells most pairs (with_row rows pair) (All-tail IsRow pair pairs all) (λ q named. short q (ap (λ (b : Bool). ties q (Canon pair.key) || b) named ∙ or_true (ties q (Canon pair.key))))
    (kept_inserted most rows (Canon pair.key) pair one kept)
