-- Rows as a finite map, and which rows may be kept.
use Rattle.std.proofs.Common.{◌≡◌, ◌≤◌, ◌<◌, ℕ, cond, List, [], length, Option, None, Some, refl, sym, ap, ◌∙◌, subst, inl, inr, Result, Ok, Err, OnOk, OnErr, option_map, arith, append-nil}
use Rattle.std.proofs.lemmas.Bool.{cases_Bool, cond-true, cond-false}
use Rattle.std.specs.Cmp.Lexicographic.{nat_list_cmp_total}
use Rattle.std.specs.FinMap as finite
use Rattle.ig_value.specs.declared.value.Value.{Value}
use Rattle.ig_value.specs.Canon.{Canon}
use Rattle.ig_value.specs.Laws.{SpelledIsRead, CanonSpells}
use Rattle.ig_value.specs.Reading.{reading}
use Rattle.ig_value.specs.Spells.{Spells}
use Rattle.ig_caches.specs.declared.call.Pair.{Pair}
use Rattle.ig_caches.specs.IsRunnable.{IsItem, IsRow}
use Rattle.ig_caches.specs.Rows.{Rows, with_row}
use Rattle.ig_caches.specs.RowEntries.{read_key, key_of, row_under, rows_of_entries, IsKept, AreKept}
use Rattle.ig_caches.proofs.RowEntryLemmas.{ties, tied_same, same_rows, entry_at, get_entry}

-- ---- keys
-- bytes that encode a value are read as it
pub key_read : SpelledIsRead → (bytes : List ℕ) (key : Value) → Spells bytes key → key_of bytes ≡ key
unfolding key_of
key_read read bytes key spelled = ap (λ (l : List ℕ). read_key (reading l)) (sym (append-nil bytes)) ∙ ap read_key (read bytes [] key spelled)

-- a key comes back from its canonical encoding
pub key_back : SpelledIsRead → CanonSpells → (key : Value) → IsItem key → key_of (Canon key) ≡ key
key_back read spells key it = key_read read (Canon key) key (spells key it.fits it.sendable)

-- ---- what is known of kept rows
-- bytes that are longer than those of every row have no row
pub missing : (most : ℕ) (rows : Rows) (q : List ℕ) → AreKept most rows → most < length q → finite.get rows q ≡ None
missing most rows q kept long = by (finite.get rows q) refl
  where
    by : (o : Option Pair) → finite.get rows q ≡ o → o ≡ None
    by None is = refl
    by (Some row) is = let it : IsKept most q row = kept q row is in absurd (omega (arith, it.short))

-- the same of rows that are equal to kept ones
pub missing_of : (most : ℕ) (kept rows : Rows) (q : List ℕ) → AreKept most kept → most < length q → kept ≡ rows → finite.get rows q ≡ None
missing_of most kept rows q are long is = ap (λ r. finite.get r q) (sym is) ∙ missing most kept q are long

-- more bytes may be allowed
pub kept_more : (most more : ℕ) (rows : Rows) → most ≤ more → AreKept most rows → AreKept more rows
kept_more most more rows le kept = λ q row is.
    let it : IsKept most q row = kept q row is in
    let s : length q ≤ most = it.short in
    record { short = omega arith; key = it.key; present = it.present; fits = it.fits }

-- a row is put
pub kept_inserted : (most : ℕ) (rows : Rows) (form : List ℕ) (row : Pair) → IsKept most form row → AreKept most rows → AreKept most (finite.insert rows form row)
kept_inserted most rows form row it kept = λ q other is. elim (cases_Bool (ties q form)) [
  | inl tied ↦
      let one : Some row ≡ Some other = sym (cond-true (ties q form) _ _ tied) ∙ sym (finite.get-insert nat_list_cmp_total rows form row q) ∙ is in
      let same : row ≡ other = cc in
      subst (IsKept most q) same (subst (λ l. IsKept most l row) (sym (tied_same q form tied)) it)
  | inr apart ↦
      kept q other (sym (cond-false (ties q form) _ _ apart) ∙ sym (finite.get-insert nat_list_cmp_total rows form row q) ∙ is)
]

-- a row is removed
pub kept_removed : (most : ℕ) (rows : Rows) (form : List ℕ) → AreKept most rows → AreKept most (finite.remove rows form)
kept_removed most rows form kept = λ q other is. elim (cases_Bool (ties q form)) [
  | inl tied ↦
      let never : None ≡ Some other = sym (cond-true (ties q form) _ _ tied) ∙ sym (finite.get-remove nat_list_cmp_total rows form q) ∙ is in
      absurd (cc)
  | inr apart ↦
      kept q other (sym (cond-false (ties q form) _ _ apart) ∙ sym (finite.get-remove nat_list_cmp_total rows form q) ∙ is)
]

-- rows stay kept when a row is put, or nothing is
pub kept_after : {K A E : Type 0} (bytes : K → List ℕ) (most more : ℕ) (entries others : List (K × Value)) (form : List ℕ) (row : Pair) (result : Result A E) → most ≤ more
    → AreKept most (rows_of_entries bytes entries) → IsKept more form row → OnOk result (rows_of_entries bytes others ≡ finite.insert (rows_of_entries bytes entries) form row) → OnErr result (others ≡ entries)
    → AreKept more (rows_of_entries bytes others)
kept_after bytes most more entries others form row (Ok a) le kept it ok err =
    subst (AreKept more) (sym ok) (kept_inserted more (rows_of_entries bytes entries) form row it (kept_more most more (rows_of_entries bytes entries) le kept))
kept_after bytes most more entries others form row (Err e) le kept it ok err =
    subst (AreKept more) (sym (ap (rows_of_entries bytes) err)) (kept_more most more (rows_of_entries bytes entries) le kept)

-- no rows are kept
pub kept_none : {K : Type 0} (bytes : K → List ℕ) (most : ℕ) (entries : List (K × Value)) → entries ≡ [] → AreKept most (rows_of_entries bytes entries)
kept_none bytes most entries empty = λ q row is.
    let never : None ≡ Some row = sym (get_entry bytes entries q ∙ ap (λ es. option_map (row_under q) (entry_at bytes q es)) empty) ∙ is in
    absurd (cc)

-- rows without a row that isn't there are the same rows
pub none_removed : (rows : Rows) (form : List ℕ) → finite.get rows form ≡ None → rows ≡ finite.remove rows form
none_removed rows form none = same_rows rows (finite.remove rows form) (λ q. at q ∙ sym (finite.get-remove nat_list_cmp_total rows form q))
  where
    at : (q : List ℕ) → finite.get rows q ≡ cond (ties q form) None (finite.get rows q)
    at q = elim (cases_Bool (ties q form)) [
      | inl tied ↦ ap (finite.get rows) (tied_same q form tied) ∙ none ∙ sym (cond-true (ties q form) _ _ tied)
      | inr other ↦ sym (cond-false (ties q form) _ _ other)
    ]

-- ---- a row is put under the bytes of its key
module _ (read : SpelledIsRead) (spells : CanonSpells) where
  -- under the canonical encoding of a key stands its row
  pub row_of_key : (key value : Value) → IsItem key → row_under (Canon key) value ≡ record { key = key; value = value }
  row_of_key key value it =
      let row : Value → Pair = λ k. record { key = k; value = value } in
      ap row (key_back read spells key it)

  pub row_put : (old kept new : Rows) (form : List ℕ) (row : Pair) → IsItem row.key → form ≡ Canon row.key → kept ≡ old → new ≡ finite.insert kept form (row_under form row.value) → new ≡ with_row old row
  row_put old kept new form row it spelled are is =
      is ∙ ap (λ (r : Rows). finite.insert r form (row_under form row.value)) are
      ∙ ap (λ (l : List ℕ). finite.insert old l (row_under l row.value)) spelled
      ∙ ap (finite.insert old (Canon row.key)) (row_of_key row.key row.value it)

  -- it may stand there
  pub kept_row : (most : ℕ) (form : List ℕ) (row : Pair) → IsRow row → form ≡ Canon row.key → length form ≤ most → IsKept most form (row_under form row.value)
  kept_row most form row it spelled short =
      let key : Spells (Canon row.key) (key_of (Canon row.key)) = subst (Spells (Canon row.key)) (sym (key_back read spells row.key it.0)) (spells row.key it.0.fits it.0.sendable) in
      record { short = short; key = subst (λ (l : List ℕ). Spells l (key_of l)) (sym spelled) key; present = it.1.present; fits = it.1.fits }
