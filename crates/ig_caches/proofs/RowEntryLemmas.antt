-- The entries of the map in which rows are kept, as rows.
use Rattle.std.proofs.Common.{◌≡◌, ℕ, suc, Bool, true, false, cond, List, [], ◌∷◌, map, length, Option, None, Some, refl, sym, ap, ◌∙◌, subst, inl, inr, option_map, is_some}
use Rattle.std.proofs.lemmas.Bool.{cases_Bool, cond-true, cond-false}
use Rattle.std.specs.Ordering.{nat_cmp, is_eq, eq_by_cmp, match_ordering}
use Rattle.std.specs.declared.cmp.Ordering.{Ordering}
use Rattle.std.specs.declared.cmp.Ordering.TheVariants.{Less, Equal, Greater}
use Rattle.std.specs.Cmp.{eq_by_cmp_equiv}
use Rattle.std.specs.Cmp.Lexicographic.{slice_cmp, nat_list_cmp_total}
use Rattle.std.specs.BTreeMap.{insert_entry, is_at}
use Rattle.std.specs.Map.{lookup, set_value, remove_entry, keys_of}
use Rattle.std.specs.List.{AllByRecursion}
use Rattle.std.specs.List.Sorted.{IsStrictlySortedBy}
use Rattle.std.specs.FinMap.Entries.{by_order}
use Rattle.std.proofs.lemmas.List.{nil_from_length}
use Rattle.std.specs.FinMap as finite
use Rattle.ig_value.specs.declared.value.Value.{Value}
use Rattle.ig_caches.specs.declared.call.Pair.{Pair}
use Rattle.ig_caches.specs.Rows.{Rows}
use Rattle.ig_caches.specs.RowEntries.{row_under, row_entry, rows_of_entries}

abbrev pub by_bytes : List ℕ → List ℕ → Ordering
by_bytes = slice_cmp nat_cmp

-- tests whether two lists of bytes tie
abbrev pub ties : List ℕ → List ℕ → Bool
ties a b = eq_by_cmp by_bytes a b

equal_from : (o : Ordering) → is_eq o ≡ true → o ≡ Equal
equal_from Less h = cc
equal_from Equal h = refl
equal_from Greater h = cc

pub exact : finite.IsAntisymmetric by_bytes
exact = finite.slice_cmp-IsAntisymmetric finite.nat_cmp-IsAntisymmetric

pub tied_same : (a b : List ℕ) → ties a b ≡ true → a ≡ b
tied_same a b h = exact a b (equal_from (by_bytes a b) h)

pub same_tied : (a b : List ℕ) → a ≡ b → ties a b ≡ true
same_tied a b e = subst (λ (l : List ℕ). ties a l ≡ true) e ((eq_by_cmp_equiv nat_list_cmp_total).refl a)

-- rows with the same answers are equal
pub same_rows : (rows others : Rows) → ((q : List ℕ) → finite.get rows q ≡ finite.get others q) → rows ≡ others
same_rows rows others same = finite.same_map nat_list_cmp_total exact rows others same

-- two tests that can't both pass come in either order
apart : {X : Type 0} (a b : Bool) (x y z : X) → (a ≡ true → b ≡ true → ⊥) → cond a x (cond b y z) ≡ cond b y (cond a x z)
apart true true x y z never = absurd (never refl refl)
apart true false x y z never = refl
apart false true x y z never = refl
apart false false x y z never = refl

again : {X : Type 0} (a : Bool) (x y z : X) → cond a x (cond a y z) ≡ cond a x z
again true x y z = refl
again false x y z = refl

module _ {K : Type 0} (bytes : K → List ℕ) where
  -- the value that a look-up of bytes among the entries finds
  abbrev pub entry_at : List ℕ → List (K × Value) → Option Value
  entry_at q entries = lookup (is_at (λ (k : K). by_bytes q (bytes k))) entries

  find_entry : (q : List ℕ) (entries : List (K × Value)) → finite.find by_bytes q (map (row_entry bytes) entries) ≡ option_map (row_under q) (entry_at q entries)
  find_entry q [] = refl
  find_entry q (e ∷ entries) = elim (cases_Bool (ties q (bytes e.0))) [
    | inl tied ↦
        cond-true (ties q (bytes e.0)) _ _ tied ∙ ap (λ (l : List ℕ). Some (row_under l e.1)) (sym (tied_same q (bytes e.0) tied))
        ∙ sym (ap (option_map (row_under q)) (cond-true (ties q (bytes e.0)) (Some e.1) (entry_at q entries) tied))
    | inr other ↦
        cond-false (ties q (bytes e.0)) _ _ other ∙ find_entry q entries
        ∙ sym (ap (option_map (row_under q)) (cond-false (ties q (bytes e.0)) (Some e.1) (entry_at q entries) other))
  ]

  -- the row under bytes is that of the value that a look-up finds
  pub get_entry : (entries : List (K × Value)) (q : List ℕ) → finite.get (rows_of_entries bytes entries) q ≡ option_map (row_under q) (entry_at q entries)
  get_entry entries q = finite.get-from_entries nat_list_cmp_total (map (row_entry bytes) entries) q ∙ find_entry q entries

  value_back : (q : List ℕ) (o : Option Value) → option_map (λ (row : Pair). row.value) (option_map (row_under q) o) ≡ o
  value_back q None = refl
  value_back q (Some v) = refl

  -- the value of the row under bytes is what a look-up finds
  pub get_value : (entries : List (K × Value)) (q : List ℕ) → option_map (λ (row : Pair). row.value) (finite.get (rows_of_entries bytes entries) q) ≡ entry_at q entries
  get_value entries q = ap (option_map (λ (row : Pair). row.value)) (get_entry entries q) ∙ value_back q (entry_at q entries)

  some_under : (q : List ℕ) (o : Option Value) → is_some (option_map (row_under q) o) ≡ is_some o
  some_under q None = refl
  some_under q (Some v) = refl

  pub has_entry : (entries : List (K × Value)) (q : List ℕ) → is_some (finite.get (rows_of_entries bytes entries) q) ≡ is_some (entry_at q entries)
  has_entry entries q = ap is_some (get_entry entries q) ∙ some_under q (entry_at q entries)

  -- a look-up by a key finds the value of the row under its bytes
  pub get_spelled : (entries : List (K × Value)) (k : K) (form : List ℕ) (found : Option Value) → bytes k ≡ form → found ≡ entry_at (bytes k) entries
      → found ≡ option_map (λ (row : Pair). row.value) (finite.get (rows_of_entries bytes entries) form)
  get_spelled entries k form found spelled is = is ∙ ap (λ q. entry_at q entries) spelled ∙ sym (get_value entries form)

  abbrev pub order : K → K → Ordering
  order a b = by_bytes (bytes a) (bytes b)

  -- ---- an entry is inserted
  entry_at-insert : (entries : List (K × Value)) (k : K) (value : Value) (q : List ℕ) → entry_at q (insert_entry order entries k value) ≡ cond (ties q (bytes k)) (Some value) (entry_at q entries)
  entry_at-insert [] k value q = refl
  entry_at-insert (e ∷ entries) k value q = by_order (entry_at-insert entries k value q) (order k e.0) refl
    where
      by_order : entry_at q (insert_entry order entries k value) ≡ cond (ties q (bytes k)) (Some value) (entry_at q entries) → (o : Ordering) → order k e.0 ≡ o
          → entry_at q (match_ordering o ((k, value) ∷ e ∷ entries) ((e.0, value) ∷ entries) (e ∷ insert_entry order entries k value)) ≡ cond (ties q (bytes k)) (Some value) (cond (ties q (bytes e.0)) (Some e.1) (entry_at q entries))
      by_order later Less at = refl
      by_order later Equal at =
          let same : bytes k ≡ bytes e.0 = exact (bytes k) (bytes e.0) at in
          ap (λ (l : List ℕ). cond (ties q l) (Some value) (entry_at q entries)) (sym same)
          ∙ sym (ap (λ (l : List ℕ). cond (ties q (bytes k)) (Some value) (cond (ties q l) (Some e.1) (entry_at q entries))) (sym same) ∙ again (ties q (bytes k)) (Some value) (Some e.1) (entry_at q entries))
      by_order later Greater at =
          ap (cond (ties q (bytes e.0)) (Some e.1)) later
          ∙ apart (ties q (bytes e.0)) (ties q (bytes k)) (Some e.1) (Some value) (entry_at q entries)
          (λ a b. let tied : is_eq (order k e.0) ≡ true = same_tied (bytes k) (bytes e.0) (sym (tied_same q (bytes k) b) ∙ tied_same q (bytes e.0) a) in cc)

  -- rows that differ at one place are rows with an insert there
  one_insert : (entries others : List (K × Value)) (form : List ℕ) (value : Value) → ((q : List ℕ) → entry_at q others ≡ cond (ties q form) (Some value) (entry_at q entries))
      → rows_of_entries bytes others ≡ finite.insert (rows_of_entries bytes entries) form (row_under form value)
  one_insert entries others form value h = same_rows _ _ (λ q.
      get_entry others q ∙ ap (option_map (row_under q)) (h q) ∙ at q
      ∙ sym (finite.get-insert nat_list_cmp_total (rows_of_entries bytes entries) form (row_under form value) q))
    where
      at : (q : List ℕ) → option_map (row_under q) (cond (ties q form) (Some value) (entry_at q entries)) ≡ cond (ties q form) (Some (row_under form value)) (finite.get (rows_of_entries bytes entries) q)
      at q = elim (cases_Bool (ties q form)) [
        | inl tied ↦
            ap (option_map (row_under q)) (cond-true (ties q form) (Some value) (entry_at q entries) tied)
            ∙ ap (λ (l : List ℕ). Some (row_under l value)) (tied_same q form tied) ∙ sym (cond-true (ties q form) _ _ tied)
        | inr other ↦
            ap (option_map (row_under q)) (cond-false (ties q form) (Some value) (entry_at q entries) other)
            ∙ sym (get_entry entries q) ∙ sym (cond-false (ties q form) _ _ other)
      ]

  pub rows_inserted : (entries others : List (K × Value)) (k : K) (form : List ℕ) (value : Value) → bytes k ≡ form → others ≡ insert_entry order entries k value
      → rows_of_entries bytes others ≡ finite.insert (rows_of_entries bytes entries) form (row_under form value)
  rows_inserted entries others k form value spelled is =
      ap (rows_of_entries bytes) is ∙ one_insert entries (insert_entry order entries k value) form value (λ q.
      entry_at-insert entries k value q ∙ ap (λ (l : List ℕ). cond (ties q l) (Some value) (entry_at q entries)) spelled)

  -- ---- the value of an entry that stands is set
  entry_at-set : (entries : List (K × Value)) (form : List ℕ) (value was : Value) (q : List ℕ) → entry_at form entries ≡ Some was
      → entry_at q (set_value (is_at (λ (k : K). by_bytes form (bytes k))) entries value) ≡ cond (ties q form) (Some value) (entry_at q entries)
  entry_at-set [] form value was q stands = absurd (cc)
  entry_at-set (e ∷ entries) form value was q stands = elim (cases_Bool (ties form (bytes e.0))) [
    | inl tied ↦
        let same : form ≡ bytes e.0 = tied_same form (bytes e.0) tied in
        ap (entry_at q) (cond-true (ties form (bytes e.0)) _ _ tied)
        ∙ ap (λ (l : List ℕ). cond (ties q l) (Some value) (entry_at q entries)) (sym same)
        ∙ sym (ap (λ (l : List ℕ). cond (ties q form) (Some value) (cond (ties q l) (Some e.1) (entry_at q entries))) (sym same)
        ∙ again (ties q form) (Some value) (Some e.1) (entry_at q entries))
    | inr other ↦
        let later : entry_at form entries ≡ Some was = sym (cond-false (ties form (bytes e.0)) (Some e.1) (entry_at form entries) other) ∙ stands in
        ap (entry_at q) (cond-false (ties form (bytes e.0)) _ _ other)
        ∙ ap (cond (ties q (bytes e.0)) (Some e.1)) (entry_at-set entries form value was q later)
        ∙ apart (ties q (bytes e.0)) (ties q form) (Some e.1) (Some value) (entry_at q entries)
        (λ a b. let tied : ties form (bytes e.0) ≡ true = same_tied form (bytes e.0) (sym (tied_same q form b) ∙ tied_same q (bytes e.0) a) in cc)
  ]

  pub rows_set : (entries others : List (K × Value)) (form : List ℕ) (value was : Value) → entry_at form entries ≡ Some was
      → others ≡ set_value (is_at (λ (k : K). by_bytes form (bytes k))) entries value → rows_of_entries bytes others ≡ finite.insert (rows_of_entries bytes entries) form (row_under form value)
  rows_set entries others form value was stands is =
      ap (rows_of_entries bytes) is ∙ one_insert entries (set_value (is_at (λ (k : K). by_bytes form (bytes k))) entries value) form value (λ q. entry_at-set entries form value was q stands)

  -- ---- an entry is removed
  entry_at-remove : (entries : List (K × Value)) (form q : List ℕ) → ties q form ≡ false → entry_at q (remove_entry (is_at (λ (k : K). by_bytes form (bytes k))) entries) ≡ entry_at q entries
  entry_at-remove [] form q other = refl
  entry_at-remove (e ∷ entries) form q other = elim (cases_Bool (ties form (bytes e.0))) [
    | inl tied ↦
        let same : form ≡ bytes e.0 = tied_same form (bytes e.0) tied in
        let not_here : ties q (bytes e.0) ≡ false = subst (λ (l : List ℕ). ties q l ≡ false) same other in
        ap (entry_at q) (cond-true (ties form (bytes e.0)) _ _ tied) ∙ sym (cond-false (ties q (bytes e.0)) _ _ not_here)
    | inr later ↦
        ap (entry_at q) (cond-false (ties form (bytes e.0)) _ _ later)
        ∙ ap (cond (ties q (bytes e.0)) (Some e.1)) (entry_at-remove entries form q other)
  ]

  pub rows_removed : (entries others : List (K × Value)) (form : List ℕ) → entry_at form others ≡ None
      → others ≡ remove_entry (is_at (λ (k : K). by_bytes form (bytes k))) entries → rows_of_entries bytes others ≡ finite.remove (rows_of_entries bytes entries) form
  rows_removed entries others form gone is = same_rows _ _ (λ q.
      get_entry others q ∙ at q ∙ sym (finite.get-remove nat_list_cmp_total (rows_of_entries bytes entries) form q))
    where
      at : (q : List ℕ) → option_map (row_under q) (entry_at q others) ≡ cond (ties q form) None (finite.get (rows_of_entries bytes entries) q)
      at q = elim (cases_Bool (ties q form)) [
        | inl tied ↦
            ap (λ (l : List ℕ). option_map (row_under q) (entry_at l others)) (tied_same q form tied) ∙ ap (option_map (row_under q)) gone ∙ sym (cond-true (ties q form) _ _ tied)
        | inr other ↦
            ap (option_map (row_under q)) (ap (entry_at q) is ∙ entry_at-remove entries form q other) ∙ sym (get_entry entries q) ∙ sym (cond-false (ties q form) _ _ other)
      ]

  -- ---- sorted entries
  put_first : (k : K) (value : Value) (entries : List (K × Value)) → AllByRecursion (λ q. order k q ≡ Less) (keys_of entries)
      → finite.put by_bytes (bytes k) (row_under (bytes k) value) (map (row_entry bytes) entries) ≡ (bytes k, row_under (bytes k) value) ∷ map (row_entry bytes) entries
  put_first k value [] before = refl
  put_first k value (e ∷ entries) before =
      let row : Pair = row_under (bytes k) value in
      ap (λ r. by_order r ((bytes k, row) ∷ row_entry bytes e ∷ map (row_entry bytes) entries) ((bytes e.0, row) ∷ map (row_entry bytes) entries) (row_entry bytes e ∷ finite.put by_bytes (bytes k) row (map (row_entry bytes) entries))) before.0

  -- the entries of the rows are the sorted entries that they are made of
  pub sorted_entries : (entries : List (K × Value)) → IsStrictlySortedBy order (keys_of entries) → finite.entries (rows_of_entries bytes entries) ≡ map (row_entry bytes) entries
  unfolding IsStrictlySortedBy
  sorted_entries [] sorted = nil_from_length _ (sym (finite.len-entries (finite.empty {X = Pair} {R = by_bytes})) ∙ finite.len-empty by_bytes Pair)
  sorted_entries (e ∷ entries) sorted =
      finite.entries-insert nat_list_cmp_total (rows_of_entries bytes entries) (bytes e.0) (row_under (bytes e.0) e.1)
      ∙ ap (finite.put by_bytes (bytes e.0) (row_under (bytes e.0) e.1)) (sorted_entries entries sorted.1)
      ∙ put_first e.0 e.1 entries sorted.0

  length_rows : (entries : List (K × Value)) → length (map (row_entry bytes) entries) ≡ length entries
  length_rows [] = refl
  length_rows (e ∷ entries) = ap (λ n. suc n) (length_rows entries)

  -- the row of an entry
  abbrev pub row_in : K × Value → Pair
  row_in entry = row_under (bytes entry.0) entry.1

  rows_values : (entries : List (K × Value)) → map (λ (e : List ℕ × Pair). e.1) (map (row_entry bytes) entries) ≡ map row_in entries
  rows_values [] = refl
  rows_values (e ∷ entries) = ap (λ rows. row_in e ∷ rows) (rows_values entries)

  pub len_entries : (entries : List (K × Value)) → IsStrictlySortedBy order (keys_of entries) → finite.len (rows_of_entries bytes entries) ≡ length entries
  len_entries entries sorted = finite.len-entries (rows_of_entries bytes entries) ∙ ap length (sorted_entries entries sorted) ∙ length_rows entries

  pub all_entries : (entries : List (K × Value)) → IsStrictlySortedBy order (keys_of entries) → finite.values (rows_of_entries bytes entries) ≡ map row_in entries
  all_entries entries sorted = ap (map (λ (e : List ℕ × Pair). e.1)) (sorted_entries entries sorted) ∙ rows_values entries
