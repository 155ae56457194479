-- Items in the order of their keys.
use Rattle.std.proofs.Common.{◌≡◌, suc, ◌+◌, ◌≤◌, Bool, false, List, [], ◌∷◌, ◌++◌, length, refl, sym, ap, ◌∙◌, arith, append_assoc, append-nil}
use Rattle.std.specs.List.{AllByRecursion, IsDistinct}
use Rattle.std.specs.List.Sorted.{IsStrictlySortedBy}
use Rattle.std.specs.BTreeMap.{insert_entry}
use Rattle.std.specs.Map.{keys_of}
use Rattle.std.specs.Ordering.{match_ordering}
use Rattle.std.specs.Cmp.{IsTotalOrder}
use Rattle.std.specs.declared.cmp.Ordering.{Ordering}
use Rattle.std.specs.declared.cmp.Ordering.TheVariants.{Less, Equal, Greater}
use Rattle.ig_types.proofs.AscendingLemmas.{Before, more_from_less, less_from_more, before_all}
use Rattle.ig_fields.specs.FieldBytes.{FitsBoth}
use Rattle.ig_meta.specs.KeyOrder.{with_entries, in_key_order}

module _ {K X : Type 0} (R : K → K → Ordering) (o : IsTotalOrder R) where
  abbrev Ascend : List (K × X) → Type 0
  Ascend es = IsStrictlySortedBy R (keys_of es)

  abbrev First : K → List (K × X) → Type 0
  First q es = Before R q (keys_of es)

  -- ---- an item is put in its place

  abbrev put_beside : K → X → K × X → List (K × X) → Ordering → List (K × X)
  put_beside k v e es r = match_ordering r ((k, v) ∷ e ∷ es) ((e.0, v) ∷ es) (e ∷ insert_entry R es k v)

  first_stays : (q k : K) (v : X) (es : List (K × X)) → First q es → R q k ≡ Less → First q (insert_entry R es k v)
  first_stays q k v [] h less = (less, tt)
  first_stays q k v (e ∷ es) h less = by_order (first_stays q k v es h.1 less) (R k e.0) where
    by_order : First q (insert_entry R es k v) → (r : Ordering) → First q (put_beside k v e es r)
    by_order later Less = (less, h)
    by_order later Equal = h
    by_order later Greater = (h.0, later)

  put_ascends : (k : K) (v : X) (es : List (K × X)) → Ascend es → Ascend (insert_entry R es k v)
  unfolding IsStrictlySortedBy
  put_ascends k v [] h = (tt, tt)
  put_ascends k v (e ∷ es) h = by_order (put_ascends k v es h.1) (R k e.0) refl where
    by_order : Ascend (insert_entry R es k v) → (r : Ordering) → R k e.0 ≡ r → Ascend (put_beside k v e es r)
    by_order later Less less = ((less, before_all R o k e.0 (keys_of es) less h.0), h)
    by_order later Equal tied = h
    by_order later Greater more = (first_stays e.0 k v es h.0 (less_from_more R o k e.0 more), later)

  all_ascend : (es xs : List (K × X)) → Ascend es → Ascend (with_entries R es xs)
  all_ascend es [] h = h
  all_ascend es (x ∷ xs) h = all_ascend (insert_entry R es x.0 x.1) xs (put_ascends x.0 x.1 es h)

  -- items in the order of their keys ascend
  pub ordered_ascend : (xs : List (K × X)) → Ascend (in_key_order R xs)
  unfolding IsStrictlySortedBy
  ordered_ascend xs = all_ascend [] xs tt

  -- ---- items that ascend stay as they are

  abbrev Above : K → List (K × X) → Type 0
  Above q es = AllByRecursion (λ y. R q y ≡ Greater) (keys_of es)

  put_last : (k : K) (v : X) (es : List (K × X)) → Above k es → insert_entry R es k v ≡ es ++ (k, v) ∷ []
  put_last k v [] h = refl
  put_last k v (e ∷ es) h = ap (put_beside k v e es) h.0 ∙ ap (λ (l : List (K × X)). e ∷ l) (put_last k v es h.1)

  above_more : (q : K) (x : K × X) (es : List (K × X)) → Above q es → R q x.0 ≡ Greater → Above q (es ++ x ∷ [])
  above_more q x [] h more = (more, tt)
  above_more q x (e ∷ es) h more = (h.0, above_more q x es h.1 more)

  abbrev AllAbove : List (K × X) → List (K × X) → Type 0
  AllAbove es xs = AllByRecursion (λ q. Above q es) (keys_of xs)

  all_above_more : (x : K × X) (es xs : List (K × X)) → AllAbove es xs → First x.0 xs → AllAbove (es ++ x ∷ []) xs
  all_above_more x es [] h first = tt
  all_above_more x es (y ∷ ys) h first = (above_more y.0 x es h.0 (more_from_less R o x.0 y.0 first.0), all_above_more x es ys h.1 first.1)

  put_after : (es xs : List (K × X)) → AllAbove es xs → Ascend xs → with_entries R es xs ≡ es ++ xs
  unfolding IsStrictlySortedBy
  put_after es [] above h = sym (append-nil es)
  put_after es (x ∷ xs) above h =
      ap (λ (l : List (K × X)). with_entries R l xs) (put_last x.0 x.1 es above.0)
      ∙ put_after (es ++ x ∷ []) xs (all_above_more x es xs above.1 h.0) h.1
      ∙ append_assoc es (x ∷ []) xs

  above_none : (xs : List (K × X)) → AllAbove [] xs
  above_none [] = tt
  above_none (x ∷ xs) = (tt, above_none xs)

  pub ascending_stay : (xs : List (K × X)) → Ascend xs → in_key_order R xs ≡ xs
  ascending_stay xs h = put_after [] xs (above_none xs) h

  -- ---- what holds of the items holds of them in order

  module _ (P : K → Type 0) (Q : X → Type 0) where
    abbrev Hold : List (K × X) → Type 0
    Hold xs = AllByRecursion (FitsBoth P Q) xs

    put_holds : (k : K) (v : X) (es : List (K × X)) → Hold es → P k → Q v → Hold (insert_entry R es k v)
    put_holds k v [] h p q = ((p, q), tt)
    put_holds k v (e ∷ es) h p q = by_order (put_holds k v es h.1 p q) (R k e.0) where
      by_order : Hold (insert_entry R es k v) → (r : Ordering) → Hold (put_beside k v e es r)
      by_order later Less = ((p, q), h)
      by_order later Equal = ((h.0.0, q), h.1)
      by_order later Greater = (h.0, later)

    all_hold : (es xs : List (K × X)) → Hold es → Hold xs → Hold (with_entries R es xs)
    all_hold es [] h each = h
    all_hold es (x ∷ xs) h each = all_hold (insert_entry R es x.0 x.1) xs (put_holds x.0 x.1 es h each.0.0 each.0.1) each.1

    pub ordered_hold : (xs : List (K × X)) → Hold xs → Hold (in_key_order R xs)
    ordered_hold xs h = all_hold [] xs tt h

  put_longer : (k : K) (v : X) (es : List (K × X)) → length (insert_entry R es k v) ≤ suc (length es)
  put_longer k v [] = omega arith
  put_longer k v (e ∷ es) = by_order (put_longer k v es) (R k e.0) where
    by_order : length (insert_entry R es k v) ≤ suc (length es) → (r : Ordering) → length (put_beside k v e es r) ≤ suc (suc (length es))
    by_order more Less = omega arith
    by_order more Equal = omega arith
    by_order more Greater = omega (arith, more)

  all_longer : (es xs : List (K × X)) → length (with_entries R es xs) ≤ length es + length xs
  all_longer es [] = omega arith
  all_longer es (x ∷ xs) =
      let one = put_longer x.0 x.1 es in
      let more = all_longer (insert_entry R es x.0 x.1) xs in
      omega (arith, one, more)

  pub ordered_longer : (xs : List (K × X)) → length (in_key_order R xs) ≤ length xs
  ordered_longer xs = let all = all_longer [] xs in omega (arith, all)

-- ---- the same test

each_same : {K : Type 0} (same other : K → K → Bool) → ((x y : K) → same x y ≡ other x y) → (x : K) (xs : List K) → AllByRecursion (λ y. same x y ≡ false) xs → AllByRecursion (λ y. other x y ≡ false) xs
each_same same other is x [] h = tt
each_same same other is x (y ∷ ys) h = (sym (is x y) ∙ h.0, each_same same other is x ys h.1)

pub distinct_same : {K : Type 0} (same other : K → K → Bool) → ((x y : K) → same x y ≡ other x y) → (xs : List K) → IsDistinct same xs → IsDistinct other xs
unfolding IsDistinct
distinct_same same other is [] h = tt
distinct_same same other is (x ∷ xs) h = (each_same same other is x xs h.0, distinct_same same other is xs h.1)
