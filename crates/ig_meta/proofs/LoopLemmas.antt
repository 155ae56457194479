-- Reading items with keys one after the other into an ordered map, as a loop does.
use Rattle.std.proofs.Common.{◌≡◌, ℕ, zero, suc, Bool, true, false, not, cond, List, [], ◌∷◌, length, Option, None, Some, Ok, Err, refl, sym, ap, ◌∙◌}
use Rattle.std.specs.Prelude.{◌&&◌, is_some}
use Rattle.std.specs.BTreeMap.{insert_entry, is_at}
use Rattle.std.specs.Map.{keys_of, lookup}
use Rattle.std.specs.Ordering.{match_ordering, is_eq, eq_by_cmp}
use Rattle.std.specs.Cmp.{IsTotalOrder, eq_by_cmp_equiv}
use Rattle.std.specs.declared.cmp.Ordering.{Ordering}
use Rattle.std.specs.declared.cmp.Ordering.TheVariants.{Less, Equal, Greater}
use Rattle.ig_wire.specs.declared.ReadError.{ReadError}
use Rattle.ig_wire.specs.declared.ReadError.TheVariants as error
use Rattle.ig_wire.specs.Fields.{Field, ◌>>=◌}
use Rattle.ig_wire.specs.ReadAnswers.{Fails}
use Rattle.ig_fields.specs.StopsFields.{is_new}
use Rattle.ig_fields.specs.ReadingFields.{mapped_of, if_passes, tested_of, each_new_of}
use Rattle.ig_meta.specs.KeyOrder.{with_entries}

-- ---- reading depends on which keys are new alone

module _ {A B : Type 0} (same : A → A → Bool) (P : List ℕ → Field A) (Q : List ℕ → Field B) where
  abbrev AreAsNew : List A → List A → Type 0
  AreAsNew xs ys = (q : A) → is_new same xs q ≡ is_new same ys q

  tested_new : (left : ℕ) (xs ys : List A) → AreAsNew xs ys → (r : Field A) → (r >>= if_passes left (is_new same xs)) ≡ (r >>= if_passes left (is_new same ys))
  tested_new left xs ys new (Ok x) = rw (new x.0) refl
  tested_new left xs ys new (Err stop) = refl

  abbrev Later : ℕ → List A → List A → Type 0
  Later n xs ys = (x : A) (t : List ℕ) → each_new_of same P Q (x ∷ xs) n t ≡ each_new_of same P Q (x ∷ ys) n t

  abbrev after_key : List A → ℕ → A → Field B → Field (List (A × B))
  after_key earlier n x r = r >>= λ y. each_new_of same P Q (x ∷ earlier) n y.1 >>= λ zs. Ok ((x, y.0) ∷ zs.0, zs.1)

  abbrev after_test : List A → ℕ → Field A → Field (List (A × B))
  after_test earlier n r = r >>= λ x. after_key earlier n x.0 (Q x.1)

  pub each_new : (n : ℕ) (xs ys : List A) (s : List ℕ) → AreAsNew xs ys → each_new_of same P Q xs n s ≡ each_new_of same P Q ys n s
  each_new zero xs ys s new = refl
  each_new (suc n) xs ys s new = rw (tested_new (length s) xs ys new (P s)) (by_key (λ x t. each_new n (x ∷ xs) (x ∷ ys) t (λ q. ap (λ (b : Bool). not (same x q) && b) (new q))) (tested_of P (is_new same ys) s)) where
    by_rest : Later n xs ys → (x : A) (r : Field B) → after_key xs n x r ≡ after_key ys n x r
    by_rest later x (Ok y) = rw (later x y.1) refl
    by_rest later x (Err left) = refl

    by_key : Later n xs ys → (r : Field A) → after_test xs n r ≡ after_test ys n r
    by_key later (Ok x) = by_rest later x.0 (Q x.1)
    by_key later (Err left) = refl

-- ---- the keys of a map

swapped : (a b c : Bool) → (a && (b && c)) ≡ (b && (a && c))
swapped true b c = refl
swapped false true c = refl
swapped false false c = refl

-- what is read into a map of these entries
abbrev pub read_into : {K X : Type 0} → (K → K → Ordering) → (List ℕ → Field K) → (List ℕ → Field X) → List (K × X) → ℕ → List ℕ → Field (List (K × X))
read_into R P Q es n s = mapped_of (with_entries R es) (each_new_of (eq_by_cmp R) P Q (keys_of es) n s)

module _ {K X : Type 0} (R : K → K → Ordering) (o : IsTotalOrder R) where
  abbrev IsAbsent : K → List (K × X) → Type 0
  IsAbsent k es = lookup (is_at (R k)) es ≡ None

  abbrev new_key : List (K × X) → K → Bool
  new_key es q = is_new (eq_by_cmp R) (keys_of es) q

  -- a key is new if a look-up doesn't find it
  pub new_is : (k : K) (es : List (K × X)) → new_key es k ≡ not (is_some (lookup (is_at (R k)) es))
  new_is k [] = refl
  new_is k (e ∷ es) = rw ((eq_by_cmp_equiv o).symm e.0 k, new_is k es) (by_test (is_eq (R k e.0))) where
    by_test : (b : Bool) → (not b && not (is_some (lookup (is_at (R k)) es))) ≡ not (is_some (cond b (Some e.1) (lookup (is_at (R k)) es)))
    by_test true = refl
    by_test false = refl

  abbrev put_beside : K → X → K × X → List (K × X) → Ordering → List (K × X)
  put_beside k v e es r = match_ordering r ((k, v) ∷ e ∷ es) ((e.0, v) ∷ es) (e ∷ insert_entry R es k v)

  -- after a put, what isn't equal to the key and was new is new
  pub new_after : (k : K) (v : X) (es : List (K × X)) → IsAbsent k es → (q : K) → (not (eq_by_cmp R k q) && new_key es q) ≡ new_key (insert_entry R es k v) q
  new_after k v [] absent q = refl
  new_after k v (e ∷ es) absent q = by_order (λ none. new_after k v es none q) (R k e.0) absent where
    by_order : (IsAbsent k es → (not (eq_by_cmp R k q) && new_key es q) ≡ new_key (insert_entry R es k v) q) → (r : Ordering) → cond (is_eq r) (Some e.1) (lookup (is_at (R k)) es) ≡ None → (not (eq_by_cmp R k q) && new_key (e ∷ es) q) ≡ new_key (put_beside k v e es r) q
    by_order later Less none = refl
    by_order later Equal found = absurd cc
    by_order later Greater none =
        swapped (not (eq_by_cmp R k q)) (not (eq_by_cmp R e.0 q)) (new_key es q)
        ∙ ap (λ (b : Bool). not (eq_by_cmp R e.0 q) && b) (later none)

  -- ---- one more item

  module _ (P : List ℕ → Field K) (Q : List ℕ → Field X) where
    abbrev Reads : List (K × X) → ℕ → List ℕ → Field (List (K × X))
    Reads es n s = read_into R P Q es n s

    item_put : (es : List (K × X)) (k : K) (v : X) (r : Field (List (K × X))) → mapped_of (with_entries R es) (r >>= λ xs. Ok ((k, v) ∷ xs.0, xs.1)) ≡ mapped_of (with_entries R (insert_entry R es k v)) r
    item_put es k v (Ok xs) = refl
    item_put es k v (Err left) = refl

    absent_from : (k : K) (es : List (K × X)) → false ≡ is_some (lookup (is_at (R k)) es) → IsAbsent k es
    absent_from k es e = by_answer (lookup (is_at (R k)) es) e where
      by_answer : (a : Option X) → false ≡ is_some a → a ≡ None
      by_answer None e = refl
      by_answer (Some x) e = absurd cc

    -- an item with a new key was read
    pub one_put : (es fs : List (K × X)) (left left' : ℕ) (s : List ℕ) (k : K) (t : List ℕ) (v : X) (u : List ℕ) (total : Field (List (K × X))) → left ≡ suc left' → P s ≡ Ok (k, t) → false ≡ is_some (lookup (is_at (R k)) es)
        → Q t ≡ Ok (v, u) → fs ≡ insert_entry R es k v → Reads es left s ≡ total → Reads fs left' u ≡ total
    one_put es fs left left' s k t v u total count key absent item put so_far =
        let none : IsAbsent k es = absent_from k es absent in
        let new : new_key es k ≡ true = new_is k es ∙ ap (λ (b : Bool). not b) (sym absent) in
        let read : Reads es left s ≡ mapped_of (with_entries R es) (each_new_of (eq_by_cmp R) P Q (k ∷ keys_of es) left' u >>= λ xs. Ok ((k, v) ∷ xs.0, xs.1)) = rw (count, key, new, item) refl in
        let moved : each_new_of (eq_by_cmp R) P Q (k ∷ keys_of es) left' u ≡ each_new_of (eq_by_cmp R) P Q (keys_of (insert_entry R es k v)) left' u =
        each_new (eq_by_cmp R) P Q left' (k ∷ keys_of es) (keys_of (insert_entry R es k v)) u (new_after k v es none) in
        ap (λ (l : List (K × X)). Reads l left' u) put
        ∙ ap (mapped_of (with_entries R (insert_entry R es k v))) (sym moved)
        ∙ sym (item_put es k v (each_new_of (eq_by_cmp R) P Q (k ∷ keys_of es) left' u))
        ∙ sym read ∙ so_far

    -- a key could not be read
    pub key_failed : (e : ReadError) (es : List (K × X)) (left left' : ℕ) (s : List ℕ) (total : Field (List (K × X))) → left ≡ suc left' → Fails e (P s) → Reads es left s ≡ total → Fails e total
    key_failed error.NoMemory es left left' s total count fails so_far = tt
    key_failed (error.Stopped stop) es left left' s total count fails so_far =
        let read : Reads es left s ≡ Err stop.left = rw (count, fails) refl in
        sym so_far ∙ read

    -- a key was there already
    pub key_repeated : (es : List (K × X)) (left left' : ℕ) (s : List ℕ) (k : K) (t : List ℕ) (total : Field (List (K × X))) → left ≡ suc left' → P s ≡ Ok (k, t) → true ≡ is_some (lookup (is_at (R k)) es)
        → Reads es left s ≡ total → total ≡ Err (length s)
    key_repeated es left left' s k t total count key found so_far =
        let old : new_key es k ≡ false = new_is k es ∙ ap (λ (b : Bool). not b) (sym found) in
        let read : Reads es left s ≡ Err (length s) = rw (count, key, old) refl in
        sym so_far ∙ read

    -- what follows a new key could not be read
    pub rest_failed : (e : ReadError) (es : List (K × X)) (left left' : ℕ) (s : List ℕ) (k : K) (t : List ℕ) (total : Field (List (K × X))) → left ≡ suc left' → P s ≡ Ok (k, t) → false ≡ is_some (lookup (is_at (R k)) es)
        → Fails e (Q t) → Reads es left s ≡ total → Fails e total
    rest_failed error.NoMemory es left left' s k t total count key absent fails so_far = tt
    rest_failed (error.Stopped stop) es left left' s k t total count key absent fails so_far =
        let new : new_key es k ≡ true = new_is k es ∙ ap (λ (b : Bool). not b) (sym absent) in
        let read : Reads es left s ≡ Err stop.left = rw (count, key, new, fails) refl in
        sym so_far ∙ read

    -- none is left
    pub all_put : (es : List (K × X)) (left : ℕ) (s : List ℕ) (total : Field (List (K × X))) → left ≡ 0 → Reads es left s ≡ total → total ≡ Ok (es, s)
    all_put es left s total count so_far =
        let read : Reads es left s ≡ Ok (es, s) = rw count refl in
        sym so_far ∙ read
