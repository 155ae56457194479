-- std's ordered maps as the finite maps that contracts see.
use Rattle.std.proofs.Common.{◌≡◌, true, false, cond, List, [], ◌∷◌, Option, Some, None, Contains, inl, inr, refl, sym, ap, subst, ◌∙◌}
use Rattle.std.specs.BTreeMap.{is_at}
use Rattle.std.specs.List.Sorted.{IsStrictlySortedBy}
use Rattle.std.specs.Map.{lookup, keys_of, values_of}
use Rattle.std.specs.Ordering.{is_eq}
use Rattle.std.specs.Cmp.{IsTotalOrder, eq_by_cmp_equiv}
use Rattle.std.specs.FinMap.{FinMap, get, insert, find, from_entries, get-from_entries, get-insert, same_map, put, entries, entries-insert, empty, len-entries, len-empty}
use Rattle.std.specs.FinMap.Entries.{by_order}
use Rattle.std.specs.declared.cmp.Ordering.{Ordering}
use Rattle.std.specs.declared.cmp.Ordering.TheVariants.{Less, Equal, Greater}
use Rattle.std.proofs.lemmas.Map.Lookups.{CmpEqualImpliesEq}
use Rattle.std.proofs.lemmas.Cmp.{tied_itself}
use Rattle.std.proofs.lemmas.List.{nil_from_length}
use Rattle.ig_types.proofs.AscendingLemmas.{Before, contains_nil, contains_first, contains_later, contains_cases, sorted_first, sorted_later, tied_before_all}

module _ {K X : Type 0} (R : K → K → Ordering) where
  find_is_lookup : (es : List (K × X)) (q : K) → find R q es ≡ lookup (is_at (R q)) es
  find_is_lookup [] q = refl
  find_is_lookup (e ∷ es) q = ap (cond (is_at (R q) e.0) (Some e.1)) (find_is_lookup es q)

module _ {K X : Type 0} (R : K → K → Ordering) (o : IsTotalOrder R) where
  -- a look-up in the map is a look-up among the entries
  pub get_entries : (es : List (K × X)) (q : K) → get (from_entries {R = R} es) q ≡ lookup (is_at (R q)) es
  get_entries es q = get-from_entries o es q ∙ find_is_lookup R es q

  -- entries that differ at one key alone make maps of which one is the other with an insert at this key
  pub inserted : CmpEqualImpliesEq R → (es fs : List (K × X)) (k : K) (v : X)
      → ((q : K) → lookup (is_at (R q)) fs ≡ cond (is_at (R k) q) (Some v) (lookup (is_at (R q)) es))
      → from_entries {R = R} fs ≡ insert (from_entries es) k v
  inserted exact es fs k v updates = same_map o exact _ _ (λ q.
      get_entries fs q ∙ updates q ∙ ap (λ b. cond b (Some v) (lookup (is_at (R q)) es)) ((eq_by_cmp_equiv o).symm k q)
      ∙ sym (get-insert o (from_entries es) k v q ∙ ap (cond (is_at (R q) k) (Some v)) (get_entries es q)))

-- the answer of a look-up among the entries is that of the map that they make
pub get_answer : {K X : Type 0} (R : K → K → Ordering) (o : IsTotalOrder R) (es : List (K × X)) (m : FinMap R X) (answer : Option X) (key q : K)
    → from_entries {R = R} es ≡ m → key ≡ q → answer ≡ lookup (is_at (R key)) es → answer ≡ get m q
get_answer R o es m answer key q is_map is_key is = is ∙ sym (get_entries R o es key) ∙ ap (λ n. get n key) is_map ∙ ap (get m) is_key

module _ {K X : Type 0} (R : K → K → Ordering) (o : IsTotalOrder R) where
  -- a key that is less than all keys isn't found among them
  not_found : (k : K) (es : List (K × X)) → Before R k (keys_of es) → lookup (is_at (R k)) es ≡ None
  not_found k [] before = refl
  not_found k (e ∷ es) before = ap (λ r. cond (is_eq r) (Some e.1) (lookup (is_at (R k)) es)) before.0 ∙ not_found k es before.1

  -- what a look-up finds among the later entries it finds among all
  pub found_later : (k : K) (v : X) (e : K × X) (es : List (K × X)) → Before R e.0 (keys_of es) → lookup (is_at (R k)) es ≡ Some v → lookup (is_at (R k)) (e ∷ es) ≡ Some v
  found_later k v e es before is = go (R k e.0) refl
    where
      go : (r : Ordering) → R k e.0 ≡ r → cond (is_eq (R k e.0)) (Some e.1) (lookup (is_at (R k)) es) ≡ Some v
      go Less at = ap (λ r. cond (is_eq r) (Some e.1) (lookup (is_at (R k)) es)) at ∙ is
      go Equal at = let none : lookup (is_at (R k)) es ≡ None = not_found k es (tied_before_all R o k e.0 (keys_of es) at before) in absurd (cc)
      go Greater at = ap (λ r. cond (is_eq r) (Some e.1) (lookup (is_at (R k)) es)) at ∙ is

  -- what a look-up finds is a value of an entry
  pub value_found : (k : K) (v : X) (es : List (K × X)) → lookup (is_at (R k)) es ≡ Some v → Contains (values_of es) v
  value_found k v [] is = absurd (cc)
  value_found k v (e ∷ es) is =
      elim (is_at (R k) e.0) as (λ b. cond b (Some e.1) (lookup (is_at (R k)) es) ≡ Some v → Contains (values_of (e ∷ es)) v) [
        | true ↦ λ f. let one : e.1 ≡ v = cc in subst (Contains (values_of (e ∷ es))) one (contains_first e.1 (values_of es))
        | false ↦ λ f. contains_later e.1 (values_of es) v (value_found k v es f)
      ] is

  -- each value of an entry is found by some key
  pub found_value : (v : X) (es : List (K × X)) → IsStrictlySortedBy R (keys_of es) → Contains (values_of es) v → (k : K) × (lookup (is_at (R k)) es ≡ Some v)
  found_value v [] sorted is_in = absurd (contains_nil v is_in)
  found_value v (e ∷ es) sorted is_in = elim (contains_cases e.1 (values_of es) v is_in) [
    | inl is ↦ (e.0, ap (λ r. cond (is_eq r) (Some e.1) (lookup (is_at (R e.0)) es)) (tied_itself o e.0) ∙ ap Some (sym is))
    | inr later ↦
        let it = found_value v es (sorted_later R e.0 (keys_of es) sorted) later in
        (it.0, found_later it.0 v e es (sorted_first R e.0 (keys_of es) sorted) it.1)
  ]

  put_first : (k : K) (v : X) (es : List (K × X)) → Before R k (keys_of es) → put R k v es ≡ (k, v) ∷ es
  put_first k v [] before = refl
  put_first k v (e ∷ es) before = ap (λ r. by_order r ((k, v) ∷ e ∷ es) ((e.0, v) ∷ es) (e ∷ put R k v es)) before.0

  -- sorted entries are the entries of the map that they make
  pub entries_from_sorted : (es : List (K × X)) → IsStrictlySortedBy R (keys_of es) → entries (from_entries {R = R} es) ≡ es
  entries_from_sorted [] sorted = nil_from_length _ (sym (len-entries (empty {X = X} {R = R})) ∙ len-empty R X)
  entries_from_sorted (e ∷ es) sorted =
      entries-insert o (from_entries es) e.0 e.1
      ∙ ap (put R e.0 e.1) (entries_from_sorted es (sorted_later R e.0 (keys_of es) sorted))
      ∙ put_first e.0 e.1 es (sorted_first R e.0 (keys_of es) sorted)
