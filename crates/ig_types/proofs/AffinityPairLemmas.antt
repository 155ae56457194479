-- The list of affinity pairs holds exactly the affinity pairs of the registry, by ascending type identifier.
use Rattle.std.proofs.Common.{◌≡◌, ◌↔◌, ℕ, ℤ, true, false, cond, List, [], ◌∷◌, ◌++◌, Option, Some, None, Contains, filter_map, option_map, option_and_then, map, inl, inr, refl, sym, ap, subst, ◌∙◌, append_assoc}
use Rattle.std.specs.List.{AllByRecursion, cons_option}
use Rattle.std.specs.List.Sorted.{IsStrictlySortedBy}
use Rattle.std.specs.BTreeMap.{is_at}
use Rattle.std.specs.Map.{lookup, keys_of, values_of}
use Rattle.std.specs.Ordering.{nat_cmp, int_cmp, is_eq}
use Rattle.std.specs.Cmp.Lexicographic.{slice_cmp}
use Rattle.std.specs.Cmp.{int_cmp_total}
use Rattle.std.specs.FinMap.{get, entries, from_entries}
use Rattle.std.specs.declared.cmp.Ordering.TheVariants.{Less, Equal}
use Rattle.std.proofs.lemmas.Cmp.{tied_itself}
use Rattle.ig_types.specs.declared.meta.FieldMeta.{FieldMeta}
use Rattle.ig_types.specs.declared.meta.TypeMeta.{TypeMeta}
use Rattle.ig_types.specs.IsInOrder.{IsInOrder, by_field}
use Rattle.ig_types.specs.Join.{same_name}
use Rattle.ig_types.specs.MemberLaws.{by_field_total}
use Rattle.ig_types.proofs.NameLemmas.{same_name_exact}
use Rattle.ig_types.specs.Registered.{Registered, IsWellFormed}
use Rattle.ig_types.specs.AffinityPair.{affinity_pair, field_named, affinity_pairs_of, by_type, IsAffinityPair}
use Rattle.ig_types.proofs.AscendingLemmas.{Before, contains_nil, contains_first, contains_later, contains_cases, sorted_first, sorted_later, sorted_nil, sorted_cons}
use Rattle.ig_types.proofs.MapLemmas.{get_entries, value_found, found_value, found_later, entries_from_sorted}
use Rattle.ig_types.proofs.MemberLemmas.{one_of_key}
use Rattle.ig_types.proofs.DifferenceLemmas.{find_none, find_some}

-- ---- one step of the loop over the types
module _ {X Y : Type 0} (f : X → Option Y) (out : List Y) (whole : List Y) (s t : List X) (x : X) (is_s : s ≡ x ∷ t) (so_far : out ++ filter_map f s ≡ whole) where
  pub pairs_more : (new : List Y) (y : Y) → Some y ≡ f x → new ≡ out ++ y ∷ [] → new ++ filter_map f t ≡ whole
  pairs_more new y is is_new =
      ap (λ zs. zs ++ filter_map f t) is_new ∙ append_assoc out (y ∷ []) (filter_map f t)
      ∙ ap (λ o. out ++ cons_option o (filter_map f t)) is ∙ sym (ap (λ zs. out ++ filter_map f zs) is_s) ∙ so_far

  pub pairs_skip : None ≡ f x → out ++ filter_map f t ≡ whole
  pairs_skip is = ap (λ o. out ++ cons_option o (filter_map f t)) is ∙ sym (ap (λ zs. out ++ filter_map f zs) is_s) ∙ so_far

-- ---- what a filtered list contains
module _ {X Y : Type 0} (f : X → Option Y) where
  in_cons_option : (o : Option Y) (ys : List Y) (y : Y) → Contains ys y → Contains (cons_option o ys) y
  in_cons_option None ys y is_in = is_in
  in_cons_option (Some w) ys y is_in = contains_later w ys y is_in

  filtered : (xs : List X) (x : X) (y : Y) → Contains xs x → f x ≡ Some y → Contains (filter_map f xs) y
  filtered [] x y is_in is = absurd (contains_nil x is_in)
  filtered (z ∷ zs) x y is_in is = elim (contains_cases z zs x is_in) [
    | inl e ↦
        let at_z : Some y ≡ f z = sym (sym (ap f e) ∙ is) in
        subst (λ o. Contains (cons_option o (filter_map f zs)) y) at_z (contains_first y (filter_map f zs))
    | inr later ↦ in_cons_option (f z) (filter_map f zs) y (filtered zs x y later is)
  ]

  unfiltered : (xs : List X) (y : Y) → Contains (filter_map f xs) y → (x : X) × Contains xs x × (f x ≡ Some y)
  unfiltered [] y is_in = absurd (contains_nil y is_in)
  unfiltered (z ∷ zs) y is_in =
      let later : Contains (filter_map f zs) y → (x : X) × Contains (z ∷ zs) x × (f x ≡ Some y) =
      λ h. let it = unfiltered zs y h in (it.0, contains_later z zs it.0 it.1, it.2) in
      elim (f z) as (λ o. f z ≡ o → Contains (cons_option o (filter_map f zs)) y → (x : X) × Contains (z ∷ zs) x × (f x ≡ Some y)) [
        | None ↦ λ is h. later h
        | Some w ↦ λ is h. elim (contains_cases w (filter_map f zs) y h) [
          | inl e ↦ (z, contains_first z zs, is ∙ ap Some (sym e))
          | inr in_rest ↦ later in_rest
        ]
      ] refl is_in

  each_filtered : (P : X → Type 0) (Q : Y → Type 0) → ((x : X) (y : Y) → P x → f x ≡ Some y → Q y) → (xs : List X) → AllByRecursion P xs → AllByRecursion Q (filter_map f xs)
  each_filtered P Q there [] all = tt
  each_filtered P Q there (x ∷ xs) all =
      let rest : AllByRecursion Q (filter_map f xs) = each_filtered P Q there xs all.1 in
      elim (f x) as (λ o. f x ≡ o → AllByRecursion Q (cons_option o (filter_map f xs))) [
        | None ↦ λ is. rest
        | Some y ↦ λ is. (there x y all.0 is, rest)
      ] refl

-- ---- the affinity pair of a type
named_by : (t : TypeMeta) (id field : ℤ) → affinity_pair t ≡ Some (id, field) → (t.type_id ≡ id) × ((f : FieldMeta) × Contains t.fields f × (t.affinity ≡ Some f.name) × (f.id ≡ field))
named_by t id field is = at_key t.affinity refl is
  where
    at_field : (key : List ℕ) (o : Option FieldMeta) → t.affinity ≡ Some key → field_named t.fields key ≡ o → option_map {U = ℤ × ℤ} (λ (f : FieldMeta). (t.type_id, f.id)) o ≡ Some (id, field)
        → (t.type_id ≡ id) × ((f : FieldMeta) × Contains t.fields f × (t.affinity ≡ Some f.name) × (f.id ≡ field))
    at_field key None is_key found e = absurd (cc)
    at_field key (Some f) is_key found e =
        let it = find_some (λ (x : FieldMeta). same_name x.name key) t.fields f found in
        let name : f.name ≡ key = (same_name_exact f.name key).0 it.1 in
        let pair : ◌≡◌ {A = ℤ × ℤ} (t.type_id, f.id) (id, field) = cc in
        (ap (λ (p : ℤ × ℤ). p.0) pair, (f, it.0, is_key ∙ ap Some (sym name), ap (λ (p : ℤ × ℤ). p.1) pair))

    at_key : (o : Option (List ℕ)) → t.affinity ≡ o → option_and_then (λ key. option_map {U = ℤ × ℤ} (λ (f : FieldMeta). (t.type_id, f.id)) (field_named t.fields key)) o ≡ Some (id, field)
        → (t.type_id ≡ id) × ((f : FieldMeta) × Contains t.fields f × (t.affinity ≡ Some f.name) × (f.id ≡ field))
    at_key None is_key e = absurd (cc)
    at_key (Some key) is_key e = at_field key (field_named t.fields key) is_key refl e

names : (t : TypeMeta) (f : FieldMeta) → IsInOrder t → Contains t.fields f → t.affinity ≡ Some f.name → affinity_pair t ≡ Some (t.type_id, f.id)
names t f order f_in is_key =
    ap (option_and_then (λ key. option_map {U = ℤ × ℤ} (λ (x : FieldMeta). (t.type_id, x.id)) (field_named t.fields key))) is_key
    ∙ ap (option_map {U = ℤ × ℤ} (λ (x : FieldMeta). (t.type_id, x.id))) (found (field_named t.fields f.name) refl)
  where
    found : (o : Option FieldMeta) → field_named t.fields f.name ≡ o → field_named t.fields f.name ≡ Some f
    found None is =
        let no : same_name f.name f.name ≡ false = find_none (λ (x : FieldMeta). same_name x.name f.name) t.fields f is f_in in
        let yes : same_name f.name f.name ≡ true = (same_name_exact f.name f.name).1 refl in
        absurd (cc)
    found (Some g) is =
        let it = find_some (λ (x : FieldMeta). same_name x.name f.name) t.fields g is in
        let name : g.name ≡ f.name = (same_name_exact g.name f.name).0 it.1 in
        let tied : by_field g f ≡ Equal = ap (λ n. slice_cmp nat_cmp n f.name) name ∙ tied_itself by_field_total f in
        is ∙ ap Some (one_of_key by_field by_field_total t.fields order.fields g f it.0 f_in tied)

-- ---- the types of a registry
module _ (r : Registered) (es : List (ℤ × TypeMeta)) (sorted : IsStrictlySortedBy int_cmp (keys_of es)) (is : from_entries {R = int_cmp} es ≡ r.types) (well_formed : IsWellFormed r) where
  get_at : (id : ℤ) → get r.types id ≡ lookup (is_at (int_cmp id)) es
  get_at id = sym (ap (λ m. get m id) is) ∙ get_entries int_cmp int_cmp_total es id

  -- a type that a look-up among the entries finds is in order and has the identifier
  type_at : (id : ℤ) (t : TypeMeta) → lookup (is_at (int_cmp id)) es ≡ Some t → (t.type_id ≡ id) × IsInOrder t
  type_at id t found = well_formed id t (get_at id ∙ found)

  pub pairs_are : filter_map affinity_pair (values_of es) ≡ affinity_pairs_of r
  pairs_are = ap (λ xs. filter_map affinity_pair (map (λ (e : ℤ × TypeMeta). e.1) xs)) (sym (entries_from_sorted int_cmp int_cmp_total es sorted) ∙ ap entries is)

  pub pairs_exactly : (id field : ℤ) → Contains (filter_map affinity_pair (values_of es)) (id, field) ↔ IsAffinityPair r id field
  pairs_exactly id field = (there, back)
    where
      there : Contains (filter_map affinity_pair (values_of es)) (id, field) → IsAffinityPair r id field
      there is_in =
          let it = unfiltered affinity_pair (values_of es) (id, field) is_in in
          let by = named_by it.0 id field it.2 in
          let at = found_value int_cmp int_cmp_total it.0 es sorted it.1 in
          let same : at.0 ≡ id = sym (type_at at.0 it.0 at.1).0 ∙ by.0 in
          record {
            type = it.0;
            found = get_at id ∙ ap (λ k. lookup (is_at (int_cmp k)) es) (sym same) ∙ at.1;
            field = by.1.0;
            of_type = by.1.1;
            named = by.1.2;
            its_id = by.1.3;
          }

      back : IsAffinityPair r id field → Contains (filter_map affinity_pair (values_of es)) (id, field)
      back pair =
          let at : lookup (is_at (int_cmp id)) es ≡ Some pair.type = sym (get_at id) ∙ pair.found in
          let its = type_at id pair.type at in
          filtered affinity_pair (values_of es) pair.type (id, field) (value_found int_cmp int_cmp_total id pair.type es at)
          (names pair.type pair.field its.1 pair.of_type pair.named ∙ ap Some (λ i. (its.0 i, pair.its_id i)))

-- what holds of every look-up holds of each entry
each_entry : (P : ℤ → TypeMeta → Type 0) (es : List (ℤ × TypeMeta)) → IsStrictlySortedBy int_cmp (keys_of es) → ((id : ℤ) (t : TypeMeta) → lookup (is_at (int_cmp id)) es ≡ Some t → P id t) → AllByRecursion (λ (e : ℤ × TypeMeta). P e.0 e.1) es
each_entry P [] sorted holds = tt
each_entry P (e ∷ es) sorted holds = (
  holds e.0 e.1 (ap (λ r. cond (is_eq r) (Some e.1) (lookup (is_at (int_cmp e.0)) es)) (tied_itself int_cmp_total e.0)),
  each_entry P es (sorted_later int_cmp e.0 (keys_of es) sorted) (λ id t found. holds id t (found_later int_cmp int_cmp_total id t e es (sorted_first int_cmp e.0 (keys_of es) sorted) found)),
)

each_value : (P : TypeMeta → Type 0) (es : List (ℤ × TypeMeta)) → AllByRecursion (λ (e : ℤ × TypeMeta). P e.1) es → AllByRecursion P (values_of es)
each_value P [] all = tt
each_value P (e ∷ es) all = (all.0, each_value P es all.1)

-- the affinity pairs ascend where each type has the identifier that is its key
less_than_types : (id : ℤ) (xs : List (ℤ × TypeMeta)) → Before int_cmp id (keys_of xs) → AllByRecursion (λ (x : ℤ × TypeMeta). x.1.type_id ≡ x.0) xs → AllByRecursion (λ (t : TypeMeta). int_cmp id t.type_id ≡ Less) (values_of xs)
less_than_types id [] less its = tt
less_than_types id (x ∷ xs) less its = (ap (int_cmp id) its.0 ∙ less.0, less_than_types id xs less.1 its.1)

pub pairs_ascend : (es : List (ℤ × TypeMeta)) → IsStrictlySortedBy int_cmp (keys_of es) → AllByRecursion (λ (e : ℤ × TypeMeta). e.1.type_id ≡ e.0) es → IsStrictlySortedBy by_type (filter_map affinity_pair (values_of es))
pairs_ascend [] sorted ids = sorted_nil by_type
pairs_ascend (e ∷ es) sorted ids =
    let rest : IsStrictlySortedBy by_type (filter_map affinity_pair (values_of es)) = pairs_ascend es (sorted_later int_cmp e.0 (keys_of es) sorted) ids.1 in
    elim (affinity_pair e.1) as (λ o. affinity_pair e.1 ≡ o → IsStrictlySortedBy by_type (cons_option o (filter_map affinity_pair (values_of es)))) [
      | None ↦ λ is. rest
      | Some p ↦ λ is.
          let first : e.0 ≡ p.0 = sym ids.0 ∙ (named_by e.1 p.0 p.1 is).0 in
          sorted_cons by_type p (filter_map affinity_pair (values_of es))
          (each_filtered affinity_pair (λ (t : TypeMeta). int_cmp e.0 t.type_id ≡ Less) (λ q. by_type p q ≡ Less)
          (λ t q less has. sym (ap (λ k. int_cmp k q.0) first) ∙ sym (ap (int_cmp e.0) (named_by t q.0 q.1 has).0) ∙ less)
          (values_of es) (less_than_types e.0 es (sorted_first int_cmp e.0 (keys_of es) sorted) ids.1))
          rest
    ] refl

-- ---- both facts, for a registry whose types are those entries
pub record PairFacts (r : Registered) (ps : List (ℤ × ℤ)) : Type 0 where
  pub ascending : IsStrictlySortedBy by_type ps
  pub exactly : (id field : ℤ) → Contains ps (id, field) ↔ IsAffinityPair r id field

module _ (r : Registered) (es : List (ℤ × TypeMeta)) (sorted : IsStrictlySortedBy int_cmp (keys_of es)) (is : from_entries {R = int_cmp} es ≡ r.types) (well_formed : IsWellFormed r) where
  pub types_in_order : AllByRecursion IsInOrder (values_of es)
  types_in_order = each_value IsInOrder es (each_entry (λ id t. IsInOrder t) es sorted (λ id t found. (type_at r es sorted is well_formed id t found).1))

  pub pair_facts : (ps : List (ℤ × ℤ)) → ps ≡ affinity_pairs_of r → PairFacts r ps
  pair_facts ps are =
      let same : filter_map affinity_pair (values_of es) ≡ ps = pairs_are r es sorted is well_formed ∙ sym are in
      record {
        ascending = subst (IsStrictlySortedBy by_type) same (pairs_ascend es sorted (each_entry (λ id t. t.type_id ≡ id) es sorted (λ id t found. (type_at r es sorted is well_formed id t found).0)));
        exactly = λ id field. subst (λ qs. Contains qs (id, field) ↔ IsAffinityPair r id field) same (pairs_exactly r es sorted is well_formed id field);
      }
