-- What a put and a new name leave in a registry.
use Rattle.std.proofs.Common.{◌≡◌, ◌≢◌, ℤ, true, false, cond, List, [], ◌∷◌, ◌++◌, Option, Some, None, MatchOption, option_and_then, IfSome, Bor, option_copied, ℕ, Contains, refl, sym, ap, subst, ◌∙◌, inl, inr}
use Rattle.std.specs.Ordering.{nat_cmp, int_cmp, is_eq, eq_by_cmp}
use Rattle.std.specs.Cmp.{IsTotalOrder, nat_cmp_total, int_cmp_total}
use Rattle.std.specs.declared.cmp.Ordering.{Ordering}
use Rattle.std.specs.declared.cmp.Ordering.TheVariants.{Less, Equal, Greater}
use Rattle.std.specs.Option.{option_map_or}
use Rattle.std.specs.FinMap.{FinMap, get, insert, empty, from_entries, get-empty, get-insert, same_map}
use Rattle.std.specs.BTreeMap.{is_at}
use Rattle.std.specs.Map.{lookup}
use Rattle.std.proofs.lemmas.Map.Lookups.{CmpEqualImpliesEq, exact_unsigned, exact_signed, exact_pairs}
use Rattle.std.proofs.lemmas.List.Elements.{Contains-append_left, Contains-push, Contains-push_cases}
use Rattle.std.proofs.lemmas.Cmp.{tied_itself, on_total, then_total}
use Rattle.ig_types.specs.declared.meta.TypeMeta.{TypeMeta}
use Rattle.ig_types.specs.IsInOrder.{IsInOrder}
use Rattle.ig_types.specs.IsBelow.{IsBelow}
use Rattle.ig_types.specs.Join.{clash_of, joined}
use Rattle.ig_types.specs.Registered.{Registered, by_place, registry_after_name, IsWellFormed, put_clash, type_after_put, registry_after_put, IsJoinOf, HasNoneOf, HoldsJoinsOf}
use Rattle.ig_types.proofs.MapLemmas.{inserted}
use Rattle.ig_types.proofs.AscendingLemmas.{contains_nil}
use Rattle.ig_types.proofs.JoinLemmas.{Joins, joins, no_clash_below, same_from_below, below_refl, below_trans}

not_some : {A : Type 0} (x : A) → None ≡ Some x → ⊥
not_some x e = cc

-- ---- the order of places
pub by_place_total : IsTotalOrder by_place
by_place_total = then_total (on_total (λ p. p.0) nat_cmp_total) (on_total (λ p. p.1) int_cmp_total)

pub by_place_exact : CmpEqualImpliesEq by_place
by_place_exact = exact_pairs nat_cmp int_cmp exact_unsigned exact_signed

-- identifiers that tie are equal
tied_ids : (i j : ℤ) → eq_by_cmp int_cmp i j ≡ true → i ≡ j
tied_ids i j is = exact_signed i j (tied (int_cmp i j) is)
  where
    tied : (o : Ordering) → is_eq o ≡ true → o ≡ Equal
    tied Less e = absurd (cc)
    tied Equal e = refl
    tied Greater e = absurd (cc)

-- ---- the empty registry
pub well_formed_empty : (r : Registered) → r.types ≡ empty → IsWellFormed r
well_formed_empty r none id t is = absurd (not_some t (sym (ap (λ m. get m id) none ∙ get-empty int_cmp id) ∙ is))

pub joins_of_empty : (r : Registered) → r.types ≡ empty → HoldsJoinsOf r []
joins_of_empty r none id =
    subst (λ o. MatchOption o (HasNoneOf id []) (λ t. IsJoinOf t id [])) (sym (ap (λ m. get m id) none ∙ get-empty int_cmp id)) (λ m is_in. absurd (contains_nil m is_in))

-- ---- a description that is put
-- the description that is registered under the identifier of m is in order
abbrev pub IsRegisteredInOrder : Registered → TypeMeta → Type 0
IsRegisteredInOrder r m = (t : TypeMeta) → get r.types m.type_id ≡ Some t → (t.type_id ≡ m.type_id) × IsInOrder t

module _ (r : Registered) (m : TypeMeta) (registered : IsRegisteredInOrder r m) (order : IsInOrder m) (none : put_clash r m ≡ None) where
  -- t is in order and the least upper bound of m and the description before, if there was one
  record IsTypeAfterPut (before : Option TypeMeta) (t : TypeMeta) : Type 0 where
    in_order : IsInOrder t
    its_type : t.type_id ≡ m.type_id
    above : IsBelow m t
    of_before : MatchOption before (t ≡ m) (λ s. IsBelow s t)
    least : (u : TypeMeta) → MatchOption before (Unit {0}) (λ s. IsBelow s u) → IsBelow m u → IsBelow t u

  after_put_at : (before : Option TypeMeta) → get r.types m.type_id ≡ before → option_and_then (λ t. clash_of t m) before ≡ None → IsTypeAfterPut before (option_map_or (λ t. joined t m) before m)
  after_put_at None is no_clash = record { in_order = order; its_type = refl; above = below_refl m; of_before = refl; least = λ u _ below. below }
  after_put_at (Some t) is no_clash =
      let known = registered t is in
      let it : Joins t m = joins t m known.0 known.1 order no_clash in
      record {
        in_order = it.in_order;
        its_type = sym it.is_least.first.type_id ∙ known.0;
        above = it.is_least.second;
        of_before = it.is_least.first;
        least = it.is_least.least;
      }

  after_put_is : IsTypeAfterPut (get r.types m.type_id) (type_after_put r m)
  after_put_is = after_put_at (get r.types m.type_id) refl none

  -- what is registered under an identifier after the put
  after : (id : ℤ) → get (registry_after_put r m).types id ≡ cond (eq_by_cmp int_cmp id m.type_id) (Some (type_after_put r m)) (get r.types id)
  after id = get-insert int_cmp_total r.types m.type_id (type_after_put r m) id

  equal_ids : (id : ℤ) → eq_by_cmp int_cmp id m.type_id ≡ true → id ≡ m.type_id
  equal_ids id is = tied_ids id m.type_id is

  other_ids : (id : ℤ) → eq_by_cmp int_cmp id m.type_id ≡ false → m.type_id ≢ id
  other_ids id is e = let tied : int_cmp id m.type_id ≡ Equal = rw (← e) (tied_itself int_cmp_total m.type_id) in let no : is_eq (int_cmp id m.type_id) ≡ true = ap is_eq tied in cc

  pub well_formed_put : IsWellFormed r → IsWellFormed (registry_after_put r m)
  well_formed_put well_formed id t is =
      elim (eq_by_cmp int_cmp id m.type_id) as (λ b. eq_by_cmp int_cmp id m.type_id ≡ b → cond b (Some (type_after_put r m)) (get r.types id) ≡ Some t → (t.type_id ≡ id) × IsInOrder t) [
        | true ↦ λ e f.
            let one : type_after_put r m ≡ t = cc in
            (sym (ap (λ z. z.type_id) one) ∙ after_put_is.its_type ∙ sym (equal_ids id e), subst IsInOrder one after_put_is.in_order)
        | false ↦ λ e f. well_formed id t f
      ] refl (sym (after id) ∙ is)

  module _ (ms : List TypeMeta) (joins_of : HoldsJoinsOf r ms) where
    -- m is the last of the descriptions
    last : Contains (ms ++ m ∷ []) m
    last = Contains-push ms m

    here : (before : Option TypeMeta) (t : TypeMeta) → IsTypeAfterPut before t → MatchOption before (HasNoneOf m.type_id ms) (λ s. IsJoinOf s m.type_id ms) → IsJoinOf t m.type_id (ms ++ m ∷ [])
    here None t stand none_of = record {
      above = λ x is_in its. elim (Contains-push_cases ms m x is_in) [
        | inl before ↦ absurd (none_of x before its)
        | inr e ↦ subst (λ z. IsBelow z t) e stand.above
      ];
      least = λ u all. stand.least u tt (all m last refl);
    }
    here (Some s) t stand least_of = record {
      above = λ x is_in its. elim (Contains-push_cases ms m x is_in) [
        | inl before ↦ below_trans x s t (least_of.above x before its) stand.of_before
        | inr e ↦ subst (λ z. IsBelow z t) e stand.above
      ];
      least = λ u all. stand.least u (least_of.least u (λ x before its. all x (Contains-append_left ms (m ∷ []) x before) its)) (all m last refl);
    }

    elsewhere : (id : ℤ) → m.type_id ≢ id → (o : Option TypeMeta) → MatchOption o (HasNoneOf id ms) (λ t. IsJoinOf t id ms)
        → MatchOption o (HasNoneOf id (ms ++ m ∷ [])) (λ t. IsJoinOf t id (ms ++ m ∷ []))
    elsewhere id other None none_of = λ x is_in its. elim (Contains-push_cases ms m x is_in) [
      | inl before ↦ none_of x before its
      | inr e ↦ other (ap (λ z. z.type_id) e ∙ its)
    ]
    elsewhere id other (Some t) least_of = record {
      above = λ x is_in its. elim (Contains-push_cases ms m x is_in) [
        | inl before ↦ least_of.above x before its
        | inr e ↦ absurd (other (ap (λ z. z.type_id) e ∙ its))
      ];
      least = λ u all. least_of.least u (λ x before its. all x (Contains-append_left ms (m ∷ []) x before) its);
    }

    pub joins_of_put : HoldsJoinsOf (registry_after_put r m) (ms ++ m ∷ [])
    joins_of_put id =
        let P : Option TypeMeta → Type 0 = λ o. MatchOption o (HasNoneOf id (ms ++ m ∷ [])) (λ t. IsJoinOf t id (ms ++ m ∷ [])) in
        subst P (sym (after id))
        (elim (eq_by_cmp int_cmp id m.type_id) as (λ b. eq_by_cmp int_cmp id m.type_id ≡ b → P (cond b (Some (type_after_put r m)) (get r.types id))) [
          | true ↦ λ e. subst (λ i. IsJoinOf (type_after_put r m) i (ms ++ m ∷ [])) (sym (equal_ids id e)) (here (get r.types m.type_id) (type_after_put r m) after_put_is (joins_of m.type_id))
          | false ↦ λ e. elsewhere id (other_ids id e) (get r.types id) (joins_of id)
        ] refl)

-- ---- what a registry answers
-- a type that is found is in order and has the identifier
pub found_in_order : (r : Registered) (id : ℤ) (o : Option (Bor TypeMeta)) → IsWellFormed r → option_copied o ≡ get r.types id → IfSome o (λ t. (t.now.type_id ≡ id) × IsInOrder t.now)
found_in_order r id None well_formed is = tt
found_in_order r id (Some t) well_formed is = well_formed id t.now (sym is)

-- ---- an insert into std's maps is the insert that the contract names
pub put_is : (r : Registered) (es fs : List (ℤ × TypeMeta)) (names : FinMap by_place (List ℕ)) (m t : TypeMeta) (key : ℤ)
    → from_entries es ≡ r.types → names ≡ r.names → key ≡ m.type_id → t ≡ type_after_put r m
    → ((q : ℤ) → lookup (is_at (int_cmp q)) fs ≡ cond (is_at (int_cmp key) q) (Some t) (lookup (is_at (int_cmp q)) es))
    → ◌≡◌ {A = Registered} (record { types = from_entries fs; names = names }) (registry_after_put r m)
put_is r es fs names m t key is_types is_names is_key is_type updates =
    let types : from_entries fs ≡ insert r.types m.type_id (type_after_put r m) =
    inserted int_cmp int_cmp_total exact_signed es fs key t updates ∙ ap (λ ts. insert ts key t) is_types ∙ ap (λ k. insert r.types k t) is_key ∙ ap (insert r.types m.type_id) is_type in
    λ i. record { types = types i; names = is_names i }

pub name_is : (r : Registered) (es fs : List ((ℕ × ℤ) × List ℕ)) (types : FinMap int_cmp TypeMeta) (place key : ℕ × ℤ) (name : List ℕ)
    → types ≡ r.types → from_entries es ≡ r.names → key ≡ place → get r.names place ≡ None
    → ((q : ℕ × ℤ) → lookup (is_at (by_place q)) fs ≡ cond (is_at (by_place key) q) (Some name) (lookup (is_at (by_place q)) es))
    → ◌≡◌ {A = Registered} (record { types = types; names = from_entries fs }) (registry_after_name r place name)
name_is r es fs types place key name is_types is_names is_key none updates =
    let names : from_entries fs ≡ insert r.names place name =
    inserted by_place by_place_total by_place_exact es fs key name updates ∙ ap (λ ns. insert ns key name) is_names ∙ ap (λ k. insert r.names k name) is_key in
    let whole : ◌≡◌ {A = Registered} (record { types = types; names = from_entries fs }) (record { types = r.types; names = insert r.names place name }) =
    λ i. record { types = is_types i; names = names i } in
    whole ∙ ap (λ o. option_map_or (λ _. r) o (record r { names = insert r.names place name })) (sym none)

-- after that the name is registered
pub name_stands : (r : Registered) (place : ℕ × ℤ) (name : List ℕ) → get r.names place ≡ None → get (registry_after_name r place name).names place ≡ Some name
name_stands r place name none =
    ap (λ o. get (option_map_or (λ _. r) o (record r { names = insert r.names place name })).names place) none
    ∙ get-insert by_place_total r.names place name place
    ∙ ap (λ o. cond (is_eq o) (Some name) (get r.names place)) (tied_itself by_place_total place)

-- ---- a description that says nothing new
pub record IsKnown (r : Registered) (m : TypeMeta) : Type 0 where
  pub no_clash : put_clash r m ≡ None
  pub same : registry_after_put r m ≡ r

pub known : (r : Registered) (m t : TypeMeta) → (t.type_id ≡ m.type_id) × IsInOrder t → IsInOrder m → get r.types m.type_id ≡ Some t → IsBelow m t → IsKnown r m
known r m t its order found below =
    let none : clash_of t m ≡ None = no_clash_below t m t its.1 its.1 (below_refl t) below in
    let it : Joins t m = joins t m its.0 its.1 order none in
    let type : joined t m ≡ t = same_from_below (joined t m) t it.in_order its.1 (it.is_least.least t (below_refl t) below) it.is_least.first in
    let put : type_after_put r m ≡ t = ap (λ o. option_map_or (λ s. joined s m) o m) found ∙ type in
    let types : insert r.types m.type_id (type_after_put r m) ≡ r.types = same_map int_cmp_total exact_signed _ _ (λ q. get-insert int_cmp_total r.types m.type_id (type_after_put r m) q ∙ unchanged q (type_after_put r m) put) in
    record { no_clash = ap (option_and_then (λ s. clash_of s m)) found ∙ none; same = λ i. record { types = types i; names = r.names } }
  where
    unchanged : (q : ℤ) (p : TypeMeta) → p ≡ t → cond (eq_by_cmp int_cmp q m.type_id) (Some p) (get r.types q) ≡ get r.types q
    unchanged q p is =
        elim (eq_by_cmp int_cmp q m.type_id) as (λ b. eq_by_cmp int_cmp q m.type_id ≡ b → cond b (Some p) (get r.types q) ≡ get r.types q) [
          | true ↦ λ e. ap Some is ∙ sym found ∙ sym (ap (get r.types) (tied_ids q m.type_id e))
          | false ↦ λ e. refl
        ] refl

pub registered_in_order : (r : Registered) (m t : TypeMeta) → (t.type_id ≡ m.type_id) × IsInOrder t → get r.types m.type_id ≡ Some t → IsRegisteredInOrder r m
registered_in_order r m t its found u is = let one : t ≡ u = cc in subst (λ x. (x.type_id ≡ m.type_id) × IsInOrder x) one its
