-- The join of two descriptions is their least upper bound, and exists exactly where they don't clash.
use Rattle.std.proofs.Common.{◌≡◌, ◌≢◌, ℕ, Bool, true, false, cond, List, [], Option, Some, None, IfSome, Result, Ok, Err, IfOk, IfErr, OnOk, refl, sym, ap, subst, ◌∙◌, inl, inr}
use Rattle.std.specs.Option.{option_or}
use Rattle.ig_types.specs.declared.meta.TypeMeta.{TypeMeta}
use Rattle.ig_types.specs.declared.meta.FieldMeta.{FieldMeta}
use Rattle.ig_types.specs.declared.meta.Literal.{Literal as LiteralMeta}
use Rattle.ig_types.specs.declared.meta.SchemaMeta.{SchemaMeta}
use Rattle.ig_types.specs.declared.clash.Clash.{Clash}
use Rattle.ig_types.specs.declared.clash.Clash.TheVariants.{Name, Affinity, EnumFlag, Field, Literal, Schema}
use Rattle.ig_types.specs.declared.clash.JoinFault.{JoinFault}
use Rattle.ig_types.specs.declared.clash.JoinFault.TheVariants as fault
use Rattle.ig_types.specs.IsInOrder.{by_field, by_literal, by_schema, IsInOrder}
use Rattle.ig_types.specs.IsBelow.{IsBelow, IsLeastAbove}
use Rattle.ig_types.specs.Clash.{AffinitiesAgree, HeadsAgree, AgreeOnAll, IsFirstClash, IfClash}
use Rattle.ig_types.specs.Join.{same_name, same_field, same_literal, same_schema, name_clash, affinity_clash, flag_clash, clash_of, joined, IsOutcome}
use Rattle.ig_types.specs.MemberLaws.{same_field_exact, same_literal_exact, same_schema_exact, by_field_total, by_literal_total, by_schema_total}
use Rattle.ig_types.proofs.NameLemmas.{same_name_exact}
use Rattle.ig_types.specs.Members.{with_members, first_differing_pair}
use Rattle.ig_types.proofs.MemberLemmas.{first_within, second_within, both_within, sorted_with_members, agree_within, same_from_within}
use Rattle.ig_types.proofs.DifferenceLemmas.{none_both, some_either, none_under, some_under, agree_from_none, differ_from_some, agree_apart}

-- ---- names, affinity keys and flags
same_names : (m n : List ℕ) → name_clash m n ≡ None → m ≡ n
same_names m n none =
    elim (same_name m n) as (λ b. same_name m n ≡ b → cond b None (Some (Name m n)) ≡ None → m ≡ n) [
      | true ↦ λ is e. (same_name_exact m n).0 is
      | false ↦ λ is e. absurd (cc)
    ] refl none

-- two names clash exactly where they differ
tested : {C : Type 0} (m n : List ℕ) (c d : C) → cond (same_name m n) None (Some c) ≡ Some d → (c ≡ d) × (m ≢ n)
tested m n c d found =
    elim (same_name m n) as (λ b. same_name m n ≡ b → cond b None (Some c) ≡ Some d → (c ≡ d) × (m ≢ n)) [
      | true ↦ λ is e. absurd (cc)
      | false ↦ λ is e. (cc, λ one. let no : same_name m n ≡ true = (same_name_exact m n).1 one in cc)
    ] refl found

same_affinities : (p q : Option (List ℕ)) → affinity_clash p q ≡ None → (m n : List ℕ) → p ≡ Some m → q ≡ Some n → m ≡ n
same_affinities None q none m n is_p is_q = absurd (cc)
same_affinities (Some k) None none m n is_p is_q = absurd (cc)
same_affinities (Some k) (Some l) none m n is_p is_q =
    elim (same_name k l) as (λ b. same_name k l ≡ b → cond b None (Some (Affinity k l)) ≡ None → m ≡ n) [
      | true ↦ λ is e. let one : k ≡ l = (same_name_exact k l).0 is in cc
      | false ↦ λ is e. absurd (cc)
    ] refl none

two_affinities : (p q : Option (List ℕ)) (c : Clash) → affinity_clash p q ≡ Some c → (m : List ℕ) × (n : List ℕ) × (p ≡ Some m) × (q ≡ Some n) × (m ≢ n) × (Affinity m n ≡ c)
two_affinities None q c found = absurd (cc)
two_affinities (Some k) None c found = absurd (cc)
two_affinities (Some k) (Some l) c found = let it = tested k l (Affinity k l) c found in (k, l, refl, refl, it.1, it.0)

same_flags : (a b : Bool) → flag_clash a b ≡ None → a ≡ b
same_flags true true none = refl
same_flags true false none = absurd (cc)
same_flags false true none = absurd (cc)
same_flags false false none = refl

two_flags : (a b : Bool) (c : Clash) → flag_clash a b ≡ Some c → (a ≢ b) × (EnumFlag a b ≡ c)
two_flags true true c found = absurd (cc)
two_flags true false c found = (λ e. cc, cc)
two_flags false true c found = (λ e. cc, cc)
two_flags false false c found = absurd (cc)

-- ---- no clash, or the first clash
pub agree_unless_clash : (a b : TypeMeta) → clash_of a b ≡ None → AgreeOnAll a b
unfolding clash_of
agree_unless_clash a b none =
    let names = none_both _ _ none in
    let affinities = none_both _ _ names.1 in
    let flags = none_both _ _ affinities.1 in
    let fields = none_both _ _ flags.1 in
    let literals = none_both _ _ fields.1 in
    record {
      heads = record { name = same_names _ _ names.0; affinity = same_affinities _ _ affinities.0; is_enum = same_flags _ _ flags.0 };
      fields = agree_from_none by_field same_field same_field_exact _ _ (none_under _ _ fields.0);
      literals = agree_from_none by_literal same_literal same_literal_exact _ _ (none_under _ _ literals.0);
      schemas = agree_from_none by_schema same_schema same_schema_exact _ _ (none_under _ _ literals.1);
    }

pub first_clash : (a b : TypeMeta) → IsInOrder a → (c : Clash) → clash_of a b ≡ Some c → IsFirstClash a b c
unfolding clash_of
first_clash a b order c found = elim (some_either _ _ c found) [
  | inl at_name ↦ let it = tested a.name b.name (Name a.name b.name) c at_name in subst (IsFirstClash a b) it.0 (refl, refl, it.1)
  | inr no_name ↦ let name = same_names a.name b.name no_name.0 in elim (some_either _ _ c no_name.1) [
    | inl at_key ↦ let it = two_affinities a.affinity b.affinity c at_key in subst (IsFirstClash a b) it.5 (name, it.2, it.3, it.4)
    | inr no_key ↦ let affinity : AffinitiesAgree a b = same_affinities a.affinity b.affinity no_key.0 in elim (some_either _ _ c no_key.1) [
      | inl at_flag ↦ let it = two_flags a.is_enum b.is_enum c at_flag in subst (IsFirstClash a b) it.1 (name, affinity, refl, refl, it.0)
      | inr no_flag ↦
          let heads : HeadsAgree a b = record { name = name; affinity = affinity; is_enum = same_flags a.is_enum b.is_enum no_flag.0 } in
          elim (some_either _ _ c no_flag.1) [
            | inl at_field ↦ let it = some_under (λ (p : FieldMeta × FieldMeta). Field p.0 p.1) (first_differing_pair by_field same_field a.fields b.fields) c at_field in
                subst (IsFirstClash a b) it.2 (heads, differ_from_some by_field same_field same_field_exact by_field_total a.fields b.fields order.fields it.0 it.1)
            | inr no_field ↦
                let fields = agree_from_none by_field same_field same_field_exact a.fields b.fields (none_under _ _ no_field.0) in
                elim (some_either _ _ c no_field.1) [
                  | inl at_literal ↦ let it = some_under (λ (p : LiteralMeta × LiteralMeta). Literal p.0 p.1) (first_differing_pair by_literal same_literal a.literals b.literals) c at_literal in
                      subst (IsFirstClash a b) it.2 (heads, fields, differ_from_some by_literal same_literal same_literal_exact by_literal_total a.literals b.literals order.literals it.0 it.1)
                  | inr no_literal ↦
                      let literals = agree_from_none by_literal same_literal same_literal_exact a.literals b.literals (none_under _ _ no_literal.0) in
                      let it = some_under (λ (p : SchemaMeta × SchemaMeta). Schema p.0 p.1) (first_differing_pair by_schema same_schema a.schemas b.schemas) c no_literal.1 in
                      subst (IsFirstClash a b) it.2 (heads, fields, literals, differ_from_some by_schema same_schema same_schema_exact by_schema_total a.schemas b.schemas order.schemas it.0 it.1)
                ]
          ]
    ]
  ]
]

-- descriptions that agree have no first clash
agree_no_first : (a b : TypeMeta) (c : Clash) → AgreeOnAll a b → IsFirstClash a b c → ⊥
agree_no_first a b (Name m n) agree first = first.2 (first.0 ∙ agree.heads.name ∙ sym first.1)
agree_no_first a b (Affinity m n) agree first = first.3 (agree.heads.affinity m n first.1 first.2)
agree_no_first a b (EnumFlag m n) agree first = first.4 (first.2 ∙ agree.heads.is_enum ∙ sym first.3)
agree_no_first a b (Field x y) agree first = agree_apart by_field a.fields b.fields x y agree.fields first.1
agree_no_first a b (Literal x y) agree first = agree_apart by_literal a.literals b.literals x y agree.literals first.2
agree_no_first a b (Schema x y) agree first = agree_apart by_schema a.schemas b.schemas x y agree.schemas first.3

no_clash_where_agree : (a b : TypeMeta) → IsInOrder a → AgreeOnAll a b → clash_of a b ≡ None
no_clash_where_agree a b order agree = none (clash_of a b) refl
  where
    none : (r : Option Clash) → clash_of a b ≡ r → clash_of a b ≡ None
    none None e = e
    none (Some c) e = absurd (agree_no_first a b c agree (first_clash a b order c e))

-- ---- affinity keys of a lower and of an upper description
key_of_first : (p q : Option (List ℕ)) → IfSome p (λ k. option_or p q ≡ Some k)
key_of_first None q = tt
key_of_first (Some k) q = refl

key_of_second : (p q : Option (List ℕ)) → ((m n : List ℕ) → p ≡ Some m → q ≡ Some n → m ≡ n) → IfSome q (λ k. option_or p q ≡ Some k)
key_of_second p None agree = tt
key_of_second None (Some k) agree = refl
key_of_second (Some m) (Some n) agree = ap Some (agree m n refl refl)

key_of_either : (p q r : Option (List ℕ)) → IfSome p (λ k. r ≡ Some k) → IfSome q (λ k. r ≡ Some k) → IfSome (option_or p q) (λ k. r ≡ Some k)
key_of_either None q r first second = second
key_of_either (Some k) q r first second = first

key_above : (p r : Option (List ℕ)) (m : List ℕ) → IfSome p (λ k. r ≡ Some k) → p ≡ Some m → r ≡ Some m
key_above None r m above is = absurd (cc)
key_above (Some k) r m above is = above ∙ is

same_keys : (p q : Option (List ℕ)) → IfSome p (λ k. q ≡ Some k) → IfSome q (λ k. p ≡ Some k) → p ≡ q
same_keys None None there back = refl
same_keys None (Some k) there back = back
same_keys (Some k) q there back = sym there

key_through : (p q r : Option (List ℕ)) → IfSome p (λ k. q ≡ Some k) → IfSome q (λ k. r ≡ Some k) → IfSome p (λ k. r ≡ Some k)
key_through None q r there on = tt
key_through (Some k) q r there on = key_above q r k on there

-- ---- IsBelow is a partial order
key_itself : (p : Option (List ℕ)) → IfSome p (λ k. p ≡ Some k)
key_itself None = tt
key_itself (Some k) = refl

pub below_refl : (a : TypeMeta) → IsBelow a a
below_refl a = record {
  type_id = refl;
  name = refl;
  affinity = key_itself a.affinity;
  is_enum = refl;
  fields = λ x is_in. is_in;
  literals = λ x is_in. is_in;
  schemas = λ x is_in. is_in;
}

pub below_trans : (a b c : TypeMeta) → IsBelow a b → IsBelow b c → IsBelow a c
below_trans a b c first second = record {
  type_id = first.type_id ∙ second.type_id;
  name = first.name ∙ second.name;
  affinity = key_through a.affinity b.affinity c.affinity first.affinity second.affinity;
  is_enum = first.is_enum ∙ second.is_enum;
  fields = λ x is_in. second.fields x (first.fields x is_in);
  literals = λ x is_in. second.literals x (first.literals x is_in);
  schemas = λ x is_in. second.schemas x (first.schemas x is_in);
}

pub same_from_below : (a b : TypeMeta) → IsInOrder a → IsInOrder b → IsBelow a b → IsBelow b a → a ≡ b
same_from_below a b first second there back =
    let keys = same_keys a.affinity b.affinity there.affinity back.affinity in
    let fields = same_from_within by_field by_field_total a.fields b.fields first.fields second.fields there.fields back.fields in
    let literals = same_from_within by_literal by_literal_total a.literals b.literals first.literals second.literals there.literals back.literals in
    let schemas = same_from_within by_schema by_schema_total a.schemas b.schemas first.schemas second.schemas there.schemas back.schemas in
    λ i. record { type_id = there.type_id i; name = there.name i; affinity = keys i; is_enum = there.is_enum i; fields = fields i; literals = literals i; schemas = schemas i }

-- ---- the join
pub joined_in_order : (a b : TypeMeta) → IsInOrder a → IsInOrder b → AgreeOnAll a b → IsInOrder (joined a b)
unfolding joined
joined_in_order a b first second agree = record {
  fields = sorted_with_members by_field by_field_total a.fields b.fields first.fields;
  literals = sorted_with_members by_literal by_literal_total a.literals b.literals first.literals;
  schemas = sorted_with_members by_schema by_schema_total a.schemas b.schemas first.schemas;
  no_literals = λ no_enum.
      ap (λ xs. with_members by_literal xs b.literals) (first.no_literals no_enum)
      ∙ ap (with_members by_literal []) (second.no_literals (sym agree.heads.is_enum ∙ no_enum));
}

pub joined_is_least : (a b : TypeMeta) → a.type_id ≡ b.type_id → IsInOrder b → AgreeOnAll a b → IsLeastAbove a b (joined a b)
unfolding joined
joined_is_least a b one_type second agree = record {
  first = record {
    type_id = refl;
    name = refl;
    affinity = key_of_first a.affinity b.affinity;
    is_enum = refl;
    fields = first_within by_field a.fields b.fields;
    literals = first_within by_literal a.literals b.literals;
    schemas = first_within by_schema a.schemas b.schemas;
  };
  second = record {
    type_id = sym one_type;
    name = sym agree.heads.name;
    affinity = key_of_second a.affinity b.affinity agree.heads.affinity;
    is_enum = sym agree.heads.is_enum;
    fields = second_within by_field by_field_total a.fields b.fields agree.fields second.fields;
    literals = second_within by_literal by_literal_total a.literals b.literals agree.literals second.literals;
    schemas = second_within by_schema by_schema_total a.schemas b.schemas agree.schemas second.schemas;
  };
  least = λ u above_a above_b. record {
    type_id = above_a.type_id;
    name = above_a.name;
    affinity = key_of_either a.affinity b.affinity u.affinity above_a.affinity above_b.affinity;
    is_enum = above_a.is_enum;
    fields = both_within by_field a.fields b.fields u.fields above_a.fields above_b.fields;
    literals = both_within by_literal a.literals b.literals u.literals above_a.literals above_b.literals;
    schemas = both_within by_schema a.schemas b.schemas u.schemas above_a.schemas above_b.schemas;
  };
}

-- two descriptions below a third agree
pub agree_below : (a b u : TypeMeta) → IsInOrder u → IsBelow a u → IsBelow b u → AgreeOnAll a b
agree_below a b u order first second = record {
  heads = record {
    name = first.name ∙ sym second.name;
    affinity = λ m n is_m is_n. let p = key_above a.affinity u.affinity m first.affinity is_m in let q = key_above b.affinity u.affinity n second.affinity is_n in cc;
    is_enum = first.is_enum ∙ sym second.is_enum;
  };
  fields = agree_within by_field by_field_total a.fields b.fields u.fields order.fields first.fields second.fields;
  literals = agree_within by_literal by_literal_total a.literals b.literals u.literals order.literals first.literals second.literals;
  schemas = agree_within by_schema by_schema_total a.schemas b.schemas u.schemas order.schemas first.schemas second.schemas;
}

pub no_clash_below : (a b u : TypeMeta) → IsInOrder a → IsInOrder u → IsBelow a u → IsBelow b u → clash_of a b ≡ None
no_clash_below a b u first order below_a below_b = no_clash_where_agree a b first (agree_below a b u order below_a below_b)

-- what holds of the join of two descriptions that don't clash
pub record Joins (a b : TypeMeta) : Type 0 where
  pub in_order : IsInOrder (joined a b)
  pub is_least : IsLeastAbove a b (joined a b)

pub joins : (a b : TypeMeta) → a.type_id ≡ b.type_id → IsInOrder a → IsInOrder b → clash_of a b ≡ None → Joins a b
joins a b one_type first second none =
    let agree = agree_unless_clash a b none in
    record { in_order = joined_in_order a b first second agree; is_least = joined_is_least a b one_type second agree }

-- ---- what the outcome of a join says of the two descriptions
pub record JoinFacts (a b : TypeMeta) (r : Result TypeMeta JoinFault) : Type 0 where
  pub least : IfOk r (IsLeastAbove a b)
  pub in_order : IfOk r IsInOrder
  pub agreed : OnOk r (AgreeOnAll a b)
  pub clash : IfErr r (λ e. IfClash e (IsFirstClash a b))

pub join_facts : (a b : TypeMeta) → a.type_id ≡ b.type_id → IsInOrder a → IsInOrder b → (r : Result TypeMeta JoinFault) → IsOutcome r (clash_of a b) (joined a b) → JoinFacts a b r
join_facts a b one_type first second (Ok m) outcome =
    let it : Joins a b = joins a b one_type first second outcome.0 in
    record {
      least = subst (IsLeastAbove a b) (sym outcome.1) it.is_least;
      in_order = subst IsInOrder (sym outcome.1) it.in_order;
      agreed = agree_unless_clash a b outcome.0;
      clash = tt;
    }
join_facts a b one_type first second (Err (fault.Clash c)) outcome = record { least = tt; in_order = tt; agreed = tt; clash = first_clash a b first c outcome }
join_facts a b one_type first second (Err fault.NoMemory) outcome = record { least = tt; in_order = tt; agreed = tt; clash = tt }
