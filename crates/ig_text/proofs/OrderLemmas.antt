-- The test that a description is in order tells its order.
use Rattle.std.proofs.Common.{◌≡◌, ℕ, Bool, true, false, ◌&&◌, ◌||◌, List, [], ◌∷◌, length, Ok, Err, refl, sym, ap, ◌∙◌}
use Rattle.std.specs.Cmp.{IsTotalOrder}
use Rattle.std.specs.List.Sorted.{IsStrictlySortedBy}
use Rattle.std.specs.declared.cmp.Ordering.{Ordering}
use Rattle.std.specs.declared.cmp.Ordering.TheVariants.{Less, Equal, Greater}
use Rattle.std.proofs.lemmas.Bool.{and_parts, and_from, cond-true, cond-false}
use Rattle.ig_types.specs.IsInOrder.{IsInOrder, by_field, by_literal, by_schema}
use Rattle.ig_types.specs.MemberLaws.{by_field_total, by_literal_total, by_schema_total}
use Rattle.ig_types.specs.declared.meta.TypeMeta.{TypeMeta}
use Rattle.ig_types.proofs.AscendingLemmas.{sorted_nil, sorted_cons, sorted_first, sorted_later, sorted_more}
use Rattle.ig_text.specs.ReadText.{checked_read}
use Rattle.ig_text.specs.DescriptionText.{is_less, ascends, is_none, is_in_order, whole_at, description_at}
use Rattle.ig_text.proofs.ReadsLemmas.{done}

less_is : (o : Ordering) → is_less o ≡ true → o ≡ Less
less_is Less e = refl
less_is Equal e = absurd cc
less_is Greater e = absurd cc

sorted_from : {X : Type 0} (rank : X → X → Ordering) → IsTotalOrder rank → (xs : List X) → ascends rank xs ≡ true → IsStrictlySortedBy rank xs
sorted_from rank o [] e = sorted_nil rank
sorted_from rank o (x ∷ []) e = sorted_cons rank x [] tt (sorted_nil rank)
sorted_from rank o (x ∷ y ∷ ys) e =
    let p = and_parts (is_less (rank x y)) (ascends rank (y ∷ ys)) e in
    sorted_more rank o x y ys (less_is (rank x y) p.0) (sorted_from rank o (y ∷ ys) p.1)

ascends_from : {X : Type 0} (rank : X → X → Ordering) (xs : List X) → IsStrictlySortedBy rank xs → ascends rank xs ≡ true
ascends_from rank [] sorted = refl
ascends_from rank (x ∷ []) sorted = refl
ascends_from rank (x ∷ y ∷ ys) sorted =
    and_from (is_less (rank x y)) (ascends rank (y ∷ ys)) (ap is_less (sorted_first rank x (y ∷ ys) sorted).0) (ascends_from rank (y ∷ ys) (sorted_later rank x (y ∷ ys) sorted))

-- only an enum has literals
enum_or : {X : Type 0} (b : Bool) (xs : List X) → (b ≡ false → xs ≡ []) → (b || is_none xs) ≡ true
enum_or true xs none = refl
enum_or false xs none = ap is_none (none refl)

none_is : {X : Type 0} (xs : List X) → is_none xs ≡ true → xs ≡ []
none_is [] e = refl
none_is (x ∷ xs) e = absurd cc

or_none : {X : Type 0} (b : Bool) (xs : List X) → (b || is_none xs) ≡ true → b ≡ false → xs ≡ []
or_none true xs e plain = absurd cc
or_none false xs e plain = none_is xs e

abbrev may_hold : TypeMeta → Bool
may_hold m = m.is_enum || is_none m.literals

order_there : (m : TypeMeta) → IsInOrder m → is_in_order m ≡ true
order_there m i =
    and_from (ascends by_field m.fields) (ascends by_literal m.literals && (ascends by_schema m.schemas && may_hold m)) (ascends_from by_field m.fields i.fields)
    (and_from (ascends by_literal m.literals) (ascends by_schema m.schemas && may_hold m) (ascends_from by_literal m.literals i.literals)
    (and_from (ascends by_schema m.schemas) (may_hold m) (ascends_from by_schema m.schemas i.schemas) (enum_or m.is_enum m.literals i.no_literals)))

order_is : (m : TypeMeta) → is_in_order m ≡ true → IsInOrder m
order_is m e =
    let a = and_parts (ascends by_field m.fields) (ascends by_literal m.literals && (ascends by_schema m.schemas && may_hold m)) e in
    let b = and_parts (ascends by_literal m.literals) (ascends by_schema m.schemas && may_hold m) a.1 in
    let d = and_parts (ascends by_schema m.schemas) (may_hold m) b.1 in
    record {
      fields = sorted_from by_field by_field_total m.fields a.0;
      literals = sorted_from by_literal by_literal_total m.literals b.0;
      schemas = sorted_from by_schema by_schema_total m.schemas d.0;
      no_literals = or_none m.is_enum m.literals d.1;
    }

not_so : (b : Bool) → (b ≡ true → ⊥) → b ≡ false
not_so true never = absurd (never refl)
not_so false never = refl

-- a description in order is read, and no other
pub description_sorted : (s rest : List ℕ) (m : TypeMeta) → whole_at s ≡ Ok (m, rest) → IsInOrder m → description_at s ≡ Ok (m, rest)
description_sorted s rest m e i = ap (checked_read is_in_order (length s)) e ∙ cond-true (is_in_order m) (done (m, rest)) (Err (length s)) (order_there m i)

pub description_unsorted : (s rest : List ℕ) (m : TypeMeta) → whole_at s ≡ Ok (m, rest) → (IsInOrder m → ⊥) → description_at s ≡ Err (length s)
description_unsorted s rest m e never =
    ap (checked_read is_in_order (length s)) e ∙ cond-false (is_in_order m) (done (m, rest)) (Err (length s)) (not_so (is_in_order m) (λ h. never (order_is m h)))
