-- The laws of the join follow from its being the least upper bound.
use Rattle.std.proofs.Common.{◌≡◌, ◌⊎◌, None, sym, ◌∙◌, inl, inr}
use Rattle.ig_types.specs.declared.meta.TypeMeta.{TypeMeta}
use Rattle.ig_types.specs.IsInOrder.{IsInOrder}
use Rattle.ig_types.specs.IsBelow.{IsBelow}
use Rattle.ig_types.specs.Join.{clash_of, joined}
use Rattle.ig_types.specs.JoinLaws.{JoinCommutes, JoinsFromLeft, JoinsFromRight, JoinAssociates}
use Rattle.ig_types.proofs.JoinLemmas.{Joins, joins, no_clash_below, below_trans, same_from_below}

pub join_commutes : JoinCommutes
join_commutes a b first second one_type none =
    let there : Joins a b = joins a b one_type first second none in
    let back_none : clash_of b a ≡ None = no_clash_below b a (joined a b) second there.in_order there.is_least.second there.is_least.first in
    let back : Joins b a = joins b a (sym one_type) second first back_none in (
      back_none,
      same_from_below (joined b a) (joined a b) back.in_order there.in_order
          (back.is_least.least (joined a b) there.is_least.second there.is_least.first)
          (there.is_least.least (joined b a) back.is_least.second back.is_least.first),
    )

module _ (a b c : TypeMeta) (a_order : IsInOrder a) (b_order : IsInOrder b) (c_order : IsInOrder c) (ab : a.type_id ≡ b.type_id) (bc : b.type_id ≡ c.type_id) where
  -- an upper bound of all three
  record Above (u : TypeMeta) : Type 0 where
    in_order : IsInOrder u
    of_a : IsBelow a u
    of_b : IsBelow b u
    of_c : IsBelow c u

  from_left : JoinsFromLeft a b c → Above (joined (joined a b) c)
  from_left left =
      let one : Joins a b = joins a b ab a_order b_order left.first in
      let two : Joins (joined a b) c = joins (joined a b) c (sym one.is_least.first.type_id ∙ ab ∙ bc) one.in_order c_order left.rest in
      record {
        in_order = two.in_order;
        of_a = below_trans _ _ _ one.is_least.first two.is_least.first;
        of_b = below_trans _ _ _ one.is_least.second two.is_least.first;
        of_c = two.is_least.second;
      }

  from_right : JoinsFromRight a b c → Above (joined a (joined b c))
  from_right right =
      let one : Joins b c = joins b c bc b_order c_order right.last in
      let two : Joins a (joined b c) = joins a (joined b c) (ab ∙ one.is_least.first.type_id) a_order one.in_order right.rest in
      record {
        in_order = two.in_order;
        of_a = two.is_least.first;
        of_b = below_trans _ _ _ one.is_least.first two.is_least.second;
        of_c = below_trans _ _ _ one.is_least.second two.is_least.second;
      }

  left_below : (u : TypeMeta) → Above u → JoinsFromLeft a b c × IsBelow (joined (joined a b) c) u
  left_below u above =
      let none : clash_of a b ≡ None = no_clash_below a b u a_order above.in_order above.of_a above.of_b in
      let one : Joins a b = joins a b ab a_order b_order none in
      let middle : IsBelow (joined a b) u = one.is_least.least u above.of_a above.of_b in
      let rest : clash_of (joined a b) c ≡ None = no_clash_below (joined a b) c u one.in_order above.in_order middle above.of_c in
      let two : Joins (joined a b) c = joins (joined a b) c (sym one.is_least.first.type_id ∙ ab ∙ bc) one.in_order c_order rest in
      (record { first = none; rest = rest }, two.is_least.least u middle above.of_c)

  right_below : (u : TypeMeta) → Above u → JoinsFromRight a b c × IsBelow (joined a (joined b c)) u
  right_below u above =
      let none : clash_of b c ≡ None = no_clash_below b c u b_order above.in_order above.of_b above.of_c in
      let one : Joins b c = joins b c bc b_order c_order none in
      let middle : IsBelow (joined b c) u = one.is_least.least u above.of_b above.of_c in
      let rest : clash_of a (joined b c) ≡ None = no_clash_below a (joined b c) u a_order above.in_order above.of_a middle in
      let two : Joins a (joined b c) = joins a (joined b c) (ab ∙ one.is_least.first.type_id) a_order one.in_order rest in
      (record { last = none; rest = rest }, two.is_least.least u above.of_a middle)

  both_ways : JoinsFromLeft a b c → JoinsFromRight a b c → joined (joined a b) c ≡ joined a (joined b c)
  both_ways left right =
      let above_left = from_left left in
      let above_right = from_right right in
      same_from_below _ _ above_left.in_order above_right.in_order (left_below _ above_right).1 (right_below _ above_left).1

  either_way : JoinsFromLeft a b c ⊎ JoinsFromRight a b c → JoinsFromLeft a b c × JoinsFromRight a b c × (joined (joined a b) c ≡ joined a (joined b c))
  either_way (inl left) = let right = (right_below _ (from_left left)).0 in (left, right, both_ways left right)
  either_way (inr right) = let left = (left_below _ (from_right right)).0 in (left, right, both_ways left right)

pub join_associates : JoinAssociates
join_associates a b c a_order b_order c_order ab bc = either_way a b c a_order b_order c_order ab bc
