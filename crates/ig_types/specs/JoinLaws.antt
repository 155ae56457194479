-- The laws of the join.
use Rattle.std.specs.Prelude.{◌≡◌, ◌⊎◌, None}
use Rattle.ig_types.specs.declared.meta.TypeMeta.{TypeMeta}
use Rattle.ig_types.specs.IsInOrder.{IsInOrder}
use Rattle.ig_types.specs.Join.{clash_of, joined}

-- if a joins with b, then b joins with a, and the results are equal
abbrev pub JoinCommutes : Type 0
JoinCommutes =
    (a b : TypeMeta) → IsInOrder a → IsInOrder b → a.type_id ≡ b.type_id
    → clash_of a b ≡ None → (clash_of b a ≡ None) × (joined b a ≡ joined a b)

-- a joins with b, and the result joins with c
pub record JoinsFromLeft (a b c : TypeMeta) : Type 0 where
  pub first : clash_of a b ≡ None
  pub rest : clash_of (joined a b) c ≡ None

-- b joins with c, and a joins with the result
pub record JoinsFromRight (a b c : TypeMeta) : Type 0 where
  pub last : clash_of b c ≡ None
  pub rest : clash_of a (joined b c) ≡ None

-- if three descriptions join from the left or from the right, they join from both, and the results are
-- equal
abbrev pub JoinAssociates : Type 0
JoinAssociates =
    (a b c : TypeMeta) → IsInOrder a → IsInOrder b → IsInOrder c
    → a.type_id ≡ b.type_id → b.type_id ≡ c.type_id
    → JoinsFromLeft a b c ⊎ JoinsFromRight a b c
    → JoinsFromLeft a b c × JoinsFromRight a b c × (joined (joined a b) c ≡ joined a (joined b c))
