-- The greatest of the numbers that a list's items have, and the depths of the variants that hold
-- values.
use Rattle.std.proofs.Common.{◌≡◌, ℕ, zero, suc, ◌<◌, ◌≤◌, max, List, [], ◌∷◌, map, length, take, get_or, refl, sym, ap, ◌∙◌, arith}
use Rattle.std.specs.List.{flat_map}
use Rattle.ig_value.specs.declared.object.Record.{Record}
use Rattle.ig_value.specs.declared.value.Value.{Value, out-Value, roll-Value, roll-out-Value}
use Rattle.ig_value.specs.declared.value.Value.TheVariants as value
use Rattle.ig_value.specs.declared.value.Value.TheOpen.{Value-F}
use Rattle.ig_value.specs.Limits.{greatest, children, Depth, pair_depth}
use Rattle.ig_value.proofs.FoldLemmas.{Depth_out}

pub greatest_item : {X : Type 0} (f : X → ℕ) (xs : List X) (i : ℕ) (d : X) → i < length xs → f (get_or xs i d) ≤ greatest (map f xs)
greatest_item f [] i d lt = absurd (omega arith)
greatest_item f (x ∷ xs) zero d lt = omega arith
greatest_item f (x ∷ xs) (suc i) d lt = omega (arith, greatest_item f xs i d (omega arith))

pub greatest_more : {X : Type 0} (f : X → ℕ) (xs : List X) (i : ℕ) (d : X) → i < length xs → greatest (map f (take (suc i) xs)) ≡ max (greatest (map f (take i xs))) (f (get_or xs i d))
greatest_more f [] i d lt = absurd (omega arith)
greatest_more f (x ∷ xs) zero d lt = omega arith
greatest_more f (x ∷ xs) (suc i) d lt = omega (arith, greatest_more f xs i d (omega arith))

pairs_greatest : (ps : List (Value × Value)) → greatest (map Depth (flat_map (λ p. p.0 ∷ p.1 ∷ []) ps)) ≡ greatest (map pair_depth ps)
pairs_greatest [] = refl
pairs_greatest (p ∷ ps) = omega (arith, pairs_greatest ps)

Depth_row : (v : Value) (x : Value-F Value) → out-Value v ≡ x → Depth v ≡ suc (greatest (map Depth (children x)))
Depth_row v x e = Depth_out v ∙ ap (λ (y : Value-F Value). suc (greatest (map Depth (children y)))) e

pub Depth_objects : (v : Value) (type : _) (xs : List Value) → v ≡ value.Objects type xs → Depth v ≡ suc (greatest (map Depth xs))
Depth_objects v type xs e = Depth_row v _ (ap out-Value e ∙ value.outs-Objects type xs)

pub Depth_collection : (v : Value) (kind : _) (xs : List Value) → v ≡ value.Collection kind xs → Depth v ≡ suc (greatest (map Depth xs))
Depth_collection v kind xs e = Depth_row v _ (ap out-Value e ∙ value.outs-Collection kind xs)

pub Depth_enums : (v : Value) (type : _) (xs : List Value) → v ≡ value.Enums type xs → Depth v ≡ suc (greatest (map Depth xs))
Depth_enums v type xs e = Depth_row v _ (ap out-Value e ∙ value.outs-Enums type xs)

pub Depth_object : (v : Value) (o : Record Value) → v ≡ value.Object o → Depth v ≡ suc (greatest (map Depth o.fields))
Depth_object v o e = Depth_row v _ (ap out-Value e ∙ value.outs-Object o)

pub Depth_map : (v : Value) (kind : _) (ps : List (Value × Value)) → v ≡ value.Map kind ps → Depth v ≡ suc (greatest (map pair_depth ps))
Depth_map v kind ps e = Depth_row v _ (ap out-Value e ∙ value.outs-Map kind ps) ∙ ap suc (pairs_greatest ps)

default_at : (v : Value) (x : Value-F Value) → out-Value v ≡ x → ((type : _) (xs : List Value) → v ≡ value.Objects type xs → ⊥) → ((kind : _) (xs : List Value) → v ≡ value.Collection kind xs → ⊥) →
    ((kind : _) (ps : List (Value × Value)) → v ≡ value.Map kind ps → ⊥) → ((type : _) (xs : List Value) → v ≡ value.Enums type xs → ⊥) → ((o : Record Value) → v ≡ value.Object o → ⊥) → children x ≡ []
default_at v (Value-F.Objects type xs) e a b c d f = absurd (a type xs (sym (roll-out-Value v) ∙ ap roll-Value e ∙ value.rolls-Objects type xs))
default_at v (Value-F.Collection kind xs) e a b c d f = absurd (b kind xs (sym (roll-out-Value v) ∙ ap roll-Value e ∙ value.rolls-Collection kind xs))
default_at v (Value-F.Map kind ps) e a b c d f = absurd (c kind ps (sym (roll-out-Value v) ∙ ap roll-Value e ∙ value.rolls-Map kind ps))
default_at v (Value-F.Enums type xs) e a b c d f = absurd (d type xs (sym (roll-out-Value v) ∙ ap roll-Value e ∙ value.rolls-Enums type xs))
default_at v (Value-F.Object o) e a b c d f = absurd (f o (sym (roll-out-Value v) ∙ ap roll-Value e ∙ value.rolls-Object o))
default_at v _ e a b c d f = refl

pub Depth_default : (v : Value) → ((type : _) (xs : List Value) → v ≡ value.Objects type xs → ⊥) → ((kind : _) (xs : List Value) → v ≡ value.Collection kind xs → ⊥) →
    ((kind : _) (ps : List (Value × Value)) → v ≡ value.Map kind ps → ⊥) → ((type : _) (xs : List Value) → v ≡ value.Enums type xs → ⊥) → ((o : Record Value) → v ≡ value.Object o → ⊥) → Depth v ≡ 1
Depth_default v a b c d f = Depth_out v ∙ ap (λ (l : List Value). suc (greatest (map Depth l))) (default_at v (out-Value v) refl a b c d f)
