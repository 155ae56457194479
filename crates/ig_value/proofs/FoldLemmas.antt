-- The folds over a value, as equations over one level of it.
use Rattle.std.proofs.Common.{◌≡◌, ℕ, suc, ◌+◌, pos, length, List, [], ◌∷◌, ◌++◌, map, refl, sym, ap, ◌∙◌}
use Rattle.std.specs.List.{flat_map, sum_by}
use Rattle.std.proofs.lemmas.List.{length-map, map-id}
use Rattle.std.proofs.lemmas.List.Sums.{sum_by-cons}
use Rattle.ig_value.specs.declared.value.Value.{Value, out-Value}
use Rattle.ig_value.specs.declared.value.Value.TheOpen.{Value-F}
use Rattle.ig_value.specs.declared.value.Value.TheFolds.{map-Value, fold_out-Value}
use Rattle.std.specs.Int.{w8, w32}
use Rattle.ig_base.specs.Numbers.{LE}
use Rattle.ig_value.specs.Table.{content, parts}
use Rattle.ig_value.specs.Objects.{object_bytes}
use Rattle.ig_value.specs.Canon.{layer_bytes, Canon}
use Rattle.ig_value.specs.Limits.{greatest, children, Depth, part_nodes, shape_nodes, Nodes}

pub flat_map_mapped : {X : Type 0} (h : X → List ℕ) (xs : List X) → flat_map (λ b. b) (map h xs) ≡ flat_map h xs
flat_map_mapped h [] = refl
flat_map_mapped h (x ∷ xs) = ap (λ (l : List ℕ). h x ++ l) (flat_map_mapped h xs)

flat_map_paired : {X : Type 0} (h : X → List ℕ) (ps : List (X × X)) → flat_map (λ (p : List ℕ × List ℕ). p.0 ++ p.1) (map (λ p. (h p.0, h p.1)) ps) ≡ flat_map (λ p. h p.0 ++ h p.1) ps
flat_map_paired h [] = refl
flat_map_paired h (p ∷ ps) = ap (λ (l : List ℕ). (h p.0 ++ h p.1) ++ l) (flat_map_paired h ps)

counted_mapped : {X : Type 0} (h : X → List ℕ) (head : List ℕ) (xs : List X) →
    LE w32 (pos (length (map h xs))) ++ (head ++ flat_map (λ b. b) (map h xs)) ≡ LE w32 (pos (length xs)) ++ (head ++ flat_map h xs)
counted_mapped h head xs = rw (length-map xs h, flat_map_mapped h xs) refl

abbrev each_of : {X Y : Type 0} → (X → Y) → X × X → Y × Y
each_of h p = (h p.0, h p.1)

pairs_mapped : {X : Type 0} (h : X → List ℕ) (head : List ℕ) (ps : List (X × X)) →
    LE w32 (pos (length (map (each_of h) ps))) ++ (head ++ flat_map (λ (p : List ℕ × List ℕ). p.0 ++ p.1) (map (each_of h) ps)) ≡
    LE w32 (pos (length ps)) ++ (head ++ flat_map (λ p. h p.0 ++ h p.1) ps)
pairs_mapped h head ps = rw (length-map ps (each_of h), flat_map_paired h ps) refl

layer_mapped : {X : Type 0} (h : X → List ℕ) (x : Value-F X) → layer_bytes (λ b. b) (map-Value X (List ℕ) h x) ≡ layer_bytes h x
layer_mapped h (Value-F.Objects type xs) = ap (λ (l : List ℕ). 23 ∷ (LE w32 type ++ l)) (counted_mapped h [] xs)
layer_mapped h (Value-F.Collection kind xs) = ap (λ (l : List ℕ). 24 ∷ l) (counted_mapped h (LE w8 kind) xs)
layer_mapped h (Value-F.Map kind ps) = ap (λ (l : List ℕ). 25 ∷ l) (pairs_mapped h (LE w8 kind) ps)
layer_mapped h (Value-F.Enums type xs) = ap (λ (l : List ℕ). 29 ∷ (LE w32 type ++ l)) (counted_mapped h [] xs)
layer_mapped h (Value-F.Object o) = ap (λ (l : List (List ℕ)). 103 ∷ object_bytes o.bits o.type_id o.shape l) (map-id (map h o.fields))
layer_mapped h _ = refl

-- the canonical spelling of a value, by those of the values inside
pub Canon_out : (v : Value) → Canon v ≡ layer_bytes Canon (out-Value v)
unfolding Canon
Canon_out v = fold_out-Value (List ℕ) (layer_bytes (λ b. b)) v ∙ layer_mapped Canon (out-Value v)

-- ---- depth

doubles_mapped : {X : Type 0} (h : X → ℕ) (ps : List (X × X)) → flat_map (λ (p : ℕ × ℕ). p.0 ∷ p.1 ∷ []) (map (each_of h) ps) ≡ map h (flat_map (λ p. p.0 ∷ p.1 ∷ []) ps)
doubles_mapped h [] = refl
doubles_mapped h (p ∷ ps) = ap (λ (l : List ℕ). h p.0 ∷ h p.1 ∷ l) (doubles_mapped h ps)

children_mapped : {X : Type 0} (h : X → ℕ) (x : Value-F X) → children (map-Value X ℕ h x) ≡ map h (children x)
children_mapped h (Value-F.Map kind ps) = doubles_mapped h ps
children_mapped h _ = refl

-- the depth of a value, by those of the values inside
pub Depth_out : (v : Value) → Depth v ≡ suc (greatest (map Depth (children (out-Value v))))
unfolding Depth
Depth_out v = fold_out-Value ℕ (λ x. suc (greatest (children x))) v ∙ ap (λ (l : List ℕ). suc (greatest l)) (children_mapped Depth (out-Value v))

-- ---- nodes

abbrev layer_nodes : {X : Type 0} → (X → ℕ) → Value-F X → ℕ
layer_nodes inner x = suc (part_nodes inner (content (parts x).0) (parts x).1)

sum_mapped : {X : Type 0} (h : X → ℕ) (xs : List X) → sum_by (λ n. n) (map h xs) ≡ sum_by h xs
sum_mapped h [] = refl
sum_mapped h (x ∷ xs) = sum_by-cons (λ n. n) (h x) (map h xs) ∙ ap (λ (n : ℕ). h x + n) (sum_mapped h xs) ∙ sym (sum_by-cons h x xs)

sum_paired : {X : Type 0} (h : X → ℕ) (ps : List (X × X)) → sum_by (λ (p : ℕ × ℕ). p.0 + p.1) (map (each_of h) ps) ≡ sum_by (λ p. h p.0 + h p.1) ps
sum_paired h [] = refl
sum_paired h (p ∷ ps) = sum_by-cons (λ (q : ℕ × ℕ). q.0 + q.1) (each_of h p) (map (each_of h) ps) ∙ ap (λ (n : ℕ). (h p.0 + h p.1) + n) (sum_paired h ps) ∙ sym (sum_by-cons (λ q. h q.0 + h q.1) p ps)

nodes_mapped : {X : Type 0} (h : X → ℕ) (x : Value-F X) → layer_nodes (λ n. n) (map-Value X ℕ h x) ≡ layer_nodes h x
nodes_mapped h (Value-F.Objects type xs) = ap (λ (n : ℕ). suc (1 + (0 + n))) (sum_mapped h xs)
nodes_mapped h (Value-F.Collection kind xs) = ap (λ (n : ℕ). suc (1 + n)) (sum_mapped h xs)
nodes_mapped h (Value-F.Map kind ps) = ap (λ (n : ℕ). suc (1 + n)) (sum_paired h ps)
nodes_mapped h (Value-F.Enums type xs) = ap (λ (n : ℕ). suc (1 + (0 + n))) (sum_mapped h xs)
nodes_mapped h (Value-F.Object o) = ap (λ (n : ℕ). suc (2 + shape_nodes o.shape + n)) (sum_mapped h o.fields)
nodes_mapped h _ = refl

-- the nodes of a value, by those of the values inside
pub Nodes_out : (v : Value) → Nodes v ≡ layer_nodes Nodes (out-Value v)
unfolding Nodes
Nodes_out v = fold_out-Value ℕ (layer_nodes (λ n. n)) v ∙ nodes_mapped Nodes (out-Value v)
