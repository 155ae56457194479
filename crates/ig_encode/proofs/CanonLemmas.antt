-- The canonical form of a value, by its code and its content.
use Rattle.std.proofs.Common.{◌≡◌, ℕ, ℤ, pos, List, ◌∷◌, ◌++◌, length, map, sym, ap, subst, ◌∙◌, append_assoc}
use Rattle.std.specs.Int.{w8, w32}
use Rattle.std.specs.List.{flat_map}
use Rattle.ig_base.specs.Numbers.{LE}
use Rattle.ig_value.specs.declared.code.Code.TheVariants as code
use Rattle.ig_value.specs.declared.object.Record.{Record}
use Rattle.ig_value.specs.declared.value.Value.TheVariants as value
use Rattle.ig_value.specs.Objects.{object_bytes}
use Rattle.ig_encode.specs.ListBytes.{pair_bytes}
use Rattle.ig_value.specs.declared.Code.{Code}
use Rattle.ig_value.specs.declared.Value.{Value, out-Value}
use Rattle.ig_value.specs.Part.{Content}
use Rattle.ig_value.specs.Table.{byte_of, content, parts, value_with}
use Rattle.ig_encode.specs.Leaves.{IsLeaf, IsLeafCode}
use Rattle.ig_value.specs.Canon.{part_bytes, Canon}
use Rattle.ig_value.proofs.FoldLemmas.{Canon_out}
use Rattle.ig_value.proofs.RowLemmas.{Row, built}

abbrev row_bytes : Row → List ℕ
row_bytes r = byte_of r.0 ∷ part_bytes Canon (content r.0) r.1

pub Canon_row : (v : Value) (c : Code) (x : Content Value (content c)) → v ≡ value_with c x → Canon v ≡ byte_of c ∷ part_bytes Canon (content c) x
Canon_row v c x e = Canon_out v ∙ ap (λ (w : Value). row_bytes (parts (out-Value w))) e ∙ ap row_bytes (built c x)

-- the code of a leaf is a leaf's
pub leaf_row : (v : Value) (c : Code) (x : Content Value (content c)) → v ≡ value_with c x → IsLeaf v → IsLeafCode c
leaf_row v c x e is =
    let same : (parts (out-Value v)).0 ≡ c = ap (λ (w : Value). (parts (out-Value w)).0) e ∙ ap (λ (r : Row). r.0) (built c x) in
    subst IsLeafCode same is

-- ---- values that hold values: what stands before these, and their own forms

abbrev pub typed_head : ℕ → ℤ → ℕ → List ℕ
typed_head byte type n = byte ∷ (LE w32 type ++ LE w32 (pos n))

abbrev pub kinded_head : ℕ → ℤ → ℕ → List ℕ
kinded_head byte kind n = byte ∷ (LE w32 (pos n) ++ LE w8 kind)

pub Canon_objects : (v : Value) (type : ℤ) (xs : List Value) → v ≡ value.Objects type xs → Canon v ≡ typed_head 23 type (length xs) ++ flat_map Canon xs
Canon_objects v type xs e = Canon_row v code.Objects (type, (tt, xs)) e ∙ ap (λ (l : List ℕ). 23 ∷ l) (sym (append_assoc (LE w32 type) (LE w32 (pos (length xs))) (flat_map Canon xs)))

pub Canon_enums : (v : Value) (type : ℤ) (xs : List Value) → v ≡ value.Enums type xs → Canon v ≡ typed_head 29 type (length xs) ++ flat_map Canon xs
Canon_enums v type xs e = Canon_row v code.Enums (type, (tt, xs)) e ∙ ap (λ (l : List ℕ). 29 ∷ l) (sym (append_assoc (LE w32 type) (LE w32 (pos (length xs))) (flat_map Canon xs)))

pub Canon_collection : (v : Value) (kind : ℤ) (xs : List Value) → v ≡ value.Collection kind xs → Canon v ≡ kinded_head 24 kind (length xs) ++ flat_map Canon xs
Canon_collection v kind xs e = Canon_row v code.Collection (kind, xs) e ∙ ap (λ (l : List ℕ). 24 ∷ l) (sym (append_assoc (LE w32 (pos (length xs))) (LE w8 kind) (flat_map Canon xs)))

pub Canon_map : (v : Value) (kind : ℤ) (ps : List (Value × Value)) → v ≡ value.Map kind ps → Canon v ≡ kinded_head 25 kind (length ps) ++ flat_map pair_bytes ps
Canon_map v kind ps e = Canon_row v code.Map (kind, ps) e ∙ ap (λ (l : List ℕ). 25 ∷ l) (sym (append_assoc (LE w32 (pos (length ps))) (LE w8 kind) (flat_map pair_bytes ps)))

pub Canon_object : (v : Value) (o : Record Value) → v ≡ value.Object o → Canon v ≡ 103 ∷ object_bytes o.bits o.type_id o.shape (map Canon o.fields)
Canon_object v o e = Canon_row v code.Object o e
