-- What follows of a spelling: the value keeps to the limits, the canonical form is no longer, and it
-- has a byte for each node. And what keeps to the limits has a spelling.
use Rattle.std.proofs.Common.{◌≡◌, ℕ, zero, suc, ◌<◌, ◌≤◌, ◌^◌, pos, true, false, List, [], ◌∷◌, ◌++◌, map, length, Some, None, refl, sym, ap, subst, ◌∙◌, arith, length-append}
use Rattle.std.specs.Int.{w32}
use Rattle.std.specs.List.{flat_map, sum_by, AllByRecursion}
use Rattle.std.proofs.lemmas.List.Sums.{sum_by-cons}
use Rattle.ig_base.specs.Numbers.{LE}
use Rattle.ig_value.specs.declared.code.Code.TheVariants as code
use Rattle.ig_value.specs.declared.value.Value.{Value, out-Value}
use Rattle.ig_value.specs.declared.value.Value.TheOpen.{Value-F}
use Rattle.ig_value.specs.Part.{Scalar, i8, i16, i32, i64, u16, u32, u64, truth, ScalarValue, Part, nothing, scalar, text, octets, uuid, stamp, decimal, value, object, both, counted, optional, Content}
use Rattle.ig_value.specs.Table.{byte_of, content, parts}
use Rattle.ig_value.specs.Spells.{scalar_bytes, IsScalar, IsRun, IsTextRun, IsBoth, IsCounted, IsEach, IsMany, SpellsPart, SpellsTo}
use Rattle.ig_value.specs.Canon.{counted_bytes, part_bytes, Canon}
use Rattle.ig_value.specs.Limits.{AreCountable, FitsPart, FitsTo, greatest, children, Depth, part_nodes, Nodes}
use Rattle.ig_value.proofs.SpelledObjectLemmas.{object_least, object_nodes, object_fits, object_spelled}
use Rattle.ig_value.proofs.PartLemmas.{IsProper}
use Rattle.ig_value.proofs.CountLemmas.{LE-length}
use Rattle.ig_value.proofs.FoldLemmas.{Canon_out, Depth_out, Nodes_out}

-- ---- a spelling without objects is canonical

each_bytes : {A : Type 0} (P : List ℕ → A → Type 0) (h : A → List ℕ) → ((s : List ℕ) (x : A) → P s x → s ≡ h x) → (s : List ℕ) (xs : List A) → IsEach P s xs → s ≡ flat_map h xs
each_bytes P h one s [] e = e
each_bytes P h one s (x ∷ xs) e =
    e.whole ∙ ap (λ (l : List ℕ). l ++ e.suffix) (one e.prefix x e.first) ∙ ap (λ (l : List ℕ). h x ++ l) (each_bytes P h one e.suffix xs e.second)

both_bytes : {A B : Type 0} (P : List ℕ → A → Type 0) (Q : List ℕ → B → Type 0) (s : List ℕ) (x : A × B) (a b : List ℕ) (e : IsBoth P Q s x) → e.prefix ≡ a → e.suffix ≡ b → s ≡ a ++ b
both_bytes P Q s x a b e p q = e.whole ∙ ap (λ (l : List ℕ). l ++ e.suffix) p ∙ ap (λ (l : List ℕ). a ++ l) q

run_bytes : (s x : List ℕ) → IsCounted IsRun s x → s ≡ counted_bytes x
run_bytes s x e = e.whole ∙ ap (λ (l : List ℕ). LE w32 (pos e.count) ++ l) e.after.0 ∙ ap (λ (n : ℕ). LE w32 (pos n) ++ x) (sym e.after.2)

text_bytes : (s x : List ℕ) → IsCounted IsTextRun s x → s ≡ counted_bytes x
text_bytes s x e = e.whole ∙ ap (λ (l : List ℕ). LE w32 (pos e.count) ++ l) e.after.0.0 ∙ ap (λ (n : ℕ). LE w32 (pos n) ++ x) (sym e.after.0.2)

-- a part that holds no object has one spelling, where a value inside has
pub part_spelled : {X : Type 0} (P : List ℕ → X → Type 0) (h : X → List ℕ) → ((s : List ℕ) (x : X) → P s x → s ≡ h x) → (p : Part) → IsProper p → (s : List ℕ) (x : Content X p) → SpellsPart P p s x → s ≡ part_bytes h p x
part_spelled P h one nothing proper s x e = e
part_spelled P h one (scalar k) proper s x e = e.1
part_spelled P h one text proper s x e = text_bytes s x e
part_spelled P h one octets proper s x e = run_bytes s x e
part_spelled P h one uuid proper s x e = both_bytes (IsScalar u64) (IsScalar u64) s (x.most, x.least) _ _ e e.first.1 e.second.1
part_spelled P h one stamp proper s x e = both_bytes (IsScalar i64) (IsScalar i32) s (x.millis, x.nanos) _ _ e e.first.1 e.second.1
part_spelled P h one decimal proper s x e = both_bytes (IsScalar i32) (IsCounted IsRun) s (x.scale, x.bytes) _ _ e e.first.1 (run_bytes e.suffix x.bytes e.second)
part_spelled P h one value proper s x e = one s x e
part_spelled P h one object proper s x e = absurd proper
part_spelled P h one (both p q) proper s x e =
    both_bytes (SpellsPart P p) (SpellsPart P q) s x _ _ e (part_spelled P h one p proper.0 e.prefix x.0 e.first) (part_spelled P h one q proper.1 e.suffix x.1 e.second)
part_spelled P h one (counted p q) proper s x e =
    let b = e.after in
    let inner = both_bytes (SpellsPart P p) (IsMany (SpellsPart P q) e.count) e.suffix x (part_bytes h p x.0) (flat_map (part_bytes h q) x.1) b
    (part_spelled P h one p proper.0 b.prefix x.0 b.first) (each_bytes (SpellsPart P q) (part_bytes h q) (part_spelled P h one q proper.1) b.suffix x.1 b.second.0) in
    e.whole ∙ ap (λ (l : List ℕ). LE w32 (pos e.count) ++ l) inner ∙ ap (λ (n : ℕ). LE w32 (pos n) ++ (part_bytes h p x.0 ++ flat_map (part_bytes h q) x.1)) (sym b.second.1)
part_spelled P h one (optional c p) proper s None e = e
part_spelled P h one (optional c p) proper s (Some x) e = e.whole ∙ ap (λ (l : List ℕ). byte_of c ∷ l) (part_spelled P h one p proper.1 e.suffix x e.after)

-- ---- no spelling is shorter than the canonical form

each_least : {A : Type 0} (P : List ℕ → A → Type 0) (h : A → List ℕ) → ((s : List ℕ) (x : A) → P s x → length (h x) ≤ length s) → (s : List ℕ) (xs : List A) → IsEach P s xs → length (flat_map h xs) ≤ length s
each_least P h one s [] e = omega arith
each_least P h one s (x ∷ xs) e =
    omega (arith, one e.prefix x e.first, each_least P h one e.suffix xs e.second, ap length e.whole, length-append e.prefix e.suffix, length-append (h x) (flat_map h xs))

same_len : (s t : List ℕ) → s ≡ t → length t ≤ length s
same_len s t e = omega (arith, ap length e)

part_least : {X : Type 0} (P : List ℕ → X → Type 0) (h : X → List ℕ) → ((s : List ℕ) (x : X) → P s x → length (h x) ≤ length s) → (p : Part) (s : List ℕ) (x : Content X p) → SpellsPart P p s x → length (part_bytes h p x) ≤ length s
part_least P h one nothing s x e = omega arith
part_least P h one (scalar k) s x e = same_len s _ e.1
part_least P h one text s x e = same_len s _ (text_bytes s x e)
part_least P h one octets s x e = same_len s _ (run_bytes s x e)
part_least P h one uuid s x e = same_len s _ (both_bytes (IsScalar u64) (IsScalar u64) s (x.most, x.least) _ _ e e.first.1 e.second.1)
part_least P h one stamp s x e = same_len s _ (both_bytes (IsScalar i64) (IsScalar i32) s (x.millis, x.nanos) _ _ e e.first.1 e.second.1)
part_least P h one decimal s x e = same_len s _ (both_bytes (IsScalar i32) (IsCounted IsRun) s (x.scale, x.bytes) _ _ e e.first.1 (run_bytes e.suffix x.bytes e.second))
part_least P h one value s x e = one s x e
part_least P h one object s x e = object_least P h one s x e
part_least P h one (both p q) s x e =
    omega (arith, part_least P h one p e.prefix x.0 e.first, part_least P h one q e.suffix x.1 e.second, ap length e.whole, length-append e.prefix e.suffix, length-append (part_bytes h p x.0) (part_bytes h q x.1))
part_least P h one (counted p q) s x e =
    let b = e.after in
    omega (
      arith,
      part_least P h one p b.prefix x.0 b.first,
      each_least (SpellsPart P q) (part_bytes h q) (part_least P h one q) b.suffix x.1 b.second.0,
      ap length e.whole,
      length-append (LE w32 (pos e.count)) e.suffix,
      ap length b.whole,
      length-append b.prefix b.suffix,
      length-append (LE w32 (pos (length x.1))) (part_bytes h p x.0 ++ flat_map (part_bytes h q) x.1),
      length-append (part_bytes h p x.0) (flat_map (part_bytes h q) x.1),
      LE-length (pos e.count),
      LE-length (pos (length x.1)),
    )
part_least P h one (optional c p) s None e = same_len s _ e
part_least P h one (optional c p) s (Some x) e = omega (arith, part_least P h one p e.suffix x e.after, ap length e.whole)

pub spelled_least : (levels : ℕ) (s : List ℕ) (v : Value) → SpellsTo levels s v → length (Canon v) ≤ length s
spelled_least zero s v e = absurd e
spelled_least (suc levels) s v e =
    let r = parts (out-Value v) in
    omega (arith, ap length (Canon_out v), part_least (SpellsTo levels) Canon (spelled_least levels) (content r.0) e.suffix r.1 e.after, ap length e.whole)

-- ---- a spelled value keeps to the limits

each_fits : {A : Type 0} (P : List ℕ → A → Type 0) (F : A → Type 0) → ((s : List ℕ) (x : A) → P s x → F x) → (s : List ℕ) (xs : List A) → IsEach P s xs → AllByRecursion F xs
each_fits P F one s [] e = tt
each_fits P F one s (x ∷ xs) e = (one e.prefix x e.first, each_fits P F one e.suffix xs e.second)

run_fits : (s x : List ℕ) → IsCounted IsRun s x → AreCountable x
run_fits s x e = (e.after.1, subst (λ (n : ℕ). n < 2 ^ 31) (sym e.after.2) e.small)

part_fits : {X : Type 0} (P : List ℕ → X → Type 0) (F : X → Type 0) → ((s : List ℕ) (x : X) → P s x → F x) → (p : Part) (s : List ℕ) (x : Content X p) → SpellsPart P p s x → FitsPart F p x
part_fits P F one nothing s x e = tt
part_fits P F one (scalar k) s x e = e.0
part_fits P F one text s x e = ((e.after.0.1, subst (λ (n : ℕ). n < 2 ^ 31) (sym e.after.0.2) e.small), e.after.1)
part_fits P F one octets s x e = run_fits s x e
part_fits P F one uuid s x e = (e.first.0, e.second.0)
part_fits P F one stamp s x e = (e.first.0, e.second.0)
part_fits P F one decimal s x e = (e.first.0, run_fits e.suffix x.bytes e.second)
part_fits P F one value s x e = one s x e
part_fits P F one object s x e = object_fits P F one (byte_of code.Object ∷ s) x e
part_fits P F one (both p q) s x e = (part_fits P F one p e.prefix x.0 e.first, part_fits P F one q e.suffix x.1 e.second)
part_fits P F one (counted p q) s x e =
    let b = e.after in
    (subst (λ (n : ℕ). n < 2 ^ 31) (sym b.second.1) e.small, (part_fits P F one p b.prefix x.0 b.first, each_fits (SpellsPart P q) (FitsPart F q) (part_fits P F one q) b.suffix x.1 b.second.0))
part_fits P F one (optional c p) s None e = tt
part_fits P F one (optional c p) s (Some x) e = part_fits P F one p e.suffix x e.after

pub spelled_fits : (levels : ℕ) (s : List ℕ) (v : Value) → SpellsTo levels s v → FitsTo levels v
spelled_fits zero s v e = absurd e
spelled_fits (suc levels) s v e = let r = parts (out-Value v) in part_fits (SpellsTo levels) (FitsTo levels) (spelled_fits levels) (content r.0) e.suffix r.1 e.after

-- ---- what keeps to the limits is spelled by its canonical form, where an Int32 counts its bytes

each_spelled : {A : Type 0} (P : List ℕ → A → Type 0) (F : A → Type 0) (h : A → List ℕ) → ((x : A) → F x → suc (length (h x)) < 2 ^ 31 → P (h x) x) → (xs : List A) → AllByRecursion F xs → suc (length (flat_map h xs)) < 2 ^ 31 →
    IsEach P (flat_map h xs) xs
each_spelled P F h one [] f lt = refl
each_spelled P F h one (x ∷ xs) f lt =
    let len = length-append (h x) (flat_map h xs) in
    record { prefix = h x; suffix = flat_map h xs; whole = refl; first = one x f.0 (omega (arith, len, lt)); second = each_spelled P F h one xs f.1 (omega (arith, len, lt)) }

run_spelled : (x : List ℕ) → AreCountable x → IsCounted IsRun (counted_bytes x) x
run_spelled x f = record { count = length x; suffix = x; small = f.1; whole = refl; after = (refl, f.0, refl) }

fits_part : {X : Type 0} (P : List ℕ → X → Type 0) (F : X → Type 0) (h : X → List ℕ) → ((x : X) → F x → length (h x) < 2 ^ 31 → P (h x) x) → (p : Part) (x : Content X p) → FitsPart F p x → suc (length (part_bytes h p x)) < 2 ^ 31 →
    SpellsPart P p (part_bytes h p x) x
fits_part P F h one nothing x f lt = refl
fits_part P F h one (scalar k) x f lt = (f, refl)
fits_part P F h one text x f lt = record { count = length x; suffix = x; small = f.0.1; whole = refl; after = ((refl, f.0.0, refl), f.1) }
fits_part P F h one octets x f lt = run_spelled x f
fits_part P F h one uuid x f lt = record { prefix = scalar_bytes u64 x.most; suffix = scalar_bytes u64 x.least; whole = refl; first = (f.0, refl); second = (f.1, refl) }
fits_part P F h one stamp x f lt = record { prefix = scalar_bytes i64 x.millis; suffix = scalar_bytes i32 x.nanos; whole = refl; first = (f.0, refl); second = (f.1, refl) }
fits_part P F h one decimal x f lt = record { prefix = scalar_bytes i32 x.scale; suffix = counted_bytes x.bytes; whole = refl; first = (f.0, refl); second = run_spelled x.bytes f.1 }
fits_part P F h one value x f lt = one x f (omega (arith, lt))
fits_part P F h one object x f lt = object_spelled P F h one x f lt
fits_part P F h one (both p q) x f lt =
    let len = length-append (part_bytes h p x.0) (part_bytes h q x.1) in
    record { prefix = part_bytes h p x.0; suffix = part_bytes h q x.1; whole = refl; first = fits_part P F h one p x.0 f.0 (omega (arith, len, lt)); second = fits_part P F h one q x.1 f.1 (omega (arith, len, lt)) }
fits_part P F h one (counted p q) x f lt =
    let outer = length-append (LE w32 (pos (length x.1))) (part_bytes h p x.0 ++ flat_map (part_bytes h q) x.1) in
    let inner = length-append (part_bytes h p x.0) (flat_map (part_bytes h q) x.1) in
    record {
      count = length x.1;
      suffix = part_bytes h p x.0 ++ flat_map (part_bytes h q) x.1;
      small = f.0;
      whole = refl;
      after = record {
        prefix = part_bytes h p x.0;
        suffix = flat_map (part_bytes h q) x.1;
        whole = refl;
        first = fits_part P F h one p x.0 f.1.0 (omega (arith, outer, inner, lt));
        second = (each_spelled (SpellsPart P q) (FitsPart F q) (part_bytes h q) (fits_part P F h one q) x.1 f.1.1 (omega (arith, outer, inner, lt)), refl);
      };
    }
fits_part P F h one (optional c p) None f lt = refl
fits_part P F h one (optional c p) (Some x) f lt = record { suffix = part_bytes h p x; whole = refl; after = fits_part P F h one p x f (omega (arith, lt)) }

pub fits_spelled : (levels : ℕ) (v : Value) → FitsTo levels v → length (Canon v) < 2 ^ 31 → SpellsTo levels (Canon v) v
fits_spelled zero v f lt = absurd f
fits_spelled (suc levels) v f lt =
    let r = parts (out-Value v) in
    record { suffix = part_bytes Canon (content r.0) r.1; whole = Canon_out v; after = fits_part (SpellsTo levels) (FitsTo levels) Canon (fits_spelled levels) (content r.0) r.1 f (omega (arith, ap length (Canon_out v), lt)) }

-- ---- a byte for each node

scalar_nodes : (k : Scalar) (x : ScalarValue k) → 1 ≤ length (scalar_bytes k x)
unfolding LE
scalar_nodes truth true = omega arith
scalar_nodes truth false = omega arith
scalar_nodes i8 x = omega arith
scalar_nodes i16 x = omega arith
scalar_nodes i32 x = omega arith
scalar_nodes i64 x = omega arith
scalar_nodes u16 x = omega arith
scalar_nodes u32 x = omega arith
scalar_nodes u64 x = omega arith

is_scalar_nodes : (k : Scalar) (s : List ℕ) (x : ScalarValue k) → IsScalar k s x → 1 ≤ length s
is_scalar_nodes k s x e = omega (arith, scalar_nodes k x, ap length e.1)

each_nodes : {A : Type 0} (P : List ℕ → A → Type 0) (h : A → ℕ) → ((s : List ℕ) (x : A) → P s x → h x ≤ length s) → (s : List ℕ) (xs : List A) → IsEach P s xs → sum_by h xs ≤ length s
each_nodes P h one s [] e = omega arith
each_nodes P h one s (x ∷ xs) e =
    omega (arith, sum_by-cons h x xs, one e.prefix x e.first, each_nodes P h one e.suffix xs e.second, ap length e.whole, length-append e.prefix e.suffix)

run_nodes : (s x : List ℕ) → IsCounted IsRun s x → length x ≤ length s
run_nodes s x e = omega (arith, ap length e.whole, length-append (LE w32 (pos e.count)) e.suffix, ap length e.after.0)

part_counts : {X : Type 0} (P : List ℕ → X → Type 0) (h : X → ℕ) → ((s : List ℕ) (x : X) → P s x → h x ≤ length s) → (p : Part) (s : List ℕ) (x : Content X p) → SpellsPart P p s x → part_nodes h p x ≤ length s
part_counts P h one nothing s x e = omega arith
part_counts P h one (scalar k) s x e = is_scalar_nodes k s x e
part_counts P h one text s x e = omega (arith, ap length e.whole, length-append (LE w32 (pos e.count)) e.suffix, ap length e.after.0.0)
part_counts P h one octets s x e = run_nodes s x e
part_counts P h one uuid s x e = omega (arith, is_scalar_nodes u64 e.prefix x.most e.first, ap length e.whole, length-append e.prefix e.suffix)
part_counts P h one stamp s x e = omega (arith, is_scalar_nodes i64 e.prefix x.millis e.first, ap length e.whole, length-append e.prefix e.suffix)
part_counts P h one decimal s x e = omega (arith, run_nodes e.suffix x.bytes e.second, ap length e.whole, length-append e.prefix e.suffix)
part_counts P h one value s x e = one s x e
part_counts P h one object s x e = object_nodes P h one s x e
part_counts P h one (both p q) s x e =
    omega (arith, part_counts P h one p e.prefix x.0 e.first, part_counts P h one q e.suffix x.1 e.second, ap length e.whole, length-append e.prefix e.suffix)
part_counts P h one (counted p q) s x e =
    let b = e.after in
    omega (
      arith,
      part_counts P h one p b.prefix x.0 b.first,
      each_nodes (SpellsPart P q) (part_nodes h q) (part_counts P h one q) b.suffix x.1 b.second.0,
      ap length e.whole,
      length-append (LE w32 (pos e.count)) e.suffix,
      ap length b.whole,
      length-append b.prefix b.suffix,
    )
part_counts P h one (optional c p) s None e = omega (arith, ap length e)
part_counts P h one (optional c p) s (Some x) e = omega (arith, part_counts P h one p e.suffix x e.after, ap length e.whole)

pub spelled_nodes : (levels : ℕ) (s : List ℕ) (v : Value) → SpellsTo levels s v → Nodes v ≤ length s
spelled_nodes zero s v e = absurd e
spelled_nodes (suc levels) s v e =
    let r = parts (out-Value v) in
    omega (arith, Nodes_out v, part_counts (SpellsTo levels) Nodes (spelled_nodes levels) (content r.0) e.suffix r.1 e.after, ap length e.whole)

-- ---- the depth of what keeps to the limits

all_single : {X : Type 0} (F : X → Type 0) (ps : List (X × X)) → AllByRecursion (λ p. F p.0 × F p.1) ps → AllByRecursion F (flat_map (λ p. p.0 ∷ p.1 ∷ []) ps)
all_single F [] f = tt
all_single F (p ∷ ps) f = (f.0.0, (f.0.1, all_single F ps f.1))

children_fit : {X : Type 0} (F : X → Type 0) (x : Value-F X) → FitsPart F (content (parts x).0) (parts x).1 → AllByRecursion F (children x)
children_fit F (Value-F.Objects type xs) f = f.1.1.1
children_fit F (Value-F.Collection kind xs) f = f.1.1
children_fit F (Value-F.Map kind ps) f = all_single F ps f.1.1
children_fit F (Value-F.Enums type xs) f = f.1.1.1
children_fit F (Value-F.Object o) f = f.fields
children_fit F _ f = tt

greatest_below : (levels : ℕ) (F : Value → Type 0) → ((v : Value) → F v → Depth v ≤ levels) → (vs : List Value) → AllByRecursion F vs → greatest (map Depth vs) ≤ levels
greatest_below levels F one [] f = omega arith
greatest_below levels F one (v ∷ vs) f = omega (arith, one v f.0, greatest_below levels F one vs f.1)

pub fits_depth : (levels : ℕ) (v : Value) → FitsTo levels v → Depth v ≤ levels
fits_depth zero v f = absurd f
fits_depth (suc levels) v f =
    omega (arith, Depth_out v, greatest_below levels (FitsTo levels) (fits_depth levels) (children (out-Value v)) (children_fit (FitsTo levels) (out-Value v) f))
