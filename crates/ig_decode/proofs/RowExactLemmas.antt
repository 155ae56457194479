-- Rows of the table of values: whether bytes were in the canonical form.
use Rattle.std.proofs.Common.{◌≡◌, ℕ, zero, suc, pos, ℤ, Bool, List, [], ◌∷◌, ◌++◌, length, drop, Result, Ok, Err, refl, sym, ap, subst, ◌∙◌, arith}
use Rattle.std.specs.Prelude.{IfOk, FitsSigned}
use Rattle.std.specs.Int.{Width, w8, w32}
use Rattle.std.proofs.Common.{to_z, of_z}
use Rattle.std.proofs.lemmas.Int.{to_z-of_z}
use Rattle.std.specs.List.{flat_map}
use Rattle.ig_base.specs.Numbers.{AreBytes, LE}
use Rattle.ig_value.specs.declared.Code.{Code}
use Rattle.ig_value.specs.declared.Code.TheVariants as code
use Rattle.ig_value.specs.declared.Value.{Value}
use Rattle.ig_value.specs.declared.Value.TheVariants as value
use Rattle.ig_value.specs.Part.{Scalar, ScalarValue, i8, i32, Content}
use Rattle.ig_value.specs.Table.{byte_of, content, value_with}
use Rattle.ig_value.specs.Spells.{SpellsTo, scalar_bytes, IsInRange}
use Rattle.ig_value.specs.Stops.{StopsTo}
use Rattle.ig_value.specs.Canon.{Canon, part_bytes}
use Rattle.ig_value.specs.Reading.{Read, ◌>>=◌, scalar_at, count_at, many_at, part_at, content_at, value_at}
use Rattle.ig_value.proofs.AgreesLemmas.{AreBytes-drop, AreBytes-suffix, bind_ok, ok_is}
use Rattle.ig_value.proofs.CountLemmas.{count_takes}
use Rattle.ig_value.proofs.FoldLemmas.{Canon_out}
use Rattle.ig_value.proofs.PartLemmas.{IsPlain, part_agrees, content_proper}
use Rattle.ig_value.proofs.RowLemmas.{Row, built}
use Rattle.ig_value.proofs.ScalarLemmas.{scalar_agrees}
use Rattle.ig_value.proofs.SpelledLemmas.{part_spelled}
use Rattle.ig_value.proofs.ValueLemmas.{value_agrees}
use Rattle.ig_decode.specs.declared.fault.ReadError.{ReadError}
use Rattle.ig_decode.specs.ReaderAnswers.{ReaderAnswers}
use Rattle.ig_decode.specs.Exactness.{KeepsExact}
use Rattle.ig_decode.proofs.ExactLemmas.{both_exact, plain_exact, coded_exact}

-- the canonical form of a row
pub row_form : (c : Code) (x : Content Value (content c)) → Canon (value_with c x) ≡ byte_of c ∷ part_bytes Canon (content c) x
row_form c x = Canon_out (value_with c x) ∙ ap (λ (r : Row). byte_of r.0 ∷ part_bytes Canon (content r.0) r.1) (built c x)

-- ---- rows with no value inside

part_taken : (c : Code) → IsPlain c → (s : List ℕ) (x : Content Value (content c)) (rest : List ℕ) → AreBytes s → part_at (value_at 0) (content c) s ≡ Ok (x, rest) → s ≡ part_bytes Canon (content c) x ++ rest
part_taken c plain s x rest b e =
    let proper = content_proper c plain in
    let t = (part_agrees (SpellsTo 0) (StopsTo 0) (value_at 0) (value_agrees 0) (content c) proper).takes s x rest b e in
    t.whole ∙ ap (λ (l : List ℕ). l ++ rest) (part_spelled (SpellsTo 0) Canon (λ s v no. absurd no) (content c) proper t.prefix x t.right)

row_taken : (c : Code) → IsPlain c → (s : List ℕ) (v : Value) (rest : List ℕ) → AreBytes s → content_at (value_at 0) c s ≡ Ok (v, rest) → byte_of c ∷ s ≡ Canon v ++ rest
row_taken c plain s v rest b e =
    let a = bind_ok (part_at (value_at 0) (content c) s) (λ x. Ok (value_with c x.0, x.1)) (v, rest) e in
    let form = row_form c a.0.0 in
    let made : byte_of c ∷ s ≡ Canon (value_with c a.0.0) ++ a.0.1 = ap (λ (l : List ℕ). byte_of c ∷ l) (part_taken c plain s a.0.0 a.0.1 b a.1) ∙ ap (λ (l : List ℕ). l ++ a.0.1) (sym form) in
    subst (λ (y : Value × List ℕ). byte_of c ∷ s ≡ Canon y.0 ++ y.1) (ok_is (value_with c a.0.0, a.0.1) (v, rest) a.2) made

-- the result of such a row leaves the flag
pub row_exact : {X : Type 0} (c : Code) → IsPlain c → (s whole : List ℕ) → AreBytes s → whole ≡ byte_of c ∷ s → (view : X → Value × List ℕ) (result : Result X ReadError) → ReaderAnswers view result (content_at (value_at 0) c s) → (b : Bool)
    → IfOk result (λ x. KeepsExact b b whole (Canon (view x).0) (view x).1)
row_exact c plain s whole bytes is view (Ok x) e b = plain_exact b whole (Canon (view x).0) (view x).1 (is ∙ row_taken c plain s (view x).0 (view x).1 bytes e)
row_exact c plain s whole bytes is view (Err f) e b = tt

pub arm_exact : {X : Type 0} (k c : Code) → IsPlain c → k ≡ c → (s whole : List ℕ) → AreBytes s → whole ≡ byte_of k ∷ s → (view : X → Value × List ℕ) (result : Result X ReadError) → ReaderAnswers view result (content_at (value_at 0) c s) → (b : Bool)
    → IfOk result (λ x. KeepsExact b b whole (Canon (view x).0) (view x).1)
arm_exact k c plain is s whole bytes starts view result e b = row_exact c plain s whole bytes (starts ∙ ap (λ (d : Code). byte_of d ∷ s) is) view result e b

-- ---- rows with values inside

-- as many were read as were asked for
many_len : {A : Type 0} (one : List ℕ → Read A) (n : ℕ) (s : List ℕ) (xs : List A) (rest : List ℕ) → many_at one n s ≡ Ok (xs, rest) → length xs ≡ n
many_len {A} one zero s xs rest e = let same = ok_is {A = List A × List ℕ} ([], s) (xs, rest) e in ap (λ (z : List A × List ℕ). length z.0) (sym same)
many_len {A} one (suc n) s xs rest e =
    let a = bind_ok (one s) (λ x. many_at one n x.1 >>= λ ys. Ok (x.0 ∷ ys.0, ys.1)) (xs, rest) e in
    let b = bind_ok (many_at one n a.0.1) (λ ys. Ok (a.0.0 ∷ ys.0, ys.1)) (xs, rest) a.2 in
    let same = ok_is {A = List A × List ℕ} (a.0.0 ∷ b.0.0, b.0.1) (xs, rest) b.2 in
    ap (λ (z : List A × List ℕ). length z.0) (sym same) ∙ ap suc (many_len one n a.0.1 b.0.0 b.0.1 b.1)

scalar_exact : (b : Bool) (k : Scalar) (s : List ℕ) (x : ScalarValue k) (rest : List ℕ) → AreBytes s → scalar_at k s ≡ Ok (x, rest) → KeepsExact b b s (scalar_bytes k x) rest
scalar_exact b k s x rest bytes e = let t = (scalar_agrees k).takes s x rest bytes e in plain_exact b s (scalar_bytes k x) rest (t.whole ∙ ap (λ (l : List ℕ). l ++ rest) t.right.1)

count_exact : (b : Bool) (s : List ℕ) (n : ℕ) (rest : List ℕ) → AreBytes s → count_at s ≡ Ok (n, rest) → KeepsExact b b s (LE w32 (pos n)) rest
count_exact b s n rest bytes e = plain_exact b s (LE w32 (pos n)) rest (count_takes s n rest bytes e).1

AreBytes-rest : (a b : Bool) (s f r : List ℕ) → KeepsExact a b s f r → AreBytes s → AreBytes r
AreBytes-rest a b s f r k bytes = AreBytes-suffix s k.prefix r k.whole bytes

-- a count, a kind, and the items
kinded_exact : {A : Type 0} (h : A → List ℕ) (one : List ℕ → Read A) (a b : Bool) (s r1 r2 r3 : List ℕ) (n : ℕ) (kind : ℤ) (items : List A) → AreBytes s → count_at s ≡ Ok (n, r1) → scalar_at i8 r1 ≡ Ok (kind, r2) → many_at one n r2 ≡ Ok (items, r3) →
    KeepsExact a b r2 (flat_map h items) r3 → KeepsExact a b s (LE w32 (pos (length items)) ++ (LE w8 kind ++ flat_map h items)) r3
kinded_exact h one a b s r1 r2 r3 n kind items bytes count scalar many k =
    let head = count_exact a s n r1 bytes count in
    let kinded = scalar_exact a i8 r1 kind r2 (AreBytes-rest a a s (LE w32 (pos n)) r1 head bytes) scalar in
    let all = both_exact a a b s (LE w32 (pos n)) r1 (LE w8 kind ++ flat_map h items) r3 head (both_exact a a b r1 (LE w8 kind) r2 (flat_map h items) r3 kinded k) in
    subst (λ (m : ℕ). KeepsExact a b s (LE w32 (pos m) ++ (LE w8 kind ++ flat_map h items)) r3) (sym (many_len one n r2 items r3 many)) all

-- a type, a count, and the items
typed_exact : {A : Type 0} (h : A → List ℕ) (one : List ℕ → Read A) (a b : Bool) (s r1 r2 r3 : List ℕ) (type : ℤ) (n : ℕ) (items : List A) → AreBytes s → scalar_at i32 s ≡ Ok (type, r1) → count_at r1 ≡ Ok (n, r2) → many_at one n r2 ≡ Ok (items, r3) →
    KeepsExact a b r2 (flat_map h items) r3 → KeepsExact a b s (LE w32 type ++ (LE w32 (pos (length items)) ++ flat_map h items)) r3
typed_exact h one a b s r1 r2 r3 type n items bytes scalar count many k =
    let typed = scalar_exact a i32 s type r1 bytes scalar in
    let head = count_exact a r1 n r2 (AreBytes-rest a a s (LE w32 type) r1 typed bytes) count in
    let all = both_exact a a b s (LE w32 type) r1 (LE w32 (pos n) ++ flat_map h items) r3 typed (both_exact a a b r1 (LE w32 (pos n)) r2 (flat_map h items) r3 head k) in
    subst (λ (m : ℕ). KeepsExact a b s (LE w32 type ++ (LE w32 (pos m) ++ flat_map h items)) r3) (sym (many_len one n r2 items r3 many)) all

-- a signed number as it reaches a value
same_number : (w : Width) (z : ℤ) → FitsSigned w z → z ≡ to_z w (of_z w z)
same_number w z fits = sym (to_z-of_z w z fits)

scalar_range : (k : Scalar) (s : List ℕ) (x : ScalarValue k) (rest : List ℕ) → AreBytes s → scalar_at k s ≡ Ok (x, rest) → IsInRange k x
scalar_range k s x rest bytes e = ((scalar_agrees k).takes s x rest bytes e).right.0

after_code : (v : Value) (byte : ℕ) (form : List ℕ) → Canon v ≡ byte ∷ form → form ≡ drop 1 (Canon v)
after_code v byte form e = sym (ap (drop 1) e)

pub collection_exact : (levels : ℕ) (a b : Bool) (s r1 r2 r3 : List ℕ) (n : ℕ) (kind : ℤ) (items : List Value) → AreBytes s → count_at s ≡ Ok (n, r1) → scalar_at i8 r1 ≡ Ok (kind, r2) → many_at (value_at levels) n r2 ≡ Ok (items, r3) →
    KeepsExact a b r2 (flat_map Canon items) r3 → KeepsExact a b s (drop 1 (Canon (value.Collection (to_z w8 (of_z w8 kind)) items))) r3
collection_exact levels a b s r1 r2 r3 n kind items bytes count scalar many k =
    let range = scalar_range i8 r1 kind r2 (AreBytes-rest a a s (LE w32 (pos n)) r1 (count_exact a s n r1 bytes count) bytes) scalar in
    subst (λ (z : ℤ). KeepsExact a b s (drop 1 (Canon (value.Collection z items))) r3) (same_number w8 kind range)
    (subst (λ (l : List ℕ). KeepsExact a b s l r3) (after_code (value.Collection kind items) 24 _ (row_form code.Collection (kind, items))) (kinded_exact Canon (value_at levels) a b s r1 r2 r3 n kind items bytes count scalar many k))

pub map_exact : (one : List ℕ → Read (Value × Value)) (a b : Bool) (s r1 r2 r3 : List ℕ) (n : ℕ) (kind : ℤ) (pairs : List (Value × Value)) → AreBytes s → count_at s ≡ Ok (n, r1) → scalar_at i8 r1 ≡ Ok (kind, r2) → many_at one n r2 ≡ Ok (pairs, r3) →
    KeepsExact a b r2 (flat_map (λ p. Canon p.0 ++ Canon p.1) pairs) r3 → KeepsExact a b s (drop 1 (Canon (value.Map (to_z w8 (of_z w8 kind)) pairs))) r3
map_exact one a b s r1 r2 r3 n kind pairs bytes count scalar many k =
    let range = scalar_range i8 r1 kind r2 (AreBytes-rest a a s (LE w32 (pos n)) r1 (count_exact a s n r1 bytes count) bytes) scalar in
    subst (λ (z : ℤ). KeepsExact a b s (drop 1 (Canon (value.Map z pairs))) r3) (same_number w8 kind range)
    (subst (λ (l : List ℕ). KeepsExact a b s l r3) (after_code (value.Map kind pairs) 25 _ (row_form code.Map (kind, pairs))) (kinded_exact (λ p. Canon p.0 ++ Canon p.1) one a b s r1 r2 r3 n kind pairs bytes count scalar many k))

pub objects_exact : (levels : ℕ) (a b : Bool) (s r1 r2 r3 : List ℕ) (type : ℤ) (n : ℕ) (items : List Value) → AreBytes s → scalar_at i32 s ≡ Ok (type, r1) → count_at r1 ≡ Ok (n, r2) → many_at (value_at levels) n r2 ≡ Ok (items, r3) →
    KeepsExact a b r2 (flat_map Canon items) r3 → KeepsExact a b s (drop 1 (Canon (value.Objects (to_z w32 (of_z w32 type)) items))) r3
objects_exact levels a b s r1 r2 r3 type n items bytes scalar count many k =
    let range = scalar_range i32 s type r1 bytes scalar in
    subst (λ (z : ℤ). KeepsExact a b s (drop 1 (Canon (value.Objects z items))) r3) (same_number w32 type range)
    (subst (λ (l : List ℕ). KeepsExact a b s l r3) (after_code (value.Objects type items) 23 _ (row_form code.Objects (type, (tt, items)))) (typed_exact Canon (value_at levels) a b s r1 r2 r3 type n items bytes scalar count many k))

pub enums_exact : (levels : ℕ) (a b : Bool) (s r1 r2 r3 : List ℕ) (type : ℤ) (n : ℕ) (items : List Value) → AreBytes s → scalar_at i32 s ≡ Ok (type, r1) → count_at r1 ≡ Ok (n, r2) → many_at (value_at levels) n r2 ≡ Ok (items, r3) →
    KeepsExact a b r2 (flat_map Canon items) r3 → KeepsExact a b s (drop 1 (Canon (value.Enums (to_z w32 (of_z w32 type)) items))) r3
enums_exact levels a b s r1 r2 r3 type n items bytes scalar count many k =
    let range = scalar_range i32 s type r1 bytes scalar in
    subst (λ (z : ℤ). KeepsExact a b s (drop 1 (Canon (value.Enums z items))) r3) (same_number w32 type range)
    (subst (λ (l : List ℕ). KeepsExact a b s l r3) (after_code (value.Enums type items) 29 _ (row_form code.Enums (type, (tt, items)))) (typed_exact Canon (value_at levels) a b s r1 r2 r3 type n items bytes scalar count many k))

-- a row with values inside, after its code, where what follows the code was read so
pub inside_exact : {X : Type 0} (levels : ℕ) (c : Code) (s whole : List ℕ) → whole ≡ byte_of c ∷ s → (view : X → Value × List ℕ) (result : Result X ReadError) → ReaderAnswers view result (content_at (value_at levels) c s) → (a b : Bool)
    → IfOk result (λ x. KeepsExact a b s (drop 1 (Canon (view x).0)) (view x).1) → IfOk result (λ x. KeepsExact a b whole (Canon (view x).0) (view x).1)
inside_exact levels c s whole is view (Ok x) e a b k =
    let r = bind_ok (part_at (value_at levels) (content c) s) (λ y. Ok (value_with c y.0, y.1)) (view x) e in
    let same : value_with c r.0.0 ≡ (view x).0 = ap (λ (y : Value × List ℕ). y.0) (ok_is (value_with c r.0.0, r.0.1) (view x) r.2) in
    let form : Canon (view x).0 ≡ byte_of c ∷ part_bytes Canon (content c) r.0.0 = ap Canon (sym same) ∙ row_form c r.0.0 in
    let back : byte_of c ∷ drop 1 (Canon (view x).0) ≡ Canon (view x).0 = ap (λ (l : List ℕ). byte_of c ∷ l) (sym (after_code (view x).0 (byte_of c) _ form)) ∙ sym form in
    let coded = coded_exact a b (byte_of c) s (drop 1 (Canon (view x).0)) (view x).1 k in
    subst (λ (l : List ℕ). KeepsExact a b whole l (view x).1) back (subst (λ (l : List ℕ). KeepsExact a b l (byte_of c ∷ drop 1 (Canon (view x).0)) (view x).1) (sym is) coded)
inside_exact levels c s whole is view (Err f) e a b k = tt

pub arm_inside : {X : Type 0} (levels : ℕ) (k c : Code) → k ≡ c → (s whole : List ℕ) → whole ≡ byte_of k ∷ s → (view : X → Value × List ℕ) (result : Result X ReadError) → ReaderAnswers view result (content_at (value_at levels) c s) → (a b : Bool)
    → IfOk result (λ x. KeepsExact a b s (drop 1 (Canon (view x).0)) (view x).1) → IfOk result (λ x. KeepsExact a b whole (Canon (view x).0) (view x).1)
arm_inside levels k c is s whole starts view result e a b h = inside_exact levels c s whole (starts ∙ ap (λ (d : Code). byte_of d ∷ s) is) view result e a b h
