-- Single fields are read as they are spelled.
use Rattle.std.proofs.Common.{◌≡◌, ℕ, suc, pos, Bool, true, false, List, [], ◌∷◌, ◌++◌, length, Option, None, Some, Ok, Err, refl, sym, ap, ◌∙◌, arith, inl, inr}
use Rattle.std.specs.Prelude.{nat_lt}
use Rattle.std.specs.Int.{w16, w32, w64}
use Rattle.std.specs.Prelude.{◌==◌}
use Rattle.std.proofs.lemmas.Bool.{ne_eqb, eq-eqb, cases_eq}
use Rattle.std.proofs.lemmas.List.{nil_from_length}
use Rattle.ig_base.specs.Numbers.{LE, AreBytes}
use Rattle.ig_base.specs.declared.NodeId.{NodeId}
use Rattle.ig_value.specs.declared.Cause.{Cause}
use Rattle.ig_value.specs.declared.Cause.TheVariants as cause
use Rattle.ig_value.specs.declared.Code.{Code}
use Rattle.ig_value.specs.declared.Code.TheVariants as code
use Rattle.ig_value.specs.Table.{byte_of}
use Rattle.ig_value.specs.Part.{i16, i32, i64, u64}
use Rattle.ig_value.specs.Spells.{IsScalar, IsTextRun, IsCounted, IsCoded, IsBoth, IsOptional}
use Rattle.ig_value.specs.Stops.{IsTruncated, StopsScalar, StopsCounted, StopsTextRun, StopsBoth, StopsOptional}
use Rattle.ig_value.specs.Canon.{counted_bytes, uuid_bytes}
use Rattle.ig_value.specs.Reading.{Read, scalar_at, counted_at, text_run_at, optional_at, uuid_at, both_at}
use Rattle.ig_value.proofs.AgreesLemmas.{Takes, Agrees, AreBytes-suffix, both_agrees, seen_agrees}
use Rattle.ig_value.proofs.ItemLemmas.{optional_agrees}
use Rattle.ig_value.proofs.ScalarLemmas.{scalar_agrees}
use Rattle.ig_value.proofs.CountLemmas.{counted_agrees, text_run_agrees}
use Rattle.ig_wire.specs.Fields.{IsNumber, IsString, IsNullableString, IsNodeObject, IsShort, StopsObject, StopsString, StopsNullableString, StopsNode, placed, number_of, object_of, string_of, nullable_string_of, node_of}
use Rattle.ig_wire.proofs.AgreeLemmas.{Halts, Halted, IsRead, placed_read, same_read, same_stop, by_reader, err_is}

-- ---- numbers

forth_short : (n : ℕ) (s : List ℕ) (at : ℕ) → (why : Cause) × IsTruncated n s at why → IsShort n s at
forth_short n s at w = record { short = w.1.short; here = w.1.here }

back_short : (n : ℕ) (s : List ℕ) (at : ℕ) → IsShort n s at → (why : Cause) × IsTruncated n s at why
back_short n s at w = (cause.Short, record { short = w.short; here = w.here; cause = refl })

same_16 : (s : List ℕ) (b : Bool) → nat_lt (length s) 2 ≡ b → placed (scalar_at i16 s) ≡ number_of w16 s
same_16 s true e = rw e refl
same_16 s false e = rw e refl

pub same_32 : (s : List ℕ) (b : Bool) → nat_lt (length s) 4 ≡ b → placed (scalar_at i32 s) ≡ number_of w32 s
same_32 s true e = rw e refl
same_32 s false e = rw e refl

pub same_64 : (s : List ℕ) (b : Bool) → nat_lt (length s) 8 ≡ b → placed (scalar_at i64 s) ≡ number_of w64 s
same_64 s true e = rw e refl
same_64 s false e = rw e refl

pub i16_read : IsRead (IsNumber w16) (IsShort 2) (number_of w16)
i16_read =
    by_reader (IsNumber w16) (IsShort 2) (λ s. placed (scalar_at i16 s)) (number_of w16) (λ s. same_16 s (nat_lt (length s) 2) refl)
    (same_stop (IsNumber w16) (λ s at. (why : Cause) × IsTruncated 2 s at why) (IsShort 2) (λ s. placed (scalar_at i16 s)) (forth_short 2) (back_short 2)
    (placed_read (IsScalar i16) (StopsScalar i16) (scalar_at i16) (scalar_agrees i16)))

pub i32_read : IsRead (IsNumber w32) (IsShort 4) (number_of w32)
i32_read =
    by_reader (IsNumber w32) (IsShort 4) (λ s. placed (scalar_at i32 s)) (number_of w32) (λ s. same_32 s (nat_lt (length s) 4) refl)
    (same_stop (IsNumber w32) (λ s at. (why : Cause) × IsTruncated 4 s at why) (IsShort 4) (λ s. placed (scalar_at i32 s)) (forth_short 4) (back_short 4)
    (placed_read (IsScalar i32) (StopsScalar i32) (scalar_at i32) (scalar_agrees i32)))

pub i64_read : IsRead (IsNumber w64) (IsShort 8) (number_of w64)
i64_read =
    by_reader (IsNumber w64) (IsShort 8) (λ s. placed (scalar_at i64 s)) (number_of w64) (λ s. same_64 s (nat_lt (length s) 8) refl)
    (same_stop (IsNumber w64) (λ s at. (why : Cause) × IsTruncated 8 s at why) (IsShort 8) (λ s. placed (scalar_at i64 s)) (forth_short 8) (back_short 8)
    (placed_read (IsScalar i64) (StopsScalar i64) (scalar_at i64) (scalar_agrees i64)))

-- ---- data objects

object_takes : {A : Type 0} (c : Code) (P : List ℕ → A → Type 0) (W : List ℕ → ℕ → Cause → Type 0) (R : List ℕ → Read A) → Agrees P W R →
    (s : List ℕ) (x : A) (rest : List ℕ) → AreBytes s → object_of c R s ≡ Ok (x, rest) → Takes (IsCoded c P) s x rest
object_takes c P W R p [] x rest bytes e = absurd cc
object_takes {A} c P W R p (b ∷ s) x rest bytes e =
    elim (cases_eq b (byte_of c)) [
      | inl this ↦
          let is : object_of c R (b ∷ s) ≡ placed (R s) = rw (eq-eqb b (byte_of c) this) refl in
          let t = (placed_read P W R p).takes s x rest (AreBytes-suffix (b ∷ s) (b ∷ []) s refl bytes) (sym is ∙ e) in
          record { prefix = byte_of c ∷ t.prefix; whole = ap (λ (n : ℕ). n ∷ s) this ∙ ap (λ (l : List ℕ). byte_of c ∷ l) t.whole; right = record { suffix = t.prefix; whole = refl; after = t.right } }
      | inr other ↦ absurd (let is : object_of c R (b ∷ s) ≡ Err (suc (length s)) = rw (ne_eqb b (byte_of c) other) refl in let no = sym is ∙ e in cc)
    ]

object_again : {A : Type 0} (c : Code) (P : List ℕ → A → Type 0) (W : List ℕ → ℕ → Cause → Type 0) (R : List ℕ → Read A) → Agrees P W R →
    (s : List ℕ) (x : A) (rest : List ℕ) → IsCoded c P s x → object_of c R (s ++ rest) ≡ Ok (x, rest)
object_again c P W R p s x rest h = rw (h.whole, eq-eqb (byte_of c) (byte_of c) refl, p.again h.suffix x rest h.after) refl

object_halts : {A : Type 0} (c : Code) (P : List ℕ → A → Type 0) (W : List ℕ → ℕ → Cause → Type 0) (R : List ℕ → Read A) → Agrees P W R →
    (s : List ℕ) (left : ℕ) → AreBytes s → object_of c R s ≡ Err left → Halts (StopsObject c W) s left
object_halts {A} c P W R p [] left bytes e =
    let f : 0 ≡ left = err_is {A = A × List ℕ} 0 left e in
    record { at = 0; there = omega (arith, f); wrong = inl (record { short = omega arith; here = refl }) }
object_halts {A} c P W R p (b ∷ s) left bytes e =
    elim (cases_eq b (byte_of c)) [
      | inl this ↦
          let is : object_of c R (b ∷ s) ≡ placed (R s) = rw (eq-eqb b (byte_of c) this) refl in
          let h = (placed_read P W R p).halts s left (AreBytes-suffix (b ∷ s) (b ∷ []) s refl bytes) (sym is ∙ e) in
          record {
            at = suc h.at;
            there = omega (arith, h.there);
            wrong = inr (inr (h.wrong.0, record { suffix = s; further = h.at; whole = ap (λ (n : ℕ). n ∷ s) this; wrong = h.wrong.1; there = refl }));
          }
      | inr other ↦
          let is : object_of c R (b ∷ s) ≡ Err (suc (length s)) = rw (ne_eqb b (byte_of c) other) refl in
          let f : suc (length s) ≡ left = err_is {A = A × List ℕ} (suc (length s)) left (sym is ∙ e) in
          record { at = 0; there = omega (arith, f); wrong = inr (inl (record { byte = b; rest = s; whole = refl; other = other; here = refl })) }
    ]

object_halted : {A : Type 0} (c : Code) (P : List ℕ → A → Type 0) (W : List ℕ → ℕ → Cause → Type 0) (R : List ℕ → Read A) → Agrees P W R →
    (s : List ℕ) (at : ℕ) → StopsObject c W s at → Halted (object_of c R) s at
object_halted c P W R p s at (inl cut) =
    let nil : s ≡ [] = nil_from_length s (omega (arith, cut.short)) in
    record { left = 0; there = rw nil (omega (arith, cut.here)); is = rw nil refl }
object_halted c P W R p s at (inr (inl w)) =
    record { left = suc (length w.rest); there = rw w.whole (omega (arith, w.here)); is = rw (w.whole, ne_eqb w.byte (byte_of c) w.other) refl }
object_halted c P W R p s at (inr (inr w)) =
    let h = p.halted w.1.suffix w.1.further w.0 w.1.wrong in
    record { left = h.left; there = rw w.1.whole (omega (arith, h.there, w.1.there)); is = rw (w.1.whole, eq-eqb (byte_of c) (byte_of c) refl, h.is) refl }

pub object_read : {A : Type 0} (c : Code) (P : List ℕ → A → Type 0) (W : List ℕ → ℕ → Cause → Type 0) (R : List ℕ → Read A) → Agrees P W R → IsRead (IsCoded c P) (StopsObject c W) (object_of c R)
object_read c P W R p = record { takes = object_takes c P W R p; again = object_again c P W R p; halts = object_halts c P W R p; halted = object_halted c P W R p }

-- ---- texts

text_agrees : Agrees (IsCounted IsTextRun) (StopsCounted StopsTextRun) (counted_at text_run_at)
text_agrees = counted_agrees IsTextRun StopsTextRun text_run_at text_run_agrees

same_text : (s : List ℕ) → object_of code.Str (counted_at text_run_at) s ≡ string_of s
same_text [] = refl
same_text (b ∷ s) = at_code (b == byte_of code.Str) refl where
  at_code : (yes : Bool) → (b == byte_of code.Str) ≡ yes → object_of code.Str (counted_at text_run_at) (b ∷ s) ≡ string_of (b ∷ s)
  at_code true e = rw e refl
  at_code false e = rw e refl

coded_string : (s text : List ℕ) → IsCoded code.Str (IsCounted IsTextRun) s text → IsString s text
coded_string s text h =
    let n = h.after in
    let run = n.after in
    let len : n.count ≡ length text = omega (arith, run.0.2) in
    (record { utf8 = run.1; bytes = run.0.1; small = omega (arith, len, n.small) }, h.whole ∙ ap (λ (l : List ℕ). byte_of code.Str ∷ l) (n.whole ∙ rw (run.0.0, len) refl))

string_coded : (s text : List ℕ) → IsString s text → IsCoded code.Str (IsCounted IsTextRun) s text
string_coded s text h = record {
  suffix = counted_bytes text;
  whole = h.1;
  after = record { count = length text; suffix = text; small = h.0.small; whole = refl; after = ((refl, h.0.bytes, refl), h.0.utf8) };
}

pub string_read : IsRead IsString StopsString string_of
string_read =
    by_reader IsString StopsString (object_of code.Str (counted_at text_run_at)) string_of same_text
    (same_read (IsCoded code.Str (IsCounted IsTextRun)) IsString StopsString (object_of code.Str (counted_at text_run_at)) coded_string string_coded
    (object_read code.Str (IsCounted IsTextRun) (StopsCounted StopsTextRun) (counted_at text_run_at) text_agrees))

optional_string : (s : List ℕ) (text : Option (List ℕ)) → IsOptional code.Str (IsCounted IsTextRun) s text → IsNullableString s text
optional_string s None h = (tt, h)
optional_string s (Some text) h = coded_string s text h

string_optional : (s : List ℕ) (text : Option (List ℕ)) → IsNullableString s text → IsOptional code.Str (IsCounted IsTextRun) s text
string_optional s None h = h.1
string_optional s (Some text) h = string_coded s text h

pub nullable_read : IsRead IsNullableString StopsNullableString nullable_string_of
nullable_read =
    same_read (IsOptional code.Str (IsCounted IsTextRun)) IsNullableString StopsNullableString nullable_string_of optional_string string_optional
    (placed_read (IsOptional code.Str (IsCounted IsTextRun)) (StopsOptional code.Str (StopsCounted StopsTextRun)) (optional_at (byte_of code.Str) (counted_at text_run_at))
    (optional_agrees code.Str (IsCounted IsTextRun) (StopsCounted StopsTextRun) (counted_at text_run_at) text_agrees (λ e. absurd (omega (arith, e)))))

-- ---- the identifier of a node

coded_node : (s : List ℕ) (node : NodeId) → IsCoded code.Uuid (λ l x. IsBoth (IsScalar u64) (IsScalar u64) l (x.most, x.least)) s node → IsNodeObject s node
coded_node s node h =
    let b = h.after in
    ((b.first.0, b.second.0), h.whole ∙ ap (λ (l : List ℕ). byte_of code.Uuid ∷ l) (b.whole ∙ rw (b.first.1, b.second.1) refl))

node_coded : (s : List ℕ) (node : NodeId) → IsNodeObject s node → IsCoded code.Uuid (λ l x. IsBoth (IsScalar u64) (IsScalar u64) l (x.most, x.least)) s node
node_coded s node h = record {
  suffix = uuid_bytes node;
  whole = h.1;
  after = record { prefix = LE w64 (pos node.most); suffix = LE w64 (pos node.least); whole = refl; first = (h.0.0, refl); second = (h.0.1, refl) };
}

uuid_agrees : Agrees (λ l x. IsBoth (IsScalar u64) (IsScalar u64) l (x.most, x.least)) (StopsBoth (IsScalar u64) (StopsScalar u64) (StopsScalar u64)) uuid_at
uuid_agrees =
    seen_agrees {A = ℕ × ℕ} {B = NodeId} (λ x. record { most = x.0; least = x.1 }) (λ x. (x.most, x.least)) (IsBoth (IsScalar u64) (IsScalar u64)) (StopsBoth (IsScalar u64) (StopsScalar u64) (StopsScalar u64)) (both_at (scalar_at u64) (scalar_at u64)) (λ x. refl) (λ y. refl)
    (both_agrees (IsScalar u64) (StopsScalar u64) (scalar_at u64) (IsScalar u64) (StopsScalar u64) (scalar_at u64) (scalar_agrees u64) (scalar_agrees u64))

pub node_read : IsRead IsNodeObject StopsNode node_of
node_read =
    same_read (IsCoded code.Uuid (λ l x. IsBoth (IsScalar u64) (IsScalar u64) l (x.most, x.least))) IsNodeObject StopsNode node_of coded_node node_coded
    (object_read code.Uuid (λ l x. IsBoth (IsScalar u64) (IsScalar u64) l (x.most, x.least)) (StopsBoth (IsScalar u64) (StopsScalar u64) (StopsScalar u64)) uuid_at uuid_agrees)
