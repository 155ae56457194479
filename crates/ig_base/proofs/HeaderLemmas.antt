-- Lemmas on the header of a complex object.
use Rattle.std.proofs.Common.{◌≡◌, ℕ, ◌+◌, ◌<◌, ◌≤◌, ◌^◌, ℤ, pos, List, ◌∷◌, ◌++◌, length, take, drop, slice_index, None, Some, refl, sym, ap, ◌∙◌, arith, inl, inr}
use Rattle.std.proofs.lemmas.Bool.{cond-true, cond-false, lt-ltb, le-ltb, cases_lt}
use Rattle.std.proofs.lemmas.Int.{of_z-to_z}
use Rattle.std.proofs.lemmas.List.{drop-drop}
use Rattle.std.proofs.Math.Seq.{take-add, drop-cons}
use Rattle.std.specs.Prelude.{nat_lt}
use Rattle.std.specs.Int.{w16, w32, cast_signed, cast_unsigned, to_le_bytes, from_le_bytes}
use Rattle.ig_base.specs.Numbers.{LE, number_at, AreBytes}
use Rattle.ig_base.proofs.NumberLemmas.{take-bytes, drop-bytes}
use Rattle.ig_base.specs.Headers.{header_of, header_bytes, field_at}
use Rattle.ig_base.specs.declared.header.Header.{Header}

-- fewer than 24 bytes hold no header
pub header_absent : (bytes : List ℕ) → length bytes < 24 → header_of bytes ≡ None
unfolding header_of
header_absent bytes short = cond-true (nat_lt (length bytes) 24) None _ (lt-ltb (length bytes) 24 short)

-- a number that is read is the field there
field-read : (bytes : List ℕ) (at : ℕ) (z : ℤ) → number_at w32 bytes at ≡ Some z → field_at bytes at ≡ z
field-read bytes at z h = elim (cases_lt (length bytes) (at + 4)) [
  | inl short ↦ let none = cond-true (nat_lt (length bytes) (at + 4)) None (Some (field_at bytes at)) (lt-ltb _ _ short) in cc
  | inr long ↦ let some = cond-false (nat_lt (length bytes) (at + 4)) None (Some (field_at bytes at)) (le-ltb _ _ long) in cc
]

four-bytes : (bytes : List ℕ) (at : ℕ) → AreBytes bytes → at + 4 ≤ length bytes → from_le_bytes w32 (take 4 (drop at bytes)) < 2 ^ 32
four-bytes bytes at are long =
    let four = take-bytes 4 (drop at bytes) (drop-bytes at bytes are) in
    omega (arith, four 0, four 1, four 2, four 3)

two-bytes : (bytes : List ℕ) (at : ℕ) → AreBytes bytes → at + 2 ≤ length bytes → from_le_bytes w16 (take 2 (drop at bytes)) < 2 ^ 16
two-bytes bytes at are long =
    let both = take-bytes 2 (drop at bytes) (drop-bytes at bytes are) in
    omega (arith, both 0, both 1)

-- a number that is read fits in its 32 bits
read-fits : (bytes : List ℕ) (at : ℕ) (z : ℤ) → AreBytes bytes → at + 4 ≤ length bytes → Some z ≡ number_at w32 bytes at → cast_signed w32 (cast_unsigned w32 z) ≡ field_at bytes at
read-fits bytes at z are long h =
    let same = field-read bytes at z (sym h) in
    ap (λ y. cast_signed w32 (cast_unsigned w32 y)) (sym same) ∙ ap (cast_signed w32) (of_z-to_z w32 _ (four-bytes bytes at are long))

-- the flags that are read, as an unsigned number
half-read : (bytes : List ℕ) (z : ℤ) → AreBytes bytes → 24 ≤ length bytes → Some z ≡ number_at w16 bytes 2 → cast_unsigned w16 z ≡ from_le_bytes w16 (take 2 (drop 2 bytes))
half-read bytes z are long h =
    let k : ℕ = from_le_bytes w16 (take 2 (drop 2 bytes)) in
    let some = cond-false (nat_lt (length bytes) 4) None (Some (cast_signed w16 k)) (le-ltb (length bytes) 4 (omega arith)) in
    let same : z ≡ cast_signed w16 k = cc in
    ap (cast_unsigned w16) same ∙ of_z-to_z w16 k (two-bytes bytes 2 are (omega arith))

flags-read : (bytes : List ℕ) (flags : ℕ) (z : ℤ) → AreBytes bytes → 24 ≤ length bytes → Some z ≡ number_at w16 bytes 2
    → flags ≡ cast_unsigned w16 (cast_signed w16 (cast_unsigned w16 z)) → flags ≡ from_le_bytes w16 (take 2 (drop 2 bytes))
flags-read bytes flags z are long h f =
    let k = half-read bytes z are long h in
    f ∙ ap (λ n. cast_unsigned w16 (cast_signed w16 n)) k ∙ of_z-to_z w16 _ (two-bytes bytes 2 are (omega arith))

-- the fields of a header that were read one by one
pub record AreRead (bytes : List ℕ) (version flags : ℕ) (half type_id hash len schema schema_at : ℤ) : Type 0 where
  pub are : AreBytes bytes
  pub version_is : version ≡ slice_index bytes 1
  pub half_is : Some half ≡ number_at w16 bytes 2
  pub flags_is : flags ≡ cast_unsigned w16 (cast_signed w16 (cast_unsigned w16 half))
  pub type_id_is : Some type_id ≡ number_at w32 bytes 4
  pub hash_is : Some hash ≡ number_at w32 bytes 8
  pub len_is : Some len ≡ number_at w32 bytes 12
  pub schema_is : Some schema ≡ number_at w32 bytes 16
  pub schema_at_is : Some schema_at ≡ number_at w32 bytes 20

-- a number that is read lies within the bytes
long-read : (bytes : List ℕ) (at : ℕ) (z : ℤ) → Some z ≡ number_at w32 bytes at → at + 4 ≤ length bytes
long-read bytes at z h = elim (cases_lt (length bytes) (at + 4)) [
  | inl short ↦ let none = cond-true (nat_lt (length bytes) (at + 4)) None (Some (field_at bytes at)) (lt-ltb _ _ short) in cc
  | inr long ↦ long
]

-- the header of these fields
abbrev pub header : (version flags : ℕ) (type_id hash len schema schema_at : ℤ) → Header
header version flags type_id hash len schema schema_at = record {
  version = version;
  flags = flags;
  type_id = cast_signed w32 (cast_unsigned w32 type_id);
  hash = cast_signed w32 (cast_unsigned w32 hash);
  length = cast_signed w32 (cast_unsigned w32 len);
  schema = cast_signed w32 (cast_unsigned w32 schema);
  schema_at = cast_signed w32 (cast_unsigned w32 schema_at);
}

pub header_present : (bytes : List ℕ) (version flags : ℕ) (half type_id hash len schema schema_at : ℤ) → AreRead bytes version flags half type_id hash len schema schema_at
    → Some (header version flags type_id hash len schema schema_at) ≡ header_of bytes
unfolding header_of
header_present bytes version flags half type_id hash len schema schema_at r =
    let long : 24 ≤ length bytes = long-read bytes 20 schema_at r.schema_at_is in
    let v = r.version_is in
    let f = flags-read bytes flags half r.are long r.half_is r.flags_is in
    let a = read-fits bytes 4 type_id r.are (omega arith) r.type_id_is in
    let b = read-fits bytes 8 hash r.are (omega arith) r.hash_is in
    let c = read-fits bytes 12 len r.are (omega arith) r.len_is in
    let d = read-fits bytes 16 schema r.are (omega arith) r.schema_is in
    let e = read-fits bytes 20 schema_at r.are (omega arith) r.schema_at_is in
    rw (v, f, a, b, c, d, e) (sym (cond-false (nat_lt (length bytes) 24) None _ (le-ltb (length bytes) 24 long)))

-- two parts of a list that lie side by side
join : (bytes : List ℕ) (at n m next total : ℕ) → next ≡ at + n → total ≡ n + m → take n (drop at bytes) ++ take m (drop next bytes) ≡ take total (drop at bytes)
join bytes at n m next total e f =
    ap (λ l. take n (drop at bytes) ++ take m l) (ap (λ k. drop k bytes) e ∙ sym (drop-drop n at bytes))
    ∙ sym (take-add n m (drop at bytes)) ∙ ap (λ k. take k (drop at bytes)) (sym f)

-- a number that is read has the bytes that it had
same-bytes : (bytes : List ℕ) (at : ℕ) (z : ℤ) → AreBytes bytes → at + 4 ≤ length bytes → Some z ≡ number_at w32 bytes at → cast_signed w32 (cast_unsigned w32 z) ≡ z
same-bytes bytes at z are long h = read-fits bytes at z are long h ∙ field-read bytes at z (sym h)

same-flags : (bytes : List ℕ) (flags : ℕ) (z : ℤ) → AreBytes bytes → 24 ≤ length bytes → Some z ≡ number_at w16 bytes 2
    → flags ≡ cast_unsigned w16 (cast_signed w16 (cast_unsigned w16 z)) → LE w16 (pos flags) ≡ LE w16 z
unfolding LE
same-flags bytes flags z are long h f = ap (to_le_bytes w16) (flags-read bytes flags z are long h f ∙ sym (half-read bytes z are long h))

-- the bytes of a header are those from which its fields were read
pub header_spelled : (bytes : List ℕ) (version flags : ℕ) (half type_id hash len schema schema_at : ℤ) → AreRead bytes version flags half type_id hash len schema schema_at
    → LE w16 half ≡ take 2 (drop 2 bytes) → LE w32 type_id ≡ take 4 (drop 4 bytes) → LE w32 hash ≡ take 4 (drop 8 bytes)
    → LE w32 len ≡ take 4 (drop 12 bytes) → LE w32 schema ≡ take 4 (drop 16 bytes) → LE w32 schema_at ≡ take 4 (drop 20 bytes)
    → header_bytes (header version flags type_id hash len schema schema_at) ≡ take 23 (drop 1 bytes)
unfolding header_bytes
header_spelled bytes version flags half type_id hash len schema schema_at r spelled a b c d e =
    let long : 24 ≤ length bytes = long-read bytes 20 schema_at r.schema_at_is in
    let low = same-flags bytes flags half r.are long r.half_is r.flags_is ∙ spelled in
    let same_a = ap (LE w32) (same-bytes bytes 4 type_id r.are (omega arith) r.type_id_is) ∙ a in
    let same_b = ap (LE w32) (same-bytes bytes 8 hash r.are (omega arith) r.hash_is) ∙ b in
    let same_c = ap (LE w32) (same-bytes bytes 12 len r.are (omega arith) r.len_is) ∙ c in
    let same_d = ap (LE w32) (same-bytes bytes 16 schema r.are (omega arith) r.schema_is) ∙ d in
    let same_e = ap (LE w32) (same-bytes bytes 20 schema_at r.are (omega arith) r.schema_at_is) ∙ e in
    spelled_of bytes version _ _ _ _ _ _ long r.version_is low same_a same_b same_c same_d same_e where
      spelled_of : (bytes : List ℕ) (version : ℕ) (f a b c d e : List ℕ) → 24 ≤ length bytes → version ≡ slice_index bytes 1
          → f ≡ take 2 (drop 2 bytes) → a ≡ take 4 (drop 4 bytes) → b ≡ take 4 (drop 8 bytes) → c ≡ take 4 (drop 12 bytes) → d ≡ take 4 (drop 16 bytes) → e ≡ take 4 (drop 20 bytes)
          → version ∷ (f ++ a ++ b ++ c ++ d ++ e) ≡ take 23 (drop 1 bytes)
      spelled_of bytes version f a b c d e long v hf ha hb hc hd he =
          let fa = ap (λ l. l ++ a) hf ∙ ap (λ l. take 2 (drop 2 bytes) ++ l) ha ∙ join bytes 2 2 4 4 6 refl refl in
          let fb = ap (λ l. l ++ b) fa ∙ ap (λ l. take 6 (drop 2 bytes) ++ l) hb ∙ join bytes 2 6 4 8 10 refl refl in
          let fc = ap (λ l. l ++ c) fb ∙ ap (λ l. take 10 (drop 2 bytes) ++ l) hc ∙ join bytes 2 10 4 12 14 refl refl in
          let fd = ap (λ l. l ++ d) fc ∙ ap (λ l. take 14 (drop 2 bytes) ++ l) hd ∙ join bytes 2 14 4 16 18 refl refl in
          let fe = ap (λ l. l ++ e) fd ∙ ap (λ l. take 18 (drop 2 bytes) ++ l) he ∙ join bytes 2 18 4 20 22 refl refl in
          ap (λ n. n ∷ (f ++ a ++ b ++ c ++ d ++ e)) v ∙ ap (λ l. slice_index bytes 1 ∷ l) fe ∙ sym (ap (take 23) (drop-cons bytes 1 0 (omega arith)))
