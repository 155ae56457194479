-- Lemmas on numbers as little-endian bytes.
use Rattle.std.proofs.Common.{◌≡◌, ℕ, ◌+◌, ◌<◌, ◌≤◌, ◌^◌, ℤ, List, ◌++◌, length, take, drop, None, Some, refl, sym, ap, ◌∙◌, lit<, arith, length-take-le, get_or-take, get_or-drop, inl, inr}
use Rattle.std.proofs.Math.Facts.{Fits-of_z, sfits_to_z}
use Rattle.std.proofs.lemmas.Bool.{le-ltb, lt-ltb, cond-true, cond-false, cases_lt}
use Rattle.std.proofs.lemmas.Int.{to_z-of_z, of_z-to_z}
use Rattle.std.proofs.lemmas.List.{length-take, length-drop, get_or_past}
use Rattle.std.proofs.lemmas.Nat.{le_bytes_4, from_le_bytes-to_le_bytes_2, from_le_bytes-to_le_bytes_4, from_le_bytes-to_le_bytes_8}
use mir.Val.{bits}
use Rattle.std.specs.Int.{Width, byte_len, w16, w32, w64, to_le_bytes, from_le_bytes, cast_signed, cast_unsigned}
use Rattle.std.specs.Int.RustNames.{FitsSigned}
use Rattle.ig_base.specs.Numbers.{LE, number_at, AreBytes}

pub length-LE_16 : (z : ℤ) → length (LE w16 z) ≡ 2
unfolding LE
length-LE_16 z = refl

pub length-LE_32 : (z : ℤ) → length (LE w32 z) ≡ 4
unfolding LE
length-LE_32 z = refl

pub length-LE_64 : (z : ℤ) → length (LE w64 z) ≡ 8
unfolding LE
length-LE_64 z = refl

-- where there are four bytes, they are read as a number
pub number_at-enough : (bytes : List ℕ) → 4 ≤ length bytes → number_at w32 bytes 0 ≡ Some (cast_signed w32 (from_le_bytes w32 (take 4 bytes)))
number_at-enough bytes h = cond-false _ _ _ (le-ltb (length bytes) 4 h)

pub number_at-short : (bytes : List ℕ) → length bytes < 4 → number_at w32 bytes 0 ≡ None
number_at-short bytes h = cond-true _ _ _ (lt-ltb (length bytes) 4 h)

-- the bytes of a number are read as that number, whatever follows
pub number_at-LE_32 : (z : ℤ) (rest : List ℕ) → FitsSigned w32 z → number_at w32 (LE w32 z ++ rest) 0 ≡ Some z
unfolding LE
number_at-LE_32 z rest fits =
    let long : 4 ≤ length (LE w32 z ++ rest) = omega arith in
    let small : cast_unsigned w32 z < 2 ^ 32 = omega (arith, Fits-of_z {w = w32} {z = z} fits) in
    number_at-enough (LE w32 z ++ rest) long
    ∙ ap (λ n. Some (cast_signed w32 n)) (from_le_bytes-to_le_bytes_4 (cast_unsigned w32 z) small)
    ∙ ap Some (to_z-of_z w32 z fits)

-- a number that is read lies in the list
pub number_at-within : (z : ℤ) (bytes : List ℕ) → number_at w32 bytes 0 ≡ Some z → 4 ≤ length bytes
number_at-within z bytes h = elim (cases_lt (length bytes) 4) [
  | inl short ↦ let none = number_at-short bytes short in cc
  | inr long ↦ long
]

-- a prefix of bytes is bytes
pub take-bytes : (n : ℕ) (bytes : List ℕ) → AreBytes bytes → AreBytes (take n bytes)
take-bytes n bytes are i = elim (cases_lt i n) [
  | inl within ↦ let same = get_or-take n bytes i 0 within in omega (arith, same, are i)
  | inr past ↦ let none = get_or_past (take n bytes) i 0 (omega (arith, length-take n bytes)) in omega (arith, none)
]

-- a suffix of bytes is bytes
pub drop-bytes : (n : ℕ) (bytes : List ℕ) → AreBytes bytes → AreBytes (drop n bytes)
drop-bytes n bytes are i = let same = get_or-drop n bytes i 0 in omega (arith, same, are (n + i))

-- the bytes that are read as a number are its bytes
pub LE-number_at_32 : (z : ℤ) (bytes : List ℕ) → AreBytes bytes → number_at w32 bytes 0 ≡ Some z → LE w32 z ≡ take 4 bytes
unfolding LE
LE-number_at_32 z bytes are h =
    let long = number_at-within z bytes h in
    let read : ℕ = from_le_bytes w32 (take 4 bytes) in
    let four = take-bytes 4 bytes are in
    let small : read < 2 ^ 32 = omega (arith, four 0, four 1, four 2, four 3) in
    let whole = number_at-enough bytes long in
    let same : z ≡ cast_signed w32 read = cc in
    ap (λ y. to_le_bytes w32 (cast_unsigned w32 y)) same
    ∙ ap (to_le_bytes w32) (of_z-to_z w32 read small)
    ∙ le_bytes_4 (take 4 bytes) read (length-take-le 4 bytes long) four refl

-- a number that is read fits in its 32 bits
pub number_at-fits : (bytes : List ℕ) → AreBytes bytes → 4 ≤ length bytes → FitsSigned w32 (cast_signed w32 (from_le_bytes w32 (take 4 bytes)))
number_at-fits bytes are long =
    let four = take-bytes 4 bytes are in
    sfits_to_z {w = w32} (record { fits = omega (arith, four 0, four 1, four 2, four 3) })

-- the bytes of a number, at an offset, are read as that number
reads : (w : Width) (z : ℤ) (bytes : List ℕ) (at : ℕ) → ((n : ℕ) → n < 2 ^ bits w → from_le_bytes w (to_le_bytes w n) ≡ n)
    → length (to_le_bytes w (cast_unsigned w z)) ≡ byte_len w → 0 < byte_len w → FitsSigned w z
    → to_le_bytes w (cast_unsigned w z) ≡ take (byte_len w) (drop at bytes) → number_at w bytes at ≡ Some z
reads w z bytes at law len some fits spelled =
    let small : cast_unsigned w z < 2 ^ bits w = omega (arith, Fits-of_z {w = w} {z = z} fits) in
    let whole = sym len ∙ ap length spelled ∙ length-take (byte_len w) (drop at bytes) in
    let long : at + byte_len w ≤ length bytes = omega (arith, whole, length-drop at bytes) in
    cond-false _ _ _ (le-ltb (length bytes) (at + byte_len w) long)
    ∙ ap (λ l. Some (cast_signed w (from_le_bytes w l))) (sym spelled)
    ∙ ap (λ n. Some (cast_signed w n)) (law (cast_unsigned w z) small)
    ∙ ap Some (to_z-of_z w z fits)

pub reads_16 : (z : ℤ) (bytes : List ℕ) (at : ℕ) → FitsSigned w16 z → LE w16 z ≡ take 2 (drop at bytes) → number_at w16 bytes at ≡ Some z
unfolding LE
reads_16 z bytes at fits spelled = reads w16 z bytes at from_le_bytes-to_le_bytes_2 refl (lit< tt) fits spelled

pub reads_32 : (z : ℤ) (bytes : List ℕ) (at : ℕ) → FitsSigned w32 z → LE w32 z ≡ take 4 (drop at bytes) → number_at w32 bytes at ≡ Some z
unfolding LE
reads_32 z bytes at fits spelled = reads w32 z bytes at from_le_bytes-to_le_bytes_4 refl (lit< tt) fits spelled

pub reads_64 : (z : ℤ) (bytes : List ℕ) (at : ℕ) → FitsSigned w64 z → LE w64 z ≡ take 8 (drop at bytes) → number_at w64 bytes at ≡ Some z
unfolding LE
reads_64 z bytes at fits spelled = reads w64 z bytes at from_le_bytes-to_le_bytes_8 refl (lit< tt) fits spelled
