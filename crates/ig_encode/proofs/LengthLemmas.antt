-- The lengths of canonical forms that a value's kind tells, or that of a text.
use Rattle.std.proofs.Common.{◌≡◌, ℕ, ℤ, pos, Option, None, Some, IfSome, List, ◌+◌, ◌++◌, length, refl, ap, ◌∙◌, arith, length-append}
use Rattle.std.specs.Int.{w32}
use Rattle.ig_base.specs.Numbers.{LE}
use Rattle.ig_value.specs.declared.Code.{Code}
use Rattle.ig_value.specs.declared.Code.TheVariants as code
use Rattle.ig_value.specs.declared.Value.{Value}
use Rattle.ig_value.specs.declared.value.Stamp.{Stamp}
use Rattle.ig_base.specs.declared.NodeId.{NodeId}
use Rattle.ig_value.specs.Part.{Content}
use Rattle.ig_value.specs.Table.{content, value_with}
use Rattle.ig_value.specs.Canon.{Canon, part_bytes, counted_bytes, uuid_bytes, stamp_bytes}
use Rattle.ig_encode.specs.HeadBytes.{wide_count}
use Rattle.ig_encode.proofs.CanonLemmas.{Canon_row}

-- a code, and a content of n bytes
pub row_length : (v : Value) (c : Code) (x : Content Value (content c)) (n : ℕ) → v ≡ value_with c x → length (part_bytes Canon (content c) x) ≡ n → n + 1 ≡ length (Canon v)
row_length v c x n is size =
    let row : length (Canon v) ≡ length (part_bytes Canon (content c) x) + 1 = ap length (Canon_row v c x is) ∙ (omega arith) in
    omega (arith, row, size)

-- a code, a count, and the bytes
pub text_length : (v : Value) (text : List ℕ) → v ≡ value_with code.Str text → 5 + length text ≡ length (Canon v)
text_length v text is =
    let count = LE w32 (pos (length text)) in
    let size : length (counted_bytes text) ≡ 4 + length text = omega (arith, wide_count (record { items = length text }), length-append count text) in
    let row = row_length v code.Str text (4 + length text) is size in
    omega (arith, row)

-- the same where the length may be too great for a slice
pub text_length_if : (v : Value) (text : List ℕ) (len : Option ℕ) → v ≡ value_with code.Str text → IfSome len (λ n. n ≡ 5 + length text) → IfSome len (λ n. n ≡ length (Canon v))
text_length_if v text None is size = tt
text_length_if v text (Some n) is size = size ∙ text_length v text is

pub wide_uuid : (x : NodeId) → length (uuid_bytes x) ≡ 16
unfolding LE
wide_uuid x = refl

pub wide_stamp : (x : Stamp) → length (stamp_bytes x) ≡ 12
unfolding LE
wide_stamp x = refl

-- two Int32
pub wide_two : (x y : ℤ) → length (LE w32 x ++ LE w32 y) ≡ 8
unfolding LE
wide_two x y = refl
