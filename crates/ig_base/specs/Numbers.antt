-- Numbers as little-endian bytes.
use Rattle.std.specs.Prelude.{ℕ, ◌+◌, ◌<◌, ℤ, List, length, take, drop, slice_index, nat_lt, Option, None, Some, if◌then◌else◌}
use Rattle.std.specs.Int.{Width, byte_len, cast_unsigned, cast_signed, to_le_bytes, from_le_bytes}

-- the bytes of a number, lowest first; `LE w (pos n)` are those of an unsigned n
unfoldable pub LE : Width → ℤ → List ℕ
LE w z = to_le_bytes w (cast_unsigned w z)

-- the signed number whose bytes stand at an offset, if all of them lie in the list
abbrev pub number_at : Width → List ℕ → ℕ → Option ℤ
number_at w bytes at =
    if nat_lt (length bytes) (at + byte_len w) then None else Some (cast_signed w (from_le_bytes w (take (byte_len w) (drop at bytes))))

-- each number of the list is a byte
abbrev pub AreBytes : List ℕ → Type 0
AreBytes bytes = (i : ℕ) → slice_index bytes i < 256
