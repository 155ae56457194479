-- The partition that a hash falls into.
use Rattle.std.specs.Prelude.{ℕ, ◌-◌, ◌/◌, ◌^◌, ℤ, pos, bit_and, bit_xor, List, int_rem, unsigned_abs, if◌then◌else◌}
use Rattle.std.specs.List.{range_with_len}
use Rattle.std.specs.Int.{w32, cast_unsigned, is_power_of_two}

-- the 32 bits of the hash, with the upper half mixed into the lower one: `h ^ (h >>> 16)`, where
-- the shift fills with zeros
abbrev pub mixed_bits : ℤ → ℕ
mixed_bits hash = bit_xor (cast_unsigned w32 hash) (cast_unsigned w32 hash / 2 ^ 16)

-- the partition, below the number of partitions: by a mask where that is a power of two, else the
-- absolute value of the remainder, which is truncated towards zero
unfoldable pub partition_of : ℤ → ℕ → ℕ
partition_of hash parts =
    if is_power_of_two parts then bit_and (mixed_bits hash) (parts - 1)
    else unsigned_abs (int_rem hash (pos parts))

-- the numbers below n
abbrev pub below : ℕ → List ℕ
below n = range_with_len 0 n
