-- The partition of a hash is one of them.
use Rattle.std.proofs.Common.{ℕ, ◌-◌, ◌<◌, ℤ, pos, Bool, true, false, cond, bit_and, arith}
use Rattle.std.specs.Prelude.{int_rem, unsigned_abs}
use Rattle.std.specs.Int.{is_power_of_two}
use Rattle.std.proofs.lemmas.Nat.{and_le_r}
use Rattle.std.proofs.lemmas.Int.{rem_below}
use Rattle.ig_parts.specs.Partition.{mixed_bits, partition_of}

chosen_below : (hash : ℤ) (parts : ℕ) (b : Bool) → 0 < parts → cond b (bit_and (mixed_bits hash) (parts - 1)) (unsigned_abs (int_rem hash (pos parts))) < parts
chosen_below hash parts true some = omega (arith, and_le_r (mixed_bits hash) (parts - 1))
chosen_below hash parts false some = rem_below hash (pos parts) some

pub partition_below : (hash : ℤ) (parts : ℕ) → 0 < parts → partition_of hash parts < parts
unfolding partition_of
partition_below hash parts some = chosen_below hash parts (is_power_of_two parts) some
