-- The hash of a key, for the kinds of value that are routed.
use Rattle.std.specs.Prelude.{ℕ, ◌/◌, ◌%◌, ◌^◌, ℤ, pos, true, false, Option, None, Some, bit_xor}
use Rattle.std.specs.Int.{w32, w64, cast_signed, cast_unsigned}
use Rattle.std.specs.List.{flat_map}
use Rattle.ig_base.specs.Hashes.{Java, units, BytesHash}
use Rattle.ig_value.specs.declared.Record.{Record}
use Rattle.ig_value.specs.declared.Value.{Value, out-Value}
use Rattle.ig_value.specs.declared.Value.TheOpen.{Value-F}
use Rattle.ig_value.specs.Canon.{Canon}

-- 64 bits as 32: `(int)(n ^ (n >>> 32))`, where the shift fills with zeros
abbrev pub folded_bits : ℕ → ℤ
folded_bits n = cast_signed w32 (bit_xor n (n / 2 ^ 32) % 2 ^ 32)

-- the hash that the canonical form of an object has in its header: that of its fields' bytes
unfoldable pub object_hash_of : Record Value → ℤ
object_hash_of o = cast_signed w32 (BytesHash (flat_map Canon o.fields))

-- the hash of a value of each kind that is routed
abbrev pub kind_hash : Value-F Value → Option ℤ
kind_hash (Value-F.Byte n) = Some n
kind_hash (Value-F.Short n) = Some n
kind_hash (Value-F.Int n) = Some n
kind_hash (Value-F.Long n) = Some (folded_bits (cast_unsigned w64 n))
kind_hash (Value-F.Char n) = Some (pos n)
kind_hash (Value-F.Bool true) = Some (pos 1231)
kind_hash (Value-F.Bool false) = Some (pos 1237)
kind_hash (Value-F.Str t) = Some (cast_signed w32 (Java (units t)))
kind_hash (Value-F.Uuid u) = Some (folded_bits (bit_xor u.most u.least))
kind_hash (Value-F.Object o) = Some (object_hash_of o)
kind_hash _ = None

-- the hash of a key, if it is of a kind that is routed
unfoldable pub KeyHash : Value → Option ℤ
KeyHash key = kind_hash (out-Value key)
