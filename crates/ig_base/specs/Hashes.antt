-- The hashes that make identifiers of names, of complex objects and of their schemas.
use Rattle.std.specs.Prelude.{ℕ, ◌+◌, ◌*◌, ◌%◌, ◌^◌, ◌<◌, ◌≤◌, ℤ, List, [], ◌∷◌, length, take, map, fold, slice_index, bit_xor}
use Rattle.std.specs.Int.{w8, w32, cast_signed, cast_unsigned}
use Rattle.std.specs.List.{flat_map}
use Rattle.std.specs.Str.{chars, IsAscii}
use Rattle.std.specs.Char.Escape.{encode_utf16}
use Rattle.ig_base.specs.Numbers.{LE}

-- the hash after one more unit: 31 times the hash so far, plus the unit, modulo 2^32
abbrev pub java_step : ℕ → ℕ → ℕ
java_step hash unit = (31 * hash + unit) % 2 ^ 32

-- ---- of a text

-- the hash of a list of UTF-16 code units, from 0
abbrev pub Java : List ℕ → ℕ
Java us = fold java_step 0 us

-- the UTF-16 code units of a text, given as its UTF-8 bytes
abbrev pub units : List ℕ → List ℕ
units bytes = flat_map encode_utf16 (chars bytes)

-- the first byte above 127 is the one at this offset
pub record IsFirstNotAscii (at : ℕ) (bytes : List ℕ) : Type 0 where
  pub within : at < length bytes
  pub above : 128 ≤ slice_index bytes at
  pub before : IsAscii (take at bytes)

-- ---- of a complex object's bytes

-- a byte as a signed number, in 32 bits of two's complement
abbrev pub sign_extension : ℕ → ℕ
sign_extension byte = cast_unsigned w32 (cast_signed w8 byte)

-- the hash after these bytes, where it was `hash` before them
unfoldable pub hash_after : ℕ → List ℕ → ℕ
hash_after hash bytes = fold java_step hash (map sign_extension bytes)

-- the hash of a complex object's fields: from 1, over their bytes
abbrev pub BytesHash : List ℕ → ℕ
BytesHash bytes = hash_after 1 bytes

-- what these bytes multiply the hash before them by: 31 for each byte, modulo 2^32
unfoldable pub hash_factor : List ℕ → ℕ
hash_factor bytes = 31 ^ length bytes % 2 ^ 32

-- ---- of a schema

-- the hash after one more byte, as FNV-1a has it: the byte is mixed in by exclusive or, then the
-- product by the FNV prime is taken modulo 2^32
abbrev pub fnv_step : ℕ → ℕ → ℕ
fnv_step hash byte = (bit_xor hash byte * 0x0100_0193) % 2 ^ 32

-- the hash after the bytes of these field identifiers, each lowest byte first
abbrev pub fnv_after : ℕ → List ℤ → ℕ
fnv_after hash ids = fold fnv_step hash (flat_map (LE w32) ids)

-- the identifier of the schema whose fields have these identifiers, in order: 0 without fields
unfoldable pub Fnv : List ℤ → ℕ
Fnv [] = 0
Fnv (id ∷ ids) = fnv_after 0x811C_9DC5 (id ∷ ids)
