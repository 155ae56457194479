-- The header of a complex object, and what its flags say of the footer.
use Rattle.std.specs.Prelude.{ℕ, ◌/◌, ◌%◌, ℤ, pos, Bool, List, ◌∷◌, ◌++◌, length, take, drop, slice_index, nat_lt, ◌==◌, Option, None, Some, if◌then◌else◌}
use Rattle.std.specs.Int.{w16, w32, cast_signed, from_le_bytes}
use Rattle.ig_base.specs.Numbers.{LE}
use Rattle.ig_base.specs.declared.header.Header.{Header}

-- whether a flag is set; a flag is a power of two
abbrev pub has_flag : ℕ → ℕ → Bool
has_flag flag flags = flags / flag % 2 == 1

-- the bytes of an offset in the footer: one by flag 8, else two by flag 16, else four
abbrev pub offset_width : ℕ → ℕ
offset_width flags = if has_flag 8 flags then 1 else if has_flag 16 flags then 2 else 4

-- the bytes of a header, after the code byte
unfoldable pub header_bytes : Header → List ℕ
header_bytes h =
    h.version ∷ (LE w16 (pos h.flags) ++ LE w32 h.type_id ++ LE w32 h.hash ++ LE w32 h.length ++ LE w32 h.schema ++ LE w32 h.schema_at)

-- the signed number of 32 bits whose bytes stand at an offset
abbrev pub field_at : List ℕ → ℕ → ℤ
field_at bytes at = cast_signed w32 (from_le_bytes w32 (take 4 (drop at bytes)))

-- the header that an object's bytes begin with, code byte and all, if its 24 bytes are there
unfoldable pub header_of : List ℕ → Option Header
header_of bytes =
    if nat_lt (length bytes) 24 then None
    else Some (record {
      version = slice_index bytes 1;
      flags = from_le_bytes w16 (take 2 (drop 2 bytes));
      type_id = field_at bytes 4;
      hash = field_at bytes 8;
      length = field_at bytes 12;
      schema = field_at bytes 16;
      schema_at = field_at bytes 20;
    })
