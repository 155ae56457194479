-- Worked objects: what the definitions say of bytes written by hand.
use Rattle.std.proofs.Common.{◌≡◌, ℕ, List, [], ◌∷◌, ℤ, pos, negsuc, take, slice_set, Ok, Err, refl}
use Rattle.std.specs.Str.{is_utf8, chars}
use lib.Utf8.{encode}
use Rattle.ig_base.specs.Numbers.{LE}
use Rattle.ig_base.specs.Hashes.{Fnv, hash_after}
use Rattle.ig_base.specs.Headers.{header_bytes, header_of}
use Rattle.ig_value.specs.declared.cause.Cause.TheVariants as cause
use Rattle.ig_value.specs.declared.object.Shape.TheVariants.{Named, Compact}
use Rattle.ig_value.specs.declared.value.Value.{Value}
use Rattle.ig_value.specs.declared.value.Value.TheVariants as value
use Rattle.ig_value.specs.Objects.{object_bytes, refusal}
use Rattle.ig_value.specs.Reading.{object_at, reading}

-- flag 1, type 112, and the int 5 under the identifier 97: offsets of one byte, the right hash
abbrev one_field_bytes : List ℕ
one_field_bytes =
    103 ∷ 1 ∷ 11 ∷ 0 ∷ 112 ∷ 0 ∷ 0 ∷ 0 ∷ 253 ∷ 100 ∷ 225 ∷ 1 ∷ 34 ∷ 0 ∷ 0 ∷ 0 ∷ 228 ∷ 211
    ∷ 225 ∷ 245 ∷ 29 ∷ 0 ∷ 0 ∷ 0 ∷ 3 ∷ 5 ∷ 0 ∷ 0 ∷ 0 ∷ 97 ∷ 0 ∷ 0 ∷ 0 ∷ 24 ∷ []

-- the object
abbrev one_field : Value
one_field = value.Object (record { bits = 1; type_id = pos 112; shape = Named (pos 97 ∷ []); fields = value.Int (pos 5) ∷ [] })

-- the same bytes, with another one at a place
abbrev with_byte : ℕ → ℕ → List ℕ
with_byte at byte = slice_set one_field_bytes at byte

-- its bytes are read
narrow_offset : reading one_field_bytes ≡ Ok (one_field, [])
unfolding reading object_at refusal header_of LE Fnv
narrow_offset = refl

-- the same with an offset of two bytes, and another hash
abbrev wide_offset_bytes : List ℕ
wide_offset_bytes =
    103 ∷ 1 ∷ 19 ∷ 0 ∷ 112 ∷ 0 ∷ 0 ∷ 0 ∷ 0 ∷ 0 ∷ 0 ∷ 0 ∷ 35 ∷ 0 ∷ 0 ∷ 0 ∷ 228 ∷ 211 ∷ 225
    ∷ 245 ∷ 29 ∷ 0 ∷ 0 ∷ 0 ∷ 3 ∷ 5 ∷ 0 ∷ 0 ∷ 0 ∷ 97 ∷ 0 ∷ 0 ∷ 0 ∷ 24 ∷ 0 ∷ []

-- they are the same object
wide_offset : reading wide_offset_bytes ≡ Ok (one_field, [])
unfolding reading object_at refusal header_of LE Fnv
wide_offset = refl

-- flag 1, type 112, no fields
abbrev no_fields_bytes : List ℕ
no_fields_bytes =
    103 ∷ 1 ∷ 1 ∷ 0 ∷ 112 ∷ 0 ∷ 0 ∷ 0 ∷ 1 ∷ 0 ∷ 0 ∷ 0 ∷ 24 ∷ 0 ∷ 0 ∷ 0 ∷ 0 ∷ 0 ∷ 0 ∷ 0 ∷ 0
    ∷ 0 ∷ 0 ∷ 0 ∷ []

-- the object
abbrev no_fields : Value
no_fields = value.Object (record { bits = 1; type_id = pos 112; shape = Named []; fields = [] })

-- its bytes are read
bare_header : reading no_fields_bytes ≡ Ok (no_fields, [])
unfolding reading object_at refusal header_of LE Fnv
bare_header = refl

-- without fields flag 2 and the schema offset may be anything
bare_header_all_said : reading (103 ∷ 1 ∷ 3 ∷ 0 ∷ 112 ∷ 0 ∷ 0 ∷ 0 ∷ 0 ∷ 0 ∷ 0 ∷ 0 ∷ 24 ∷ 0 ∷ 0 ∷ 0 ∷ 0 ∷ 0 ∷ 0 ∷ 0 ∷ 24 ∷ 0 ∷ 0 ∷ 0 ∷ []) ≡ Ok (no_fields, [])
unfolding reading object_at refusal header_of LE Fnv
bare_header_all_said = refl

-- a compact footer: the text Ann and the int 30
abbrev compact_bytes : List ℕ
compact_bytes =
    103 ∷ 1 ∷ 43 ∷ 0 ∷ 85 ∷ 155 ∷ 227 ∷ 196 ∷ 201 ∷ 204 ∷ 148 ∷ 50 ∷ 39 ∷ 0 ∷ 0 ∷ 0 ∷ 5
    ∷ 169 ∷ 0 ∷ 116 ∷ 37 ∷ 0 ∷ 0 ∷ 0 ∷ 9 ∷ 3 ∷ 0 ∷ 0 ∷ 0 ∷ 65 ∷ 110 ∷ 110 ∷ 3 ∷ 30 ∷ 0 ∷ 0
    ∷ 0 ∷ 24 ∷ 32 ∷ []

abbrev person : ℤ
person = negsuc 991716522

-- it is read, and the schema identifier is kept
compact : reading compact_bytes ≡ Ok (value.Object (record { bits = 1; type_id = person; shape = Compact (pos 1946200325); fields = value.Str (65 ∷ 110 ∷ 110 ∷ []) ∷ value.Int (pos 30) ∷ [] }), [])
unfolding reading object_at refusal header_of LE Fnv is_utf8 chars encode
compact = refl

-- what is wrong, and how many bytes are left where it stands

-- version 2, at 1
other_version : reading (with_byte 1 2) ≡ Err (33, cause.ObjectVersion 2)
unfolding reading object_at refusal header_of LE Fnv
other_version = refl

-- raw data, at 2
raw_data : reading (with_byte 2 15) ≡ Err (32, cause.RawData)
unfolding reading object_at refusal header_of LE Fnv
raw_data = refl

-- offsets of one and of two bytes, at 2
both_widths : reading (with_byte 2 27) ≡ Err (32, cause.Flags)
unfolding reading object_at refusal header_of LE Fnv
both_widths = refl

-- type 0, at 4
no_type : reading (with_byte 4 0) ≡ Err (30, cause.Unregistered)
unfolding reading object_at refusal header_of LE Fnv
no_type = refl

-- a length of 23, at 12
too_small : reading (with_byte 12 23) ≡ Err (22, cause.Length)
unfolding reading object_at refusal header_of LE Fnv
too_small = refl

-- a length beyond the end, at 0
too_large : reading (with_byte 12 127) ≡ Err (34, cause.Short)
unfolding reading object_at refusal header_of LE Fnv
too_large = refl

-- fields without flag 2, at 2
no_schema_flag : reading (with_byte 2 9) ≡ Err (32, cause.Footer)
unfolding reading object_at refusal header_of LE Fnv
no_schema_flag = refl

-- a schema offset that leaves no whole entry, at 20
schema_offset : reading (with_byte 20 30) ≡ Err (14, cause.Footer)
unfolding reading object_at refusal header_of LE Fnv
schema_offset = refl

-- another schema identifier, at 16
other_schema : reading (with_byte 16 229) ≡ Err (18, cause.Footer)
unfolding reading object_at refusal header_of LE Fnv
other_schema = refl

-- another offset, at its place in the footer
other_offset : reading (with_byte 33 25) ≡ Err (1, cause.Offset)
unfolding reading object_at refusal header_of LE Fnv
other_offset = refl

-- a long where four bytes are left before the footer, at 25
field_too_long : reading (with_byte 24 4) ≡ Err (9, cause.Short)
unfolding reading object_at refusal header_of LE Fnv
field_too_long = refl

-- a byte as the field, and bytes left after it, at 20
bytes_left : reading (with_byte 24 1) ≡ Err (14, cause.Offset)
unfolding reading object_at refusal header_of LE Fnv
bytes_left = refl

-- 23 bytes of a header, at 0
not_whole : reading (take 23 one_field_bytes) ≡ Err (23, cause.Short)
unfolding reading object_at refusal header_of LE Fnv
not_whole = refl

-- the canonical form has the narrowest offsets and the hash
one_field_form : 103 ∷ object_bytes 1 (pos 112) (Named (pos 97 ∷ [])) ((3 ∷ 5 ∷ 0 ∷ 0 ∷ 0 ∷ []) ∷ []) ≡ one_field_bytes
unfolding header_bytes LE Fnv hash_after
one_field_form = refl

-- without fields neither flags of the footer nor a schema
no_fields_form : 103 ∷ object_bytes 1 (pos 112) (Named []) [] ≡ no_fields_bytes
unfolding header_bytes LE Fnv hash_after
no_fields_form = refl

-- with a compact footer the schema identifier as it was
compact_form : 103 ∷ object_bytes 1 person (Compact (pos 1946200325)) ((9 ∷ 3 ∷ 0 ∷ 0 ∷ 0 ∷ 65 ∷ 110 ∷ 110 ∷ []) ∷ (3 ∷ 30 ∷ 0 ∷ 0 ∷ 0 ∷ []) ∷ []) ≡ compact_bytes
unfolding header_bytes LE Fnv hash_after
compact_form = refl
