-- Complex objects: a header of 24 bytes, the fields laid end to end, and a footer with an entry for
-- each field. Offsets count from the object's first byte, its code.
use Rattle.std.specs.Prelude.{◌≡◌, ◌≢◌, ◌⊎◌, ℕ, zero, suc, ◌+◌, ◌-◌, ◌*◌, ◌/◌, ◌%◌, ◌^◌, ◌<◌, ℤ, pos, negsuc, Bool, true, false, not, ◌&&◌, ◌==◌, nat_lt, List, [], ◌∷◌, ◌++◌, length, take, drop, Option, None, Some, if◌then◌else◌, FitsSigned}
use Rattle.std.specs.Int.{Width, w8, w16, w32, byte_len, cast_signed, from_le_bytes}
use Rattle.std.specs.Ordering.{int_eq}
use Rattle.std.specs.List.{flat_map, AllByRecursion}
use Rattle.ig_base.specs.Numbers.{LE, AreBytes}
use Rattle.ig_base.specs.Hashes.{Fnv, BytesHash}
use Rattle.ig_base.specs.Headers.{has_flag, header_bytes, header_of}
use Rattle.ig_base.specs.declared.header.Header.{Header}
use Rattle.ig_value.specs.declared.cause.Cause.{Cause}
use Rattle.ig_value.specs.declared.cause.Cause.TheVariants as cause
use Rattle.ig_value.specs.declared.object.Record.{Record}
use Rattle.ig_value.specs.declared.object.Shape.{Shape}
use Rattle.ig_value.specs.declared.object.Shape.TheVariants.{Named, Compact}

-- ---- what the header says

-- the flags that belong to the value: flag 1, and those from 64 up
abbrev pub kept_flags : ℕ → ℕ
kept_flags flags = flags / 64 * 64 + flags % 2

-- the type of an offset in the footer: one byte by flag 8, else two by flag 16, else four
abbrev pub offset_type : ℕ → Width
offset_type flags = if has_flag 8 flags then w8 else if has_flag 16 flags then w16 else w32

-- the bytes of a footer's entry before its offset: a field's identifier, or none by flag 32
abbrev pub key_len : ℕ → ℕ
key_len flags = if has_flag 32 flags then 0 else 4

-- the bytes of a footer's entry
abbrev pub entry_len : ℕ → ℕ
entry_len flags = key_len flags + byte_len (offset_type flags)

-- the schema identifier of these field identifiers
abbrev pub schema_of : List ℤ → ℤ
schema_of ids = cast_signed w32 (Fnv ids)

-- a length or an offset as the header gives it; 0 for a negative one
abbrev pub size_of : ℤ → ℕ
size_of (pos n) = n
size_of (negsuc n) = 0

-- ---- the footer

-- the footer that names its fields: for each of them its identifier and its offset; a missing
-- identifier is 0
abbrev pub named_footer : Width → List ℤ → List ℕ → List ℕ
named_footer w ids [] = []
named_footer w [] (offset ∷ offsets) = LE w32 (pos 0) ++ (LE w (pos offset) ++ named_footer w [] offsets)
named_footer w (id ∷ ids) (offset ∷ offsets) = LE w32 id ++ (LE w (pos offset) ++ named_footer w ids offsets)

-- the footer of this shape with these offsets, each of this type
abbrev pub footer_bytes : Width → Shape → List ℕ → List ℕ
footer_bytes w (Named ids) offsets = named_footer w ids offsets
footer_bytes w (Compact schema) offsets = flat_map (λ offset. LE w (pos offset)) offsets

-- ---- which bytes encode an object

-- the header is that of n bytes that encode this object; its hash may be any
pub record IsHeaderOf {X : Type 0} (header : Header) (n : ℕ) (o : Record X) : Type 0 where
  pub version : header.version ≡ 1
  pub no_raw_data : has_flag 4 header.flags ≡ false
  pub one_width : (has_flag 8 header.flags && has_flag 16 header.flags) ≡ false
  pub bits : o.bits ≡ kept_flags header.flags
  pub type : o.type_id ≡ header.type_id
  pub registered : o.type_id ≢ pos 0
  pub size : header.length ≡ pos n

-- an object without fields is its header alone; all else that the header says may be any
pub record HasNoFields {X : Type 0} (n : ℕ) (o : Record X) : Type 0 where
  pub alone : n ≡ 24
  pub shape : o.shape ≡ Named []
  pub none : o.fields ≡ []

-- the header and this number of fields agree with the shape: a footer that names its fields by
-- these identifiers, whose hash the header has; or a compact footer and the header's schema
abbrev pub IsShape : Header → ℕ → Shape → Type 0
IsShape header n (Named ids) = (has_flag 32 header.flags ≡ false) × (header.schema ≡ schema_of ids) × AllByRecursion (FitsSigned w32) ids × (length ids ≡ n)
IsShape header n (Compact schema) = (has_flag 32 header.flags ≡ true) × (header.schema ≡ schema)

-- a field that stands at this place, encoded by P, and what `After` says of the fields after it and
-- of their place
pub record IsField {X : Type 0} (P : List ℕ → X → Type 0) (After : ℕ → List ℕ → Type 0) (place offset : ℕ) (s : List ℕ) (x : X) : Type 0 where
  pub prefix : List ℕ
  pub suffix : List ℕ
  pub here : offset ≡ place
  pub whole : s ≡ prefix ++ suffix
  pub first : P prefix x
  pub after : After (place + length prefix) suffix

-- the fields laid end to end from this place on, each of them at its offset
abbrev pub AreLaid : {X : Type 0} → (List ℕ → X → Type 0) → ℕ → List ℕ → List ℕ → List X → Type 0
AreLaid P place [] s [] = s ≡ []
AreLaid P place [] s (x ∷ xs) = ⊥
AreLaid P place (offset ∷ offsets) s [] = ⊥
AreLaid P place (offset ∷ offsets) s (x ∷ xs) = IsField P (λ at suffix. AreLaid P at offsets suffix xs) place offset s x

-- a header, the fields laid end to end, and the footer
pub record HasFields {X : Type 0} (P : List ℕ → X → Type 0) (header : Header) (s : List ℕ) (o : Record X) : Type 0 where
  pub head : List ℕ
  pub fields : List ℕ
  pub offsets : List ℕ
  pub whole : s ≡ head ++ (fields ++ footer_bytes (offset_type header.flags) o.shape offsets)
  pub head_len : length head ≡ 24
  pub some : o.fields ≢ []
  pub has_schema : has_flag 2 header.flags ≡ true
  pub schema_at : header.schema_at ≡ pos (24 + length fields)
  pub shape : IsShape header (length o.fields) o.shape
  pub in_width : AllByRecursion (λ offset. offset < 2 ^ (8 * byte_len (offset_type header.flags))) offsets
  pub laid : AreLaid P 24 offsets fields o.fields

-- the bytes, code and all, encode the object, where P says which bytes encode a field
pub record IsObject {X : Type 0} (P : List ℕ → X → Type 0) (s : List ℕ) (o : Record X) : Type 0 where
  pub header : Header
  pub begins : header_of s ≡ Some header
  pub bytes : AreBytes (take 24 s)
  pub says : IsHeaderOf header (length s) o
  pub fields : HasNoFields (length s) o ⊎ HasFields P header s o

-- ---- reading an object

-- n offsets, each after a key of this length
abbrev pub offsets_of : Width → ℕ → ℕ → List ℕ → List ℕ
offsets_of w key zero s = []
offsets_of w key (suc n) s = from_le_bytes w (take (byte_len w) (drop key s)) ∷ offsets_of w key n (drop (key + byte_len w) s)

-- the identifiers of n entries of this length
abbrev pub ids_of : ℕ → ℕ → List ℕ → List ℤ
ids_of entry zero s = []
ids_of entry (suc n) s = cast_signed w32 (from_le_bytes w32 (take 4 s)) ∷ ids_of entry n (drop entry s)

-- the bytes of the fields, and of the footer
abbrev pub fields_of : Header → List ℕ → List ℕ
fields_of header s = take (size_of header.schema_at - 24) (drop 24 s)

abbrev pub footer_of : Header → List ℕ → List ℕ
footer_of header s = take (size_of header.length - size_of header.schema_at) (drop (size_of header.schema_at) s)

-- the number of entries of the footer
abbrev pub entry_count : Header → ℕ
entry_count header = (size_of header.length - size_of header.schema_at) / entry_len header.flags

abbrev pub object_offsets : Header → List ℕ → List ℕ
object_offsets header s = offsets_of (offset_type header.flags) (key_len header.flags) (entry_count header) (footer_of header s)

abbrev pub object_ids : Header → List ℕ → List ℤ
object_ids header s = ids_of (entry_len header.flags) (entry_count header) (footer_of header s)

-- the shape of an object with fields
abbrev pub object_shape : Header → List ℕ → Shape
object_shape header s = if has_flag 32 header.flags then Compact header.schema else Named (object_ids header s)

-- ---- refusals of a header and its footer

-- something that is wrong if `holds`: at this place from the object's first byte, by this cause
pub record Check : Type 0 where
  pub holds : Bool
  pub at : ℕ
  pub why : Cause

-- the first that holds
abbrev pub first_wrong : List Check → Option (ℕ × Cause)
first_wrong [] = None
first_wrong (c ∷ cs) = if c.holds then Some (c.at, c.why) else first_wrong cs

-- the footer isn't a whole number of entries between the fields and the end
abbrev pub is_uneven : Header → Bool
is_uneven header =
    let end = size_of header.length in
    let schema = size_of header.schema_at in
    not (nat_lt 24 schema && (nat_lt schema end && (end - schema) % entry_len header.flags == 0))

-- The checks of a header, and of the footer where there is one, in their order, for an object in
-- n bytes or fewer whose footer has these identifiers.
abbrev pub checks : Header → ℕ → List ℤ → List Check
checks header n ids =
    let full = nat_lt 24 (size_of header.length) in
    record { holds = not (header.version == 1); at = 1; why = cause.ObjectVersion header.version }
    ∷ record { holds = has_flag 4 header.flags; at = 2; why = cause.RawData }
    ∷ record { holds = has_flag 8 header.flags && has_flag 16 header.flags; at = 2; why = cause.Flags }
    ∷ record { holds = int_eq header.type_id (pos 0); at = 4; why = cause.Unregistered }
    ∷ record { holds = nat_lt (size_of header.length) 24; at = 12; why = cause.Length }
    ∷ record { holds = nat_lt n (size_of header.length); at = 0; why = cause.Short }
    ∷ record { holds = full && not (has_flag 2 header.flags); at = 2; why = cause.Footer }
    ∷ record { holds = full && is_uneven header; at = 20; why = cause.Footer }
    ∷ record { holds = full && (not (has_flag 32 header.flags) && not (int_eq header.schema (schema_of ids))); at = 16; why = cause.Footer }
    ∷ []

-- what is wrong with the header or the footer of the object that begins these bytes, if anything
unfoldable pub refusal : Header → List ℕ → Option (ℕ × Cause)
refusal header s = first_wrong (checks header (length s) (object_ids header s))

-- ---- where bytes stop being an object

-- a field doesn't stand where its entry in the footer says: at the offset in the entry
pub record IsMisplaced (offset place at_offset at : ℕ) (why : Cause) : Type 0 where
  pub other : offset ≢ place
  pub here : at ≡ at_offset
  pub cause : why ≡ cause.Offset

-- the field at this place is not one
pub record StopsField (Wrong : List ℕ → ℕ → Cause → Type 0) (offset place : ℕ) (s : List ℕ) (at : ℕ) (why : Cause) : Type 0 where
  pub further : ℕ
  pub right : offset ≡ place
  pub wrong : Wrong s further why
  pub there : at ≡ place + further

-- it is one, and the fields after it stop
pub record StopsLater {X : Type 0} (P : List ℕ → X → Type 0) (After : ℕ → List ℕ → Type 0) (offset place : ℕ) (s : List ℕ) : Type 0 where
  pub first : X
  pub field : IsField P After place offset s first

-- bytes are left after the last field
pub record IsLeftOver (s : List ℕ) (at : ℕ) (why : Cause) : Type 0 where
  pub more : s ≢ []
  pub here : at ≡ 20
  pub cause : why ≡ cause.Offset

-- the fields from this place on stop, where the first of their offsets stands at `at_offset` and
-- the others after it at this distance
abbrev pub StopsLaid : {X : Type 0} → (List ℕ → X → Type 0) → (List ℕ → ℕ → Cause → Type 0) → ℕ → ℕ → ℕ → List ℕ → List ℕ → ℕ → Cause → Type 0
StopsLaid P Wrong distance at_offset place [] s at why = IsLeftOver s at why
StopsLaid P Wrong distance at_offset place (offset ∷ offsets) s at why =
    IsMisplaced offset place at_offset at why ⊎ StopsField Wrong offset place s at why
    ⊎ StopsLater P (λ next suffix. StopsLaid P Wrong distance (at_offset + distance) next offsets suffix at why) offset place s

-- the place of the first offset in the footer
abbrev pub first_offset : Header → ℕ
first_offset header = size_of header.schema_at + key_len header.flags

-- the header and the footer are right, and a field stops
pub record StopsFields {X : Type 0} (P : List ℕ → X → Type 0) (Wrong : List ℕ → ℕ → Cause → Type 0) (header : Header) (s : List ℕ) (at : ℕ) (why : Cause) : Type 0 where
  pub right : refusal header s ≡ None
  pub full : 24 < size_of header.length
  pub wrong : StopsLaid P Wrong (entry_len header.flags) (first_offset header) 24 (object_offsets header s) (fields_of header s) at why

-- the header isn't whole, it or the footer is wrong, or a field stops
abbrev pub StopsHeaded : {X : Type 0} → (List ℕ → X → Type 0) → (List ℕ → ℕ → Cause → Type 0) → Option Header → List ℕ → ℕ → Cause → Type 0
StopsHeaded P Wrong None s at why = (at ≡ 0) × (why ≡ cause.Short)
StopsHeaded P Wrong (Some header) s at why = (refusal header s ≡ Some (at, why)) ⊎ StopsFields P Wrong header s at why

-- the bytes begin with an object's code and stop being an object
pub record StopsObject {X : Type 0} (P : List ℕ → X → Type 0) (Wrong : List ℕ → ℕ → Cause → Type 0) (s : List ℕ) (at : ℕ) (why : Cause) : Type 0 where
  pub suffix : List ℕ
  pub whole : s ≡ 103 ∷ suffix
  pub wrong : StopsHeaded P Wrong (header_of s) s at why

-- ---- the canonical form

-- the places of these pieces, laid end to end from this place on
abbrev pub places_from : ℕ → List (List ℕ) → List ℕ
places_from place [] = []
places_from place (piece ∷ pieces) = place ∷ places_from (place + length piece) pieces

-- the last of these numbers, or 0 without any
abbrev pub last_of : List ℕ → ℕ
last_of [] = 0
last_of (n ∷ []) = n
last_of (n ∷ m ∷ ns) = last_of (m ∷ ns)

-- the narrowest type that this offset fits in
abbrev pub narrowest : ℕ → Width
narrowest offset = if nat_lt offset 256 then w8 else if nat_lt offset 65536 then w16 else w32

-- its flag; four bytes have none
abbrev pub width_flag : ℕ → ℕ
width_flag offset = if nat_lt offset 256 then 8 else if nat_lt offset 65536 then 16 else 0

abbrev pub compact_flag : Shape → ℕ
compact_flag (Named ids) = 0
compact_flag (Compact schema) = 32

abbrev pub canonical_schema : Shape → ℤ
canonical_schema (Named ids) = schema_of ids
canonical_schema (Compact schema) = schema

-- the canonical bytes after the code of an object with these bits, type and shape, whose fields
-- have these bytes
abbrev pub object_bytes : ℕ → ℤ → Shape → List (List ℕ) → List ℕ
object_bytes bits type shape [] =
    header_bytes (record { version = 1; flags = bits; type_id = type; hash = cast_signed w32 (BytesHash []); length = pos 24; schema = pos 0; schema_at = pos 0 })
object_bytes bits type shape (piece ∷ pieces) =
    let fields = flat_map (λ bytes. bytes) (piece ∷ pieces) in
    let offsets = places_from 24 (piece ∷ pieces) in
    let footer = footer_bytes (narrowest (last_of offsets)) shape offsets in
    header_bytes (record {
      version = 1;
      flags = bits + 2 + width_flag (last_of offsets) + compact_flag shape;
      type_id = type;
      hash = cast_signed w32 (BytesHash fields);
      length = pos (24 + length fields + length footer);
      schema = canonical_schema shape;
      schema_at = pos (24 + length fields);
    }) ++ (fields ++ footer)
