-- The parts of an object's canonical form, and what a walk over its fields finds.
use Rattle.std.specs.Prelude.{ℕ, ◌+◌, ◌%◌, ◌^◌, ℤ, pos, nat_lt, List, [], ◌∷◌, ◌++◌, length, map, take, if◌then◌else◌, get_or}
use Rattle.std.specs.Int.{Width, w8, w16, w32, byte_len, cast_signed}
use Rattle.std.specs.List.{flat_map}
use Rattle.ig_base.specs.Numbers.{LE}
use Rattle.ig_base.specs.Hashes.{BytesHash}
use Rattle.ig_base.specs.declared.header.Header.{Header}
use Rattle.ig_value.specs.declared.object.Shape.{Shape}
use Rattle.ig_value.specs.declared.object.Shape.TheVariants.{Named, Compact}
use Rattle.ig_value.specs.declared.value.Value.{Value}
use Rattle.ig_value.specs.Canon.{Canon}
use Rattle.ig_value.specs.Objects.{footer_bytes, places_from, last_of, narrowest, width_flag, compact_flag, canonical_schema}
use Rattle.ig_encode.specs.declared.measure.Measure.{Measure}
use Rattle.ig_encode.specs.declared.span.OffsetWidth.{OffsetWidth}
use Rattle.ig_encode.specs.declared.span.OffsetWidth.TheVariants.{One, Two, Four}
use Rattle.ig_encode.specs.declared.span.Offset.{Offset}
use Rattle.ig_encode.specs.declared.span.Extent.{Extent}
use Rattle.ig_encode.specs.declared.span.Span.{Span}
use Rattle.ig_encode.specs.MeasureOutput.{measure_after, count_after, no_length}

-- ---- offsets

abbrev pub type_of : OffsetWidth → Width
type_of One = w8
type_of Two = w16
type_of Four = w32

-- the least width that holds an offset
abbrev pub least_width : ℕ → OffsetWidth
least_width offset = if nat_lt offset 256 then One else if nat_lt offset 65536 then Two else Four

abbrev pub offset_of : ℕ → Offset
offset_of n = record { low = n % 2 ^ 32; width = least_width n }

-- ---- footers

-- the identifier of the field at this index, as a footer of this shape has it
abbrev pub key_bytes : Shape → ℕ → List ℕ
key_bytes (Named ids) i = LE w32 (get_or ids i (pos 0))
key_bytes (Compact schema) i = []

-- the entry of the field at this index and this offset
abbrev pub entry_bytes : Width → Shape → ℕ → ℕ → List ℕ
entry_bytes w shape i offset = key_bytes shape i ++ LE w (pos offset)

-- the number of bytes of an entry
abbrev pub key_size : Shape → ℕ
key_size (Named ids) = 4
key_size (Compact schema) = 0

abbrev pub entry_size : OffsetWidth → Shape → ℕ
entry_size width shape = key_size shape + byte_len (type_of width)

-- the offsets of the fields
abbrev pub field_offsets : List Value → List ℕ
field_offsets fields = places_from 24 (map Canon fields)

-- ---- the header

-- the header of an object whose fields have these bytes
abbrev pub canonical_header : ℕ → ℤ → Shape → List (List ℕ) → Header
canonical_header bits type shape [] = record { version = 1; flags = bits; type_id = type; hash = cast_signed w32 (BytesHash []); length = pos 24; schema = pos 0; schema_at = pos 0 }
canonical_header bits type shape (piece ∷ pieces) =
    let fields = flat_map (λ bytes. bytes) (piece ∷ pieces) in
    let offsets = places_from 24 (piece ∷ pieces) in
    let footer = footer_bytes (narrowest (last_of offsets)) shape offsets in
    record {
      version = 1;
      flags = bits + 2 + width_flag (last_of offsets) + compact_flag shape;
      type_id = type;
      hash = cast_signed w32 (BytesHash fields);
      length = pos (24 + length fields + length footer);
      schema = canonical_schema shape;
      schema_at = pos (24 + length fields);
    }

-- ---- spans

-- the footer of these fields, with offsets of this type
abbrev pub field_footer : Width → Shape → List Value → List ℕ
field_footer w shape fields = footer_bytes w shape (field_offsets fields)

-- the extent of these fields
abbrev pub extent_of : List Value → Extent
extent_of fields = record { length = count_after no_length (length (flat_map Canon fields)); last = offset_of (last_of (field_offsets fields)) }

-- the span of these fields, by measures that begin as this one
abbrev pub span_of : Measure → Shape → List Value → Span
span_of start shape fields = record {
  fields = measure_after start (flat_map Canon fields);
  last = offset_of (last_of (field_offsets fields));
  narrow = measure_after start (field_footer w8 shape fields);
  middle = measure_after start (field_footer w16 shape fields);
  wide = measure_after start (field_footer w32 shape fields);
}

-- the measure of the footer with the least width
abbrev pub footer_of : Span → OffsetWidth → Measure
footer_of span One = span.narrow
footer_of span Two = span.middle
footer_of span Four = span.wide

-- the span after the entry of the field at this index and this offset, before the field itself
abbrev pub entry_noted : Span → Shape → ℕ → ℕ → Span
entry_noted span shape i offset = record {
  fields = span.fields;
  last = offset_of offset;
  narrow = measure_after span.narrow (entry_bytes w8 shape i offset);
  middle = measure_after span.middle (entry_bytes w16 shape i offset);
  wide = measure_after span.wide (entry_bytes w32 shape i offset);
}

-- the flag of a footer with offsets of this width; four bytes have none
abbrev pub flag_of : OffsetWidth → ℕ
flag_of One = 8
flag_of Two = 16
flag_of Four = 0

-- the footer with the least width
abbrev pub least_footer : Shape → List Value → List ℕ
least_footer shape fields = field_footer (type_of (least_width (last_of (field_offsets fields)))) shape fields

-- the entries of the first fields in that footer
abbrev pub least_entries : Shape → List Value → ℕ → List ℕ
least_entries shape fields count = field_footer (type_of (least_width (last_of (field_offsets fields)))) shape (take count fields)
