-- The right results of reading an object's header and its footer.
use Rattle.std.specs.Prelude.{◌≡◌, ◌≢◌, ℕ, ◌+◌, ◌-◌, ◌/◌, ◌%◌, ◌<◌, ◌≤◌, ℤ, pos, false, List, [], length, take, drop, Option, None, Some, Err, if◌then◌else◌}
use Rattle.std.specs.Int.{w32, cast_signed}
use Rattle.ig_base.specs.Headers.{has_flag}
use Rattle.ig_base.specs.Hashes.{BytesHash}
use Rattle.ig_base.specs.declared.header.Header.{Header}
use Rattle.ig_base.specs.declared.header.Footer.{Footer}
use Rattle.ig_value.specs.declared.object.Shape.{Shape}
use Rattle.ig_value.specs.declared.object.Shape.TheVariants.{Named, Compact}
use Rattle.ig_value.specs.declared.value.Value.{Value}
use Rattle.ig_value.specs.Objects.{Check, checks, first_wrong, kept_flags, schema_of, ids_of, width_flag}
use Rattle.ig_value.specs.Reading.{Read, object_at}
use Rattle.ig_decode.specs.FooterForms.{entry_bytes, IsFormOf}
use Rattle.ig_decode.specs.declared.fault.Stop.{Stop}
use Rattle.ig_decode.specs.declared.layout.Layout.{Layout}

-- the bytes stop being an object before its fields, whatever fields are
abbrev pub StopsBeforeFields : List ℕ → Stop → Type 0
StopsBeforeFields bytes stop = (inner : List ℕ → Read Value) → object_at inner bytes ≡ Err (stop.left, stop.cause)

-- the checks of the header alone, and those of where the footer lies
abbrev pub head_checks : Header → ℕ → List Check
head_checks header n = take 6 (checks header n [])

abbrev pub footer_checks : Header → ℕ → List Check
footer_checks header n = take 2 (drop 6 (checks header n []))

-- the header and where the footer lies are right, and the object is divided so
pub record IsLayout (header : Header) (n : ℕ) (layout : Layout) : Type 0 where
  pub head : first_wrong (head_checks header n) ≡ None
  pub foot : first_wrong (footer_checks header n) ≡ None
  pub length : header.length ≡ pos layout.length
  pub schema_at : header.schema_at ≡ pos layout.schema_at
  pub some : 24 < layout.schema_at
  pub more : layout.schema_at < layout.length
  pub within : layout.length ≤ n
  pub even : (layout.length - layout.schema_at) % entry_bytes layout.form ≡ 0
  pub form : IsFormOf header layout.form

-- the footer of an object with this header, length and form lies rightly
pub record IsDivided (header : Header) (len : ℕ) (form : Footer) (layout : Layout) : Type 0 where
  pub foot : (n : ℕ) → first_wrong (footer_checks header n) ≡ None
  pub schema_at : header.schema_at ≡ pos layout.schema_at
  pub some : 24 < layout.schema_at
  pub more : layout.schema_at < layout.length
  pub even : (layout.length - layout.schema_at) % entry_bytes layout.form ≡ 0
  pub length : layout.length ≡ len
  pub same_form : layout.form ≡ form

-- or the object is a right header alone
abbrev pub IsLaidOut : Header → ℕ → Option Layout → Type 0
IsLaidOut header n None = (header.length ≡ pos 24) × ((ids : List ℤ) → first_wrong (checks header n ids) ≡ None)
IsLaidOut header n (Some layout) = IsLayout header n layout

-- the identifiers in a footer that has some
abbrev pub footer_ids : Footer → List ℕ → List ℤ
footer_ids form footer = ids_of (entry_bytes form) (length footer / entry_bytes form) footer

-- the shape that the header and the footer tell, if they have the same schema
abbrev pub IsShapeIn : Header → Footer → List ℕ → Option Shape → Type 0
IsShapeIn header form footer None = (form.compact ≡ false) × (header.schema ≢ schema_of (footer_ids form footer))
IsShapeIn header form footer (Some shape) =
    (shape ≡ (if form.compact then Compact header.schema else Named (footer_ids form footer)))
    × (form.compact ≡ false → header.schema ≡ schema_of (footer_ids form footer))

-- a canonical header of an object without fields
pub record IsCanonicalAlone (header : Header) : Type 0 where
  pub flags : header.flags ≡ kept_flags header.flags
  pub hash : header.hash ≡ cast_signed w32 (BytesHash [])
  pub schema : header.schema ≡ pos 0
  pub schema_at : header.schema_at ≡ pos 0

-- the canonical flags of an object with these, with fields whose last offset is this one
abbrev pub full_flags : ℕ → ℕ → ℕ
full_flags flags last = kept_flags flags + 2 + width_flag last + (if has_flag 32 flags then 32 else 0)

-- the header has canonical flags, and the hash of the fields
abbrev pub IsCanonicalHead : Header → ℕ → List ℕ → Type 0
IsCanonicalHead header last fields = (header.flags ≡ full_flags header.flags last) × (header.hash ≡ cast_signed w32 (BytesHash fields))
