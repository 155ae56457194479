-- What the form of a footer says of its entries.
use Rattle.std.specs.Prelude.{◌≡◌, ℕ, ◌+◌, ◌/◌, List, length, ◌==◌, if◌then◌else◌}
use Rattle.std.specs.Int.{Width, w8, w16, w32, byte_len}
use Rattle.ig_base.specs.Headers.{has_flag}
use Rattle.ig_base.specs.declared.header.Header.{Header}
use Rattle.ig_base.specs.declared.header.Footer.{Footer}
use Rattle.ig_value.specs.Objects.{offset_type, offsets_of, last_of}

-- the type of an offset
abbrev pub offsets_type : Footer → Width
offsets_type form = if form.width == 1 then w8 else if form.width == 2 then w16 else w32

-- the bytes of an entry before its offset
abbrev pub key_bytes : Footer → ℕ
key_bytes form = if form.compact then 0 else 4

-- the bytes of an entry
abbrev pub entry_bytes : Footer → ℕ
entry_bytes form = key_bytes form + byte_len (offsets_type form)

-- the offsets that a footer has
abbrev pub footer_offsets : Footer → List ℕ → List ℕ
footer_offsets form footer = offsets_of (offsets_type form) (key_bytes form) (length footer / entry_bytes form) footer

-- the last of them
abbrev pub last_offset : Footer → List ℕ → ℕ
last_offset form footer = last_of (footer_offsets form footer)

-- the form is the one that the header tells
abbrev pub IsFormOf : Header → Footer → Type 0
IsFormOf header form = (form.compact ≡ has_flag 32 header.flags) × (offsets_type form ≡ offset_type header.flags)
