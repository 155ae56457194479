-- The texts of numbers, of bytes in hex, and of quoted texts, each said once for every width.
use Rattle.std.specs.Prelude.{ℕ, ℤ, pos, ◌+◌, ◌*◌, ◌/◌, ◌%◌, Bool, true, false, not, ◌&&◌, ◌||◌, List, [], ◌∷◌, ◌++◌, take, drop, codes, ◌==◌, nat_lt, if◌then◌else◌}
use Rattle.std.specs.Fmt.{decimal, signed_decimal, digit_glyph}
use Rattle.std.specs.Int.{w16, w32, w64, to_be_bytes, is_in_range}
use Rattle.std.specs.List.{flat_map}
use Rattle.ig_base.specs.declared.NodeId.{NodeId}
use Rattle.ig_value.specs.declared.value.Dec.{Dec}
use Rattle.ig_value.specs.declared.value.Stamp.{Stamp}
use Rattle.ig_value.specs.Part.{Scalar, i8, i16, i32, i64, u16, u32, u64, truth, ScalarValue}

-- the bytes that stand between and around the parts of a text
abbrev pub colon : ℕ
colon = 58

abbrev pub comma : ℕ
comma = 44

abbrev pub equals : ℕ
equals = 61

abbrev pub minus : ℕ
minus = 45

abbrev pub quote : ℕ
quote = 34

abbrev pub backslash : ℕ
backslash = 92

abbrev pub letter_x : ℕ
letter_x = 120

abbrev pub open_bracket : ℕ
open_bracket = 91

abbrev pub close_bracket : ℕ
close_bracket = 93

abbrev pub open_brace : ℕ
open_brace = 123

abbrev pub close_brace : ℕ
close_brace = 125

-- ---- bytes in hex: two digits a byte, the high one first

abbrev pub hex_byte : Bool → ℕ → List ℕ
hex_byte upper b = digit_glyph upper (b / 16) ∷ digit_glyph upper (b % 16) ∷ []

abbrev pub hex : Bool → List ℕ → List ℕ
hex upper bytes = flat_map (hex_byte upper) bytes

-- ---- numbers and truth values: signed numbers in decimal, the bits of others in hex of their width

abbrev pub truth_text : Bool → List ℕ
truth_text false = codes "false"
truth_text true = codes "true"

abbrev pub scalar_text : (k : Scalar) → ScalarValue k → List ℕ
scalar_text i8 n = signed_decimal n
scalar_text i16 n = signed_decimal n
scalar_text i32 n = signed_decimal n
scalar_text i64 n = signed_decimal n
scalar_text u16 n = hex true (to_be_bytes w16 n)
scalar_text u32 n = hex true (to_be_bytes w32 n)
scalar_text u64 n = hex true (to_be_bytes w64 n)
scalar_text truth b = truth_text b

-- two numbers with a colon between them
abbrev pub stamp_text : Stamp → List ℕ
stamp_text x = scalar_text i64 x.millis ++ colon ∷ scalar_text i32 x.nanos

-- a decimal's scale, and its bytes after a colon
abbrev pub decimal_text : Dec → List ℕ
decimal_text x = scalar_text i32 x.scale ++ colon ∷ hex true x.bytes

-- the bytes of a UUID's halves in lower case, with hyphens after 4, 6, 8 and 10 of them
abbrev pub groups_text : List ℕ → List ℕ → List ℕ
groups_text most least = hex false (take 4 most) ++ minus ∷ (hex false (take 2 (drop 4 most)) ++ minus ∷ (hex false (drop 6 most) ++ minus ∷ (hex false (take 2 least) ++ minus ∷ hex false (drop 2 least))))

abbrev pub uuid_text : NodeId → List ℕ
uuid_text x = groups_text (to_be_bytes w64 x.most) (to_be_bytes w64 x.least)

-- ---- items, and the byte that closes them

abbrev pub until_text : {A : Type 0} → ℕ → (A → List ℕ) → List A → List ℕ
until_text close text [] = close ∷ []
until_text close text (x ∷ xs) = text x ++ until_text close text xs

-- a list: items with commas between them
abbrev pub items_text : {A : Type 0} → ℕ → (A → List ℕ) → List A → List ℕ
items_text close text [] = close ∷ []
items_text close text (x ∷ xs) = text x ++ until_text close (λ y. comma ∷ text y) xs

-- ---- quoted texts

-- a byte that stands for itself between quotes: 0x21 to 0x7E but the quote and the backslash
abbrev pub is_bare : ℕ → Bool
is_bare b = is_in_range 33 126 b && (not (b == quote) && not (b == backslash))

abbrev pub quoted_byte : ℕ → List ℕ
quoted_byte b = if is_bare b then b ∷ [] else backslash ∷ letter_x ∷ hex_byte true b

abbrev pub quoted : List ℕ → List ℕ
quoted bytes = quote ∷ until_text quote quoted_byte bytes
