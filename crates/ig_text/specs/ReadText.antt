-- Reading a text from left to right, as a function: what was read and the bytes after it, or the
-- number of bytes that are left where the first wrong part begins.
use Rattle.std.specs.Prelude.{ℕ, ℤ, zero, suc, pos, negsuc, ◌+◌, ◌-◌, ◌*◌, ◌/◌, ◌%◌, ◌^◌, Bool, true, false, not, ◌&&◌, ◌||◌, List, [], ◌∷◌, ◌++◌, length, take, drop, map, codes, Option, None, Some, Result, Ok, Err, nat_lt, nat_le, ◌==◌, if◌then◌else◌}
use Rattle.std.specs.Char.{is_ascii_digit}
use Rattle.std.specs.Int.{w16, w32, w64, from_be_bytes, is_in_range}
use Rattle.std.specs.List.{prefix_len, starts_with}
use Rattle.std.specs.Str.{is_utf8}
use Rattle.std.specs.Str.Parse.{digits_value}
use Rattle.ig_base.specs.declared.NodeId.{NodeId}
use Rattle.ig_value.specs.declared.code.Code.{Code}
use Rattle.ig_value.specs.declared.code.Code.TheVariants as code
use Rattle.ig_value.specs.declared.object.Record.{Record}
use Rattle.ig_value.specs.declared.object.Shape.TheVariants.{Named, Compact}
use Rattle.ig_value.specs.declared.value.Dec.{Dec}
use Rattle.ig_value.specs.declared.value.Stamp.{Stamp}
use Rattle.ig_value.specs.declared.value.Value.{Value}
use Rattle.ig_value.specs.Objects.{kept_flags}
use Rattle.ig_value.specs.Part.{Scalar, i8, i16, i32, i64, u16, u32, u64, truth, ScalarValue, Part, nothing, scalar, text, octets, uuid, stamp, decimal, value, object, both, counted, optional, Content}
use Rattle.ig_value.specs.Table.{content, value_with}
use Rattle.ig_text.specs.declared.row.Row.{Row}
use Rattle.ig_text.specs.declared.row.Row.TheVariants.{Kind, CompactObject}
use Rattle.ig_text.specs.Tokens.{colon, comma, equals, minus, quote, backslash, letter_x, open_bracket, close_bracket, open_brace, close_brace, is_bare}
use Rattle.ig_text.specs.TextOf.{mark}
use Rattle.ig_text.specs.Words.{word, row_at}

-- what was read and the bytes after it, or the number of bytes left at the first wrong part
abbrev pub Read : Type 0 → Type 0
Read A = Result (A × List ℕ) ℕ

infixl 10 ◌>>=◌
abbrev pub ◌>>=◌ : {A B : Type 0} → Result A ℕ → (A → Result B ℕ) → Result B ℕ
(Ok x) >>= f = f x
(Err left) >>= f = Err left

-- the same reading, with what was read turned by f
abbrev pub mapped_read : {A B : Type 0} → (A → B) → Read A → Read B
mapped_read f r = r >>= λ x. Ok (f x.0, x.1)

-- the same reading where what was read passes the test; else the fault is here
abbrev pub checked_read : {A : Type 0} → (A → Bool) → ℕ → Read A → Read A
checked_read test left r = r >>= λ x. if test x.0 then Ok x else Err left

-- ---- marks and words

abbrev pub mark_at : ℕ → List ℕ → Read (Unit {0})
mark_at b [] = Err 0
mark_at b (c ∷ s) = if c == b then Ok (tt, s) else Err (suc (length s))

abbrev pub begins_with : List ℕ → List ℕ → Bool
begins_with front s = starts_with (λ a b. a == b) s front

-- two parts with a mark between them
abbrev pub joined_at : {A B : Type 0} → (List ℕ → Read A) → ℕ → (List ℕ → Read B) → List ℕ → Read (A × B)
joined_at first b second s = do
  x ← first s
  m ← mark_at b x.1
  y ← second m.1
  Ok ((x.0, y.0), y.1)

-- ---- numbers in decimal

-- at least one digit and at most 19, with no zero in front of others
abbrev pub is_plain : List ℕ → Bool
is_plain [] = false
is_plain (d ∷ []) = true
is_plain (d ∷ e ∷ ds) = not (d == 48) && nat_lt (length ds) 18

abbrev pub natural_of : ℕ → List ℕ → Read ℕ
natural_of n s = if is_plain (take n s) then Ok (digits_value 10 (take n s), drop n s) else Err (length s)

abbrev pub natural_at : List ℕ → Read ℕ
natural_at s = natural_of (prefix_len is_ascii_digit s) s

-- a number from minus the limit on, and below the limit
abbrev pub signed_at : ℕ → List ℕ → Read ℤ
signed_at limit [] = Err 0
signed_at limit (b ∷ s) = if b == minus
    then mapped_read (λ n. negsuc (n - 1)) (checked_read (λ n. nat_lt 0 n && nat_le n limit) (suc (length s)) (natural_at s))
    else mapped_read pos (checked_read (λ n. nat_lt n limit) (suc (length s)) (natural_at (b ∷ s)))

-- ---- bytes in hex

-- the first letter that is a digit
abbrev pub letter_a : Bool → ℕ
letter_a false = 97
letter_a true = 65

abbrev pub is_hex : Bool → ℕ → Bool
is_hex upper b = is_in_range 48 57 b || is_in_range (letter_a upper) (letter_a upper + 5) b

abbrev pub hex_value : Bool → ℕ → ℕ
hex_value upper b = if nat_lt b 58 then b - 48 else b - letter_a upper + 10

abbrev pub pair_at : Bool → List ℕ → Read ℕ
pair_at upper [] = Err 0
pair_at upper (a ∷ []) = Err 1
pair_at upper (a ∷ b ∷ s) = if is_hex upper a && is_hex upper b then Ok (hex_value upper a * 16 + hex_value upper b, s) else Err (suc (suc (length s)))

-- n bytes
abbrev pub run_at : Bool → ℕ → List ℕ → Read (List ℕ)
run_at upper zero s = Ok ([], s)
run_at upper (suc n) s = do
  x ← pair_at upper s
  xs ← run_at upper n x.1
  Ok (x.0 ∷ xs.0, xs.1)

-- an Int32 counts the items
abbrev pub is_countable : {A : Type 0} → List A → Bool
is_countable xs = nat_lt (length xs) (2 ^ 31)

abbrev pub octets_of : ℕ → List ℕ → Read (List ℕ)
octets_of n s = if n % 2 == 0 then checked_read is_countable (length s) (run_at true (n / 2) s) else Err (length s)

-- as many bytes as there are pairs of digits
abbrev pub octets_at : List ℕ → Read (List ℕ)
octets_at s = octets_of (prefix_len (is_hex true) s) s

-- ---- numbers and truth values

abbrev pub truth_at : List ℕ → Read Bool
truth_at s = if begins_with (codes "true") s then Ok (true, drop 4 s) else if begins_with (codes "false") s then Ok (false, drop 5 s) else Err (length s)

abbrev pub scalar_at : (k : Scalar) → List ℕ → Read (ScalarValue k)
scalar_at i8 s = signed_at (2 ^ 7) s
scalar_at i16 s = signed_at (2 ^ 15) s
scalar_at i32 s = signed_at (2 ^ 31) s
scalar_at i64 s = signed_at (2 ^ 63) s
scalar_at u16 s = mapped_read (from_be_bytes w16) (run_at true 2 s)
scalar_at u32 s = mapped_read (from_be_bytes w32) (run_at true 4 s)
scalar_at u64 s = mapped_read (from_be_bytes w64) (run_at true 8 s)
scalar_at truth s = truth_at s

abbrev pub stamp_at : List ℕ → Read Stamp
stamp_at s = mapped_read (λ x. record { millis = x.0; nanos = x.1 }) (joined_at (scalar_at i64) colon (scalar_at i32) s)

abbrev pub decimal_at : List ℕ → Read Dec
decimal_at s = mapped_read (λ x. record { scale = x.0; bytes = x.1 }) (joined_at (scalar_at i32) colon octets_at s)

abbrev pub uuid_at : List ℕ → Read NodeId
uuid_at s = mapped_read (λ x. record { most = from_be_bytes w64 (x.0 ++ (x.1.0 ++ x.1.1.0)); least = from_be_bytes w64 (x.1.1.1.0 ++ x.1.1.1.1) })
    (joined_at (run_at false 4) minus (joined_at (run_at false 2) minus (joined_at (run_at false 2) minus (joined_at (run_at false 2) minus (run_at false 6)))) s)

-- ---- lists

-- items up to the byte that closes the list, at most as many as there are bytes
abbrev pub until_at : {A : Type 0} → (List ℕ → Read A) → ℕ → ℕ → List ℕ → Read (List A)
until_at one close zero s = Err (length s)
until_at one close (suc n) [] = Err 0
until_at one close (suc n) (b ∷ s) = if b == close then Ok ([], s) else (do
  x ← one (b ∷ s)
  xs ← until_at one close n x.1
  Ok (x.0 ∷ xs.0, xs.1))

-- an item after a comma
abbrev pub next_at : {A : Type 0} → (List ℕ → Read A) → List ℕ → Read A
next_at one s = mark_at comma s >>= λ m. one m.1

abbrev pub some_at : {A : Type 0} → (List ℕ → Read A) → ℕ → List ℕ → Read (List A)
some_at one close s = do
  x ← one s
  xs ← until_at (next_at one) close (length x.1) x.1
  Ok (x.0 ∷ xs.0, xs.1)

abbrev pub any_at : {A : Type 0} → (List ℕ → Read A) → ℕ → List ℕ → Read (List A)
any_at one close [] = some_at one close []
any_at one close (b ∷ s) = if b == close then Ok ([], s) else some_at one close (b ∷ s)

abbrev pub items_at : {A : Type 0} → (List ℕ → Read A) → ℕ → List ℕ → Read (List A)
items_at one close s = checked_read is_countable (length s) (any_at one close s)

-- ---- quoted texts

-- a byte that must not stand for itself, after the backslash
abbrev pub escape_at : List ℕ → Read ℕ
escape_at s = checked_read (λ b. not (is_bare b)) (length s) (mark_at letter_x s >>= λ m. pair_at true m.1)

abbrev pub char_at : List ℕ → Read ℕ
char_at [] = Err 0
char_at (b ∷ s) = if is_bare b then Ok (b, s) else if b == backslash then escape_at s else Err (suc (length s))

-- UTF-8 whose bytes an Int32 counts
abbrev pub is_text : List ℕ → Bool
is_text t = is_countable t && is_utf8 t

abbrev pub quoted_at : List ℕ → Read (List ℕ)
quoted_at s = checked_read is_text (length s) (mark_at quote s >>= λ m. until_at char_at quote (length m.1) m.1)

-- ---- objects

-- flags that an object may have
abbrev pub bits_at : List ℕ → Read ℕ
bits_at s = checked_read (λ n. nat_lt n (2 ^ 16) && kept_flags n == n) (length s) (natural_at s)

abbrev pub is_type : ℤ → Bool
is_type (pos n) = nat_lt 0 n
is_type (negsuc n) = true

abbrev pub type_at : List ℕ → Read ℤ
type_at s = checked_read is_type (length s) (scalar_at i32 s)

abbrev pub head_at : List ℕ → Read (ℕ × ℤ)
head_at s = joined_at bits_at colon type_at s

abbrev pub entry_at : {X : Type 0} → (List ℕ → Read X) → List ℕ → Read (ℤ × X)
entry_at inner s = joined_at (scalar_at i32) equals inner s

abbrev pub named_object : {X : Type 0} → (ℕ × ℤ) × List (ℤ × X) → Record X
named_object x = record { bits = x.0.0; type_id = x.0.1; shape = Named (map (λ e. e.0) x.1); fields = map (λ e. e.1) x.1 }

abbrev pub named_at : {X : Type 0} → (List ℕ → Read X) → List ℕ → Read (Record X)
named_at inner s = mapped_read named_object (joined_at head_at open_brace (items_at (entry_at inner) close_brace) s)

abbrev pub compact_object : {X : Type 0} → (ℕ × ℤ) × (ℤ × List X) → Record X
compact_object x = record { bits = x.0.0; type_id = x.0.1; shape = Compact x.1.0; fields = x.1.1 }

-- at least one
abbrev pub fields_at : {X : Type 0} → (List ℕ → Read X) → List ℕ → Read (List X)
fields_at inner s = checked_read (λ xs. nat_lt 0 (length xs)) (length s) (items_at inner close_brace s)

abbrev pub compact_at : {X : Type 0} → (List ℕ → Read X) → List ℕ → Read (Record X)
compact_at inner s = mapped_read compact_object (joined_at head_at colon (joined_at (scalar_at i32) open_brace (fields_at inner)) s)

-- ---- parts

abbrev pub optional_at : {A : Type 0} → (List ℕ → Read A) → List ℕ → Read (Option A)
optional_at one s = if begins_with (codes "null") s then Ok (None, drop 4 s) else mapped_read Some (one s)

-- two parts in the other order
abbrev pub swapped : {A B : Type 0} → B × A → A × B
swapped x = (x.1, x.0)

abbrev pub alone : {A : Type 0} → List A → Unit {0} × List A
alone xs = (tt, xs)

-- a part, where `inner` reads a value inside
abbrev pub part_at : {X : Type 0} → (List ℕ → Read X) → (p : Part) → List ℕ → Read (Content X p)
part_at inner nothing s = Ok (tt, s)
part_at inner (scalar k) s = scalar_at k s
part_at inner text s = quoted_at s
part_at inner octets s = octets_at s
part_at inner uuid s = uuid_at s
part_at inner stamp s = stamp_at s
part_at inner decimal s = decimal_at s
part_at inner value s = inner s
part_at inner object s = named_at inner s
part_at inner (both octets q) s = mapped_read swapped (joined_at (part_at inner q) colon octets_at s)
part_at inner (both p q) s = joined_at (part_at inner p) (mark q) (part_at inner q) s
part_at inner (counted nothing q) s = mapped_read alone (items_at (part_at inner q) close_bracket s)
part_at inner (counted p q) s = joined_at (part_at inner p) open_bracket (items_at (part_at inner q) close_bracket) s
part_at inner (optional c p) s = optional_at (part_at inner p) s

-- ---- values

-- what follows the word of a row
abbrev pub content_at : (List ℕ → Read Value) → Row → List ℕ → Read Value
content_at inner (Kind c) s = mapped_read (value_with c) (part_at inner (content c) s)
content_at inner CompactObject s = mapped_read (value_with code.Object) (compact_at inner s)

abbrev pub known_at : (List ℕ → Read Value) → List ℕ → Option Row → Read Value
known_at inner s None = Err (length s)
known_at inner s (Some r) = content_at inner r (drop (length (word r)) s)

-- a value that is at most this many levels deep
abbrev pub value_at : ℕ → List ℕ → Read Value
value_at zero s = Err (length s)
value_at (suc levels) s = known_at (value_at levels) s (row_at s)

-- a value
unfoldable pub text_at : List ℕ → Read Value
text_at = value_at 32
