-- The canonical form of a value has at most 24 bytes for each byte of its text.
use Rattle.std.proofs.Common.{◌≡◌, ℕ, ℤ, zero, suc, pos, negsuc, ◌+◌, ◌*◌, ◌<◌, ◌≤◌, ◌^◌, Bool, true, false, cond, ltb, leb, List, [], ◌∷◌, ◌++◌, length, take, drop, map, Option, Some, None, Ok, refl, sym, ap, ◌∙◌, arith, length-append}
use Rattle.std.specs.Prelude.{FitsSigned}
use Rattle.std.specs.Fmt.{signed_decimal}
use Rattle.std.specs.Int.{Width, w8, w16, w32, w64, byte_len, to_be_bytes}
use Rattle.std.specs.List.{AllByRecursion, flat_map}
use Rattle.std.proofs.lemmas.Bool.{leb-true}
use Rattle.std.proofs.lemmas.Fmt.{decimal_nonempty}
use mir.Val.{hbits}
use Rattle.ig_base.specs.Headers.{header_bytes}
use Rattle.ig_base.specs.Numbers.{LE}
use Rattle.ig_base.proofs.NumberLemmas.{length-LE_16, length-LE_32, length-LE_64}
use Rattle.ig_value.specs.declared.code.Code.{Code}
use Rattle.ig_value.specs.declared.code.Code.TheVariants as code
use Rattle.ig_value.specs.declared.object.Record.{Record}
use Rattle.ig_value.specs.declared.object.Shape.{Shape}
use Rattle.ig_value.specs.declared.object.Shape.TheVariants.{Named, Compact}
use Rattle.ig_value.specs.declared.value.Value.{Value, out-Value}
use Rattle.ig_value.specs.Canon.{counted_bytes, part_bytes, Canon}
use Rattle.ig_value.specs.Limits.{FitsPart, FitsTo, Fits, IsLimitedShape, IsLimitedObject}
use Rattle.ig_value.specs.Objects.{narrowest, last_of, places_from, footer_bytes, object_bytes}
use Rattle.ig_value.specs.Part.{Scalar, i8, i16, i32, i64, u16, u32, u64, truth, ScalarValue, Part, nothing, scalar, text, octets, uuid, stamp, decimal, value, object, both, counted, optional, Content}
use Rattle.ig_value.specs.Spells.{scalar_bytes, IsInRange}
use Rattle.ig_value.specs.Table.{byte_of, content, parts}
use Rattle.ig_value.proofs.FoldLemmas.{Canon_out}
use Rattle.ig_value.proofs.FooterLemmas.{wide_by, bits_by, named_len, bare_len}
use Rattle.ig_value.proofs.PartLemmas.{IsPlain}
use Rattle.ig_value.proofs.SpelledObjectLemmas.{header_len}
use Rattle.ig_text.specs.declared.row.Row.{Row}
use Rattle.ig_text.specs.declared.row.Row.TheVariants.{Kind, CompactObject}
use Rattle.ig_text.specs.ReadText.{text_at}
use Rattle.ig_text.specs.TextLaws.{ReadIsBounded}
use Rattle.ig_text.specs.TextOf.{head_text, entries, entry_text, mark, shape_text, object_text, part_text, row_of, row_text, TextOf}
use Rattle.ig_text.specs.Tokens.{colon, comma, equals, open_bracket, close_bracket, open_brace, close_brace, minus, quote, backslash, letter_x, hex_byte, hex, scalar_text, stamp_text, uuid_text, until_text, items_text, is_bare, quoted_byte}
use Rattle.ig_text.specs.Words.{word_of_code, word, object_row}
use Rattle.ig_text.proofs.HexLemmas.{width16, width32, width64}
use Rattle.ig_text.proofs.LevelLemmas.{IsLeaf, IsListed, IsTextual, content_textual, TextOf_out, read_is_text}

-- ---- lengths of texts and bytes

signed_some : (w : Width) (limit : ℕ) → limit ≡ 2 ^ hbits w → limit ≤ 2 ^ 63 → (z : ℤ) → FitsSigned w z → 1 ≤ length (signed_decimal z)
signed_some w limit is most (pos n) fits =
    let lt : n < limit = omega (arith, fits.sfits, is) in
    omega (arith, decimal_nonempty n (omega (arith, lt, most)))
signed_some w limit is most (negsuc m) fits = omega arith

hex_length : (upper : Bool) (xs : List ℕ) → length (hex upper xs) ≡ length xs + length xs
hex_length upper [] = refl
hex_length upper (x ∷ xs) = omega (arith, hex_length upper xs)

scalar_some : (k : Scalar) (x : ScalarValue k) → IsInRange k x → 1 ≤ length (scalar_text k x)
scalar_some i8 x fits = signed_some w8 (2 ^ 7) refl (omega arith) x fits
scalar_some i16 x fits = signed_some w16 (2 ^ 15) refl (omega arith) x fits
scalar_some i32 x fits = signed_some w32 (2 ^ 31) refl (omega arith) x fits
scalar_some i64 x fits = signed_some w64 (2 ^ 63) refl (omega arith) x fits
scalar_some u16 x fits = let n : length (to_be_bytes w16 x) ≡ 2 = width16.len x in omega (arith, hex_length true (to_be_bytes w16 x), n)
scalar_some u32 x fits = let n : length (to_be_bytes w32 x) ≡ 4 = width32.len x in omega (arith, hex_length true (to_be_bytes w32 x), n)
scalar_some u64 x fits = let n : length (to_be_bytes w64 x) ≡ 8 = width64.len x in omega (arith, hex_length true (to_be_bytes w64 x), n)
scalar_some truth true fits = omega arith
scalar_some truth false fits = omega arith

length-LE_8 : (z : ℤ) → length (LE w8 z) ≡ 1
unfolding LE
length-LE_8 z = refl

scalar_few : (k : Scalar) (x : ScalarValue k) → length (scalar_bytes k x) ≤ 8
scalar_few i8 x = omega (arith, length-LE_8 x)
scalar_few i16 x = omega (arith, length-LE_16 x)
scalar_few i32 x = omega (arith, length-LE_32 x)
scalar_few i64 x = omega (arith, length-LE_64 x)
scalar_few u16 x = omega (arith, length-LE_16 (pos x))
scalar_few u32 x = omega (arith, length-LE_32 (pos x))
scalar_few u64 x = omega (arith, length-LE_64 (pos x))
scalar_few truth true = omega arith
scalar_few truth false = omega arith

either_some : (bare : Bool) (b : ℕ) → 1 ≤ length (cond bare (b ∷ []) (backslash ∷ letter_x ∷ hex_byte true b))
either_some true b = omega arith
either_some false b = omega arith

quoted_some : (xs : List ℕ) → length xs + 1 ≤ length (until_text quote quoted_byte xs)
quoted_some [] = omega arith
quoted_some (x ∷ xs) =
    let one : 1 ≤ length (quoted_byte x) = either_some (is_bare x) x in
    omega (arith, length-append (quoted_byte x) (until_text quote quoted_byte xs), one, quoted_some xs)

counted_length : (xs : List ℕ) → length (counted_bytes xs) ≡ 4 + length xs
counted_length xs = omega (arith, length-append (LE w32 (pos (length xs))) xs, length-LE_32 (pos (length xs)))

some_after : (xs ys : List ℕ) (b : ℕ) → 1 ≤ length (xs ++ b ∷ ys)
some_after xs ys b = omega (arith, length-append xs (b ∷ ys))

-- ---- lists

-- the sum of a number for each item
abbrev total : {A : Type 0} → (A → ℕ) → List A → ℕ
total m [] = 0
total m (x ∷ xs) = m x + total m xs

flat_total : {A : Type 0} (B : A → List ℕ) (xs : List A) → length (flat_map B xs) ≡ total (λ x. length (B x)) xs
flat_total B [] = refl
flat_total B (x ∷ xs) = omega (arith, length-append (B x) (flat_map B xs), flat_total B xs)

until_bound : {A : Type 0} (T : A → List ℕ) (m : A → ℕ) (P : A → Type 0) (close : ℕ) → ((x : A) → P x → m x ≤ 24 * length (T x) + 8) → (xs : List A) → AllByRecursion P xs →
    total m xs + 24 ≤ 24 * length (until_text close (λ y. comma ∷ T y) xs)
until_bound T m P close one [] all = omega arith
until_bound T m P close one (x ∷ xs) all =
    omega (arith, one x all.0, length-append (T x) (until_text close (λ y. comma ∷ T y) xs), until_bound T m P close one xs all.1)

items_bound : {A : Type 0} (T : A → List ℕ) (m : A → ℕ) (P : A → Type 0) (close : ℕ) → ((x : A) → P x → m x ≤ 24 * length (T x) + 8) → (xs : List A) → AllByRecursion P xs →
    total m xs + 8 ≤ 24 * length (items_text close T xs)
items_bound T m P close one [] all = omega arith
items_bound T m P close one (x ∷ xs) all =
    omega (arith, one x all.0, length-append (T x) (until_text close (λ y. comma ∷ T y) xs), until_bound T m P close one xs all.1)

-- ---- parts

leaf_bound : {X : Type 0} (Fits : X → Type 0) (T B : X → List ℕ) (p : Part) → IsLeaf p → (x : Content X p) → FitsPart Fits p x → length (part_bytes B p x) ≤ 24 * length (part_text T p x)
leaf_bound Fits T B (scalar k) is x fits = omega (arith, scalar_few k x, scalar_some k x fits)
leaf_bound Fits T B text is x fits = omega (arith, counted_length x, quoted_some x)
leaf_bound Fits T B uuid is x fits =
    let m : List ℕ = to_be_bytes w64 x.most in
    let l : List ℕ = to_be_bytes w64 x.least in
    let some : 1 ≤ length (uuid_text x) =
    some_after (hex false (take 4 m)) (hex false (take 2 (drop 4 m)) ++ minus ∷ (hex false (drop 6 m) ++ minus ∷ (hex false (take 2 l) ++ minus ∷ hex false (drop 2 l)))) minus in
    omega (arith, length-append (scalar_bytes u64 x.most) (scalar_bytes u64 x.least), length-LE_64 (pos x.most), length-LE_64 (pos x.least), some)
leaf_bound Fits T B stamp is x fits =
    omega (arith, length-append (scalar_bytes i64 x.millis) (scalar_bytes i32 x.nanos), length-LE_64 x.millis, length-LE_32 x.nanos, length-append (scalar_text i64 x.millis) (colon ∷ scalar_text i32 x.nanos))
leaf_bound Fits T B decimal is x fits =
    omega (arith, length-append (scalar_bytes i32 x.scale) (counted_bytes x.bytes), length-LE_32 x.scale, counted_length x.bytes, length-append (scalar_text i32 x.scale) (colon ∷ hex true x.bytes), hex_length true x.bytes)
leaf_bound Fits T B _ is x fits = absurd is

list_bound : {A : Type 0} (T B : A → List ℕ) (P : A → Type 0) → ((x : A) → P x → length (B x) ≤ 24 * length (T x) + 8) → (xs : List A) → AllByRecursion P xs →
    length (flat_map B xs) + 8 ≤ 24 * length (items_text close_bracket T xs)
list_bound T B P one xs all = omega (arith, flat_total B xs, items_bound T (λ x. length (B x)) P close_bracket one xs all)

counted_parts : (xs ys : List ℕ) (n : ℕ) → length (LE w32 (pos n) ++ (xs ++ ys)) ≡ 4 + (length xs + length ys)
counted_parts xs ys n = omega (arith, length-append (LE w32 (pos n)) (xs ++ ys), length-LE_32 (pos n), length-append xs ys)

optional_bound : {X : Type 0} (Fits : X → Type 0) (T B : X → List ℕ) (c : Code) (p : Part) → IsLeaf p → (x : Option (Content X p)) → FitsPart Fits (optional c p) x →
    length (part_bytes B (optional c p) x) ≤ 24 * length (part_text T (optional c p) x) + 8
optional_bound Fits T B c p is None fits = omega arith
optional_bound Fits T B c p is (Some x) fits = omega (arith, leaf_bound Fits T B p is x fits)

part_bound : {X : Type 0} (Fits : X → Type 0) (T B : X → List ℕ) → ((x : X) → Fits x → length (B x) ≤ 24 * length (T x)) → (p : Part) → IsTextual p → (x : Content X p) → FitsPart Fits p x →
    length (part_bytes B p x) ≤ 24 * length (part_text T p x) + 8
part_bound Fits T B inner nothing is x fits = omega arith
part_bound Fits T B inner (scalar k) is x fits = omega (arith, leaf_bound Fits T B (scalar k) tt x fits)
part_bound Fits T B inner text is x fits = omega (arith, leaf_bound Fits T B text tt x fits)
part_bound Fits T B inner octets is x fits = omega (arith, counted_length x, hex_length true x)
part_bound Fits T B inner uuid is x fits = omega (arith, leaf_bound Fits T B uuid tt x fits)
part_bound Fits T B inner stamp is x fits = omega (arith, leaf_bound Fits T B stamp tt x fits)
part_bound Fits T B inner decimal is x fits = omega (arith, leaf_bound Fits T B decimal tt x fits)
part_bound Fits T B inner value is x fits = omega (arith, inner x fits)
part_bound Fits T B inner object is x fits = absurd is
part_bound Fits T B inner (both octets q) is x fits =
    omega (arith, length-append (counted_bytes x.0) (part_bytes B q x.1), counted_length x.0, part_bound Fits T B inner q is x.1 fits.1, length-append (part_text T q x.1) (colon ∷ hex true x.0), hex_length true x.0)
part_bound Fits T B inner (both p q) is x fits =
    omega (arith, length-append (part_bytes B p x.0) (part_bytes B q x.1), part_bound Fits T B inner p is.0 x.0 fits.0, part_bound Fits T B inner q is.1 x.1 fits.1, length-append (part_text T p x.0) (mark q ∷ part_text T q x.1))
part_bound Fits T B inner (counted nothing q) is x fits =
    omega (arith, counted_parts [] (flat_map (part_bytes B q) x.1) (length x.1), list_bound (part_text T q) (part_bytes B q) (FitsPart Fits q) (part_bound Fits T B inner q is.1) x.1 fits.1.1)
part_bound Fits T B inner (counted p q) is x fits =
    omega (
      arith,
      counted_parts (part_bytes B p x.0) (flat_map (part_bytes B q) x.1) (length x.1),
      part_bound Fits T B inner p is.0 x.0 fits.1.0,
      list_bound (part_text T q) (part_bytes B q) (FitsPart Fits q) (part_bound Fits T B inner q is.1.1) x.1 fits.1.1,
      length-append (part_text T p x.0) (open_bracket ∷ items_text close_bracket (part_text T q) x.1),
    )
part_bound Fits T B inner (optional c p) is x fits = optional_bound Fits T B c p is.0 x fits

-- ---- objects: at most eight bytes of the footer for a field

narrow_few : (a b : Bool) → byte_len (cond a w8 (cond b w16 w32)) ≤ 4
narrow_few true b = omega arith
narrow_few false true = omega arith
narrow_few false false = omega arith

times_few : (n k : ℕ) → k ≤ 8 → n * k ≤ 8 * n
times_few zero k le = omega arith
times_few (suc n) k le = omega (arith, times_few n k le, le)

footer_few : (a b : Bool) (shape : Shape) (offsets : List ℕ) → length (footer_bytes (cond a w8 (cond b w16 w32)) shape offsets) ≤ 8 * length offsets
footer_few a b (Named ids) offsets =
    let w : Width = cond a w8 (cond b w16 w32) in
    omega (arith, named_len w (wide_by a b) (bits_by a b) ids offsets, times_few (length offsets) (4 + byte_len w) (omega (arith, narrow_few a b)))
footer_few a b (Compact schema) offsets =
    let w : Width = cond a w8 (cond b w16 w32) in
    omega (arith, bare_len w (wide_by a b) (bits_by a b) offsets, times_few (length offsets) (0 + byte_len w) (omega (arith, narrow_few a b)))

places_count : (at : ℕ) (pieces : List (List ℕ)) → length (places_from at pieces) ≡ length pieces
places_count at [] = refl
places_count at (piece ∷ pieces) = ap suc (places_count (at + length piece) pieces)

pieces_total : (pieces : List (List ℕ)) → length (flat_map (λ (b : List ℕ). b) pieces) + 8 * length pieces ≡ total (λ piece. length piece + 8) pieces
pieces_total [] = refl
pieces_total (piece ∷ pieces) = omega (arith, length-append piece (flat_map (λ (b : List ℕ). b) pieces), pieces_total pieces)

pieces_bound : (bits : ℕ) (type : ℤ) (shape : Shape) (pieces : List (List ℕ)) → length (object_bytes bits type shape pieces) ≤ 23 + total (λ piece. length piece + 8) pieces
pieces_bound bits type shape [] =
    let alone : length (object_bytes bits type shape []) ≡ 23 = header_len _ in
    omega (arith, alone)
pieces_bound bits type shape (piece ∷ pieces) =
    let fields : List ℕ = flat_map (λ (b : List ℕ). b) (piece ∷ pieces) in
    let offsets : List ℕ = places_from 24 (piece ∷ pieces) in
    let last : ℕ = last_of offsets in
    let footer : List ℕ = footer_bytes (narrowest last) shape offsets in
    let few : length footer ≤ 8 * length offsets = footer_few (ltb last 256) (ltb last 65536) shape offsets in
    let count : length offsets ≡ length (piece ∷ pieces) = places_count 24 (piece ∷ pieces) in
    let whole : length (object_bytes bits type shape (piece ∷ pieces)) ≡ 23 + (length fields + length footer) =
    length-append (header_bytes _) (fields ++ footer) ∙ ap (λ (n : ℕ). n + length (fields ++ footer)) (header_len _) ∙ ap (λ (n : ℕ). 23 + n) (length-append fields footer) in
    omega (arith, whole, few, count, pieces_total (piece ∷ pieces))

mapped_total : {X : Type 0} (B : X → List ℕ) (xs : List X) → total (λ piece. length piece + 8) (map B xs) ≡ total (λ x. length (B x) + 8) xs
mapped_total B [] = refl
mapped_total B (x ∷ xs) = omega (arith, mapped_total B xs)

entries_total : {X : Type 0} (m : X → ℕ) (ids : List ℤ) (xs : List X) → length ids ≡ length xs → total (λ e. m e.1) (entries ids xs) ≡ total m xs
entries_total m [] [] same = refl
entries_total m [] (x ∷ xs) same = absurd (omega (arith, same))
entries_total m (id ∷ ids) [] same = absurd (omega (arith, same))
entries_total m (id ∷ ids) (x ∷ xs) same = omega (arith, entries_total m ids xs (omega (arith, same)))

fields_all : {X : Type 0} (P : X → Type 0) (ids : List ℤ) (xs : List X) → AllByRecursion P xs → AllByRecursion (λ (e : ℤ × X). P e.1) (entries ids xs)
fields_all P [] xs all = tt
fields_all P (id ∷ ids) [] all = tt
fields_all P (id ∷ ids) (x ∷ xs) all = (all.0, fields_all P ids xs all.1)

entry_bound : {X : Type 0} (T : X → List ℕ) (m : ℕ) (e : ℤ × X) → m ≤ 24 * length (T e.1) → m + 8 ≤ 24 * length (entry_text T e) + 8
entry_bound T m e le = omega (arith, length-append (scalar_text i32 e.0) (equals ∷ T e.1), le)

shape_bound : {X : Type 0} (Fits : X → Type 0) (T B : X → List ℕ) → ((x : X) → Fits x → length (B x) ≤ 24 * length (T x)) → (shape : Shape) (xs : List X) → IsLimitedShape (length xs) shape → AllByRecursion Fits xs →
    total (λ x. length (B x) + 8) xs ≤ 24 * length (shape_text T shape xs)
shape_bound {X} Fits T B inner (Named ids) xs fit all =
    let m : ℤ × X → ℕ = λ e. length (B e.1) + 8 in
    let sum : total m (entries ids xs) ≡ total (λ x. length (B x) + 8) xs = entries_total (λ x. length (B x) + 8) ids xs fit.1 in
    omega (arith, sum, items_bound (entry_text T) m (λ e. Fits e.1) close_brace (λ e fits. entry_bound T (length (B e.1)) e (inner e.1 fits)) (entries ids xs) (fields_all Fits ids xs all))
shape_bound Fits T B inner (Compact schema) xs fit all =
    omega (arith, items_bound T (λ x. length (B x) + 8) Fits close_brace (λ x fits. omega (arith, inner x fits)) xs all, length-append (scalar_text i32 schema) (open_brace ∷ items_text close_brace T xs))

object_bound : {X : Type 0} (Fits : X → Type 0) (T B : X → List ℕ) → ((x : X) → Fits x → length (B x) ≤ 24 * length (T x)) → (o : Record X) → IsLimitedObject Fits o →
    length (object_bytes o.bits o.type_id o.shape (map B o.fields)) ≤ 24 * length (object_text T o) + 23
object_bound Fits T B inner o fits =
    omega (arith, pieces_bound o.bits o.type_id o.shape (map B o.fields), mapped_total B o.fields, shape_bound Fits T B inner o.shape o.fields fits.head.shape fits.fields, length-append (head_text o.bits o.type_id) (shape_text T o.shape o.fields))

-- ---- values

code_some : (c : Code) → leb 3 (length (word_of_code c)) ≡ true
code_some code.Byte = refl
code_some _ = refl

word_some : (r : Row) → 3 ≤ length (word r)
word_some (Kind c) = leb-true 3 (length (word_of_code c)) (code_some c)
word_some CompactObject = leb-true 3 (length (word CompactObject)) refl

row_bound : (levels : ℕ) → ((v : Value) → FitsTo levels v → length (Canon v) ≤ 24 * length (TextOf v)) → (c : Code) (x : Content Value (content c)) → FitsPart (FitsTo levels) (content c) x →
    suc (length (part_bytes Canon (content c) x)) ≤ 24 * length (row_text TextOf c x)
row_bound levels inner code.Object x fits =
    omega (arith, object_bound (FitsTo levels) TextOf Canon inner x fits, word_some (object_row x.shape), length-append (word (object_row x.shape)) (object_text TextOf x))
row_bound levels inner c x fits =
    omega (arith, part_bound (FitsTo levels) TextOf Canon inner (content c) (content_textual c tt) x fits, word_some (row_of Value c x), length-append (word (row_of Value c x)) (part_text TextOf (content c) x))

value_bound : (levels : ℕ) (v : Value) → FitsTo levels v → length (Canon v) ≤ 24 * length (TextOf v)
value_bound zero v fits = absurd fits
value_bound (suc levels) v fits =
    let r = parts (out-Value v) in
    omega (arith, ap length (Canon_out v), ap length (TextOf_out v), row_bound levels (value_bound levels) r.0 r.1 fits)

pub text_bound : (v : Value) → Fits v → length (Canon v) ≤ 24 * length (TextOf v)
unfolding Fits
text_bound v fits = value_bound 32 v fits

pub read_is_bounded : ReadIsBounded
read_is_bounded s rest v e =
    let t = read_is_text s rest v e in
    omega (arith, text_bound v t.fits, ap length t.whole, length-append (TextOf v) rest)
