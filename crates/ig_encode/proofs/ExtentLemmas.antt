-- How many bytes an object has, and an object that is written over a slice of its length.
use Rattle.std.proofs.Common.{◌≡◌, ℕ, ◌+◌, ◌-◌, ◌*◌, ◌^◌, ◌<◌, ◌≤◌, ℤ, pos, Option, Some, None, List, [], ◌∷◌, ◌++◌, length, map, take, drop, get_or, refl, sym, ap, ◌∙◌, arith, length-append, drop_of_length-le, SomeIff, IfSome}
use Rattle.std.specs.Int.{w32, byte_len}
use Rattle.std.specs.List.{flat_map}
use Rattle.std.proofs.lemmas.List.{append-nil, take_all, take-append-drop}
use Rattle.std.proofs.lemmas.Grind.{take_at_read, flat_map-append}
use Rattle.ig_base.specs.Numbers.{LE}
use Rattle.ig_base.specs.Headers.{header_bytes}
use Rattle.ig_value.specs.declared.object.Shape.{Shape}
use Rattle.ig_value.specs.declared.object.Shape.TheVariants.{Named, Compact}
use Rattle.ig_value.specs.declared.value.Value.{Value}
use Rattle.ig_value.specs.Canon.{Canon}
use Rattle.ig_value.specs.Objects.{named_footer, last_of, object_bytes}
use Rattle.ig_encode.specs.declared.length.Length.{Length}
use Rattle.ig_encode.specs.declared.measure.Digest.{Digest}
use Rattle.ig_encode.specs.declared.measure.Measure.{Measure}
use Rattle.ig_encode.specs.declared.span.Extent.{Extent}
use Rattle.ig_encode.specs.declared.span.OffsetWidth.{OffsetWidth}
use Rattle.ig_encode.specs.declared.span.OffsetWidth.TheVariants.{One, Two, Four}
use Rattle.ig_encode.specs.declared.window.Window.{Window}
use Rattle.ig_encode.specs.MeasureOutput.{measure_after, count_after, no_length, counting_start}
use Rattle.ig_encode.specs.WindowOutput.{window_after}
use Rattle.ig_encode.specs.Spans.{type_of, least_width, field_offsets, entry_size, canonical_header, extent_of, field_footer, least_footer}
use Rattle.ig_encode.proofs.OutputLemmas.{length-flat_wide, flat_map_more}
use Rattle.ig_encode.proofs.SpanLemmas.{offsets_more, offsets_len, last_more, object_split, header_len, only_counted}

-- ---- lengths

offset_size : (w : OffsetWidth) (n : ℕ) → length (LE (type_of w) (pos n)) ≡ byte_len (type_of w)
unfolding LE
offset_size One n = refl
offset_size Two n = refl
offset_size Four n = refl

id_size : (z : ℤ) → length (LE w32 z) ≡ 4
unfolding LE
id_size z = refl

entry_then : (w : OffsetWidth) (z : ℤ) (n : ℕ) (after : List ℕ) → length (LE w32 z ++ (LE (type_of w) (pos n) ++ after)) ≡ (4 + byte_len (type_of w)) + length after
entry_then w z n after =
    omega (arith, length-append (LE w32 z) (LE (type_of w) (pos n) ++ after), length-append (LE (type_of w) (pos n)) after, id_size z, offset_size w n)

named_size : (w : OffsetWidth) (ids : List ℤ) (ns : List ℕ) → length (named_footer (type_of w) ids ns) ≡ length ns * (4 + byte_len (type_of w))
named_size w [] [] = omega arith
named_size w (id ∷ ids) [] = omega arith
named_size w [] (n ∷ ns) = omega (arith, entry_then w (pos 0) n (named_footer (type_of w) [] ns), named_size w [] ns)
named_size w (id ∷ ids) (n ∷ ns) = omega (arith, entry_then w id n (named_footer (type_of w) ids ns), named_size w ids ns)

compact_size : (w : OffsetWidth) (schema : ℤ) → byte_len (type_of w) ≡ entry_size w (Compact schema)
compact_size w schema = omega arith

pub footer_size : (w : OffsetWidth) (shape : Shape) (fields : List Value) → length (field_footer (type_of w) shape fields) ≡ length fields * entry_size w shape
footer_size w (Named ids) fields = named_size w ids (field_offsets fields) ∙ ap (λ (n : ℕ). n * (4 + byte_len (type_of w))) (offsets_len fields)
footer_size w (Compact schema) fields =
    length-flat_wide (λ (n : ℕ). LE (type_of w) (pos n)) (byte_len (type_of w)) (offset_size w) (field_offsets fields) ∙ ap (λ (n : ℕ). n * byte_len (type_of w)) (offsets_len fields) ∙ ap (λ (n : ℕ). length fields * n) (compact_size w schema)

-- the bytes of an object's three parts
pub object_size : (bits : ℕ) (type : ℤ) (shape : Shape) (fields : List Value) → length (103 ∷ object_bytes bits type shape (map Canon fields)) ≡ 24 + (length (flat_map Canon fields) + length (least_footer shape fields))
object_size bits type shape fields =
    let H = header_bytes (canonical_header bits type shape (map Canon fields)) in
    let F = flat_map Canon fields in
    omega (arith, ap length (object_split bits type shape fields), length-append H (F ++ least_footer shape fields), length-append F (least_footer shape fields), header_len (canonical_header bits type shape (map Canon fields)))

-- the footer's length, by the extent of the fields
pub footer_counted : (shape : Shape) (fields : List Value) (extent : Extent) (entry : ℕ) → extent ≡ extent_of fields → entry ≡ entry_size extent.last.width shape → length fields * entry ≡ length (least_footer shape fields)
footer_counted shape fields extent entry is size =
    let width : extent.last.width ≡ least_width (last_of (field_offsets fields)) = ap (λ (e : Extent). e.last.width) is in
    ap (λ (n : ℕ). length fields * n) size ∙ ap (λ (w : OffsetWidth). length fields * entry_size w shape) width ∙ sym (footer_size (least_width (last_of (field_offsets fields))) shape fields)

-- ---- counting

-- a length whose high number is 0
pub length_low : (n : ℕ) (l : Length) → l ≡ count_after no_length n → l.high ≡ 0 → l.low ≡ n
length_low n l is none =
    let low : l.low ≡ (count_after no_length n).low = ap (λ (k : Length). k.low) is in
    let high : l.high ≡ (count_after no_length n).high = ap (λ (k : Length). k.high) is in
    omega arith

pub some_is : (found : Option ℕ) (fits : Type 0) (n m : ℕ) → SomeIff found fits n → n ≡ m → IfSome found (λ k. k ≡ m)
some_is None fits n m is e = tt
some_is (Some k) fits n m is e = is.1 ∙ e

same_length : (n m : Length) → n.low ≡ m.low → n.high ≡ m.high → n ≡ m
same_length n m low high = ap (λ (k : ℕ). record { low = k; high = n.high }) low ∙ ap (λ (k : ℕ). record { low = m.low; high = k }) high

pub count_two : (n : Length) (a b : ℕ) → count_after (count_after n a) b ≡ count_after n (a + b)
count_two n a b = same_length (count_after (count_after n a) b) (count_after n (a + b)) (omega arith) (omega arith)

-- an object whose header, fields and footer were counted
pub counted_object : (m : Measure) (a b c : Length) (bits : ℕ) (type : ℤ) (shape : Shape) (fields : List Value) (footer : ℕ) → m.digest ≡ None → a ≡ count_after m.length 24 → b ≡ count_after a (length (flat_map Canon fields)) → c ≡ count_after b footer →
    footer ≡ length (least_footer shape fields) → record { length = c; digest = m.digest } ≡ measure_after m (103 ∷ object_bytes bits type shape (map Canon fields))
counted_object m a b c bits type shape fields footer none head body tail is =
    let F = length (flat_map Canon fields) in
    let all : c ≡ count_after m.length (24 + (F + footer)) =
    tail ∙ ap (λ n. count_after n footer) (body ∙ ap (λ n. count_after n F) head ∙ count_two m.length 24 F) ∙ count_two m.length (24 + F) footer
    ∙ ap (count_after m.length) (let e : (24 + F) + footer ≡ 24 + (F + footer) = omega arith in e) in
    let size : 24 + (F + footer) ≡ length (103 ∷ object_bytes bits type shape (map Canon fields)) = omega (arith, is, object_size bits type shape fields) in
    only_counted m (record { length = c; digest = m.digest }) (103 ∷ object_bytes bits type shape (map Canon fields)) none (all ∙ ap (count_after m.length) size) refl

-- ---- the last offset

-- the last offset of the first fields and one more is the end of the first
pub last_next : (fields : List Value) (i : ℕ) (x : Value) → i < length fields → last_of (field_offsets (take (i + 1) fields)) ≡ 24 + length (flat_map Canon (take i fields))
last_next fields i x lt =
    ap (λ (xs : List Value). last_of (field_offsets xs)) (take_at_read fields i x lt).1 ∙ ap last_of (offsets_more (take i fields) (get_or fields i x))
    ∙ last_more (field_offsets (take i fields)) (24 + length (flat_map Canon (take i fields)))

-- the first items have no more bytes than all
pub front_length : {A : Type 0} (h : A → List ℕ) (xs : List A) (i : ℕ) → length (flat_map h (take i xs)) ≤ length (flat_map h xs)
front_length h xs i =
    let all : flat_map h xs ≡ flat_map h (take i xs) ++ flat_map h (drop i xs) = ap (flat_map h) (sym (take-append-drop i xs)) ∙ flat_map-append h (take i xs) (drop i xs) in
    omega (arith, ap length all, length-append (flat_map h (take i xs)) (flat_map h (drop i xs)))

-- ---- a slice of the length of what is written

abbrev pub fresh_window : Window
fresh_window = record { skip = 0; filled = 0 }

pub filled_whole : (into bytes : List ℕ) → length into ≡ length bytes → (window_after fresh_window into bytes).1 ≡ bytes
filled_whole into bytes same =
    let all : take (length into - 0) bytes ≡ bytes = take_all (length into - 0) bytes (omega (arith, same)) in
    let none : drop (0 + length bytes) into ≡ [] = drop_of_length-le into (omega (arith, same)) in
    ap (λ (l : List ℕ). l ++ drop (0 + length l) into) all ∙ ap (λ (l : List ℕ). bytes ++ l) none ∙ append-nil bytes

-- what is filled is what was put, as far as there is room
pub filled_length : (into bytes : List ℕ) → length bytes ≤ length into → (window_after fresh_window into bytes).0.filled ≡ length bytes
filled_length into bytes le = omega (arith, ap length (take_all (length into - 0) bytes (omega arith)))

-- the header, the fields and the footer, each written over its part of a slice
pub object_written : (bits : ℕ) (type : ℤ) (shape : Shape) (fields : List Value) (head room footer : List ℕ) → head ≡ 103 ∷ header_bytes (canonical_header bits type shape (map Canon fields)) → room ≡ flat_map Canon fields → footer ≡ least_footer shape fields →
    head ++ (room ++ footer) ≡ 103 ∷ object_bytes bits type shape (map Canon fields)
object_written bits type shape fields head room footer h r f = rw (h, r, f) (ap (λ (l : List ℕ). 103 ∷ l) (sym (object_split bits type shape fields)))

pub from_start : (w : Window) → w.skip ≡ 0 → w.filled ≡ 0 → w ≡ fresh_window
from_start w skip filled = ap (λ (n : ℕ). record { skip = n; filled = w.filled }) skip ∙ ap (λ (n : ℕ). record { skip = 0; filled = n }) filled

-- the last field alone, and the fields before it
pub last_alone : (fields : List Value) (i : ℕ) (x : Value) → i + 1 ≡ length fields → x ≡ get_or fields i x → (last_of (field_offsets fields) ≡ 24 + length (flat_map Canon (take i fields))) × (length (flat_map Canon fields) ≡ length (flat_map Canon (take i fields)) + length (Canon x))
last_alone fields i x one item =
    let all : take (i + 1) fields ≡ fields = take_all (i + 1) fields (omega (arith, one)) in
    let lt : i < length fields = omega (arith, one) in
    let bytes : flat_map Canon fields ≡ flat_map Canon (take i fields) ++ Canon x = ap (flat_map Canon) (sym all) ∙ flat_map_more Canon fields i x lt ∙ ap (λ (y : Value). flat_map Canon (take i fields) ++ Canon y) (sym item) in (
      ap (λ (l : List Value). last_of (field_offsets l)) (sym all) ∙ last_next fields i x lt,
      ap length bytes ∙ length-append (flat_map Canon (take i fields)) (Canon x),
    )

-- the low number of a length that is less than 2^64
pub low_of : (l : Length) (n : ℕ) → l ≡ count_after no_length n → n < 2 ^ 64 → l.low ≡ n
low_of l n is lt = ap (λ (k : Length). k.low) is ∙ (let e : (count_after no_length n).low ≡ n = omega (arith, lt) in e)

abbrev measure_of : Length → Option Digest → Measure
measure_of l d = record { length = l; digest = d }

same_measure : (l k : Length) (d e : Option Digest) → l ≡ k → d ≡ e → measure_of l d ≡ measure_of k e
same_measure l k d e p q = rw (p, q) refl

abbrev length_of : ℕ → ℕ → Length
length_of low high = record { low = low; high = high }

-- a measure that begins with bytes of this length
pub counted_from : (m : Measure) (low : ℕ) (bytes : List ℕ) → m ≡ counting_start → low ≡ length bytes → low < 2 ^ 64 → record { length = record { low = low; high = m.length.high }; digest = m.digest } ≡ measure_after counting_start bytes
counted_from m low bytes is size lt =
    let high : m.length.high ≡ 0 = ap (λ (n : Measure). n.length.high) is in
    let digest : m.digest ≡ None = ap (λ (n : Measure). n.digest) is in
    let now = length_of low m.length.high in
    let after = count_after no_length (length bytes) in
    same_measure now after m.digest None (same_length now after (omega (arith, size, lt)) (omega (arith, size, lt, high))) digest
