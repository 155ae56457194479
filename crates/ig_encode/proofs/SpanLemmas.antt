-- The parts of an object's canonical form.
use Rattle.std.proofs.Common.{◌≡◌, ℕ, suc, ◌+◌, ◌/◌, ◌%◌, ◌^◌, ◌<◌, ℤ, pos, Bool, true, false, Some, List, [], ◌∷◌, ◌++◌, length, map, take, drop, get_or, ltb, refl, sym, ap, ◌∙◌, arith, append_assoc, length-append, length-take-le, None, Option}
use Rattle.std.specs.Int.{Width, w8, w16, w32, cast_signed, cast_unsigned}
use Rattle.std.specs.List.{flat_map}
use Rattle.std.proofs.lemmas.Int.{of_z-to_z}
use Rattle.std.proofs.lemmas.List.{append-nil, take-append-drop}
use Rattle.std.proofs.lemmas.Grind.{take_at_read, flat_map-append}
use Rattle.ig_base.specs.Numbers.{LE}
use Rattle.ig_base.specs.Hashes.{BytesHash, hash_after}
use Rattle.ig_base.specs.Headers.{header_bytes}
use Rattle.ig_base.specs.declared.header.Header.{Header}
use Rattle.ig_value.specs.declared.object.Shape.{Shape}
use Rattle.ig_value.specs.declared.object.Shape.TheVariants.{Named, Compact}
use Rattle.ig_value.specs.declared.value.Value.{Value}
use Rattle.ig_value.specs.Canon.{Canon}
use Rattle.ig_value.specs.Objects.{named_footer, footer_bytes, places_from, last_of, narrowest, width_flag, compact_flag, canonical_schema, object_bytes}
use Rattle.ig_encode.specs.declared.measure.Digest.{Digest}
use Rattle.ig_encode.specs.declared.measure.Measure.{Measure}
use Rattle.ig_encode.specs.declared.span.OffsetWidth.{OffsetWidth}
use Rattle.ig_encode.specs.declared.span.OffsetWidth.TheVariants.{One, Two, Four}
use Rattle.ig_encode.specs.declared.span.Offset.{Offset}
use Rattle.ig_encode.specs.declared.span.Span.{Span}
use Rattle.ig_encode.proofs.OutputLemmas.{Takes, TakesLonger, two}
use Rattle.ig_encode.specs.MeasureOutput.{measure_after, measured_after, count_after, no_length, hashing_start, no_digest, hashed_after, started, fresh_of, measured_empty, measured_longer}
use Rattle.ig_encode.specs.Spans.{type_of, least_width, offset_of, key_bytes, entry_bytes, field_offsets, canonical_header, field_footer, span_of, footer_of, entry_noted, flag_of, least_footer}

-- ---- numbers modulo 2^32

same_1 : (a a' : ℕ) → a ≡ a' → a ∷ [] ≡ a' ∷ []
same_1 a a' p = ap (λ (n : ℕ). n ∷ []) p

same_2 : (a a' b b' : ℕ) → a ≡ a' → b ≡ b' → a ∷ b ∷ [] ≡ a' ∷ b' ∷ []
same_2 a a' b b' p q = ap (λ (n : ℕ). n ∷ b ∷ []) p ∙ ap (λ (n : ℕ). a' ∷ n ∷ []) q

same_4 : (a a' b b' c c' d d' : ℕ) → a ≡ a' → b ≡ b' → c ≡ c' → d ≡ d' → a ∷ b ∷ c ∷ d ∷ [] ≡ a' ∷ b' ∷ c' ∷ d' ∷ []
same_4 a a' b b' c c' d d' p q r s =
    ap (λ (n : ℕ). n ∷ b ∷ c ∷ d ∷ []) p ∙ ap (λ (n : ℕ). a' ∷ n ∷ c ∷ d ∷ []) q ∙ ap (λ (n : ℕ). a' ∷ b' ∷ n ∷ d ∷ []) r ∙ ap (λ (n : ℕ). a' ∷ b' ∷ c' ∷ n ∷ []) s

low_8 : (n : ℕ) → LE w8 (pos (n % 2 ^ 32)) ≡ LE w8 (pos n)
unfolding LE
low_8 n = same_1 (n % 2 ^ 32 % 256) (n % 256) (omega arith)

low_16 : (n : ℕ) → LE w16 (pos (n % 2 ^ 32)) ≡ LE w16 (pos n)
unfolding LE
low_16 n = same_2 (n % 2 ^ 32 % 256) (n % 256) (n % 2 ^ 32 / 256 % 256) (n / 256 % 256) (omega arith) (omega arith)

low_32 : (n : ℕ) → LE w32 (pos (n % 2 ^ 32)) ≡ LE w32 (pos n)
unfolding LE
low_32 n =
    same_4 (n % 2 ^ 32 % 256) (n % 256) (n % 2 ^ 32 / 256 % 256) (n / 256 % 256) (n % 2 ^ 32 / 65536 % 256) (n / 65536 % 256) (n % 2 ^ 32 / 16777216 % 256) (n / 16777216 % 256)
    (omega arith) (omega arith) (omega arith) (omega arith)

flags_low : (n : ℕ) → LE w16 (pos (n % 2 ^ 16)) ≡ LE w16 (pos n)
unfolding LE
flags_low n = same_2 (n % 2 ^ 16 % 256) (n % 256) (n % 2 ^ 16 / 256 % 256) (n / 256 % 256) (omega arith) (omega arith)

-- an offset is written by its lowest 32 bits
pub low_offset : (w : OffsetWidth) (n : ℕ) → LE (type_of w) (pos (n % 2 ^ 32)) ≡ LE (type_of w) (pos n)
low_offset One n = low_8 n
low_offset Two n = low_16 n
low_offset Four n = low_32 n

pub low_entry : (w : OffsetWidth) (shape : Shape) (i n : ℕ) → entry_bytes (type_of w) shape i (n % 2 ^ 32) ≡ entry_bytes (type_of w) shape i n
low_entry w shape i n = ap (λ (l : List ℕ). key_bytes shape i ++ l) (low_offset w n)

pub same_low : (m n : ℕ) → m % 2 ^ 32 ≡ n % 2 ^ 32 → LE w32 (pos m) ≡ LE w32 (pos n)
same_low m n e = sym (low_32 m) ∙ ap (λ k. LE w32 (pos k)) e ∙ low_32 n

-- a signed number of the lowest 32 bits
pub signed_low : (z : ℤ) (m n : ℕ) → z ≡ cast_signed w32 (m % 2 ^ 32) → m % 2 ^ 32 ≡ n % 2 ^ 32 → LE w32 z ≡ LE w32 (pos n)
unfolding LE
signed_low z m n is e =
    ap (LE w32) is ∙ ap (λ k. LE w32 (pos k)) (of_z-to_z w32 (m % 2 ^ 32) (omega arith)) ∙ low_32 m ∙ same_low m n e

-- a number that was written and read
pub signed_again : (z : ℤ) → cast_unsigned w32 z < 2 ^ 32 → LE w32 (cast_signed w32 (cast_unsigned w32 z)) ≡ LE w32 z
unfolding LE
signed_again z lt = ap (λ k. LE w32 (pos k)) (of_z-to_z w32 (cast_unsigned w32 z) lt)

-- ---- offsets

width_cases : (n : ℕ) (narrow middle : Bool) → ltb n 256 ≡ narrow → ltb n 65536 ≡ middle → (type_of (least_width n) ≡ narrowest n) × (flag_of (least_width n) ≡ width_flag n)
width_cases n true b p q = rw p (refl, refl)
width_cases n false true p q = rw (p, q) (refl, refl)
width_cases n false false p q = rw (p, q) (refl, refl)

pub least_type : (n : ℕ) → type_of (least_width n) ≡ narrowest n
least_type n = (width_cases n (ltb n 256) (ltb n 65536) refl refl).0

pub least_flag : (n : ℕ) → flag_of (least_width n) ≡ width_flag n
least_flag n = (width_cases n (ltb n 256) (ltb n 65536) refl refl).1

-- ---- one more field

pub flat_pieces : (fields : List Value) → flat_map (λ (b : List ℕ). b) (map Canon fields) ≡ flat_map Canon fields
flat_pieces [] = refl
flat_pieces (x ∷ xs) = ap (λ (l : List ℕ). Canon x ++ l) (flat_pieces xs)

places_more : (place : ℕ) (pieces : List (List ℕ)) (piece : List ℕ) → places_from place (pieces ++ piece ∷ []) ≡ places_from place pieces ++ (place + length (flat_map (λ (b : List ℕ). b) pieces)) ∷ []
places_more place [] piece = ap (λ (n : ℕ). n ∷ []) (let e : place ≡ place + 0 = omega arith in e)
places_more place (p ∷ pieces) piece =
    ap (λ (l : List ℕ). place ∷ l) (places_more (place + length p) pieces piece
    ∙ ap (λ (n : ℕ). places_from (place + length p) pieces ++ n ∷ []) (let e : (place + length p) + length (flat_map (λ (b : List ℕ). b) pieces) ≡ place + length (p ++ flat_map (λ (b : List ℕ). b) pieces) = omega (arith, length-append p (flat_map (λ (b : List ℕ). b) pieces)) in e))

pub last_more : (ns : List ℕ) (n : ℕ) → last_of (ns ++ n ∷ []) ≡ n
last_more [] n = refl
last_more (m ∷ []) n = refl
last_more (m ∷ k ∷ ns) n = last_more (k ∷ ns) n

places_len : (place : ℕ) (pieces : List (List ℕ)) → length (places_from place pieces) ≡ length pieces
places_len place [] = refl
places_len place (p ∷ pieces) = ap suc (places_len (place + length p) pieces)

map_more : (xs : List Value) (x : Value) → map Canon (xs ++ x ∷ []) ≡ map Canon xs ++ Canon x ∷ []
map_more [] x = refl
map_more (y ∷ xs) x = ap (λ (l : List (List ℕ)). Canon y ∷ l) (map_more xs x)

map_len : (xs : List Value) → length (map Canon xs) ≡ length xs
map_len [] = refl
map_len (x ∷ xs) = ap suc (map_len xs)

named_more : (w : Width) (ids : List ℤ) (ns : List ℕ) (n : ℕ) → named_footer w ids (ns ++ n ∷ []) ≡ named_footer w ids ns ++ entry_bytes w (Named ids) (length ns) n
named_more w [] [] n = ap (λ (l : List ℕ). LE w32 (pos 0) ++ l) (append-nil (LE w (pos n)))
named_more w (id ∷ ids) [] n = ap (λ (l : List ℕ). LE w32 id ++ l) (append-nil (LE w (pos n)))
named_more w [] (m ∷ ns) n =
    let after = named_footer w [] ns in
    let entry = entry_bytes w (Named []) (length ns) n in
    ap (λ (l : List ℕ). LE w32 (pos 0) ++ (LE w (pos m) ++ l)) (named_more w [] ns n)
    ∙ ap (λ (l : List ℕ). LE w32 (pos 0) ++ l) (sym (append_assoc (LE w (pos m)) after entry)) ∙ sym (append_assoc (LE w32 (pos 0)) (LE w (pos m) ++ after) entry)
named_more w (id ∷ ids) (m ∷ ns) n =
    let after = named_footer w ids ns in
    let entry = entry_bytes w (Named ids) (length ns) n in
    ap (λ (l : List ℕ). LE w32 id ++ (LE w (pos m) ++ l)) (named_more w ids ns n)
    ∙ ap (λ (l : List ℕ). LE w32 id ++ l) (sym (append_assoc (LE w (pos m)) after entry)) ∙ sym (append_assoc (LE w32 id) (LE w (pos m) ++ after) entry)

pub footer_more : (w : Width) (shape : Shape) (ns : List ℕ) (n : ℕ) → footer_bytes w shape (ns ++ n ∷ []) ≡ footer_bytes w shape ns ++ entry_bytes w shape (length ns) n
footer_more w (Named ids) ns n = named_more w ids ns n
footer_more w (Compact schema) ns n =
    flat_map-append (λ (m : ℕ). LE w (pos m)) ns (n ∷ []) ∙ ap (λ (l : List ℕ). flat_map (λ (m : ℕ). LE w (pos m)) ns ++ l) (append-nil (LE w (pos n)))

-- the offset of the field after these
abbrev pub next_offset : List Value → ℕ
next_offset fields = 24 + length (flat_map Canon fields)

pub offsets_more : (xs : List Value) (x : Value) → field_offsets (xs ++ x ∷ []) ≡ field_offsets xs ++ next_offset xs ∷ []
offsets_more xs x =
    ap (places_from 24) (map_more xs x) ∙ places_more 24 (map Canon xs) (Canon x) ∙ ap (λ (l : List ℕ). places_from 24 (map Canon xs) ++ (24 + length l) ∷ []) (flat_pieces xs)

pub offsets_len : (xs : List Value) → length (field_offsets xs) ≡ length xs
offsets_len xs = places_len 24 (map Canon xs) ∙ map_len xs

pub field_footer_more : (w : Width) (shape : Shape) (xs : List Value) (x : Value) → field_footer w shape (xs ++ x ∷ []) ≡ field_footer w shape xs ++ entry_bytes w shape (length xs) (next_offset xs)
field_footer_more w shape xs x =
    ap (footer_bytes w shape) (offsets_more xs x) ∙ footer_more w shape (field_offsets xs) (next_offset xs) ∙ ap (λ (n : ℕ). field_footer w shape xs ++ entry_bytes w shape n (next_offset xs)) (offsets_len xs)

pub measure_two : (m : Measure) (a b : List ℕ) → measure_after m (a ++ b) ≡ measure_after (measure_after m a) b
measure_two m a b = ap (λ (t : Measure × List ℕ). t.0) (measured_longer m [] a b)

abbrev span_with : Measure → ℕ → Measure → Measure → Measure → Span
span_with f n a b c = record { fields = f; last = offset_of n; narrow = a; middle = b; wide = c }

same_span : (f f' : Measure) (n n' : ℕ) (a a' b b' c c' : Measure) → f ≡ f' → n ≡ n' → a ≡ a' → b ≡ b' → c ≡ c' → span_with f n a b c ≡ span_with f' n' a' b' c'
same_span f f' n n' a a' b b' c c' p q r s t = rw (p, q, r, s, t) refl

-- the span of the fields and one more
span_step : (start : Measure) (shape : Shape) (xs : List Value) (x : Value) →
    record (entry_noted (span_of start shape xs) shape (length xs) (next_offset xs)) { fields = measure_after (span_of start shape xs).fields (Canon x) } ≡ span_of start shape (xs ++ x ∷ [])
span_step start shape xs x =
    let all : flat_map Canon (xs ++ x ∷ []) ≡ flat_map Canon xs ++ Canon x = flat_map-append Canon xs (x ∷ []) ∙ ap (λ (l : List ℕ). flat_map Canon xs ++ l) (append-nil (Canon x)) in
    let last : last_of (field_offsets (xs ++ x ∷ [])) ≡ next_offset xs = ap last_of (offsets_more xs x) ∙ last_more (field_offsets xs) (next_offset xs) in
    same_span (measure_after (measure_after start (flat_map Canon xs)) (Canon x)) (measure_after start (flat_map Canon (xs ++ x ∷ []))) (next_offset xs) (last_of (field_offsets (xs ++ x ∷ [])))
    (measure_after (measure_after start (field_footer w8 shape xs)) (entry_bytes w8 shape (length xs) (next_offset xs))) (measure_after start (field_footer w8 shape (xs ++ x ∷ [])))
    (measure_after (measure_after start (field_footer w16 shape xs)) (entry_bytes w16 shape (length xs) (next_offset xs))) (measure_after start (field_footer w16 shape (xs ++ x ∷ [])))
    (measure_after (measure_after start (field_footer w32 shape xs)) (entry_bytes w32 shape (length xs) (next_offset xs))) (measure_after start (field_footer w32 shape (xs ++ x ∷ [])))
    (sym (ap (measure_after start) all ∙ measure_two start (flat_map Canon xs) (Canon x))) (sym last)
    (sym (ap (measure_after start) (field_footer_more w8 shape xs x) ∙ measure_two start (field_footer w8 shape xs) (entry_bytes w8 shape (length xs) (next_offset xs))))
    (sym (ap (measure_after start) (field_footer_more w16 shape xs x) ∙ measure_two start (field_footer w16 shape xs) (entry_bytes w16 shape (length xs) (next_offset xs))))
    (sym (ap (measure_after start) (field_footer_more w32 shape xs x) ∙ measure_two start (field_footer w32 shape xs) (entry_bytes w32 shape (length xs) (next_offset xs))))

-- ---- the whole object

-- the canonical bytes of an object: its header, its fields and its footer
pub object_split : (bits : ℕ) (type : ℤ) (shape : Shape) (fields : List Value) →
    object_bytes bits type shape (map Canon fields) ≡
    header_bytes (canonical_header bits type shape (map Canon fields)) ++ (flat_map Canon fields ++ field_footer (type_of (least_width (last_of (field_offsets fields)))) shape fields)
object_split bits type (Named ids) [] = sym (append-nil (header_bytes (canonical_header bits type (Named ids) [])))
object_split bits type (Compact schema) [] = sym (append-nil (header_bytes (canonical_header bits type (Compact schema) [])))
object_split bits type shape (x ∷ xs) =
    let head = header_bytes (canonical_header bits type shape (map Canon (x ∷ xs))) in
    let width = least_type (last_of (field_offsets (x ∷ xs))) in
    ap (λ (l : List ℕ). head ++ (l ++ field_footer (narrowest (last_of (field_offsets (x ∷ xs)))) shape (x ∷ xs))) (flat_pieces (x ∷ xs))
    ∙ ap (λ (w : Width). head ++ (flat_map Canon (x ∷ xs) ++ field_footer w shape (x ∷ xs))) (sym width)

pub footer_is : (start : Measure) (shape : Shape) (fields : List Value) (w : OffsetWidth) → footer_of (span_of start shape fields) w ≡ measure_after start (field_footer (type_of w) shape fields)
footer_is start shape fields One = refl
footer_is start shape fields Two = refl
footer_is start shape fields Four = refl

pub same_header : (h k : Header) → h.version ≡ k.version → LE w16 (pos h.flags) ≡ LE w16 (pos k.flags) → LE w32 h.type_id ≡ LE w32 k.type_id → LE w32 h.hash ≡ LE w32 k.hash → LE w32 h.length ≡ LE w32 k.length → LE w32 h.schema ≡ LE w32 k.schema → LE w32 h.schema_at ≡ LE w32 k.schema_at →
    header_bytes h ≡ header_bytes k
unfolding header_bytes
same_header h k a b c d e f g = rw (a, b, c, d, e, f, g) refl

low_len : (n : ℕ) → (count_after no_length n).low ≡ n % 2 ^ 64
low_len n = omega arith

-- the header that is made of the fields' measure and the footer's length
pub header_right : (bits : ℕ) (type : ℤ) (shape : Shape) (fields : List Value) (measure : Measure) (w : OffsetWidth) (h : Header) (m n footer : ℕ) → measure ≡ measure_after hashing_start (flat_map Canon fields) → w ≡ least_width (last_of (field_offsets fields)) → 0 < length fields →
    h.version ≡ 1 → h.flags ≡ (bits + 2 + flag_of w + compact_flag shape) % 2 ^ 16 → LE w32 h.type_id ≡ LE w32 type → LE w32 h.hash ≡ LE w32 (cast_signed w32 (BytesHash (flat_map Canon fields))) →
    m ≡ (measure.length.low + 24) % 2 ^ 64 → footer ≡ length (field_footer (type_of w) shape fields) % 2 ^ 64 → n ≡ (m + footer) % 2 ^ 64 →
    LE w32 h.length ≡ LE w32 (pos n) → LE w32 h.schema ≡ LE w32 (canonical_schema shape) → LE w32 h.schema_at ≡ LE w32 (pos m) →
    header_bytes h ≡ header_bytes (canonical_header bits type shape (map Canon fields))
header_right bits type shape [] measure w h m n footer is wide some v f t hs mm ff nn l s at = absurd (omega (arith, some))
header_right bits type shape (x ∷ xs) measure w h m n footer is wide some v f t hs mm ff nn l s at =
    let fields = x ∷ xs in
    let last = last_of (field_offsets fields) in
    let F = flat_map Canon fields in
    let T = field_footer (narrowest last) shape fields in
    let k = canonical_header bits type shape (map Canon fields) in
    let flags : LE w16 (pos h.flags) ≡ LE w16 (pos k.flags) =
    ap (λ n. LE w16 (pos n)) f ∙ flags_low (bits + 2 + flag_of w + compact_flag shape)
    ∙ ap (λ (v : OffsetWidth). LE w16 (pos (bits + 2 + flag_of v + compact_flag shape))) wide ∙ ap (λ n. LE w16 (pos (bits + 2 + n + compact_flag shape))) (least_flag last) in
    let fields-len : measure.length.low ≡ length F % 2 ^ 64 = ap (λ (z : Measure). z.length.low) is ∙ low_len (length F) in
    let type-is : field_footer (type_of w) shape fields ≡ T = ap (λ (v : OffsetWidth). field_footer (type_of v) shape fields) wide ∙ ap (λ (v : Width). field_footer v shape fields) (least_type last) in
    let footer-len : footer ≡ length T % 2 ^ 64 = ff ∙ ap (λ (b : List ℕ). length b % 2 ^ 64) type-is in
    let flat = flat_pieces fields in
    let at-is : LE w32 h.schema_at ≡ LE w32 k.schema_at = at ∙ same_low m (24 + length F) (omega (arith, mm, fields-len)) ∙ ap (λ (b : List ℕ). LE w32 (pos (24 + length b))) (sym flat) in
    let len-is : LE w32 h.length ≡ LE w32 k.length =
    l ∙ same_low n (24 + length F + length T) (omega (arith, mm, nn, fields-len, footer-len)) ∙ ap (λ (b : List ℕ). LE w32 (pos (24 + length b + length T))) (sym flat) in
    let hash-is : LE w32 h.hash ≡ LE w32 k.hash = hs ∙ ap (λ (b : List ℕ). LE w32 (cast_signed w32 (BytesHash b))) (sym flat) in
    same_header h k v flags t hash-is len-is s at-is

-- the span after one more field of a loop
pub span_more : (start : Measure) (shape : Shape) (fields : List Value) (i : ℕ) (x : Value) (now noted : Span) (next : Measure) → i < length fields → x ≡ get_or fields i x → start.length ≡ no_length →
    now ≡ span_of start shape (take i fields) →
    ((n : ℕ) → now.fields.length ≡ count_after no_length n → noted ≡ entry_noted now shape i (24 + n)) →
    next ≡ measure_after noted.fields (Canon x) → record noted { fields = next } ≡ span_of start shape (take (i + 1) fields)
span_more start shape fields i x now noted next lt item zero-is is step made =
    let xs = take i fields in
    let read = take_at_read fields i x lt in
    let len : length xs ≡ i = length-take-le i fields (omega (arith, lt)) in
    let more : take (i + 1) fields ≡ xs ++ x ∷ [] = read.1 ∙ ap (λ (y : Value). xs ++ y ∷ []) (sym item) in
    let n = length (flat_map Canon xs) in
    let counted : now.fields.length ≡ count_after no_length n = ap (λ (z : Span). z.fields.length) is ∙ ap (λ z. count_after z n) zero-is in
    let noted-is : noted ≡ entry_noted (span_of start shape xs) shape (length xs) (next_offset xs) = step n counted ∙ ap (λ (z : Span). entry_noted z shape i (24 + n)) is ∙ ap (λ (k : ℕ). entry_noted (span_of start shape xs) shape k (24 + n)) (sym len) in
    let next-is : next ≡ measure_after (span_of start shape xs).fields (Canon x) = made ∙ ap (λ (z : Span). measure_after z.fields (Canon x)) noted-is in
    ap (λ (z : Span). record z { fields = next }) noted-is ∙ ap (λ (m : Measure). record (entry_noted (span_of start shape xs) shape (length xs) (next_offset xs)) { fields = m }) next-is
    ∙ span_step start shape xs x ∙ ap (span_of start shape) (sym more)

-- the span after an entry, by the entries that were put
pub noted_right : (span : Span) (shape : Shape) (i n : ℕ) (o : Offset) (a b c : Measure) (x y z u v w : List ℕ) → o ≡ offset_of n → (a, x) ≡ measured_after span.narrow u (entry_bytes w8 shape i o.low) → (b, y) ≡ measured_after span.middle v (entry_bytes w16 shape i o.low) →
    (c, z) ≡ measured_after span.wide w (entry_bytes w32 shape i o.low) → record { fields = span.fields; last = o; narrow = a; middle = b; wide = c } ≡ entry_noted span shape i n
noted_right span shape i n o a b c x y z u v w is p q r =
    let low : o.low ≡ n % 2 ^ 32 = ap (λ (t : Offset). t.low) is in
    let narrow : a ≡ measure_after span.narrow (entry_bytes w8 shape i n) =
    ap (λ (t : Measure × List ℕ). t.0) p ∙ ap (λ k. measure_after span.narrow (entry_bytes w8 shape i k)) low ∙ ap (measure_after span.narrow) (low_entry One shape i n) in
    let middle : b ≡ measure_after span.middle (entry_bytes w16 shape i n) =
    ap (λ (t : Measure × List ℕ). t.0) q ∙ ap (λ k. measure_after span.middle (entry_bytes w16 shape i k)) low ∙ ap (measure_after span.middle) (low_entry Two shape i n) in
    let wide : c ≡ measure_after span.wide (entry_bytes w32 shape i n) =
    ap (λ (t : Measure × List ℕ). t.0) r ∙ ap (λ k. measure_after span.wide (entry_bytes w32 shape i k)) low ∙ ap (measure_after span.wide) (low_entry Four shape i n) in
    rw (is, narrow, middle, wide) refl

pub header_len : (h : Header) → length (header_bytes h) ≡ 23
unfolding LE header_bytes
header_len h = refl

counted_digest : (d : Option Digest) (bytes : List ℕ) → d ≡ None → d ≡ hashed_after d bytes
counted_digest None bytes e = refl
counted_digest (Some d) bytes e = absurd cc

-- a measure without a digest only counts
pub only_counted : (m : Measure) (n : Measure) (bytes : List ℕ) → m.digest ≡ None → n.length ≡ count_after m.length (length bytes) → n.digest ≡ m.digest → n ≡ measure_after m bytes
only_counted m n bytes none len same =
    let d : n.digest ≡ hashed_after m.digest bytes = same ∙ counted_digest m.digest bytes none in
    let both : record { length = n.length; digest = n.digest } ≡ measure_after m bytes = rw (len, d) refl in
    both

digest_fresh : (d : Option Digest) (bytes : List ℕ) → started (hashed_after d bytes) ≡ started d
digest_fresh None bytes = refl
digest_fresh (Some d) bytes = refl

fresh_again : (m : Measure) (bytes : List ℕ) → fresh_of m ≡ fresh_of (measure_after m bytes)
fresh_again m bytes = ap (λ (d : Option Digest). record { length = no_length; digest = d }) (sym (digest_fresh m.digest bytes))

fresh_some : (d : Option Digest) (e : Digest) → d ≡ Some e → started d ≡ Some no_digest
fresh_some None e is = absurd cc
fresh_some (Some d) e is = refl

-- a measure with a digest begins as one that hashes
pub fresh_hashing : (m : Measure) (e : Digest) → m.digest ≡ Some e → fresh_of m ≡ hashing_start
fresh_hashing m e is = ap (λ (d : Option Digest). record { length = no_length; digest = d }) (fresh_some m.digest e is)

-- an object whose header, fields and footer were measured
pub measured_object : (out a b c : Measure) (span : Span) (bits : ℕ) (type : ℤ) (shape : Shape) (fields : List Value) → span ≡ span_of (fresh_of out) shape fields → a ≡ measure_after out (103 ∷ header_bytes (canonical_header bits type shape (map Canon fields))) →
    ((t : List ℕ) → span.fields ≡ measure_after (fresh_of a) t → b ≡ measure_after a t) → ((t : List ℕ) → footer_of span span.last.width ≡ measure_after (fresh_of b) t → c ≡ measure_after b t) →
    c ≡ measure_after out (103 ∷ object_bytes bits type shape (map Canon fields))
measured_object out a b c span bits type shape fields is head first second =
    let H : List ℕ = 103 ∷ header_bytes (canonical_header bits type shape (map Canon fields)) in
    let F = flat_map Canon fields in
    let w = least_width (last_of (field_offsets fields)) in
    let T = field_footer (type_of w) shape fields in
    let fresh-a : fresh_of out ≡ fresh_of a = fresh_again out H ∙ ap fresh_of (sym head) in
    let f : span.fields ≡ measure_after (fresh_of a) F = ap (λ (z : Span). z.fields) is ∙ ap (λ (m : Measure). measure_after m F) fresh-a in
    let b-is : b ≡ measure_after a F = first F f in
    let fresh-b : fresh_of out ≡ fresh_of b = fresh-a ∙ fresh_again a F ∙ ap fresh_of (sym b-is) in
    let t : footer_of span span.last.width ≡ measure_after (fresh_of b) T =
    ap (λ (z : Span). footer_of z z.last.width) is ∙ footer_is (fresh_of out) shape fields w ∙ ap (λ (m : Measure). measure_after m T) fresh-b in
    second T t ∙ ap (λ (m : Measure). measure_after m T) (b-is ∙ ap (λ (m : Measure). measure_after m F) head ∙ sym (measure_two out H F)) ∙ sym (measure_two out (H ++ F) T)
    ∙ ap (measure_after out) (append_assoc H F T ∙ ap (λ (l : List ℕ). 103 ∷ l) (sym (object_split bits type shape fields)))

-- the header's bytes, one by one
pub header_list : (h : Header) (code : ℕ) (f t x l s a : List ℕ) → code ≡ 103 → f ≡ LE w16 (pos h.flags) → t ≡ LE w32 h.type_id → x ≡ LE w32 h.hash → l ≡ LE w32 h.length → s ≡ LE w32 h.schema → a ≡ LE w32 h.schema_at →
    code ∷ h.version ∷ get_or f 0 0 ∷ get_or f 1 0 ∷ get_or t 0 0 ∷ get_or t 1 0 ∷ get_or t 2 0 ∷ get_or t 3 0 ∷ get_or x 0 0 ∷ get_or x 1 0 ∷ get_or x 2 0 ∷ get_or x 3 0 ∷ get_or l 0 0 ∷ get_or l 1 0 ∷ get_or l 2 0 ∷ get_or l 3 0 ∷ get_or s 0 0 ∷ get_or s 1 0 ∷ get_or s 2 0 ∷ get_or s 3 0 ∷ get_or a 0 0 ∷ get_or a 1 0 ∷ get_or a 2 0 ∷ get_or a 3 0 ∷ []
    ≡ 103 ∷ header_bytes h
unfolding LE header_bytes
header_list h code f t x l s a i j k m n o p = rw (i, j, k, m, n, o, p) refl

-- a number that was passed on
pub passed_on : (bytes : List ℕ) (z : ℤ) → cast_unsigned w32 z < 2 ^ 32 → bytes ≡ LE w32 (cast_signed w32 (cast_unsigned w32 z)) → bytes ≡ LE w32 z
passed_on bytes z lt is = is ∙ signed_again z lt

-- the header of an object without fields
pub header_empty : (bits : ℕ) (type : ℤ) (shape : Shape) (fields : List Value) (h : Header) → length fields ≡ 0 → cast_unsigned w32 type < 2 ^ 32 →
    h ≡ record { version = 1; flags = bits; type_id = cast_signed w32 (cast_unsigned w32 type); hash = pos 1; length = pos 24; schema = pos 0; schema_at = pos 0 } → header_bytes h ≡ header_bytes (canonical_header bits type shape (map Canon fields))
unfolding hash_after
header_empty bits type shape [] h none lt is = ap header_bytes is ∙ same_header (record { version = 1; flags = bits; type_id = cast_signed w32 (cast_unsigned w32 type); hash = pos 1; length = pos 24; schema = pos 0; schema_at = pos 0 }) (canonical_header bits type shape []) refl refl (signed_again type lt) refl refl refl refl
header_empty bits type shape (x ∷ xs) h none lt is = absurd (omega (arith, none))

measure_zero : (m : Measure) → m ≡ measure_after m []
measure_zero m = sym (ap (λ (t : Measure × List ℕ). t.0) (measured_empty m []))

pub no_footer : (w : Width) (shape : Shape) → field_footer w shape [] ≡ []
no_footer w (Named ids) = refl
no_footer w (Compact schema) = refl

-- the span of no fields
pub span_none : (start : Measure) (shape : Shape) (f a b c : Measure) → f ≡ start → a ≡ start → b ≡ start → c ≡ start → record { fields = f; last = record { low = 0; width = One }; narrow = a; middle = b; wide = c } ≡ span_of start shape []
span_none start shape f a b c p q r s =
    let none = measure_zero start in
    same_span f (measure_after start []) 0 0 a (measure_after start (field_footer w8 shape [])) b (measure_after start (field_footer w16 shape [])) c (measure_after start (field_footer w32 shape []))
    (p ∙ none) refl (q ∙ none ∙ ap (measure_after start) (sym (no_footer w8 shape))) (r ∙ none ∙ ap (measure_after start) (sym (no_footer w16 shape))) (s ∙ none ∙ ap (measure_after start) (sym (no_footer w32 shape)))

-- ---- the footer that is put entry by entry

-- the footer of some fields begins with that of the first of them
footer_begins : (w : Width) (shape : Shape) (xs ys : List Value) → (rest : List ℕ) × (field_footer w shape (xs ++ ys) ≡ field_footer w shape xs ++ rest)
footer_begins w shape xs [] = ([], ap (field_footer w shape) (append-nil xs) ∙ sym (append-nil (field_footer w shape xs)))
footer_begins w shape xs (y ∷ ys) =
    let entry = entry_bytes w shape (length xs) (next_offset xs) in
    let more = footer_begins w shape (xs ++ y ∷ []) ys in
    (entry ++ more.0, ap (field_footer w shape) (sym (append_assoc xs (y ∷ []) ys)) ∙ more.1 ∙ ap (λ (l : List ℕ). l ++ more.0) (field_footer_more w shape xs y) ∙ append_assoc (field_footer w shape xs) entry more.0)

-- an output that is full before the last entry
pub footer_full : {S : Type 0} (after : Takes S) → TakesLonger after → (w : Width) (shape : Shape) (s : S) (into : List ℕ) (fields : List Value) (i : ℕ) (t : S × List ℕ) →
    t ≡ after s into (field_footer w shape (take i fields)) → ((bytes : List ℕ) → after t.0 t.1 bytes ≡ t) → t ≡ after s into (field_footer w shape fields)
footer_full after longer w shape s into fields i t put full =
    let begins = footer_begins w shape (take i fields) (drop i fields) in
    two after longer s into (field_footer w shape (take i fields)) begins.0 t t put (sym (full begins.0)) ∙ ap (after s into) (sym begins.1 ∙ ap (field_footer w shape) (take-append-drop i fields))

-- one more entry
pub footer_next : {S : Type 0} (after : Takes S) → TakesLonger after → (w : OffsetWidth) (shape : Shape) (s : S) (into : List ℕ) (fields : List Value) (i : ℕ) (x : Value) (o : Offset) (t u : S × List ℕ) → i < length fields → x ≡ get_or fields i x →
    t ≡ after s into (field_footer (type_of w) shape (take i fields)) → o ≡ offset_of (next_offset (take i fields)) → u ≡ after t.0 t.1 (entry_bytes (type_of w) shape i o.low) → u ≡ after s into (field_footer (type_of w) shape (take (i + 1) fields))
footer_next after longer w shape s into fields i x o t u lt item put is entry =
    let xs = take i fields in
    let len : length xs ≡ i = length-take-le i fields (omega (arith, lt)) in
    let low : o.low ≡ next_offset xs % 2 ^ 32 = ap (λ (p : Offset). p.low) is in
    let bytes : entry_bytes (type_of w) shape i o.low ≡ entry_bytes (type_of w) shape (length xs) (next_offset xs) =
    ap (entry_bytes (type_of w) shape i) low ∙ low_entry w shape i (next_offset xs) ∙ ap (λ k. entry_bytes (type_of w) shape k (next_offset xs)) (sym len) in
    let more : take (i + 1) fields ≡ xs ++ x ∷ [] = (take_at_read fields i x lt).1 ∙ ap (λ (y : Value). xs ++ y ∷ []) (sym item) in
    two after longer s into (field_footer (type_of w) shape xs) (entry_bytes (type_of w) shape (length xs) (next_offset xs)) t u put (entry ∙ ap (after t.0 t.1) bytes)
    ∙ ap (after s into) (sym (field_footer_more (type_of w) shape xs x) ∙ ap (field_footer (type_of w) shape) (sym more))

-- the header, the fields and the footer, put one after another
pub object_put : {S : Type 0} (after : Takes S) → TakesLonger after → (bits : ℕ) (type : ℤ) (shape : Shape) (fields : List Value) (w : OffsetWidth) (s : S) (into : List ℕ) (t u v : S × List ℕ) →
    w ≡ least_width (last_of (field_offsets fields)) → t ≡ after s into (103 ∷ header_bytes (canonical_header bits type shape (map Canon fields))) → u ≡ after t.0 t.1 (flat_map Canon fields) →
    v ≡ after u.0 u.1 (field_footer (type_of w) shape fields) → v ≡ after s into (103 ∷ object_bytes bits type shape (map Canon fields))
object_put after longer bits type shape fields w s into t u v is first second third =
    let C : List ℕ = 103 ∷ header_bytes (canonical_header bits type shape (map Canon fields)) in
    let F = flat_map Canon fields in
    let T = least_footer shape fields in
    let b : u ≡ after s into (C ++ F) = two after longer s into C F t u first second in
    let c : v ≡ after s into ((C ++ F) ++ T) = two after longer s into (C ++ F) T u v b (third ∙ ap (λ (k : OffsetWidth). after u.0 u.1 (field_footer (type_of k) shape fields)) is) in
    c ∙ ap (after s into) (append_assoc C F T ∙ ap (λ (l : List ℕ). 103 ∷ l) (sym (object_split bits type shape fields)))
