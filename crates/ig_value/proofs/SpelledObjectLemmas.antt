-- What follows of the spelling of an object: it keeps to the limits, it has a byte for each node, and
-- its canonical form is no longer. And the canonical form of what keeps to the limits spells it.
use Rattle.std.proofs.Common.{◌≡◌, ◌≢◌, ℕ, zero, suc, ◌+◌, ◌*◌, ◌/◌, ◌%◌, ◌<◌, ◌≤◌, ◌^◌, ℤ, pos, Bool, true, false, cond, List, [], ◌∷◌, ◌++◌, length, map, take, drop, fold, Option, Some, ltb, eq-eqb, not, ◌&&◌, refl, sym, ap, subst, ◌∙◌, arith, inl, inr, length-append}
use Rattle.std.specs.Prelude.{FitsSigned, slice_index}
use Rattle.std.specs.Int.{Width, w8, w16, w32, byte_len, cast_signed, from_le_bytes}
use Rattle.std.specs.List.{flat_map, sum_by, AllByRecursion}
use mir.Val.{bits}
use Rattle.std.proofs.Math.Nat.{mul-le-mul_left}
use Rattle.std.proofs.lemmas.Bool.{cases_lt, lt-ltb, le-ltb, ne_eqb, and_left}
use Rattle.std.proofs.lemmas.List.{append-nil, take_at, take-append-drop, length-take-le, length-map}
use Rattle.std.proofs.lemmas.List.Sums.{sum_by-cons}
use Rattle.ig_base.specs.Numbers.{AreBytes, LE}
use Rattle.ig_base.specs.Hashes.{BytesHash, Fnv, fnv_step}
use Rattle.ig_base.proofs.FrameLemmas.{append_bytes}
use Rattle.ig_base.proofs.HashLemmas.{hash_after-in_range}
use Rattle.std.proofs.Math.Facts.{sfits_to_z, Fits-of_lt}
use Rattle.ig_base.specs.Headers.{has_flag, field_at, header_bytes, header_of}
use Rattle.ig_base.specs.declared.header.Header.{Header}
use Rattle.ig_value.specs.declared.object.Record.{Record}
use Rattle.ig_value.specs.declared.object.Shape.{Shape}
use Rattle.ig_value.specs.declared.object.Shape.TheVariants.{Named, Compact}
use Rattle.ig_value.specs.Objects.{kept_flags, schema_of, offset_type, footer_bytes, HasFields, AreLaid, IsObject, IsShape, places_from, last_of, narrowest, width_flag, compact_flag, canonical_schema, object_bytes}
use Rattle.ig_value.specs.Limits.{IsLimitedShape, IsLimitedHead, IsLimitedObject, shape_nodes}
use Rattle.ig_value.proofs.AgreesLemmas.{AreBytes-take, AreBytes-drop}
use Rattle.ig_value.proofs.ScalarLemmas.{IsWide, wide16, wide32, signed_number, unsigned_number, signed_fits}
use Rattle.ig_value.proofs.FooterLemmas.{wide_by, bits_by, named_len, bare_len}
use Rattle.ig_value.proofs.HeaderLemmas.{header_there, header_prefix}

-- ---- lengths

pub header_len : (h : Header) → length (header_bytes h) ≡ 23
unfolding header_bytes LE
header_len h = refl

-- the bytes of an entry before its offset
abbrev shape_key : Shape → ℕ
shape_key (Named ids) = 4
shape_key (Compact schema) = 0

footer_len : (w : Width) (wide : IsWide w) (b : 8 * byte_len w ≡ bits w) (shape : Shape) (offsets : List ℕ) → length (footer_bytes w shape offsets) ≡ length offsets * (shape_key shape + byte_len w)
footer_len w wide b (Named ids) offsets = named_len w wide b ids offsets
footer_len w wide b (Compact schema) offsets = bare_len w wide b offsets

narrow_len : (last : ℕ) (shape : Shape) (offsets : List ℕ) → length (footer_bytes (narrowest last) shape offsets) ≡ length offsets * (shape_key shape + byte_len (narrowest last))
narrow_len last shape offsets = footer_len (narrowest last) (wide_by (ltb last 256) (ltb last 65536)) (bits_by (ltb last 256) (ltb last 65536)) shape offsets

places_len : (at : ℕ) (pieces : List (List ℕ)) → length (places_from at pieces) ≡ length pieces
places_len at [] = refl
places_len at (piece ∷ pieces) = ap suc (places_len (at + length piece) pieces)

-- the length of an object's canonical form after its code
object_len : (flags : ℕ) (type : ℤ) (shape : Shape) (pieces : List (List ℕ)) →
    length (object_bytes flags type shape pieces) ≡ 23 + (length (flat_map (λ (b : List ℕ). b) pieces) + length pieces * (shape_key shape + byte_len (narrowest (last_of (places_from 24 pieces)))))
object_len flags type shape [] =
    let h : length (object_bytes flags type shape []) ≡ 23 = header_len (record { version = 1; flags = flags; type_id = type; hash = cast_signed w32 (BytesHash []); length = pos 24; schema = pos 0; schema_at = pos 0 }) in
    omega (arith, h)
object_len flags type shape (piece ∷ pieces) =
    let fields = flat_map (λ (b : List ℕ). b) (piece ∷ pieces) in
    let offsets = places_from 24 (piece ∷ pieces) in
    let footer = footer_bytes (narrowest (last_of offsets)) shape offsets in
    let foot = narrow_len (last_of offsets) shape offsets in
    let count : length offsets * (shape_key shape + byte_len (narrowest (last_of offsets))) ≡ length (piece ∷ pieces) * (shape_key shape + byte_len (narrowest (last_of offsets))) =
    ap (λ (n : ℕ). n * (shape_key shape + byte_len (narrowest (last_of offsets)))) (places_len 24 (piece ∷ pieces)) in
    length-append (header_bytes _) (fields ++ footer) ∙ ap (λ (n : ℕ). n + length (fields ++ footer)) (header_len _) ∙ ap (λ (n : ℕ). 23 + n) (length-append fields footer ∙ ap (λ (n : ℕ). length fields + n) (foot ∙ count))

-- ---- widths

narrow_most : (a b : Bool) → byte_len (cond a w8 (cond b w16 w32)) ≤ 4
narrow_most true b = omega arith
narrow_most false true = omega arith
narrow_most false false = omega arith

narrow_by : (last : ℕ) (a b : Bool) → last < 2 ^ (8 * byte_len (cond a w8 (cond b w16 w32))) → byte_len (narrowest last) ≤ byte_len (cond a w8 (cond b w16 w32))
narrow_by last true b lt = rw (lt-ltb last 256 lt) (omega arith)
narrow_by last false true lt =
    elim (cases_lt last 256) [
      | inl small ↦ rw (lt-ltb last 256 small) (omega arith)
      | inr big ↦ rw (le-ltb last 256 big, lt-ltb last 65536 lt) (omega arith)
    ]
narrow_by last false false lt = narrow_most (ltb last 256) (ltb last 65536)

last_within : (m : ℕ) (ns : List ℕ) → 0 < m → AllByRecursion (λ n. n < m) ns → last_of ns < m
last_within m [] lt all = lt
last_within m (n ∷ []) lt all = all.0
last_within m (n ∷ k ∷ ns) lt all = last_within m (k ∷ ns) lt all.1

some_numbers : (k : ℕ) → 0 < 2 ^ k
some_numbers zero = omega arith
some_numbers (suc k) = omega (arith, some_numbers k)

some_width : (a b : Bool) → 0 < byte_len (cond a w8 (cond b w16 w32))
some_width true b = omega arith
some_width false true = omega arith
some_width false false = omega arith

times : (n k m : ℕ) → m ≤ k → n * m ≤ n * k
times n k m le = mul-le-mul_left n le

-- ---- the header's numbers

pub record HeaderFits (h : Header) : Type 0 where
  pub flags : h.flags < 2 ^ 16
  pub type : FitsSigned w32 h.type_id
  pub length : FitsSigned w32 h.length
  pub schema : FitsSigned w32 h.schema

-- the header of these bytes
raw_header : (s : List ℕ) → Header
unfolding header_of
raw_header s = record {
  version = slice_index s 1;
  flags = from_le_bytes w16 (take 2 (drop 2 s));
  type_id = field_at s 4;
  hash = field_at s 8;
  length = field_at s 12;
  schema = field_at s 16;
  schema_at = field_at s 20;
}

some_is : {A : Type 0} (x y : A) → (let a : Option A = Some x in a) ≡ Some y → x ≡ y
some_is x y e = cc

header_is : (s : List ℕ) (h : Header) → header_of s ≡ Some h → raw_header s ≡ h
unfolding header_of raw_header
header_is s h e =
    let there : header_of s ≡ Some (raw_header s) = rw (le-ltb (length s) 24 (header_there s h e)) refl in
    some_is (raw_header s) h (sym there ∙ e)

field_fits : (s : List ℕ) (at : ℕ) → AreBytes s → FitsSigned w32 (field_at s at)
field_fits s at bytes = signed_fits w32 wide32 (take 4 (drop at s)) (AreBytes-take 4 (drop at s) (AreBytes-drop at s bytes))

raw_fits : (s : List ℕ) → AreBytes s → HeaderFits (raw_header s)
unfolding raw_header
raw_fits s bytes = record {
  flags = wide16.below (take 2 (drop 2 s)) (AreBytes-take 2 (drop 2 s) (AreBytes-drop 2 s bytes));
  type = field_fits s 4 bytes;
  length = field_fits s 12 bytes;
  schema = field_fits s 16 bytes;
}

pub header_fits : (s : List ℕ) (h : Header) → AreBytes s → header_of s ≡ Some h → HeaderFits h
header_fits s h bytes e = subst HeaderFits (header_is s h e) (raw_fits s bytes)

shape_within : (shape : Shape) (n w : ℕ) (header : Header) → IsShape header n shape → shape_nodes shape ≤ 1 + n * (shape_key shape + w)
shape_within (Named ids) n w header h = omega (arith, h.3, times n (4 + w) 1 (omega arith))
shape_within (Compact schema) n w header h = omega arith

shape_fits : (header : Header) → HeaderFits header → (n : ℕ) (shape : Shape) → 0 < n → IsShape header n shape → IsLimitedShape n shape
shape_fits header numbers n (Named ids) some h = (h.2, h.3)
shape_fits header numbers n (Compact schema) some h = (subst (FitsSigned w32) h.1 numbers.schema, some)

some_fields : {X : Type 0} (xs : List X) → xs ≢ [] → 0 < length xs
some_fields [] more = absurd (more refl)
some_fields (x ∷ xs) more = omega arith

-- ---- fields

module _ {X : Type 0} (P : List ℕ → X → Type 0) where
  pub laid_count : (place : ℕ) (offsets s : List ℕ) (xs : List X) → AreLaid P place offsets s xs → length offsets ≡ length xs
  laid_count place [] s [] h = refl
  laid_count place [] s (x ∷ xs) h = absurd h
  laid_count place (offset ∷ offsets) s [] h = absurd h
  laid_count place (offset ∷ offsets) s (x ∷ xs) h = ap suc (laid_count (place + length h.prefix) offsets h.suffix xs h.after)

  laid_all : (F : X → Type 0) → ((s : List ℕ) (x : X) → P s x → F x) → (place : ℕ) (offsets s : List ℕ) (xs : List X) → AreLaid P place offsets s xs → AllByRecursion F xs
  laid_all F one place [] s [] h = tt
  laid_all F one place [] s (x ∷ xs) h = absurd h
  laid_all F one place (offset ∷ offsets) s [] h = absurd h
  laid_all F one place (offset ∷ offsets) s (x ∷ xs) h = (one h.prefix x h.first, laid_all F one (place + length h.prefix) offsets h.suffix xs h.after)

  laid_sum : (f : X → ℕ) → ((s : List ℕ) (x : X) → P s x → f x ≤ length s) → (place : ℕ) (offsets s : List ℕ) (xs : List X) → AreLaid P place offsets s xs → sum_by f xs ≤ length s
  laid_sum f one place [] s [] h = omega arith
  laid_sum f one place [] s (x ∷ xs) h = absurd h
  laid_sum f one place (offset ∷ offsets) s [] h = absurd h
  laid_sum f one place (offset ∷ offsets) s (x ∷ xs) h =
      omega (arith, sum_by-cons f x xs, one h.prefix x h.first, laid_sum f one (place + length h.prefix) offsets h.suffix xs h.after, ap length h.whole, length-append h.prefix h.suffix)

  module _ (enc : X → List ℕ) (one : (s : List ℕ) (x : X) → P s x → length (enc x) ≤ length s) where
    laid_least : (place : ℕ) (offsets s : List ℕ) (xs : List X) → AreLaid P place offsets s xs → length (flat_map (λ (b : List ℕ). b) (map enc xs)) ≤ length s
    laid_least place [] s [] h = omega arith
    laid_least place [] s (x ∷ xs) h = absurd h
    laid_least place (offset ∷ offsets) s [] h = absurd h
    laid_least place (offset ∷ offsets) s (x ∷ xs) h =
        omega (arith, one h.prefix x h.first, laid_least (place + length h.prefix) offsets h.suffix xs h.after, ap length h.whole, length-append h.prefix h.suffix, length-append (enc x) (flat_map (λ (b : List ℕ). b) (map enc xs)))

    last_least : (at place : ℕ) (offsets s : List ℕ) (xs : List X) → AreLaid P place offsets s xs → at ≤ place → last_of (places_from at (map enc xs)) ≤ last_of offsets
    last_least at place [] s [] h le = omega arith
    last_least at place [] s (x ∷ xs) h le = absurd h
    last_least at place (o ∷ os) s [] h le = absurd h
    last_least at place (o ∷ []) s (x ∷ []) h le = omega (arith, h.here, le)
    last_least at place (o ∷ []) s (x ∷ y ∷ xs) h le = absurd h.after
    last_least at place (o ∷ q ∷ os) s (x ∷ []) h le = absurd h.after
    last_least at place (o ∷ q ∷ os) s (x ∷ y ∷ xs) h le =
        last_least (at + length (enc x)) (place + length h.prefix) (q ∷ os) h.suffix (y ∷ xs) h.after (omega (arith, le, one h.prefix x h.first))

    -- the canonical form of an object is its shortest
    pub object_least : (s : List ℕ) (o : Record X) → IsObject P (103 ∷ s) o → length (object_bytes o.bits o.type_id o.shape (map enc o.fields)) ≤ length s
    object_least s o h =
        let pieces = map enc o.fields in
        let whole = object_len o.bits o.type_id o.shape pieces in
        let key = shape_key o.shape in
        let narrow = byte_len (narrowest (last_of (places_from 24 pieces))) in
        elim h.fields [
          | inl none ↦
              let nil : pieces ≡ [] = ap (map enc) none.none in
              let no_bytes : length (flat_map (λ (b : List ℕ). b) pieces) ≡ 0 = ap (λ (l : List (List ℕ)). length (flat_map (λ (b : List ℕ). b) l)) nil in
              let no_entries : length pieces * (key + narrow) ≡ 0 = ap (λ (l : List (List ℕ)). length l * (key + narrow)) nil ∙ (let z : 0 * (key + narrow) ≡ 0 = omega arith in z) in
              omega (arith, whole, no_bytes, no_entries, none.alone)
          | inr f ↦
              let flags = h.header.flags in
              let w = offset_type flags in
              let foot = footer_len w (wide_by (has_flag 8 flags) (has_flag 16 flags)) (bits_by (has_flag 8 flags) (has_flag 16 flags)) o.shape f.offsets in
              let last = last_least 24 24 f.offsets f.fields o.fields f.laid (omega arith) in
              let last_lt : last_of f.offsets < 2 ^ (8 * byte_len w) = last_within (2 ^ (8 * byte_len w)) f.offsets (some_numbers (8 * byte_len w)) f.in_width in
              let width = narrow_by (last_of (places_from 24 pieces)) (has_flag 8 flags) (has_flag 16 flags) (omega (arith, last, last_lt)) in
              let least = laid_least 24 f.offsets f.fields o.fields f.laid in
              let n : length pieces ≡ length f.offsets = length-map o.fields enc ∙ sym (laid_count 24 f.offsets f.fields o.fields f.laid) in
              let entries : length f.offsets * (key + narrow) ≤ length f.offsets * (key + byte_len w) = mul-le-mul_left (length f.offsets) (let le : key + narrow ≤ key + byte_len w = omega (arith, width) in le) in
              let same : length pieces * (key + narrow) ≡ length f.offsets * (key + narrow) = ap (λ (k : ℕ). k * (key + narrow)) n in
              let len_s : length (103 ∷ s) ≡ 24 + (length f.fields + length (footer_bytes w o.shape f.offsets)) =
              ap length f.whole ∙ length-append f.head (f.fields ++ footer_bytes w o.shape f.offsets) ∙ ap (λ (k : ℕ). k + length (f.fields ++ footer_bytes w o.shape f.offsets)) f.head_len ∙ ap (λ (k : ℕ). 24 + k) (length-append f.fields (footer_bytes w o.shape f.offsets)) in
              omega (arith, whole, least, entries, same, foot, len_s)
        ]

  -- ---- limits

  object_len_of : (s : List ℕ) (o : Record X) (h : IsObject P s o) (f : HasFields P h.header s o) → length s ≡ 24 + (length f.fields + length (footer_bytes (offset_type h.header.flags) o.shape f.offsets))
  object_len_of s o h f =
      let footer = footer_bytes (offset_type h.header.flags) o.shape f.offsets in
      ap length f.whole ∙ length-append f.head (f.fields ++ footer) ∙ ap (λ (k : ℕ). k + length (f.fields ++ footer)) f.head_len ∙ ap (λ (k : ℕ). 24 + k) (length-append f.fields footer)

  -- the bytes of a footer with as many offsets as fields
  entries_len : (s : List ℕ) (o : Record X) (h : IsObject P s o) (f : HasFields P h.header s o) → length (footer_bytes (offset_type h.header.flags) o.shape f.offsets) ≡ length o.fields * (shape_key o.shape + byte_len (offset_type h.header.flags))
  entries_len s o h f =
      let flags = h.header.flags in
      footer_len (offset_type flags) (wide_by (has_flag 8 flags) (has_flag 16 flags)) (bits_by (has_flag 8 flags) (has_flag 16 flags)) o.shape f.offsets
      ∙ ap (λ (k : ℕ). k * (shape_key o.shape + byte_len (offset_type flags))) (laid_count 24 f.offsets f.fields o.fields f.laid)

  pub object_nodes : (f : X → ℕ) → ((s : List ℕ) (x : X) → P s x → f x ≤ length s) → (s : List ℕ) (o : Record X) → IsObject P (103 ∷ s) o → 2 + shape_nodes o.shape + sum_by f o.fields ≤ length s
  object_nodes count one s o h =
      elim h.fields [
        | inl none ↦ rw (none.shape, none.none) (omega (arith, none.alone))
        | inr f ↦
            let sum = laid_sum count one 24 f.offsets f.fields o.fields f.laid in
            omega (arith, sum, object_len_of (103 ∷ s) o h f, entries_len (103 ∷ s) o h f, shape_within o.shape (length o.fields) (byte_len (offset_type h.header.flags)) h.header f.shape)
      ]

  pub object_fits : (F : X → Type 0) → ((s : List ℕ) (x : X) → P s x → F x) → (s : List ℕ) (o : Record X) → IsObject P s o → IsLimitedObject F o
  object_fits F one s o h =
      let there = header_there s h.header h.begins in
      let begins : header_of (take 24 s) ≡ Some h.header =
      sym (header_prefix (take 24 s) (drop 24 s) (omega (arith, length-take-le 24 s there))) ∙ ap header_of (take-append-drop 24 s) ∙ h.begins in
      let numbers = header_fits (take 24 s) h.header h.bytes begins in
      elim h.fields [
        | inl none ↦ record {
          head = record {
            bits = rw h.says.bits (omega (arith, numbers.flags));
            kept = rw h.says.bits (omega arith);
            type = subst (FitsSigned w32) (sym h.says.type) numbers.type;
            registered = h.says.registered;
            shape = rw (none.shape, none.none) (tt, refl);
          };
          few = rw none.none (omega arith);
          fields = subst (AllByRecursion F) (sym none.none) tt;
        }
        | inr f ↦
            let entries = entries_len s o h f in
            let width = some_width (has_flag 8 h.header.flags) (has_flag 16 h.header.flags) in
            let few = times (length o.fields) (shape_key o.shape + byte_len (offset_type h.header.flags)) 1 (omega (arith, width)) in
            let size : FitsSigned w32 (pos (length s)) = subst (FitsSigned w32) h.says.size numbers.length in
            record {
              head = record {
                bits = rw h.says.bits (omega (arith, numbers.flags));
                kept = rw h.says.bits (omega arith);
                type = subst (FitsSigned w32) (sym h.says.type) numbers.type;
                registered = h.says.registered;
                shape = shape_fits h.header numbers (length o.fields) o.shape (some_fields o.fields f.some) f.shape;
              };
              few = omega (arith, few, entries, object_len_of s o h f, size.sfits);
              fields = laid_all F one 24 f.offsets f.fields o.fields f.laid;
            }
      ]

-- ---- the canonical form spells

fnv_below : (hash : ℕ) (bytes : List ℕ) → hash < 2 ^ 32 → fold fnv_step hash bytes < 2 ^ 32
fnv_below hash [] lt = lt
fnv_below hash (b ∷ bytes) lt = fnv_below (fnv_step hash b) bytes (omega arith)

fnv_small : (ids : List ℤ) → Fnv ids < 2 ^ 32
unfolding Fnv
fnv_small [] = omega arith
fnv_small (id ∷ ids) = fnv_below 0x811C9DC5 (flat_map (LE w32) (id ∷ ids)) (omega arith)

cast_fits : (n : ℕ) → n < 2 ^ 32 → FitsSigned w32 (cast_signed w32 n)
cast_fits n lt = sfits_to_z (Fits-of_lt lt)

pub schema_fits : (ids : List ℤ) → FitsSigned w32 (schema_of ids)
schema_fits ids = cast_fits (Fnv ids) (fnv_small ids)

pub hash_fits : (bytes : List ℕ) → FitsSigned w32 (cast_signed w32 (BytesHash bytes))
hash_fits bytes = cast_fits (BytesHash bytes) (hash_after-in_range 1 bytes (omega arith))

-- a header whose numbers are in range
pub record IsHeaderInRange (h : Header) : Type 0 where
  pub version : h.version < 256
  pub flags : h.flags < 2 ^ 16
  pub type : FitsSigned w32 h.type_id
  pub hash : FitsSigned w32 h.hash
  pub length : FitsSigned w32 h.length
  pub schema : FitsSigned w32 h.schema
  pub schema_at : FitsSigned w32 h.schema_at

cons_bytes : (b : ℕ) (s : List ℕ) → b < 256 → AreBytes s → AreBytes (b ∷ s)
cons_bytes b s lt bytes zero = lt
cons_bytes b s lt bytes (suc i) = bytes i

last_bytes_16 : (z : ℤ) → AreBytes (LE w16 z)
unfolding LE
last_bytes_16 z zero = omega arith
last_bytes_16 z (suc zero) = omega arith
last_bytes_16 z (suc (suc i)) = omega arith

last_bytes : (z : ℤ) → AreBytes (LE w32 z)
unfolding LE
last_bytes z zero = omega arith
last_bytes z (suc zero) = omega arith
last_bytes z (suc (suc zero)) = omega arith
last_bytes z (suc (suc (suc zero))) = omega arith
last_bytes z (suc (suc (suc (suc i)))) = omega arith

header_are_bytes : (h : Header) → h.version < 256 → AreBytes (103 ∷ header_bytes h)
unfolding header_bytes
header_are_bytes h lt =
    cons_bytes 103 (header_bytes h) (omega arith) (cons_bytes h.version _ lt
    (append_bytes _ _ (append_bytes _ _ (append_bytes _ _ (append_bytes _ _ (append_bytes _ _ (last_bytes_16 (pos h.flags)) (last_bytes h.type_id)) (last_bytes h.hash)) (last_bytes h.length)) (last_bytes h.schema)) (last_bytes h.schema_at)))

-- the numbers at the places of a header
number_there : (z : ℤ) → FitsSigned w32 z → cast_signed w32 (from_le_bytes w32 (LE w32 z)) ≡ z
number_there z fits = (signed_number w32 wide32).suffix z fits

pub header_again : (h : Header) (rest : List ℕ) → IsHeaderInRange h → header_of (103 ∷ (header_bytes h ++ rest)) ≡ Some h
unfolding header_of header_bytes LE
header_again h rest r =
    let flags : from_le_bytes w16 (LE w16 (pos h.flags)) ≡ h.flags = (unsigned_number w16 wide16).suffix h.flags r.flags in
    let long : 24 ≤ length (103 ∷ (header_bytes h ++ rest)) = omega (arith, length-append (header_bytes h) rest, header_len h) in
    let there : header_of (103 ∷ (header_bytes h ++ rest)) ≡ Some (record {
      version = h.version;
      flags = from_le_bytes w16 (LE w16 (pos h.flags));
      type_id = cast_signed w32 (from_le_bytes w32 (LE w32 h.type_id));
      hash = cast_signed w32 (from_le_bytes w32 (LE w32 h.hash));
      length = cast_signed w32 (from_le_bytes w32 (LE w32 h.length));
      schema = cast_signed w32 (from_le_bytes w32 (LE w32 h.schema));
      schema_at = cast_signed w32 (from_le_bytes w32 (LE w32 h.schema_at));
    }) = rw (le-ltb (length (103 ∷ (header_bytes h ++ rest))) 24 long) refl in
    there ∙ (λ i. Some (record {
      version = h.version;
      flags = flags i;
      type_id = number_there h.type_id r.type i;
      hash = number_there h.hash r.hash i;
      length = number_there h.length r.length i;
      schema = number_there h.schema r.schema i;
      schema_at = number_there h.schema_at r.schema_at i;
    }))

-- ---- flags

-- what the canonical flags of an object with fields say
pub record CanonicalFlags (kept : ℕ) (flags : ℕ) (one two compact : Bool) : Type 0 where
  pub small : flags < 2 ^ 16
  pub has_schema : has_flag 2 flags ≡ true
  pub no_raw_data : has_flag 4 flags ≡ false
  pub one_byte : has_flag 8 flags ≡ one
  pub two_bytes : has_flag 16 flags ≡ two
  pub is_compact : has_flag 32 flags ≡ compact
  pub bits : kept ≡ kept_flags flags

flag_set : (flag flags : ℕ) → flags / flag % 2 ≡ 1 → has_flag flag flags ≡ true
flag_set flag flags e = eq-eqb (flags / flag % 2) 1 e

flag_clear : (flag flags : ℕ) → flags / flag % 2 ≡ 0 → has_flag flag flags ≡ false
flag_clear flag flags e = ne_eqb (flags / flag % 2) 1 (λ same. omega (arith, e, same))

-- the number of a width's flag, and of a compact footer's
abbrev width_number : Bool → Bool → ℕ
width_number one two = cond one 8 (cond two 16 0)

abbrev compact_number : Bool → ℕ
compact_number compact = cond compact 32 0

pub flags_by : (kept : ℕ) → kept < 2 ^ 16 → kept_flags kept ≡ kept → (one two compact : Bool) → CanonicalFlags kept (kept + 2 + width_number one two + compact_number compact) one (not one && two) compact
flags_by kept lt same true two true = record { small = omega (arith, lt, same); has_schema = flag_set 2 _ (omega (arith, same)); no_raw_data = flag_clear 4 _ (omega (arith, same)); one_byte = flag_set 8 _ (omega (arith, same)); two_bytes = flag_clear 16 _ (omega (arith, same)); is_compact = flag_set 32 _ (omega (arith, same)); bits = omega (arith, same) }
flags_by kept lt same true two false = record { small = omega (arith, lt, same); has_schema = flag_set 2 _ (omega (arith, same)); no_raw_data = flag_clear 4 _ (omega (arith, same)); one_byte = flag_set 8 _ (omega (arith, same)); two_bytes = flag_clear 16 _ (omega (arith, same)); is_compact = flag_clear 32 _ (omega (arith, same)); bits = omega (arith, same) }
flags_by kept lt same false true true = record { small = omega (arith, lt, same); has_schema = flag_set 2 _ (omega (arith, same)); no_raw_data = flag_clear 4 _ (omega (arith, same)); one_byte = flag_clear 8 _ (omega (arith, same)); two_bytes = flag_set 16 _ (omega (arith, same)); is_compact = flag_set 32 _ (omega (arith, same)); bits = omega (arith, same) }
flags_by kept lt same false true false = record { small = omega (arith, lt, same); has_schema = flag_set 2 _ (omega (arith, same)); no_raw_data = flag_clear 4 _ (omega (arith, same)); one_byte = flag_clear 8 _ (omega (arith, same)); two_bytes = flag_set 16 _ (omega (arith, same)); is_compact = flag_clear 32 _ (omega (arith, same)); bits = omega (arith, same) }
flags_by kept lt same false false true = record { small = omega (arith, lt, same); has_schema = flag_set 2 _ (omega (arith, same)); no_raw_data = flag_clear 4 _ (omega (arith, same)); one_byte = flag_clear 8 _ (omega (arith, same)); two_bytes = flag_clear 16 _ (omega (arith, same)); is_compact = flag_set 32 _ (omega (arith, same)); bits = omega (arith, same) }
flags_by kept lt same false false false = record { small = omega (arith, lt, same); has_schema = flag_set 2 _ (omega (arith, same)); no_raw_data = flag_clear 4 _ (omega (arith, same)); one_byte = flag_clear 8 _ (omega (arith, same)); two_bytes = flag_clear 16 _ (omega (arith, same)); is_compact = flag_clear 32 _ (omega (arith, same)); bits = omega (arith, same) }

-- ---- the fields

first_below : (at : ℕ) (pieces : List (List ℕ)) → pieces ≢ [] → at ≤ last_of (places_from at pieces)
first_below at [] more = absurd (more refl)
first_below at (piece ∷ []) more = omega arith
first_below at (piece ∷ next ∷ pieces) more = omega (arith, first_below (at + length piece) (next ∷ pieces) (λ nil. cc))

all_below : (m last at : ℕ) (pieces : List (List ℕ)) → last_of (places_from at pieces) ≡ last → last < m → AllByRecursion (λ n. n < m) (places_from at pieces)
all_below m last at [] e lt = tt
all_below m last at (piece ∷ []) e lt = (omega (arith, e, lt), tt)
all_below m last at (piece ∷ next ∷ pieces) e lt = (omega (arith, first_below (at + length piece) (next ∷ pieces) (λ nil. cc), e, lt), all_below m last (at + length piece) (next ∷ pieces) e lt)

-- the last place is within the pieces
last_place : (at : ℕ) (pieces : List (List ℕ)) → last_of (places_from at pieces) ≤ at + length (flat_map (λ (b : List ℕ). b) pieces)
last_place at [] = omega arith
last_place at (piece ∷ []) = omega arith
last_place at (piece ∷ next ∷ pieces) =
    omega (arith, last_place (at + length piece) (next ∷ pieces), length-append piece (flat_map (λ (b : List ℕ). b) (next ∷ pieces)))

pub type_by : (flags : ℕ) (one two : Bool) → has_flag 8 flags ≡ one → has_flag 16 flags ≡ (not one && two) → offset_type flags ≡ cond one w8 (cond two w16 w32)
type_by flags true two a b = rw a refl
type_by flags false two a b = rw (a, b) refl

one_width_by : (flags : ℕ) (one two : Bool) → has_flag 8 flags ≡ one → has_flag 16 flags ≡ (not one && two) → (has_flag 8 flags && has_flag 16 flags) ≡ false
one_width_by flags true two a b = rw (a, b) refl
one_width_by flags false two a b = rw a refl

in_type : (last : ℕ) → last < 2 ^ 32 → last < 2 ^ (8 * byte_len (narrowest last))
in_type last lt =
    elim (cases_lt last 256) [
      | inl small ↦ rw (lt-ltb last 256 small) small
      | inr big ↦
          elim (cases_lt last 65536) [
            | inl small ↦ rw (le-ltb last 256 big, lt-ltb last 65536 small) small
            | inr more ↦ rw (le-ltb last 256 big, le-ltb last 65536 more) lt
          ]
    ]

abbrev is_compact_shape : Shape → Bool
is_compact_shape (Named ids) = false
is_compact_shape (Compact schema) = true

compact_is : (shape : Shape) → compact_flag shape ≡ compact_number (is_compact_shape shape)
compact_is (Named ids) = refl
compact_is (Compact schema) = refl

canonical_shape : (header : Header) (shape : Shape) (n : ℕ) → IsLimitedShape n shape → has_flag 32 header.flags ≡ is_compact_shape shape → header.schema ≡ canonical_schema shape → IsShape header n shape
canonical_shape header (Named ids) n f compact schema = (compact, schema, f.0, f.1)
canonical_shape header (Compact id) n f compact schema = (compact, schema)

pub canonical_schema_fits : (shape : Shape) (n : ℕ) → IsLimitedShape n shape → FitsSigned w32 (canonical_schema shape)
canonical_schema_fits (Named ids) n f = schema_fits ids
canonical_schema_fits (Compact id) n f = f.0

empty_shape : (shape : Shape) → IsLimitedShape 0 shape → shape ≡ Named []
empty_shape (Named []) f = refl
empty_shape (Named (id ∷ ids)) f = absurd (omega (arith, f.1))
empty_shape (Compact id) f = absurd (omega (arith, f.1))

module _ {X : Type 0} (P : List ℕ → X → Type 0) (F : X → Type 0) (enc : X → List ℕ) (one : (x : X) → F x → length (enc x) < 2 ^ 31 → P (enc x) x) where
  laid_spelled : (at : ℕ) (xs : List X) → AllByRecursion F xs → length (flat_map (λ (b : List ℕ). b) (map enc xs)) < 2 ^ 31 → AreLaid P at (places_from at (map enc xs)) (flat_map (λ (b : List ℕ). b) (map enc xs)) xs
  laid_spelled at [] f lt = refl
  laid_spelled at (x ∷ xs) f lt =
      let len = length-append (enc x) (flat_map (λ (b : List ℕ). b) (map enc xs)) in
      record {
        prefix = enc x;
        suffix = flat_map (λ (b : List ℕ). b) (map enc xs);
        here = refl;
        whole = refl;
        first = one x f.0 (omega (arith, len, lt));
        after = laid_spelled (at + length (enc x)) xs f.1 (omega (arith, len, lt));
      }

  empty_spelled : (o : Record X) → IsLimitedHead o → o.fields ≡ [] → IsObject P (103 ∷ object_bytes o.bits o.type_id o.shape []) o
  empty_spelled o f nil =
      let header : Header = record { version = 1; flags = o.bits; type_id = o.type_id; hash = cast_signed w32 (BytesHash []); length = pos 24; schema = pos 0; schema_at = pos 0 } in
      let range : IsHeaderInRange header = record {
        version = omega arith;
        flags = f.bits;
        type = f.type;
        hash = hash_fits [];
        length = record { sfits = omega arith };
        schema = record { sfits = omega arith };
        schema_at = record { sfits = omega arith };
      } in
      let clear : has_flag 8 o.bits ≡ false = flag_clear 8 o.bits (omega (arith, f.kept)) in
      record {
        header = header;
        begins = subst (λ (l : List ℕ). header_of (103 ∷ l) ≡ Some header) (append-nil (header_bytes header)) (header_again header [] range);
        bytes = AreBytes-take 24 (103 ∷ header_bytes header) (header_are_bytes header (omega arith));
        says = record {
          version = refl;
          no_raw_data = flag_clear 4 o.bits (omega (arith, f.kept));
          one_width = and_left (has_flag 8 o.bits) (has_flag 16 o.bits) clear;
          bits = sym f.kept;
          type = refl;
          registered = f.registered;
          size = ap (λ (n : ℕ). pos (suc n)) (sym (header_len header));
        };
        fields = inl (record { alone = ap suc (header_len header); shape = empty_shape o.shape (subst (λ (n : ℕ). IsLimitedShape n o.shape) (ap length nil) f.shape); none = nil });
      }

  full_spelled : (o : Record X) (x : X) (xs : List X) → o.fields ≡ x ∷ xs → IsLimitedObject F o → suc (length (object_bytes o.bits o.type_id o.shape (map enc (x ∷ xs)))) < 2 ^ 31 →
      IsObject P (103 ∷ object_bytes o.bits o.type_id o.shape (map enc (x ∷ xs))) o
  full_spelled o x xs is f lt =
      let pieces = map enc (x ∷ xs) in
      let fields = flat_map (λ (b : List ℕ). b) pieces in
      let offsets = places_from 24 pieces in
      let last = last_of offsets in
      let footer = footer_bytes (narrowest last) o.shape offsets in
      let compact = is_compact_shape o.shape in
      let one_byte = ltb last 256 in
      let two_bytes = ltb last 65536 in
      let flags = o.bits + 2 + width_flag last + compact_flag o.shape in
      let flags-are : o.bits + 2 + width_number one_byte two_bytes + compact_number compact ≡ flags = ap (λ (n : ℕ). o.bits + 2 + width_flag last + n) (sym (compact_is o.shape)) in
      let c : CanonicalFlags o.bits flags one_byte (not one_byte && two_bytes) compact =
      subst (λ (n : ℕ). CanonicalFlags o.bits n one_byte (not one_byte && two_bytes) compact) flags-are (flags_by o.bits f.head.bits f.head.kept one_byte two_bytes compact) in
      let type-is : offset_type flags ≡ narrowest last = type_by flags one_byte two_bytes c.one_byte c.two_bytes in
      let header : Header = record {
        version = 1;
        flags = flags;
        type_id = o.type_id;
        hash = cast_signed w32 (BytesHash fields);
        length = pos (24 + length fields + length footer);
        schema = canonical_schema o.shape;
        schema_at = pos (24 + length fields);
      } in
      let len : length (header_bytes header ++ (fields ++ footer)) ≡ 23 + (length fields + length footer) =
      length-append (header_bytes header) (fields ++ footer) ∙ ap (λ (n : ℕ). n + length (fields ++ footer)) (header_len header) ∙ ap (λ (n : ℕ). 23 + n) (length-append fields footer) in
      let small : suc (23 + (length fields + length footer)) < 2 ^ 31 = subst (λ (n : ℕ). suc n < 2 ^ 31) len lt in
      let range : IsHeaderInRange header = record {
        version = omega arith;
        flags = c.small;
        type = f.head.type;
        hash = hash_fits fields;
        length = record { sfits = omega (arith, small) };
        schema = canonical_schema_fits o.shape (length o.fields) f.head.shape;
        schema_at = record { sfits = omega (arith, small) };
      } in
      let head_len : length (103 ∷ header_bytes header) ≡ 24 = ap suc (header_len header) in
      let head-is : take 24 (103 ∷ (header_bytes header ++ (fields ++ footer))) ≡ 103 ∷ header_bytes header = take_at (103 ∷ header_bytes header) (fields ++ footer) 24 head_len in
      let all : AllByRecursion F (x ∷ xs) = subst (AllByRecursion F) is f.fields in
      let laid : AreLaid P 24 offsets fields (x ∷ xs) = laid_spelled 24 (x ∷ xs) all (omega (arith, small)) in
      let last_lt : last < 2 ^ 32 = omega (arith, last_place 24 pieces, small) in
      record {
        header = header;
        begins = header_again header (fields ++ footer) range;
        bytes = subst AreBytes (sym head-is) (header_are_bytes header (omega arith));
        says = record {
          version = refl;
          no_raw_data = c.no_raw_data;
          one_width = one_width_by flags one_byte two_bytes c.one_byte c.two_bytes;
          bits = c.bits;
          type = refl;
          registered = f.head.registered;
          size = ap pos (let n : 24 + length fields + length footer ≡ suc (length (header_bytes header ++ (fields ++ footer))) = omega (arith, len) in n);
        };
        fields = inr (record {
          head = 103 ∷ header_bytes header;
          fields = fields;
          offsets = offsets;
          whole = ap (λ (w : Width). 103 ∷ (header_bytes header ++ (fields ++ footer_bytes w o.shape offsets))) (sym type-is);
          head_len = head_len;
          some = λ nil. let no = sym is ∙ nil in cc;
          has_schema = c.has_schema;
          schema_at = refl;
          shape = canonical_shape header o.shape (length o.fields) f.head.shape c.is_compact refl;
          in_width = subst (λ (w : Width). AllByRecursion (λ n. n < 2 ^ (8 * byte_len w)) offsets) (sym type-is) (all_below (2 ^ (8 * byte_len (narrowest last))) last 24 pieces refl (in_type last last_lt));
          laid = subst (λ (l : List X). AreLaid P 24 offsets fields l) (sym is) laid;
        });
      }

  spelled_by : (o : Record X) (xs : List X) → o.fields ≡ xs → IsLimitedObject F o → suc (length (object_bytes o.bits o.type_id o.shape (map enc xs))) < 2 ^ 31 → IsObject P (103 ∷ object_bytes o.bits o.type_id o.shape (map enc xs)) o
  spelled_by o [] is f lt = empty_spelled o f.head is
  spelled_by o (x ∷ xs) is f lt = full_spelled o x xs is f lt

  pub object_spelled : (o : Record X) → IsLimitedObject F o → suc (length (object_bytes o.bits o.type_id o.shape (map enc o.fields))) < 2 ^ 31 → IsObject P (103 ∷ object_bytes o.bits o.type_id o.shape (map enc o.fields)) o
  object_spelled o f lt = spelled_by o o.fields refl f lt
