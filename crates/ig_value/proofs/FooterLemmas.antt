-- A footer is read as it is spelled: its offsets, and its shape.
use Rattle.std.proofs.Common.{◌≡◌, ℕ, zero, suc, ◌+◌, ◌*◌, ◌<◌, ◌^◌, ℤ, pos, Bool, true, false, cond, List, [], ◌∷◌, ◌++◌, length, take, drop, refl, sym, ap, subst, ◌∙◌, append_assoc, arith, length-append}
use Rattle.std.specs.Prelude.{FitsSigned}
use Rattle.std.specs.Int.{Width, w8, w16, w32, byte_len, cast_signed, from_le_bytes}
use Rattle.std.specs.List.{flat_map, AllByRecursion}
use mir.Val.{bits}
use Rattle.std.proofs.lemmas.List.{take_at, drop_at, drop-drop, length-take, length-drop, take-append-drop, nil_from_length}
use Rattle.ig_base.specs.Numbers.{AreBytes, LE}
use Rattle.ig_base.specs.Headers.{has_flag}
use Rattle.ig_base.specs.declared.header.Header.{Header}
use Rattle.ig_value.specs.declared.object.Shape.{Shape}
use Rattle.ig_value.specs.declared.object.Shape.TheVariants.{Named, Compact}
use Rattle.ig_value.specs.Objects.{offset_type, key_len, entry_len, schema_of, named_footer, footer_bytes, IsShape, offsets_of, ids_of}
use Rattle.ig_value.proofs.AgreesLemmas.{AreBytes-take, AreBytes-drop}
use Rattle.ig_value.proofs.ScalarLemmas.{IsWide, wide8, wide16, wide32, signed_number, signed_fits, unsigned_number}
use Rattle.ig_value.proofs.CountLemmas.{LE-length}
use Rattle.ig_value.proofs.LaidLemmas.{more_entries}

-- ---- any number of entries

pub offsets_len : (w : Width) (key n : ℕ) (s : List ℕ) → length (offsets_of w key n s) ≡ n
offsets_len w key zero s = refl
offsets_len w key (suc n) s = ap suc (offsets_len w key n (drop (key + byte_len w) s))

pub ids_len : (entry n : ℕ) (s : List ℕ) → length (ids_of entry n s) ≡ n
ids_len entry zero s = refl
ids_len entry (suc n) s = ap suc (ids_len entry n (drop entry s))

ids_fit : (entry n : ℕ) (s : List ℕ) → AreBytes s → AllByRecursion (FitsSigned w32) (ids_of entry n s)
ids_fit entry zero s bytes = tt
ids_fit entry (suc n) s bytes = (signed_fits w32 wide32 (take 4 s) (AreBytes-take 4 s bytes), ids_fit entry n (drop entry s) (AreBytes-drop entry s bytes))

module _ (w : Width) (wide : IsWide w) (bits-are : 8 * byte_len w ≡ bits w) where
  abbrev Fits : ℕ → Type 0
  Fits n = n < 2 ^ (8 * byte_len w)

  offset_len : (n : ℕ) → length (LE w (pos n)) ≡ byte_len w
  offset_len n = (unsigned_number w wide).len n

  offset_again : (n : ℕ) → Fits n → from_le_bytes w (LE w (pos n)) ≡ n
  offset_again n fits = (unsigned_number w wide).suffix n (subst (λ (b : ℕ). n < 2 ^ b) bits-are fits)

  offset_back : (s : List ℕ) → length s ≡ byte_len w → AreBytes s → LE w (pos (from_le_bytes w s)) ≡ s
  offset_back s len bytes = sym ((unsigned_number w wide).right s len bytes).1

  pub offsets_fit : (key n : ℕ) (s : List ℕ) → AreBytes s → AllByRecursion Fits (offsets_of w key n s)
  offsets_fit key zero s bytes = tt
  offsets_fit key (suc n) s bytes =
      let b = AreBytes-take (byte_len w) (drop key s) (AreBytes-drop key s bytes) in
      (subst (λ (m : ℕ). from_le_bytes w (take (byte_len w) (drop key s)) < 2 ^ m) (sym bits-are) (wide.below (take (byte_len w) (drop key s)) b), offsets_fit key n (drop (key + byte_len w) s) (AreBytes-drop (key + byte_len w) s bytes))

  -- ---- entries with an identifier

  named_entry : (id : ℤ) (o : ℕ) (rest : List ℕ) → length (LE w32 id ++ (LE w (pos o) ++ rest)) ≡ (4 + byte_len w) + length rest
  named_entry id o rest = omega (arith, length-append (LE w32 id) (LE w (pos o) ++ rest), length-append (LE w (pos o)) rest, LE-length id, offset_len o)

  pub named_len : (ids : List ℤ) (offsets : List ℕ) → length (named_footer w ids offsets) ≡ length offsets * (4 + byte_len w)
  named_len ids [] = omega arith
  named_len [] (o ∷ os) = omega (arith, named_entry (pos 0) o (named_footer w [] os), named_len [] os, more_entries (length os) (4 + byte_len w))
  named_len (id ∷ ids) (o ∷ os) = omega (arith, named_entry id o (named_footer w ids os), named_len ids os, more_entries (length os) (4 + byte_len w))

  offset_there : (id : ℤ) (o : ℕ) (rest : List ℕ) → Fits o → from_le_bytes w (take (byte_len w) (drop 4 (LE w32 id ++ (LE w (pos o) ++ rest)))) ≡ o
  offset_there id o rest fits =
      ap (λ (l : List ℕ). from_le_bytes w (take (byte_len w) l)) (drop_at (LE w32 id) (LE w (pos o) ++ rest) 4 (LE-length id))
      ∙ ap (from_le_bytes w) (take_at (LE w (pos o)) rest (byte_len w) (offset_len o)) ∙ offset_again o fits

  rest_there : (id : ℤ) (o : ℕ) (rest : List ℕ) → drop (4 + byte_len w) (LE w32 id ++ (LE w (pos o) ++ rest)) ≡ rest
  rest_there id o rest =
      ap (drop (4 + byte_len w)) (sym (append_assoc (LE w32 id) (LE w (pos o)) rest))
      ∙ drop_at (LE w32 id ++ LE w (pos o)) rest (4 + byte_len w) (omega (arith, length-append (LE w32 id) (LE w (pos o)), LE-length id, offset_len o))

  id_there : (id : ℤ) (more : List ℕ) → FitsSigned w32 id → cast_signed w32 (from_le_bytes w32 (take 4 (LE w32 id ++ more))) ≡ id
  id_there id more fits = ap (λ (l : List ℕ). cast_signed w32 (from_le_bytes w32 l)) (take_at (LE w32 id) more 4 (LE-length id)) ∙ (signed_number w32 wide32).suffix id fits

  pub named_offsets : (ids : List ℤ) (offsets : List ℕ) → AllByRecursion Fits offsets → offsets_of w 4 (length offsets) (named_footer w ids offsets) ≡ offsets
  named_offsets ids [] fit = refl
  named_offsets [] (o ∷ os) fit = rw (offset_there (pos 0) o (named_footer w [] os) fit.0, rest_there (pos 0) o (named_footer w [] os)) (ap (λ (l : List ℕ). o ∷ l) (named_offsets [] os fit.1))
  named_offsets (id ∷ ids) (o ∷ os) fit = rw (offset_there id o (named_footer w ids os) fit.0, rest_there id o (named_footer w ids os)) (ap (λ (l : List ℕ). o ∷ l) (named_offsets ids os fit.1))

  pub named_ids : (ids : List ℤ) (offsets : List ℕ) → AllByRecursion (FitsSigned w32) ids → length ids ≡ length offsets → ids_of (4 + byte_len w) (length offsets) (named_footer w ids offsets) ≡ ids
  named_ids [] [] fit len = refl
  named_ids [] (o ∷ os) fit len = absurd (omega (arith, len))
  named_ids (id ∷ ids) [] fit len = absurd (omega (arith, len))
  named_ids (id ∷ ids) (o ∷ os) fit len =
      rw (id_there id (LE w (pos o) ++ named_footer w ids os) fit.0, rest_there id o (named_footer w ids os)) (ap (λ (l : List ℤ). id ∷ l) (named_ids ids os fit.1 (omega (arith, len))))

  pub named_back : (n : ℕ) (s : List ℕ) → AreBytes s → length s ≡ n * (4 + byte_len w) → named_footer w (ids_of (4 + byte_len w) n s) (offsets_of w 4 n s) ≡ s
  named_back zero s bytes len = sym (nil_from_length s (omega (arith, len)))
  named_back (suc n) s bytes len =
      let a = take 4 s in
      let b = take (byte_len w) (drop 4 s) in
      let c = drop (4 + byte_len w) s in
      let more = more_entries n (4 + byte_len w) in
      let len-a : length a ≡ 4 = omega (arith, length-take 4 s, len, more) in
      let len-b : length b ≡ byte_len w = omega (arith, length-take (byte_len w) (drop 4 s), length-drop 4 s, len, more) in
      let len-c : length c ≡ n * (4 + byte_len w) = omega (arith, length-drop (4 + byte_len w) s, len, more) in
      let id : LE w32 (cast_signed w32 (from_le_bytes w32 a)) ≡ a = sym ((signed_number w32 wide32).right a len-a (AreBytes-take 4 s bytes)).1 in
      let offset : LE w (pos (from_le_bytes w b)) ≡ b = offset_back b len-b (AreBytes-take (byte_len w) (drop 4 s) (AreBytes-drop 4 s bytes)) in
      let later : named_footer w (ids_of (4 + byte_len w) n c) (offsets_of w 4 n c) ≡ c = named_back n c (AreBytes-drop (4 + byte_len w) s bytes) len-c in
      let whole : a ++ (b ++ c) ≡ s =
      ap (λ (l : List ℕ). a ++ l) (ap (λ (l : List ℕ). b ++ l) (sym (drop-drop (byte_len w) 4 s)) ∙ take-append-drop (byte_len w) (drop 4 s)) ∙ take-append-drop 4 s in
      ap (λ (l : List ℕ). l ++ (LE w (pos (from_le_bytes w b)) ++ named_footer w (ids_of (4 + byte_len w) n c) (offsets_of w 4 n c))) id
      ∙ ap (λ (l : List ℕ). a ++ (l ++ named_footer w (ids_of (4 + byte_len w) n c) (offsets_of w 4 n c))) offset
      ∙ ap (λ (l : List ℕ). a ++ (b ++ l)) later ∙ whole

  -- ---- entries without

  abbrev bare : List ℕ → List ℕ
  bare offsets = flat_map (λ offset. LE w (pos offset)) offsets

  pub bare_len : (offsets : List ℕ) → length (bare offsets) ≡ length offsets * (0 + byte_len w)
  bare_len [] = omega arith
  bare_len (o ∷ os) = omega (arith, length-append (LE w (pos o)) (bare os), offset_len o, bare_len os, more_entries (length os) (0 + byte_len w))

  pub bare_offsets : (offsets : List ℕ) → AllByRecursion Fits offsets → offsets_of w 0 (length offsets) (bare offsets) ≡ offsets
  bare_offsets [] fit = refl
  bare_offsets (o ∷ os) fit =
      let first : from_le_bytes w (take (byte_len w) (LE w (pos o) ++ bare os)) ≡ o = ap (from_le_bytes w) (take_at (LE w (pos o)) (bare os) (byte_len w) (offset_len o)) ∙ offset_again o fit.0 in
      let later : drop (0 + byte_len w) (LE w (pos o) ++ bare os) ≡ bare os = drop_at (LE w (pos o)) (bare os) (0 + byte_len w) (omega (arith, offset_len o)) in
      rw (first, later) (ap (λ (l : List ℕ). o ∷ l) (bare_offsets os fit.1))

  pub bare_back : (n : ℕ) (s : List ℕ) → AreBytes s → length s ≡ n * (0 + byte_len w) → bare (offsets_of w 0 n s) ≡ s
  bare_back zero s bytes len = sym (nil_from_length s (omega (arith, len)))
  bare_back (suc n) s bytes len =
      let b = take (byte_len w) s in
      let c = drop (0 + byte_len w) s in
      let more = more_entries n (0 + byte_len w) in
      let len-b : length b ≡ byte_len w = omega (arith, length-take (byte_len w) s, len, more) in
      let len-c : length c ≡ n * (0 + byte_len w) = omega (arith, length-drop (0 + byte_len w) s, len, more) in
      let offset : LE w (pos (from_le_bytes w b)) ≡ b = offset_back b len-b (AreBytes-take (byte_len w) s bytes) in
      let later : bare (offsets_of w 0 n c) ≡ c = bare_back n c (AreBytes-drop (0 + byte_len w) s bytes) len-c in
      let zero-is : 0 + byte_len w ≡ byte_len w = omega arith in
      ap (λ (l : List ℕ). l ++ bare (offsets_of w 0 n c)) offset ∙ ap (λ (l : List ℕ). b ++ l) later ∙ ap (λ (m : ℕ). b ++ drop m s) zero-is ∙ take-append-drop (byte_len w) s

-- ---- by the flags

pub wide_by : (a b : Bool) → IsWide (cond a w8 (cond b w16 w32))
wide_by true b = wide8
wide_by false true = wide16
wide_by false false = wide32

pub bits_by : (a b : Bool) → let w = cond a w8 (cond b w16 w32) in 8 * byte_len w ≡ bits w
bits_by true b = refl
bits_by false true = refl
bits_by false false = refl

abbrev wide_of : (flags : ℕ) → IsWide (offset_type flags)
wide_of flags = wide_by (has_flag 8 flags) (has_flag 16 flags)

abbrev bits_of : (flags : ℕ) → 8 * byte_len (offset_type flags) ≡ bits (offset_type flags)
bits_of flags = bits_by (has_flag 8 flags) (has_flag 16 flags)

abbrev pub InWidth : ℕ → List ℕ → Type 0
InWidth flags offsets = AllByRecursion (λ offset. offset < 2 ^ (8 * byte_len (offset_type flags))) offsets

-- the shape that a footer of n entries tells
abbrev pub footer_shape : Header → ℕ → List ℕ → Shape
footer_shape header n footer = cond (has_flag 32 header.flags) (Compact header.schema) (Named (ids_of (entry_len header.flags) n footer))

-- what is read of a footer of n entries that is spelled for this shape
pub record FooterAgain (header : Header) (shape : Shape) (offsets : List ℕ) (n : ℕ) (footer : List ℕ) : Type 0 where
  pub len : length footer ≡ n * entry_len header.flags
  pub offsets_are : offsets_of (offset_type header.flags) (key_len header.flags) n footer ≡ offsets
  pub shape_is : footer_shape header n footer ≡ shape
  pub schema : has_flag 32 header.flags ≡ false → header.schema ≡ schema_of (ids_of (entry_len header.flags) n footer)

pub footer_again : (header : Header) (shape : Shape) (offsets : List ℕ) (n : ℕ) → length offsets ≡ n → IsShape header n shape → InWidth header.flags offsets →
    FooterAgain header shape offsets n (footer_bytes (offset_type header.flags) shape offsets)
footer_again header (Named ids) offsets n len h fit =
    let w = offset_type header.flags in
    let key : key_len header.flags ≡ 4 = rw h.0 refl in
    let same : length ids ≡ length offsets = h.3 ∙ sym len in
    let ids-are : ids_of (4 + byte_len w) n (named_footer w ids offsets) ≡ ids = subst (λ (m : ℕ). ids_of (4 + byte_len w) m (named_footer w ids offsets) ≡ ids) len (named_ids w (wide_of header.flags) (bits_of header.flags) ids offsets h.2 same) in
    let ids-key : ids_of (entry_len header.flags) n (named_footer w ids offsets) ≡ ids = rw key ids-are in
    record {
      len = rw (key, sym len) (named_len w (wide_of header.flags) (bits_of header.flags) ids offsets);
      offsets_are = rw (key, sym len) (named_offsets w (wide_of header.flags) (bits_of header.flags) ids offsets fit);
      shape_is = ap (λ (b : Bool). cond b (Compact header.schema) (Named (ids_of (entry_len header.flags) n (named_footer w ids offsets)))) h.0 ∙ ap Named ids-key;
      schema = λ e. h.1 ∙ ap schema_of (sym ids-key);
    }
footer_again header (Compact schema) offsets n len h fit =
    let w = offset_type header.flags in
    let key : key_len header.flags ≡ 0 = rw h.0 refl in
    record {
      len = rw (key, sym len) (bare_len w (wide_of header.flags) (bits_of header.flags) offsets);
      offsets_are = rw (key, sym len) (bare_offsets w (wide_of header.flags) (bits_of header.flags) offsets fit);
      shape_is = rw h.0 (ap Compact h.1);
      schema = λ e. absurd (let no = sym e ∙ h.0 in cc);
    }

-- what a footer of n entries spells
pub record FooterBack (header : Header) (n : ℕ) (footer : List ℕ) : Type 0 where
  pub is : footer_bytes (offset_type header.flags) (footer_shape header n footer) (offsets_of (offset_type header.flags) (key_len header.flags) n footer) ≡ footer
  pub shape : IsShape header n (footer_shape header n footer)
  pub fit : InWidth header.flags (offsets_of (offset_type header.flags) (key_len header.flags) n footer)

footer_back_by : (header : Header) (n : ℕ) (footer : List ℕ) (compact : Bool) → has_flag 32 header.flags ≡ compact → AreBytes footer → length footer ≡ n * entry_len header.flags →
    (has_flag 32 header.flags ≡ false → header.schema ≡ schema_of (ids_of (entry_len header.flags) n footer)) → FooterBack header n footer
footer_back_by header n footer true is bytes len schema =
    let w = offset_type header.flags in
    let key : key_len header.flags ≡ 0 = rw is refl in
    let len-is : length footer ≡ n * (0 + byte_len w) = subst (λ (k : ℕ). length footer ≡ n * (k + byte_len w)) key len in
    let shape-is : footer_shape header n footer ≡ Compact header.schema = ap (λ (b : Bool). cond b (Compact header.schema) (Named (ids_of (entry_len header.flags) n footer))) is in
    let back : footer_bytes w (Compact header.schema) (offsets_of w (key_len header.flags) n footer) ≡ footer =
    subst (λ (k : ℕ). footer_bytes w (Compact header.schema) (offsets_of w k n footer) ≡ footer) (sym key) (bare_back w (wide_of header.flags) (bits_of header.flags) n footer bytes len-is) in
    record {
      is = subst (λ (x : Shape). footer_bytes w x (offsets_of w (key_len header.flags) n footer) ≡ footer) (sym shape-is) back;
      shape = subst (IsShape header n) (sym shape-is) (is, refl);
      fit = offsets_fit w (wide_of header.flags) (bits_of header.flags) (key_len header.flags) n footer bytes;
    }
footer_back_by header n footer false is bytes len schema =
    let w = offset_type header.flags in
    let key : key_len header.flags ≡ 4 = rw is refl in
    let len-is : length footer ≡ n * (4 + byte_len w) = subst (λ (k : ℕ). length footer ≡ n * (k + byte_len w)) key len in
    let shape-is : footer_shape header n footer ≡ Named (ids_of (entry_len header.flags) n footer) = ap (λ (b : Bool). cond b (Compact header.schema) (Named (ids_of (entry_len header.flags) n footer))) is in
    let back : named_footer w (ids_of (key_len header.flags + byte_len w) n footer) (offsets_of w (key_len header.flags) n footer) ≡ footer =
    subst (λ (k : ℕ). named_footer w (ids_of (k + byte_len w) n footer) (offsets_of w k n footer) ≡ footer) (sym key) (named_back w (wide_of header.flags) (bits_of header.flags) n footer bytes len-is) in
    record {
      is = subst (λ (x : Shape). footer_bytes w x (offsets_of w (key_len header.flags) n footer) ≡ footer) (sym shape-is) back;
      shape = subst (IsShape header n) (sym shape-is) (is, schema is, ids_fit (entry_len header.flags) n footer bytes, ids_len (entry_len header.flags) n footer);
      fit = offsets_fit w (wide_of header.flags) (bits_of header.flags) (key_len header.flags) n footer bytes;
    }

pub footer_back : (header : Header) (n : ℕ) (footer : List ℕ) → AreBytes footer → length footer ≡ n * entry_len header.flags →
    (has_flag 32 header.flags ≡ false → header.schema ≡ schema_of (ids_of (entry_len header.flags) n footer)) → FooterBack header n footer
footer_back header n footer bytes len schema = footer_back_by header n footer (has_flag 32 header.flags) refl bytes len schema
