-- An object that was read: whether its bytes are its canonical form.
use Rattle.std.proofs.Common.{◌≡◌, ◌≢◌, ℕ, zero, suc, ◌+◌, ◌-◌, ◌*◌, ◌/◌, ◌%◌, ◌<◌, ◌≤◌, ◌^◌, ℤ, pos, Bool, true, false, cond, not, ◌&&◌, ltb, List, [], ◌∷◌, ◌++◌, length, map, take, drop, Option, Some, None, Ok, Err, refl, sym, ap, subst, ◌∙◌, append_assoc, arith, length-append}
use Rattle.std.specs.Prelude.{FitsSigned, IsTrue}
use Rattle.std.specs.Int.{Width, w8, w16, w32, byte_len, cast_signed}
use Rattle.std.specs.List.{flat_map}
use Rattle.std.proofs.lemmas.List.{append-nil, take_at, drop_at}
use Rattle.ig_base.specs.Numbers.{AreBytes}
use Rattle.ig_base.specs.Hashes.{BytesHash}
use Rattle.ig_base.specs.Headers.{has_flag, header_bytes, header_of}
use Rattle.ig_base.specs.declared.header.Header.{Header}
use Rattle.ig_value.specs.declared.Code.TheVariants as code
use Rattle.ig_value.specs.declared.object.Record.{Record}
use Rattle.ig_value.specs.declared.object.Shape.{Shape}
use Rattle.ig_value.specs.declared.object.Shape.TheVariants.{Named, Compact}
use Rattle.ig_value.specs.declared.Value.{Value}
use Rattle.ig_value.specs.declared.Value.TheVariants as value
use Rattle.ig_value.specs.Canon.{Canon}
use Rattle.ig_value.specs.Objects.{kept_flags, schema_of, offset_type, footer_bytes, AreLaid, places_from, last_of, narrowest, width_flag, compact_flag, canonical_schema, object_bytes}
use Rattle.ig_value.specs.Spells.{SpellsTo}
use Rattle.ig_value.proofs.FoldLemmas.{flat_map_mapped}
use Rattle.ig_value.proofs.HeaderLemmas.{header_prefix}
use Rattle.ig_value.proofs.SpelledLemmas.{spelled_least}
use Rattle.ig_value.proofs.SpelledObjectLemmas.{header_len, HeaderFits, IsHeaderInRange, header_again, hash_fits, schema_fits, CanonicalFlags, flags_by, type_by}
use Rattle.ig_decode.specs.Exactness.{KeepsExact}
use Rattle.ig_decode.specs.ObjectAnswers.{full_flags, IsCanonicalAlone, IsCanonicalHead}
use Rattle.ig_decode.proofs.ExactLemmas.{same_parts}
use Rattle.ig_decode.proofs.RowExactLemmas.{row_form}

-- ---- fields in their canonical form stand at its places

laid_long : (levels place : ℕ) (offsets s : List ℕ) (xs : List Value) → AreLaid (SpellsTo levels) place offsets s xs → length (flat_map Canon xs) ≤ length s
laid_long levels place [] s [] h = omega arith
laid_long levels place [] s (x ∷ xs) h = absurd h
laid_long levels place (offset ∷ offsets) s [] h = absurd h
laid_long levels place (offset ∷ offsets) s (x ∷ xs) h =
    omega (arith, spelled_least levels h.prefix x h.first, laid_long levels (place + length h.prefix) offsets h.suffix xs h.after, ap length h.whole, length-append h.prefix h.suffix, length-append (Canon x) (flat_map Canon xs))

pub laid_canonical : (levels place : ℕ) (offsets s : List ℕ) (xs : List Value) → AreLaid (SpellsTo levels) place offsets s xs → s ≡ flat_map Canon xs → offsets ≡ places_from place (map Canon xs)
laid_canonical levels place [] s [] h e = refl
laid_canonical levels place [] s (x ∷ xs) h e = absurd h
laid_canonical levels place (offset ∷ offsets) s [] h e = absurd h
laid_canonical levels place (offset ∷ offsets) s (x ∷ xs) h e =
    let parts = same_parts h.prefix h.suffix (Canon x) (flat_map Canon xs) (spelled_least levels h.prefix x h.first) (laid_long levels (place + length h.prefix) offsets h.suffix xs h.after) (sym h.whole ∙ e) in
    let later = laid_canonical levels (place + length h.prefix) offsets h.suffix xs h.after parts.1 in
    (λ i. h.here i ∷ later i) ∙ ap (λ (p : List ℕ). place ∷ places_from (place + length p) (map Canon xs)) parts.0

-- ---- the canonical header

-- the canonical header of an object with fields that have these bytes
abbrev full_header : ℕ → ℤ → Shape → List (List ℕ) → Header
full_header bits type shape pieces =
    let fields = flat_map (λ (b : List ℕ). b) pieces in
    let last = last_of (places_from 24 pieces) in
    record {
      version = 1;
      flags = bits + 2 + width_flag last + compact_flag shape;
      type_id = type;
      hash = cast_signed w32 (BytesHash fields);
      length = pos (24 + length fields + length (footer_bytes (narrowest last) shape (places_from 24 pieces)));
      schema = canonical_schema shape;
      schema_at = pos (24 + length fields);
    }

abbrev full_form : ℕ → ℤ → Shape → List (List ℕ) → List ℕ
full_form bits type shape pieces =
    header_bytes (full_header bits type shape pieces) ++ (flat_map (λ (b : List ℕ). b) pieces ++ footer_bytes (narrowest (last_of (places_from 24 pieces))) shape (places_from 24 pieces))

full_bytes : (bits : ℕ) (type : ℤ) (shape : Shape) (xs : List Value) → xs ≢ [] → object_bytes bits type shape (map Canon xs) ≡ full_form bits type shape (map Canon xs)
full_bytes bits type shape [] some = absurd (some refl)
full_bytes bits type shape (x ∷ xs) some = refl

some_is : {A : Type 0} (x y : A) → (let a : Option A = Some x in a) ≡ Some y → x ≡ y
some_is x y e = cc

pub compact_flag_by : (compact : Bool) (schema : ℤ) (ids : List ℤ) → compact_flag (cond compact (Compact schema) (Named ids)) ≡ cond compact 32 0
compact_flag_by true schema ids = refl
compact_flag_by false schema ids = refl

pub schema_by : (compact : Bool) (schema : ℤ) (ids : List ℤ) → (compact ≡ false → schema ≡ schema_of ids) → canonical_schema (cond compact (Compact schema) (Named ids)) ≡ schema
schema_by true schema ids right = refl
schema_by false schema ids right = sym (right refl)

-- the offsets of a header with canonical flags are the narrowest
narrow_by : (kept last : ℕ) (compact : Bool) → kept < 2 ^ 16 → kept_flags kept ≡ kept → (flags : ℕ) → flags ≡ kept + 2 + width_flag last + cond compact 32 0 → (flags < 2 ^ 16) × (offset_type flags ≡ narrowest last)
narrow_by kept last compact lt same flags is =
    let one = ltb last 256 in
    let two = ltb last 65536 in
    let c = flags_by kept lt same one two compact in
    (subst (λ (n : ℕ). n < 2 ^ 16) (sym is) c.small, ap offset_type is ∙ type_by (kept + 2 + width_flag last + cond compact 32 0) one two c.one_byte c.two_bytes)

kept_small : (flags : ℕ) → flags < 2 ^ 16 → (kept_flags flags < 2 ^ 16) × (kept_flags (kept_flags flags) ≡ kept_flags flags)
kept_small flags lt = (omega (arith, lt), omega arith)

-- ---- an object with fields

pub record IsRead (levels : ℕ) (s : List ℕ) (header : Header) (fields footer rest : List ℕ) (shape : Shape) (offsets : List ℕ) (xs : List Value) : Type 0 where
  pub begins : header_of s ≡ Some header
  pub whole : s ≡ (103 ∷ header_bytes header) ++ ((fields ++ footer) ++ rest)
  pub numbers : HeaderFits header
  pub version : header.version ≡ 1
  pub length_is : header.length ≡ pos (24 + length fields + length footer)
  pub schema_at : header.schema_at ≡ pos (24 + length fields)
  pub shape_fits : FitsSigned w32 (canonical_schema shape)
  pub schema : header.schema ≡ canonical_schema shape
  pub compact : compact_flag shape ≡ cond (has_flag 32 header.flags) 32 0
  pub foot : footer ≡ footer_bytes (offset_type header.flags) shape offsets
  pub laid : AreLaid (SpellsTo levels) 24 offsets fields xs
  pub some : xs ≢ []
  pub least : length (object_bytes (kept_flags header.flags) header.type_id shape (map Canon xs)) ≤ 23 + length fields + length footer

module _ (levels : ℕ) (s : List ℕ) (header : Header) (fields footer rest : List ℕ) (shape : Shape) (offsets : List ℕ) (xs : List Value) (r : IsRead levels s header fields footer rest shape offsets xs) where
  abbrev canonical : Header
  canonical = full_header (kept_flags header.flags) header.type_id shape (map Canon xs)

  abbrev prefix : List ℕ
  prefix = (103 ∷ header_bytes header) ++ (fields ++ footer)

  abbrev form : List ℕ
  form = 103 ∷ full_form (kept_flags header.flags) header.type_id shape (map Canon xs)

  form_is : Canon (value.Object (record { bits = kept_flags header.flags; type_id = header.type_id; shape = shape; fields = xs })) ≡ form
  form_is = row_form code.Object (record { bits = kept_flags header.flags; type_id = header.type_id; shape = shape; fields = xs }) ∙ ap (λ (l : List ℕ). 103 ∷ l) (full_bytes (kept_flags header.flags) header.type_id shape xs r.some)

  whole_is : s ≡ prefix ++ rest
  whole_is = r.whole ∙ sym (append_assoc (103 ∷ header_bytes header) (fields ++ footer) rest)

  prefix_len : length prefix ≡ 24 + length fields + length footer
  prefix_len = omega (arith, length-append (103 ∷ header_bytes header) (fields ++ footer), header_len header, length-append fields footer)

  form_len : length form ≤ length prefix
  form_len = omega (arith, r.least, ap length (full_bytes (kept_flags header.flags) header.type_id shape xs r.some), prefix_len)

  kept : (kept_flags header.flags < 2 ^ 16) × (kept_flags (kept_flags header.flags) ≡ kept_flags header.flags)
  kept = kept_small header.flags r.numbers.flags

  -- the fields are canonical: what follows of the footer
  places : fields ≡ flat_map Canon xs → offsets ≡ places_from 24 (map Canon xs)
  places e = laid_canonical levels 24 offsets fields xs r.laid e

  flat : flat_map (λ (b : List ℕ). b) (map Canon xs) ≡ flat_map Canon xs
  flat = flat_map_mapped Canon xs

  is_form : (last : ℕ) → last ≡ last_of offsets → fields ≡ flat_map Canon xs → IsCanonicalHead header last fields → prefix ≡ form
  is_form last is_last e h =
      let at = places e in
      let region : fields ≡ flat_map (λ (b : List ℕ). b) (map Canon xs) = e ∙ sym flat in
      let last_is : last ≡ last_of (places_from 24 (map Canon xs)) = is_last ∙ ap last_of at in
      let narrow = (narrow_by (kept_flags header.flags) last (has_flag 32 header.flags) kept.0 kept.1 header.flags h.0).1 in
      let foot : footer ≡ footer_bytes (narrowest (last_of (places_from 24 (map Canon xs)))) shape (places_from 24 (map Canon xs)) =
      r.foot ∙ (λ i. footer_bytes (narrow i) shape (at i)) ∙ ap (λ (n : ℕ). footer_bytes (narrowest n) shape (places_from 24 (map Canon xs))) last_is in
      let flags : header.flags ≡ canonical.flags = h.0 ∙ (λ i. kept_flags header.flags + 2 + width_flag (last_is i) + (sym r.compact) i) in
      let len : header.length ≡ canonical.length = r.length_is ∙ (λ i. pos (24 + length (region i) + length (foot i))) in
      let schema_at : header.schema_at ≡ canonical.schema_at = r.schema_at ∙ ap (λ (l : List ℕ). pos (24 + length l)) region in
      let hash : header.hash ≡ canonical.hash = h.1 ∙ ap (λ (l : List ℕ). cast_signed w32 (BytesHash l)) region in
      let same : header ≡ canonical = λ i. record { version = r.version i; flags = flags i; type_id = header.type_id; hash = hash i; length = len i; schema = r.schema i; schema_at = schema_at i } in
      λ i. (103 ∷ header_bytes (same i)) ++ (region i ++ foot i)

  form_whole_len : prefix ≡ form → 24 + length (flat_map (λ (b : List ℕ). b) (map Canon xs)) + length (footer_bytes (narrowest (last_of (places_from 24 (map Canon xs)))) shape (places_from 24 (map Canon xs))) ≡ 24 + length fields + length footer
  form_whole_len e =
      let pieces = flat_map (λ (b : List ℕ). b) (map Canon xs) in
      let foot = footer_bytes (narrowest (last_of (places_from 24 (map Canon xs)))) shape (places_from 24 (map Canon xs)) in
      omega (arith, ap length e, prefix_len, length-append (header_bytes canonical) (pieces ++ foot), header_len canonical, length-append pieces foot)

  same_header : prefix ≡ form → header ≡ canonical
  same_header e =
      let pieces = flat_map (λ (b : List ℕ). b) (map Canon xs) in
      let foot = footer_bytes (narrowest (last_of (places_from 24 (map Canon xs)))) shape (places_from 24 (map Canon xs)) in
      let whole = form_whole_len e in
      let size : FitsSigned w32 (pos (24 + length fields + length footer)) = subst (FitsSigned w32) r.length_is r.numbers.length in
      let same_flags : canonical.flags ≡ kept_flags header.flags + 2 + width_flag (last_of (places_from 24 (map Canon xs))) + cond (has_flag 32 header.flags) 32 0 = ap (λ (n : ℕ). kept_flags header.flags + 2 + width_flag (last_of (places_from 24 (map Canon xs))) + n) r.compact in
      let range : IsHeaderInRange canonical = record {
        version = omega arith;
        flags = (narrow_by (kept_flags header.flags) (last_of (places_from 24 (map Canon xs))) (has_flag 32 header.flags) kept.0 kept.1 canonical.flags same_flags).0;
        type = r.numbers.type;
        hash = hash_fits pieces;
        length = record { sfits = omega (arith, whole, size.sfits) };
        schema = r.shape_fits;
        schema_at = record { sfits = omega (arith, whole, size.sfits) };
      } in
      let again : header_of form ≡ Some canonical = header_again canonical (pieces ++ foot) range in
      let here : header_of prefix ≡ Some header = sym (header_prefix prefix rest (omega (arith, prefix_len))) ∙ ap header_of (sym whole_is) ∙ r.begins in
      some_is header canonical (sym here ∙ ap header_of e ∙ again)

  pos_is : (a b : ℕ) → pos a ≡ pos b → a ≡ b
  pos_is a b e = cc

  form_is_right : (last : ℕ) → last ≡ last_of offsets → prefix ≡ form → (fields ≡ flat_map Canon xs) × IsCanonicalHead header last fields
  form_is_right last is_last e =
      let pieces = flat_map (λ (b : List ℕ). b) (map Canon xs) in
      let foot = footer_bytes (narrowest (last_of (places_from 24 (map Canon xs)))) shape (places_from 24 (map Canon xs)) in
      let same = same_header e in
      let at_is : pos (24 + length fields) ≡ pos (24 + length pieces) = sym r.schema_at ∙ ap (λ (h : Header). h.schema_at) same in
      let len : length fields ≡ length pieces = omega (arith, pos_is (24 + length fields) (24 + length pieces) at_is) in
      let body : fields ++ footer ≡ pieces ++ foot =
      sym (drop_at (103 ∷ header_bytes header) (fields ++ footer) 24 (ap suc (header_len header))) ∙ ap (drop 24) e ∙ drop_at (103 ∷ header_bytes canonical) (pieces ++ foot) 24 (ap suc (header_len canonical)) in
      let region : fields ≡ pieces = sym (take_at fields footer (length fields) refl) ∙ ap (take (length fields)) body ∙ take_at pieces foot (length fields) (sym len) in
      let canonical_fields : fields ≡ flat_map Canon xs = region ∙ flat in
      let last_is : last ≡ last_of (places_from 24 (map Canon xs)) = is_last ∙ ap last_of (places canonical_fields) in (
        canonical_fields,
        (
          ap (λ (h : Header). h.flags) same ∙ (λ i. kept_flags header.flags + 2 + width_flag (sym last_is i) + r.compact i),
          ap (λ (h : Header). h.hash) same ∙ ap (λ (l : List ℕ). cast_signed w32 (BytesHash l)) (sym region),
        ),
      )

  nothing_after : (p : List ℕ) → fields ≡ p ++ [] → p ≡ fields
  nothing_after p e = sym (e ∙ append-nil p)

  pub object_exact : (last : ℕ) → last ≡ last_of offsets → (old mid new : Bool) → KeepsExact old mid fields (flat_map Canon xs) [] → (IsTrue new → IsTrue mid × IsCanonicalHead header last fields) → (IsTrue mid × IsCanonicalHead header last fields → IsTrue new) →
      KeepsExact old new s (Canon (value.Object (record { bits = kept_flags header.flags; type_id = header.type_id; shape = shape; fields = xs }))) rest
  object_exact last is_last old mid new k there back =
      let all = nothing_after k.prefix k.whole in
      let made : KeepsExact old new s form rest = record {
        prefix = prefix;
        whole = whole_is;
        least = form_len;
        exact = (
          λ h. let a = there h in let b = k.exact.0 a.0 in (b.0, is_form last is_last (sym all ∙ b.1) a.1),
          λ h. let a = form_is_right last is_last h.1 in back (k.exact.1 (h.0, all ∙ a.0), a.1),
        );
      } in
      subst (λ (l : List ℕ). KeepsExact old new s l rest) (sym form_is) made

-- ---- an object that is a header alone

module _ (s : List ℕ) (header : Header) (rest : List ℕ) (begins : header_of s ≡ Some header) (whole : s ≡ (103 ∷ header_bytes header) ++ rest) (numbers : HeaderFits header) (version : header.version ≡ 1) (length_is : header.length ≡ pos 24) where
  abbrev bare : Header
  bare = record { version = 1; flags = kept_flags header.flags; type_id = header.type_id; hash = cast_signed w32 (BytesHash []); length = pos 24; schema = pos 0; schema_at = pos 0 }

  bare_form : Canon (value.Object (record { bits = kept_flags header.flags; type_id = header.type_id; shape = Named []; fields = [] })) ≡ 103 ∷ header_bytes bare
  bare_form = row_form code.Object (record { bits = kept_flags header.flags; type_id = header.type_id; shape = Named []; fields = [] })

  same_bare : 103 ∷ header_bytes header ≡ 103 ∷ header_bytes bare → header ≡ bare
  same_bare e =
      let range : IsHeaderInRange bare = record {
        version = omega arith;
        flags = (kept_small header.flags numbers.flags).0;
        type = numbers.type;
        hash = hash_fits [];
        length = record { sfits = omega arith };
        schema = record { sfits = omega arith };
        schema_at = record { sfits = omega arith };
      } in
      let again : header_of ((103 ∷ header_bytes bare) ++ rest) ≡ Some bare = header_again bare rest range in
      let here : header_of ((103 ∷ header_bytes header) ++ rest) ≡ Some header = ap header_of (sym whole) ∙ begins in
      some_is header bare (sym here ∙ ap (λ (l : List ℕ). header_of (l ++ rest)) e ∙ again)

  is_bare : IsCanonicalAlone header → header ≡ bare
  is_bare h = λ i. record { version = version i; flags = h.flags i; type_id = header.type_id; hash = h.hash i; length = length_is i; schema = h.schema i; schema_at = h.schema_at i }

  bare_is : header ≡ bare → IsCanonicalAlone header
  bare_is e = record { flags = ap (λ (h : Header). h.flags) e; hash = ap (λ (h : Header). h.hash) e; schema = ap (λ (h : Header). h.schema) e; schema_at = ap (λ (h : Header). h.schema_at) e }

  pub alone_exact : (old new : Bool) → (IsTrue new → IsTrue old × IsCanonicalAlone header) → (IsTrue old × IsCanonicalAlone header → IsTrue new) → KeepsExact old new s (Canon (value.Object (record { bits = kept_flags header.flags; type_id = header.type_id; shape = Named []; fields = [] }))) rest
  alone_exact old new there back =
      let made : KeepsExact old new s (103 ∷ header_bytes bare) rest = record {
        prefix = 103 ∷ header_bytes header;
        whole = whole;
        least = omega (arith, header_len header, header_len bare);
        exact = (
          λ h. let a = there h in (a.0, ap (λ (x : Header). 103 ∷ header_bytes x) (is_bare a.1)),
          λ h. back (h.0, bare_is (same_bare h.1)),
        );
      } in
      subst (λ (l : List ℕ). KeepsExact old new s l rest) (sym bare_form) made
