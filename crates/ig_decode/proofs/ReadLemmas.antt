-- An object that was read from bytes that its layout divides, and the flag after it.
use Rattle.std.proofs.Common.{◌≡◌, ◌≢◌, ℕ, zero, suc, ◌+◌, ◌-◌, ◌*◌, ◌/◌, ◌%◌, ◌<◌, ◌≤◌, ◌^◌, ℤ, pos, Bool, true, false, cond, List, [], ◌∷◌, ◌++◌, length, map, take, drop, Option, Some, None, Ok, Err, refl, sym, ap, subst, ◌∙◌, append_assoc, arith, length-append}
use Rattle.std.specs.Prelude.{FitsSigned, IsTrue}
use Rattle.std.specs.Int.{Width, w32, byte_len}
use Rattle.std.specs.List.{flat_map}
use Rattle.std.proofs.lemmas.List.{take-append-drop, drop-drop}
use Rattle.std.proofs.lemmas.Nat.{div-add-mod'}
use Rattle.ig_base.specs.Numbers.{AreBytes}
use Rattle.ig_base.specs.Headers.{has_flag, header_bytes, header_of}
use Rattle.ig_base.specs.declared.header.Header.{Header}
use Rattle.ig_value.specs.declared.Cause.{Cause}
use Rattle.ig_value.specs.declared.Code.TheVariants as code
use Rattle.ig_value.specs.declared.object.Record.{Record}
use Rattle.ig_value.specs.declared.object.Shape.{Shape}
use Rattle.ig_value.specs.declared.object.Shape.TheVariants.{Named, Compact}
use Rattle.ig_value.specs.declared.Value.{Value}
use Rattle.ig_value.specs.declared.Value.TheVariants as value
use Rattle.ig_value.specs.Canon.{Canon}
use Rattle.ig_value.specs.Objects.{kept_flags, schema_of, offset_type, key_len, entry_len, offsets_of, ids_of, footer_bytes, canonical_schema, compact_flag, object_bytes, object_ids, checks, first_wrong, refusal}
use Rattle.ig_value.specs.Spells.{SpellsTo}
use Rattle.ig_value.specs.Stops.{StopsTo}
use Rattle.ig_value.specs.Reading.{Read, mapped_read, object_at, value_at}
use Rattle.ig_value.proofs.AgreesLemmas.{AreBytes-take, AreBytes-drop, AreBytes-suffix}
use Rattle.ig_value.proofs.FooterLemmas.{footer_back, offsets_len}
use Rattle.ig_value.proofs.HeaderLemmas.{right_from}
use Rattle.ig_value.proofs.LaidLemmas.{turned_ok, laid_takes}
use Rattle.ig_value.proofs.SpelledLemmas.{spelled_least}
use Rattle.ig_value.proofs.SpelledObjectLemmas.{header_fits, schema_fits, laid_count}
use Rattle.ig_value.proofs.ValueLemmas.{value_agrees}
use Rattle.ig_decode.specs.declared.layout.Layout.{Layout}
use Rattle.ig_decode.specs.declared.fault.ReadError.{ReadError}
use Rattle.ig_decode.specs.declared.fault.ReadError.TheVariants as error
use Rattle.ig_decode.specs.ReaderAnswers.{Fails, MayBeFollowed}
use Rattle.ig_decode.specs.Exactness.{KeepsExact}
use Rattle.ig_decode.specs.FooterForms.{offsets_type, key_bytes, entry_bytes, footer_offsets, last_offset}
use Rattle.ig_decode.specs.FieldsAnswers.{fields_reading}
use Rattle.ig_decode.specs.ObjectAnswers.{footer_ids, IsLayout, IsCanonicalAlone, IsCanonicalHead}
use Rattle.ig_decode.proofs.ObjectExactLemmas.{IsRead, compact_flag_by, schema_by, object_exact, alone_exact}
use Rattle.ig_decode.proofs.PartsLemmas.{key_is, entry_is, fields_len, footer_len, whole_len, object_read}
use Rattle.ig_decode.proofs.RowExactLemmas.{row_form}

-- ---- faults of fields

-- a fault leaves no more bytes than there are
pub field_left : (levels : ℕ) (a b : Bool) (fields form rest : List ℕ) → KeepsExact a b fields form rest → AreBytes fields → (left : ℕ) (c : Cause) → value_at levels rest ≡ Err (left, c) → left ≤ length fields
field_left levels a b fields form rest k bytes left c e =
    let h = (value_agrees levels).halts rest left c (AreBytes-suffix fields k.prefix rest k.whole bytes) e in
    omega (arith, h.there, ap length k.whole, length-append k.prefix rest)

pub may_follow : (e : ReadError) (levels : ℕ) (rest : List ℕ) (bound more : ℕ) → Fails e (value_at levels rest) → ((left : ℕ) (c : Cause) → value_at levels rest ≡ Err (left, c) → left ≤ bound) → bound + more < 2 ^ 64 → MayBeFollowed more e
may_follow error.NoMemory levels rest bound more fails within small = tt
may_follow (error.Fault left c) levels rest bound more fails within small = omega (arith, within left c fails, small)

-- ---- objects

pub same_record : (o : Record Value) (bits bits' : ℕ) (type type' : ℤ) (shape : Shape) (fields : List Value) → o ≡ record { bits = bits; type_id = type; shape = shape; fields = fields } → bits ≡ bits' → type ≡ type' → o ≡ record { bits = bits'; type_id = type'; shape = shape; fields = fields }
same_record o bits bits' type type' shape fields is a b = is ∙ (λ i. record { bits = a i; type_id = b i; shape = shape; fields = fields })

-- the bytes of an object, from its code on
header_first : (s : List ℕ) (header : Header) → s ≡ 103 ∷ drop 1 s → header_bytes header ≡ take 23 (drop 1 s) → s ≡ (103 ∷ header_bytes header) ++ drop 24 s
header_first s header starts spelled =
    starts ∙ ap (λ (l : List ℕ). 103 ∷ l) (sym (take-append-drop 23 (drop 1 s)) ∙ ap (λ (l : List ℕ). take 23 (drop 1 s) ++ l) (drop-drop 23 1 s) ∙ ap (λ (l : List ℕ). l ++ drop 24 s) (sym spelled))

shape_number : (compact : Bool) (schema : ℤ) (ids : List ℤ) → FitsSigned w32 schema → FitsSigned w32 (canonical_schema (cond compact (Compact schema) (Named ids)))
shape_number true schema ids fits = fits
shape_number false schema ids fits = schema_fits ids

not_nil : (n : ℕ) (xs : List Value) → 0 < n → n ≡ length xs → xs ≢ []
not_nil n xs lt same nil = omega (arith, lt, same, ap length nil)

some_entries : (n e : ℕ) (m : ℕ) → n * e ≡ m → 0 < m → 0 < n
some_entries zero e m is lt = let nothing : 0 * e ≡ 0 = omega arith in absurd (omega (arith, nothing, is, lt))
some_entries (suc n) e m is lt = omega arith

-- the value that an object is
object_value : (levels : ℕ) (s : List ℕ) (v : Value) (rest : List ℕ) → s ≡ 103 ∷ drop 1 s → mapped_read value.Object (object_at (value_at levels) s) ≡ Ok (v, rest) → value_at (suc levels) s ≡ Ok (v, rest)
object_value levels s v rest starts e =
    let one : value_at (suc levels) (103 ∷ drop 1 s) ≡ mapped_read value.Object (object_at (value_at levels) (103 ∷ drop 1 s)) = refl in
    ap (value_at (suc levels)) starts ∙ one ∙ ap (λ (l : List ℕ). mapped_read value.Object (object_at (value_at levels) l)) (sym starts) ∙ e

least_value : (levels : ℕ) (s : List ℕ) (v : Value) (rest : List ℕ) → AreBytes s → s ≡ 103 ∷ drop 1 s → mapped_read value.Object (object_at (value_at levels) s) ≡ Ok (v, rest) → length (Canon v) + length rest ≤ length s
least_value levels s v rest bytes starts e =
    let t = (value_agrees (suc levels)).takes s v rest bytes (object_value levels s v rest starts e) in
    omega (arith, spelled_least (suc levels) t.prefix v t.right, ap length t.whole, length-append t.prefix rest)

module _ (levels : ℕ) (s : List ℕ) (header : Header) (l : Layout) (begins : header_of s ≡ Some header) (lay : IsLayout header (length s) l)
    (fields footer rest : List ℕ) (fields-are : fields ≡ take (l.schema_at - 24) (drop 24 s)) (footer-is : footer ≡ take (l.length - l.schema_at) (drop l.schema_at s)) (rest-is : rest ≡ drop l.length s)
    (bytes : AreBytes s) (starts : s ≡ 103 ∷ drop 1 s) (spelled : header_bytes header ≡ take 23 (drop 1 s)) (right : refusal header s ≡ None)
    (shape : Shape) (shape-is : shape ≡ cond l.form.compact (Compact header.schema) (Named (footer_ids l.form footer))) (schema-is : l.form.compact ≡ false → header.schema ≡ schema_of (footer_ids l.form footer))
    (xs : List Value) (read : fields_reading (value_at levels) l.form fields footer (length rest) ≡ Ok xs) where
  abbrev count : ℕ
  count = length footer / entry_bytes l.form

  in_parts : drop 24 s ≡ (fields ++ footer) ++ rest
  in_parts =
      let later : drop (l.schema_at - 24) (drop 24 s) ≡ drop l.schema_at s = drop-drop (l.schema_at - 24) 24 s ∙ ap (λ (n : ℕ). drop n s) (let n : 24 + (l.schema_at - 24) ≡ l.schema_at = omega (arith, lay.some) in n) in
      let last : drop (l.length - l.schema_at) (drop l.schema_at s) ≡ rest = drop-drop (l.length - l.schema_at) l.schema_at s ∙ ap (λ (n : ℕ). drop n s) (let n : l.schema_at + (l.length - l.schema_at) ≡ l.length = omega (arith, lay.more) in n) ∙ sym rest-is in
      let foot : drop l.schema_at s ≡ footer ++ rest = sym (take-append-drop (l.length - l.schema_at) (drop l.schema_at s)) ∙ (λ i. sym footer-is i ++ last i) in
      sym (take-append-drop (l.schema_at - 24) (drop 24 s)) ∙ (λ i. sym fields-are i ++ (later ∙ foot) i) ∙ sym (append_assoc fields footer rest)

  whole : s ≡ (103 ∷ header_bytes header) ++ ((fields ++ footer) ++ rest)
  whole = header_first s header starts spelled ∙ ap (λ (t : List ℕ). (103 ∷ header_bytes header) ++ t) in_parts

  foot_len : length footer ≡ l.length - l.schema_at
  foot_len = footer_len s header l begins lay fields footer rest fields-are footer-is rest-is

  body_len : length fields ≡ l.schema_at - 24
  body_len = fields_len s header l begins lay fields footer rest fields-are footer-is rest-is

  entry : entry_len header.flags ≡ entry_bytes l.form
  entry = entry_is s header l begins lay fields footer rest fields-are footer-is rest-is

  key : key_len header.flags ≡ key_bytes l.form
  key = key_is s header l begins lay fields footer rest fields-are footer-is rest-is

  even : count * entry_bytes l.form ≡ length footer
  even =
      let none : length footer % entry_bytes l.form ≡ 0 = ap (λ (n : ℕ). n % entry_bytes l.form) foot_len ∙ lay.even in
      omega (arith, none, div-add-mod' (length footer) (entry_bytes l.form))

  AreBytes-footer : AreBytes footer
  AreBytes-footer = subst AreBytes (sym footer-is) (AreBytes-take (l.length - l.schema_at) (drop l.schema_at s) (AreBytes-drop l.schema_at s bytes))

  AreBytes-fields : AreBytes fields
  AreBytes-fields = subst AreBytes (sym fields-are) (AreBytes-take (l.schema_at - 24) (drop 24 s) (AreBytes-drop 24 s bytes))

  named_schema : has_flag 32 header.flags ≡ false → header.schema ≡ schema_of (ids_of (entry_len header.flags) count footer)
  named_schema named = schema-is (lay.form.0 ∙ named) ∙ ap (λ (e : ℕ). schema_of (ids_of e count footer)) (sym entry)

  foot_is : footer ≡ footer_bytes (offset_type header.flags) shape (footer_offsets l.form footer)
  foot_is =
      let back = footer_back header count footer AreBytes-footer (sym (ap (λ (e : ℕ). count * e) entry ∙ even)) named_schema in
      sym back.is
      ∙ (λ i. footer_bytes (offset_type header.flags) (cond (sym lay.form.0 i) (Compact header.schema) (Named (ids_of (entry i) count footer))) (offsets_of (sym lay.form.1 i) (key i) count footer))
      ∙ ap (λ (x : Shape). footer_bytes (offset_type header.flags) x (footer_offsets l.form footer)) (sym shape-is)

  pub object_is_read : mapped_read value.Object (object_at (value_at levels) s) ≡ Ok (value.Object (record { bits = kept_flags header.flags; type_id = header.type_id; shape = shape; fields = xs }), rest)
  object_is_read = object_read s header l begins lay fields footer rest fields-are footer-is rest-is right (value_at levels) xs read shape shape-is

  is_read : IsRead levels s header fields footer rest shape (footer_offsets l.form footer) xs
  unfolding refusal
  is_read =
      let numbers = header_fits s header bytes begins in
      let v = value.Object (record { bits = kept_flags header.flags; type_id = header.type_id; shape = shape; fields = xs }) in
      let least = least_value levels s v rest bytes starts object_is_read in
      let form = row_form code.Object (record { bits = kept_flags header.flags; type_id = header.type_id; shape = shape; fields = xs }) in
      let all = whole_len s header l begins lay fields footer rest fields-are footer-is rest-is in
      let laid = laid_takes (SpellsTo levels) (StopsTo levels) (value_at levels) (value_agrees levels) (footer_offsets l.form footer) (entry_bytes l.form) (24 + length fields + key_bytes l.form) (24 + length fields) 24 fields xs AreBytes-fields refl (turned_ok (24 + length fields + length footer + length rest) _ xs read) in
      record {
        begins = begins;
        whole = whole;
        numbers = numbers;
        version = (right_from header (length s) (object_ids header s) right).version;
        length_is = lay.length ∙ ap pos (let n : l.length ≡ 24 + length fields + length footer = omega (arith, body_len, foot_len, lay.some, lay.more) in n);
        schema_at = lay.schema_at ∙ ap pos (let n : l.schema_at ≡ 24 + length fields = omega (arith, body_len, lay.some) in n);
        shape_fits = subst (λ (x : Shape). FitsSigned w32 (canonical_schema x)) (sym shape-is) (shape_number l.form.compact header.schema (footer_ids l.form footer) numbers.schema);
        schema = sym (ap canonical_schema shape-is ∙ schema_by l.form.compact header.schema (footer_ids l.form footer) schema-is);
        compact = ap compact_flag shape-is ∙ compact_flag_by l.form.compact header.schema (footer_ids l.form footer) ∙ ap (λ (b : Bool). cond b 32 0) lay.form.0;
        foot = foot_is;
        laid = laid;
        some = not_nil count xs (some_entries count (entry_bytes l.form) (length footer) even (omega (arith, foot_len, lay.more)))
            (sym (offsets_len (offsets_type l.form) (key_bytes l.form) count footer) ∙ laid_count (SpellsTo levels) 24 (footer_offsets l.form footer) fields xs laid);
        least = omega (arith, least, ap length form, all);
      }

  pub object_kept : (last : ℕ) → last ≡ last_offset l.form footer → (old mid new : Bool) → KeepsExact old mid fields (flat_map Canon xs) [] → (IsTrue new → IsTrue mid × IsCanonicalHead header last fields) → (IsTrue mid × IsCanonicalHead header last fields → IsTrue new) →
      KeepsExact old new s (Canon (value.Object (record { bits = kept_flags header.flags; type_id = header.type_id; shape = shape; fields = xs }))) rest
  object_kept last is old mid new k there back = object_exact levels s header fields footer rest shape (footer_offsets l.form footer) xs is_read last is old mid new k there back

pub alone_kept : (s : List ℕ) (header : Header) (rest : List ℕ) → header_of s ≡ Some header → AreBytes s → s ≡ 103 ∷ drop 1 s → header_bytes header ≡ take 23 (drop 1 s) → rest ≡ drop 24 s → header.length ≡ pos 24 → ((ids : List ℤ) → first_wrong (checks header (length s) ids) ≡ None) → (old new : Bool) →
    (IsTrue new → IsTrue old × IsCanonicalAlone header) → (IsTrue old × IsCanonicalAlone header → IsTrue new) → KeepsExact old new s (Canon (value.Object (record { bits = kept_flags header.flags; type_id = header.type_id; shape = Named []; fields = [] }))) rest
alone_kept s header rest begins bytes starts spelled rest-is len right old new there back =
    let whole = header_first s header starts spelled ∙ ap (λ (t : List ℕ). (103 ∷ header_bytes header) ++ t) (sym rest-is) in
    alone_exact s header rest begins whole (header_fits s header bytes begins) (right_from header (length s) [] (right [])).version len old new there back
