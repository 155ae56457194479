-- An object whose bytes are divided: what reading it gives.
use Rattle.std.proofs.Common.{◌≡◌, ◌≢◌, ℕ, suc, ◌+◌, ◌-◌, ◌*◌, ◌/◌, ◌%◌, ◌<◌, ◌≤◌, ℤ, pos, Bool, true, false, cond, not, ◌&&◌, ltb, List, [], ◌∷◌, ◌++◌, length, take, drop, Option, Some, None, Result, Ok, Err, refl, sym, ap, subst, ◌∙◌, arith, length-drop}
use Rattle.std.specs.Int.{Width, byte_len}
use Rattle.std.specs.Ordering.{int_eq}
use Rattle.std.proofs.lemmas.Bool.{lt-ltb}
use Rattle.std.proofs.lemmas.List.{length-take-le}
use Rattle.ig_base.specs.Headers.{has_flag, header_of}
use Rattle.ig_base.specs.declared.header.Header.{Header}
use Rattle.ig_base.specs.declared.header.Footer.{Footer}
use Rattle.ig_value.specs.declared.Cause.{Cause}
use Rattle.ig_value.specs.declared.Cause.TheVariants as cause
use Rattle.ig_value.specs.declared.object.Record.{Record}
use Rattle.ig_value.specs.declared.object.Shape.{Shape}
use Rattle.ig_value.specs.declared.object.Shape.TheVariants.{Named, Compact}
use Rattle.ig_value.specs.declared.Value.{Value}
use Rattle.ig_value.specs.declared.Value.TheVariants as value
use Rattle.ig_value.specs.Objects.{kept_flags, size_of, schema_of, offset_type, key_len, entry_len, first_offset, offsets_of, ids_of, checks, first_wrong, entry_count, object_ids, object_offsets, object_shape, refusal}
use Rattle.ig_value.specs.Objects as objects
use Rattle.ig_value.specs.Reading.{Fault, Read, ◌>>=◌, turned, laid_at, mapped_read, object_with, alone, headed_at, checked_at, fields_at, object_at}
use Rattle.ig_value.proofs.HeaderLemmas.{int_same_back, int_other_by}
use Rattle.ig_decode.specs.declared.fault.ReadError.{ReadError}
use Rattle.ig_decode.specs.declared.fault.ReadError.TheVariants as error
use Rattle.ig_decode.specs.declared.layout.Layout.{Layout}
use Rattle.ig_decode.specs.FooterForms.{offsets_type, key_bytes, entry_bytes, footer_offsets}
use Rattle.ig_decode.specs.FieldsAnswers.{fields_reading}
use Rattle.ig_decode.specs.ObjectAnswers.{head_checks, footer_checks, footer_ids, IsLayout, IsShapeIn}
use Rattle.ig_decode.specs.ReaderAnswers.{Fails}
use Rattle.ig_decode.proofs.ObjectAtLemmas.{schema_check, schema_left, checks_wrong}

-- ---- the check of the schema

schema_by : (header : Header) (ids : List ℤ) (compact : Bool) → has_flag 32 header.flags ≡ compact → (compact ≡ false → header.schema ≡ schema_of ids) → (not compact && not (int_eq header.schema (schema_of ids))) ≡ false
schema_by header ids true is right = refl
schema_by header ids false is right = ap not (int_same_back header.schema (schema_of ids) (right refl))

pub schema_right : (header : Header) (n : ℕ) (ids : List ℤ) (compact : Bool) → has_flag 32 header.flags ≡ compact → (compact ≡ false → header.schema ≡ schema_of ids) → 24 < size_of header.length → first_wrong (schema_check header n ids) ≡ None
schema_right header n ids compact is right full =
    let test : (not (has_flag 32 header.flags) && not (int_eq header.schema (schema_of ids))) ≡ false = ap (λ (b : Bool). not b && not (int_eq header.schema (schema_of ids))) is ∙ schema_by header ids compact is right in
    let both : (ltb 24 (size_of header.length) && (not (has_flag 32 header.flags) && not (int_eq header.schema (schema_of ids)))) ≡ false = ap (λ (b : Bool). b && (not (has_flag 32 header.flags) && not (int_eq header.schema (schema_of ids)))) (lt-ltb 24 (size_of header.length) full) ∙ test in
    ap (λ (b : Bool). cond b (let some : Option (ℕ × Cause) = Some (16, cause.Footer) in some) None) both

pub schema_wrong : (header : Header) (n : ℕ) (ids : List ℤ) → has_flag 32 header.flags ≡ false → header.schema ≢ schema_of ids → 24 < size_of header.length → first_wrong (schema_check header n ids) ≡ Some (16, cause.Footer)
schema_wrong header n ids named other full =
    let test : (not (has_flag 32 header.flags) && not (int_eq header.schema (schema_of ids))) ≡ true =
    ap (λ (b : Bool). not b && not (int_eq header.schema (schema_of ids))) named ∙ ap not (int_other_by header.schema (schema_of ids) (int_eq header.schema (schema_of ids)) refl other) in
    let both : (ltb 24 (size_of header.length) && (not (has_flag 32 header.flags) && not (int_eq header.schema (schema_of ids)))) ≡ true = ap (λ (b : Bool). b && (not (has_flag 32 header.flags) && not (int_eq header.schema (schema_of ids)))) (lt-ltb 24 (size_of header.length) full) ∙ test in
    ap (λ (b : Bool). cond b (let some : Option (ℕ × Cause) = Some (16, cause.Footer) in some) None) both

-- ---- a header alone

pub alone_read : (s : List ℕ) (header : Header) (inner : List ℕ → Read Value) → header_of s ≡ Some header → header.length ≡ pos 24 → ((ids : List ℤ) → first_wrong (checks header (length s) ids) ≡ None) → object_at inner s ≡ Ok (alone header, drop 24 s)
unfolding object_at refusal
alone_read s header inner e len right =
    ap (headed_at inner s) e ∙ ap (checked_at inner header s) (right (object_ids header s))
    ∙ ap (λ (z : ℤ). cond (ltb 24 (size_of z)) (fields_at inner header s) (Ok (alone header, drop 24 s))) len

-- ---- an object with fields, divided by its layout

module _ (s : List ℕ) (header : Header) (l : Layout) (begins : header_of s ≡ Some header) (lay : IsLayout header (length s) l)
    (fields footer rest : List ℕ) (fields-are : fields ≡ take (l.schema_at - 24) (drop 24 s)) (footer-is : footer ≡ take (l.length - l.schema_at) (drop l.schema_at s)) (rest-is : rest ≡ drop l.length s) where
  pub size_is : size_of header.length ≡ l.length
  size_is = ap size_of lay.length

  pub schema_is : size_of header.schema_at ≡ l.schema_at
  schema_is = ap size_of lay.schema_at

  pub full : 24 < size_of header.length
  full = omega (arith, size_is, lay.some, lay.more)

  pub key_is : key_len header.flags ≡ key_bytes l.form
  key_is = ap (λ (b : Bool). cond b 0 4) (sym lay.form.0)

  pub entry_is : entry_len header.flags ≡ entry_bytes l.form
  entry_is = omega (arith, key_is, ap byte_len lay.form.1)

  pub fields_len : length fields ≡ l.schema_at - 24
  fields_len = ap length fields-are ∙ length-take-le (l.schema_at - 24) (drop 24 s) (omega (arith, length-drop 24 s, lay.some, lay.more, lay.within))

  pub footer_len : length footer ≡ l.length - l.schema_at
  footer_len = ap length footer-is ∙ length-take-le (l.length - l.schema_at) (drop l.schema_at s) (omega (arith, length-drop l.schema_at s, lay.some, lay.more, lay.within))

  pub rest_len : length rest ≡ length s - l.length
  rest_len = ap length rest-is ∙ length-drop l.length s

  pub whole_len : 24 + length fields + length footer + length rest ≡ length s
  whole_len = omega (arith, fields_len, footer_len, rest_len, lay.some, lay.more, lay.within)

  pub same_fields : objects.fields_of header s ≡ fields
  same_fields = ap (λ (n : ℕ). take (n - 24) (drop 24 s)) schema_is ∙ sym fields-are

  pub same_footer : objects.footer_of header s ≡ footer
  same_footer = (λ i. take (size_is i - schema_is i) (drop (schema_is i) s)) ∙ sym footer-is

  pub same_count : entry_count header ≡ length footer / entry_bytes l.form
  same_count = (λ i. (size_is i - schema_is i) / entry_is i) ∙ ap (λ (n : ℕ). n / entry_bytes l.form) (sym footer_len)

  pub same_offsets : object_offsets header s ≡ footer_offsets l.form footer
  same_offsets = λ i. offsets_of (sym lay.form.1 i) (key_is i) (same_count i) (same_footer i)

  pub same_ids : object_ids header s ≡ footer_ids l.form footer
  same_ids = λ i. ids_of (entry_is i) (same_count i) (same_footer i)

  pub same_shape : object_shape header s ≡ cond l.form.compact (Compact header.schema) (Named (footer_ids l.form footer))
  same_shape = λ i. cond (sym lay.form.0 i) (Compact header.schema) (Named (same_ids i))

  same_place : first_offset header ≡ 24 + length fields + key_bytes l.form
  same_place = omega (arith, schema_is, key_is, fields_len, lay.some)

  same_end : size_of header.schema_at ≡ 24 + length fields
  same_end = omega (arith, schema_is, fields_len, lay.some)

  same_reading : (inner : List ℕ → Read Value) → turned (length s) (laid_at inner (entry_len header.flags) (first_offset header) (size_of header.schema_at) (object_offsets header s) (objects.fields_of header s)) ≡ fields_reading inner l.form fields footer (length rest)
  same_reading inner = λ i. turned (sym whole_len i) (laid_at inner (entry_is i) (same_place i) (same_end i) (same_offsets i) (same_fields i))

  right_by : first_wrong (schema_check header (length s) (footer_ids l.form footer)) ≡ None → refusal header s ≡ None
  unfolding refusal
  right_by right = schema_left header (length s) (object_ids header s) lay.head lay.foot ∙ ap (λ (ids : List ℤ). first_wrong (schema_check header (length s) ids)) same_ids ∙ right

  pub shape_right : (l.form.compact ≡ false → header.schema ≡ schema_of (footer_ids l.form footer)) → refusal header s ≡ None
  shape_right right = right_by (schema_right header (length s) (footer_ids l.form footer) l.form.compact (sym lay.form.0) right full)

  pub shape_wrong : l.form.compact ≡ false → header.schema ≢ schema_of (footer_ids l.form footer) → (inner : List ℕ → Read Value) → object_at inner s ≡ Err (length s - 16, cause.Footer)
  shape_wrong named other inner =
      checks_wrong s header 16 cause.Footer begins
      (schema_left header (length s) (object_ids header s) lay.head lay.foot ∙ ap (λ (ids : List ℤ). first_wrong (schema_check header (length s) ids)) same_ids ∙ schema_wrong header (length s) (footer_ids l.form footer) (sym lay.form.0 ∙ named) other full) inner

  -- the object is read as its fields are
  pub fields_read : refusal header s ≡ None → (inner : List ℕ → Read Value) → object_at inner s ≡ (fields_reading inner l.form fields footer (length rest) >>= λ xs. Ok (object_with header s xs, rest))
  unfolding object_at
  fields_read right inner =
      let after : drop (size_of header.length) s ≡ rest = ap (λ (n : ℕ). drop n s) size_is ∙ sym rest-is in
      ap (headed_at inner s) begins ∙ ap (checked_at inner header s) right
      ∙ ap (λ (b : Bool). cond b (fields_at inner header s) (Ok (alone header, drop 24 s))) (lt-ltb 24 (size_of header.length) full)
      ∙ (λ i. same_reading inner i >>= λ xs. Ok (object_with header s xs, after i))

  pub object_read : refusal header s ≡ None → (inner : List ℕ → Read Value) (xs : List Value) → fields_reading inner l.form fields footer (length rest) ≡ Ok xs → (shape : Shape) → shape ≡ cond l.form.compact (Compact header.schema) (Named (footer_ids l.form footer)) →
      mapped_read value.Object (object_at inner s) ≡ Ok (value.Object (record { bits = kept_flags header.flags; type_id = header.type_id; shape = shape; fields = xs }), rest)
  object_read right inner xs read shape is =
      let same : object_shape header s ≡ shape = same_shape ∙ sym is in
      ap (mapped_read value.Object) (fields_read right inner ∙ ap (λ (r : Result (List Value) Fault). r >>= λ ys. Ok (object_with header s ys, rest)) read)
      ∙ (λ i. Ok (value.Object (record { bits = kept_flags header.flags; type_id = header.type_id; shape = same i; fields = xs }), rest))

  pub object_fails : refusal header s ≡ None → (inner : List ℕ → Read Value) (e : ReadError) → Fails e (fields_reading inner l.form fields footer (length rest)) → Fails e (mapped_read value.Object (object_at inner s))
  object_fails right inner error.NoMemory read = tt
  object_fails right inner (error.Fault left c) read = ap (mapped_read value.Object) (fields_read right inner ∙ ap (λ (r : Result (List Value) Fault). r >>= λ ys. Ok (object_with header s ys, rest)) read)
