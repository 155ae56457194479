-- Objects are read as they are spelled, where a field is, and stop where they stop.
use Rattle.std.proofs.Common.{◌≡◌, ◌≢◌, ℕ, zero, suc, ◌+◌, ◌-◌, ◌*◌, ◌/◌, ◌%◌, ◌<◌, ◌≤◌, ℤ, pos, Bool, true, false, cond, List, [], ◌∷◌, ◌++◌, length, take, drop, Option, Some, None, Result, Ok, Err, ltb, refl, sym, ap, subst, ◌∙◌, append_assoc, arith, inl, inr, length-append}
use Rattle.std.specs.Int.{w8, w16, w32, byte_len}
use Rattle.std.proofs.lemmas.Bool.{lt-ltb, le-ltb, ltb-true, ltb-false}
use Rattle.std.proofs.lemmas.List.{take_at, drop_at, take-append-drop, length-take, length-drop, length-take-le, drop-drop, take-take, drop-take}
use Rattle.std.proofs.lemmas.Nat.{div-add-mod', div-mul-add}
use Rattle.std.proofs.Math.Nat.{mul-mod_left}
use Rattle.ig_base.specs.Numbers.{AreBytes}
use Rattle.ig_base.specs.Headers.{has_flag, header_of}
use Rattle.ig_base.specs.declared.header.Header.{Header}
use Rattle.ig_value.specs.declared.cause.Cause.{Cause}
use Rattle.ig_value.specs.declared.cause.Cause.TheVariants as cause
use Rattle.ig_value.specs.declared.object.Record.{Record}
use Rattle.ig_value.specs.declared.object.Shape.{Shape}
use Rattle.ig_value.specs.declared.object.Shape.TheVariants.{Named}
use Rattle.ig_value.specs.Objects.{kept_flags, offset_type, key_len, entry_len, schema_of, size_of, footer_bytes, IsHeaderOf, HasNoFields, HasFields, AreLaid, IsObject, IsShape, offsets_of, ids_of, fields_of, footer_of, entry_count, object_offsets, object_ids, object_shape, refusal, first_offset, StopsLaid, StopsHeaded}
use Rattle.ig_value.specs.Reading.{Fault, Read, ◌>>=◌, turned, laid_at, object_with, fields_at, alone, checked_at, headed_at, object_at}
use Rattle.ig_value.proofs.AgreesLemmas.{Agrees, Takes, Halts, Halted, AreBytes-take, AreBytes-drop, bind_ok, bind_err, ok_is, err_is}
use Rattle.ig_value.proofs.LaidLemmas.{turned_ok, turned_err, more_entries, laid_takes, laid_again, laid_halts, laid_halted}
use Rattle.ig_value.proofs.FooterLemmas.{footer_shape, footer_again, footer_back, offsets_len}
use Rattle.ig_value.proofs.HeaderLemmas.{IsRight, IsFullRight, right_from, none_from, refused_within, size_pos, header_there, header_prefix}

-- ---- lists in parts

three_parts : (s : List ℕ) (a b c : ℕ) → a ≤ b → b ≤ c → take c s ≡ take a s ++ (take (b - a) (drop a s) ++ take (c - b) (drop b s))
three_parts s a b c ab bc =
    let first : take a s ++ drop a (take c s) ≡ take c s = ap (λ (l : List ℕ). l ++ drop a (take c s)) (sym (take-take a c s (omega (arith, ab, bc)))) ∙ take-append-drop a (take c s) in
    let rest-is : drop a (take c s) ≡ take (c - a) (drop a s) = ap (λ (n : ℕ). drop a (take n s)) (let n : c ≡ a + (c - a) = omega (arith, ab, bc) in n) ∙ drop-take a (c - a) s in
    let mid : take (b - a) (take (c - a) (drop a s)) ++ drop (b - a) (take (c - a) (drop a s)) ≡ take (c - a) (drop a s) = take-append-drop (b - a) (take (c - a) (drop a s)) in
    let mid-first : take (b - a) (take (c - a) (drop a s)) ≡ take (b - a) (drop a s) = take-take (b - a) (c - a) (drop a s) (omega (arith, ab, bc)) in
    let mid-rest : drop (b - a) (take (c - a) (drop a s)) ≡ take (c - b) (drop b s) =
    ap (λ (n : ℕ). drop (b - a) (take n (drop a s))) (let n : c - a ≡ (b - a) + (c - b) = omega (arith, ab, bc) in n) ∙ drop-take (b - a) (c - b) (drop a s)
    ∙ ap (take (c - b)) (drop-drop (b - a) a s ∙ ap (λ (n : ℕ). drop n s) (let n : a + (b - a) ≡ b = omega (arith, ab) in n)) in
    sym first ∙ ap (λ (l : List ℕ). take a s ++ l) (rest-is ∙ sym mid ∙ ap (λ (l : List ℕ). l ++ drop (b - a) (take (c - a) (drop a s))) mid-first ∙ ap (λ (l : List ℕ). take (b - a) (drop a s) ++ l) mid-rest)

-- the second of three parts, and the third
second_part : (a b c : List ℕ) (n m : ℕ) → length a ≡ n → length b ≡ m → take m (drop n (a ++ (b ++ c))) ≡ b
second_part a b c n m p q = ap (take m) (drop_at a (b ++ c) n p) ∙ take_at b c m q

third_part : (a b c d : List ℕ) (n m : ℕ) → length a + length b ≡ n → length c ≡ m → take m (drop n (a ++ (b ++ (c ++ d)))) ≡ c
third_part a b c d n m p q =
    ap (λ (l : List ℕ). take m (drop n l)) (sym (append_assoc a b (c ++ d)))
    ∙ ap (take m) (drop_at (a ++ b) (c ++ d) n (omega (arith, p, length-append a b))) ∙ take_at c d m q

-- ---- entries

some_byte : (a b : Bool) → 0 < byte_len (cond a w8 (cond b w16 w32))
some_byte true b = omega arith
some_byte false true = omega arith
some_byte false false = omega arith

entry_some : (flags : ℕ) → 0 < entry_len flags
entry_some flags = let b = some_byte (has_flag 8 flags) (has_flag 16 flags) in omega (arith, b)

div_entries : (n e : ℕ) → 0 < e → (n * e) / e ≡ n
div_entries n e lt = ap (λ (m : ℕ). m / e) (let m : n * e ≡ n * e + 0 = omega arith in m) ∙ div-mul-add n e 0 lt

some_entries : (n e : ℕ) → 0 < n → 0 < e → 0 < n * e
some_entries zero e a b = absurd (omega (arith, a))
some_entries (suc n) e a b = omega (arith, b, more_entries n e)

no_entries : (n e : ℕ) → n ≡ 0 → n * e ≡ 0
no_entries n e is = rw is (omega arith)

same_object : {X : Type 0} (o : Record X) (bits : ℕ) (type : ℤ) (shape : Shape) (fields : List X) → o.bits ≡ bits → o.type_id ≡ type → o.shape ≡ shape → o.fields ≡ fields →
    record { bits = bits; type_id = type; shape = shape; fields = fields } ≡ o
same_object {X} o bits type shape fields a b c d =
    let back : o ≡ record { bits = bits; type_id = type; shape = shape; fields = fields } = λ i. record { bits = a i; type_id = b i; shape = c i; fields = d i } in sym back

-- ---- objects

module _ {X : Type 0} (P : List ℕ → X → Type 0) (W : List ℕ → ℕ → Cause → Type 0) (R : List ℕ → Read X) (p : Agrees P W R) (some : (s : List ℕ) (x : X) → P s x → 0 < length s) where
  abbrev Wrong : List ℕ → ℕ → Cause → Type 0
  Wrong s at c = StopsHeaded P W (header_of s) s at c

  laid_len : (place : ℕ) (offsets s : List ℕ) (xs : List X) → AreLaid P place offsets s xs → length offsets ≡ length xs
  laid_len place [] s [] h = refl
  laid_len place [] s (x ∷ xs) h = absurd h
  laid_len place (offset ∷ offsets) s [] h = absurd h
  laid_len place (offset ∷ offsets) s (x ∷ xs) h = ap suc (laid_len (place + length h.prefix) offsets h.suffix xs h.after)

  laid_some : (place : ℕ) (offsets s : List ℕ) (xs : List X) → xs ≢ [] → AreLaid P place offsets s xs → 0 < length s
  laid_some place offsets s [] more h = absurd (more refl)
  laid_some place [] s (x ∷ xs) more h = absurd h
  laid_some place (offset ∷ offsets) s (x ∷ xs) more h = omega (arith, some h.prefix x h.first, ap length h.whole, length-append h.prefix h.suffix)

  not_nil : (n : ℕ) (xs : List X) → 0 < n → n ≡ length xs → xs ≢ []
  not_nil n xs lt same nil = omega (arith, lt, same, ap length nil)

  some_items : (xs : List X) → xs ≢ [] → 0 < length xs
  some_items [] more = absurd (more refl)
  some_items (x ∷ xs) more = omega arith

  -- ---- what is read is spelled

  abbrev whole_of : Header → List ℕ → List ℕ
  whole_of header s = take (size_of header.length) s

  whole_len : (header : Header) (s : List ℕ) → IsRight header (length s) (object_ids header s) → length (whole_of header s) ≡ size_of header.length
  whole_len header s r = length-take-le (size_of header.length) s r.inside

  whole_header : (header : Header) (s : List ℕ) → header_of s ≡ Some header → IsRight header (length s) (object_ids header s) → header_of (whole_of header s) ≡ Some header
  whole_header header s e r =
      sym (header_prefix (whole_of header s) (drop (size_of header.length) s) (omega (arith, whole_len header s r, r.long)))
      ∙ ap header_of (take-append-drop (size_of header.length) s) ∙ e

  says : (header : Header) (s : List ℕ) (o : Record X) → IsRight header (length s) (object_ids header s) → o.bits ≡ kept_flags header.flags → o.type_id ≡ header.type_id → IsHeaderOf header (length (whole_of header s)) o
  says header s o r bits type = record {
    version = r.version;
    no_raw_data = r.no_raw_data;
    one_width = r.one_width;
    bits = bits;
    type = type;
    registered = λ zero-is. r.registered (sym type ∙ zero-is);
    size = size_pos header.length (omega (arith, r.long)) ∙ ap pos (sym (whole_len header s r));
  }

  alone_takes : (header : Header) (s : List ℕ) → AreBytes s → header_of s ≡ Some header → IsRight header (length s) (object_ids header s) → size_of header.length ≤ 24 → Takes (IsObject P) s (alone header) (drop 24 s)
  alone_takes header s bytes e r le =
      let is : size_of header.length ≡ 24 = omega (arith, r.long, le) in
      let right : IsObject P (whole_of header s) (alone header) = record {
        header = header;
        begins = whole_header header s e r;
        bytes = AreBytes-take 24 (whole_of header s) (AreBytes-take (size_of header.length) s bytes);
        says = says header s (alone header) r refl refl;
        fields = inl (record { alone = whole_len header s r ∙ is; shape = refl; none = refl });
      } in
      record { prefix = whole_of header s; whole = sym (take-append-drop (size_of header.length) s) ∙ ap (λ (n : ℕ). whole_of header s ++ drop n s) is; right = right }

  has_fields : (header : Header) (s : List ℕ) (xs : List X) → AreBytes s → IsRight header (length s) (object_ids header s) → 24 < size_of header.length →
      laid_at R (entry_len header.flags) (first_offset header) (size_of header.schema_at) (object_offsets header s) (fields_of header s) ≡ Ok xs → HasFields P header (whole_of header s) (object_with header s xs)
  has_fields header s xs bytes r lt e =
      let full = r.full lt in
      let L = size_of header.length in
      let A = size_of header.schema_at in
      let n = entry_count header in
      let size = entry_len header.flags in
      let len-fields : length (fields_of header s) ≡ A - 24 = omega (arith, length-take (A - 24) (drop 24 s), length-drop 24 s, r.inside, full.before, full.after) in
      let len-footer : length (footer_of header s) ≡ L - A = omega (arith, length-take (L - A) (drop A s), length-drop A s, r.inside, full.before) in
      let count : n * size ≡ L - A = omega (arith, div-add-mod' (L - A) size, full.even) in
      let b = footer_back header n (footer_of header s) (AreBytes-take (L - A) (drop A s) (AreBytes-drop A s bytes)) (len-footer ∙ sym count) full.schema in
      let laid = laid_takes P W R p (object_offsets header s) size (first_offset header) A 24 (fields_of header s) xs (AreBytes-take (A - 24) (drop 24 s) (AreBytes-drop 24 s bytes)) (omega (arith, len-fields, full.after)) e in
      let items : n ≡ length xs = sym (offsets_len (offset_type header.flags) (key_len header.flags) n (footer_of header s)) ∙ laid_len 24 (object_offsets header s) (fields_of header s) xs laid in
      record {
        head = take 24 s;
        fields = fields_of header s;
        offsets = object_offsets header s;
        whole = three_parts s 24 A L (omega (arith, full.after)) (omega (arith, full.before)) ∙ ap (λ (l : List ℕ). take 24 s ++ (fields_of header s ++ l)) (sym b.is);
        head_len = length-take-le 24 s (omega (arith, r.inside, r.long));
        some = λ nil. let none : n * size ≡ 0 = no_entries n size (items ∙ ap length nil) in omega (arith, none, count, full.before);
        has_schema = full.has_schema;
        schema_at = size_pos header.schema_at (omega (arith, full.after)) ∙ ap pos (let n : A ≡ 24 + length (fields_of header s) = omega (arith, len-fields, full.after) in n);
        shape = subst (λ (m : ℕ). IsShape header m (object_shape header s)) items b.shape;
        in_width = b.fit;
        laid = laid;
      }

  fields_takes : (header : Header) (s : List ℕ) (o : Record X) (rest : List ℕ) → AreBytes s → header_of s ≡ Some header → IsRight header (length s) (object_ids header s) → 24 < size_of header.length → fields_at R header s ≡ Ok (o, rest) →
      Takes (IsObject P) s o rest
  fields_takes header s o rest bytes e r lt is =
      let read = laid_at R (entry_len header.flags) (first_offset header) (size_of header.schema_at) (object_offsets header s) (fields_of header s) in
      let a = bind_ok (turned (length s) read) (λ xs. Ok (object_with header s xs, drop (size_of header.length) s)) (o, rest) is in
      let made : Record X × List ℕ = (object_with header s a.0, drop (size_of header.length) s) in
      let right : IsObject P (whole_of header s) (object_with header s a.0) = record {
        header = header;
        begins = whole_header header s e r;
        bytes = AreBytes-take 24 (whole_of header s) (AreBytes-take (size_of header.length) s bytes);
        says = says header s (object_with header s a.0) r refl refl;
        fields = inr (has_fields header s a.0 bytes r lt (turned_ok (length s) read a.0 a.1));
      } in
      let all : Takes (IsObject P) s made.0 made.1 = record { prefix = whole_of header s; whole = sym (take-append-drop (size_of header.length) s); right = right } in
      subst (λ (z : Record X × List ℕ). Takes (IsObject P) s z.0 z.1) (ok_is made (o, rest) a.2) all

  right_takes : (header : Header) (s : List ℕ) (o : Record X) (rest : List ℕ) (full : Bool) → ltb 24 (size_of header.length) ≡ full → AreBytes s → header_of s ≡ Some header → IsRight header (length s) (object_ids header s) →
      cond full (fields_at R header s) (Ok (alone header, drop 24 s)) ≡ Ok (o, rest) → Takes (IsObject P) s o rest
  right_takes header s o rest true lt bytes e r is = fields_takes header s o rest bytes e r (ltb-true 24 (size_of header.length) lt) is
  right_takes header s o rest false lt bytes e r is =
      let made : Record X × List ℕ = (alone header, drop 24 s) in
      subst (λ (z : Record X × List ℕ). Takes (IsObject P) s z.0 z.1) (ok_is made (o, rest) is) (alone_takes header s bytes e r (ltb-false 24 (size_of header.length) lt))

  checked_takes : (header : Header) (s : List ℕ) (o : Record X) (rest : List ℕ) (wrong : Option Fault) → refusal header s ≡ wrong → AreBytes s → header_of s ≡ Some header → checked_at R header s wrong ≡ Ok (o, rest) → Takes (IsObject P) s o rest
  unfolding refusal
  checked_takes header s o rest (Some fault) none bytes e is = absurd cc
  checked_takes header s o rest None none bytes e is =
      right_takes header s o rest (ltb 24 (size_of header.length)) refl bytes e (right_from header (length s) (object_ids header s) none) is

  headed_takes : (s : List ℕ) (o : Record X) (rest : List ℕ) (header : Option Header) → header_of s ≡ header → AreBytes s → headed_at R s header ≡ Ok (o, rest) → Takes (IsObject P) s o rest
  headed_takes s o rest None e bytes is = absurd cc
  headed_takes s o rest (Some header) e bytes is = checked_takes header s o rest (refusal header s) refl bytes e is

  -- ---- what is spelled is read

  spelled_header : (s : List ℕ) (o : Record X) (rest : List ℕ) (h : IsObject P s o) → header_of (s ++ rest) ≡ Some h.header
  spelled_header s o rest h = header_prefix s rest (header_there s h.header h.begins) ∙ h.begins

  spelled_size : (s : List ℕ) (o : Record X) (h : IsObject P s o) → size_of h.header.length ≡ length s
  spelled_size s o h = ap size_of h.says.size

  spelled_right : (s : List ℕ) (o : Record X) (rest : List ℕ) (h : IsObject P s o) (ids : List ℤ) → (24 < size_of h.header.length → IsFullRight h.header ids) → IsRight h.header (length (s ++ rest)) ids
  spelled_right s o rest h ids full = record {
    version = h.says.version;
    no_raw_data = h.says.no_raw_data;
    one_width = h.says.one_width;
    registered = λ zero-is. h.says.registered (h.says.type ∙ zero-is);
    long = omega (arith, spelled_size s o h, header_there s h.header h.begins);
    inside = omega (arith, spelled_size s o h, length-append s rest);
    full = full;
  }

  -- where no check fails
  read_right : (s : List ℕ) (o : Record X) (rest : List ℕ) (h : IsObject P s o) → refusal h.header (s ++ rest) ≡ None →
      object_at R (s ++ rest) ≡ cond (ltb 24 (size_of h.header.length)) (fields_at R h.header (s ++ rest)) (Ok (alone h.header, drop 24 (s ++ rest)))
  unfolding object_at
  read_right s o rest h none = ap (headed_at R (s ++ rest)) (spelled_header s o rest h) ∙ ap (checked_at R h.header (s ++ rest)) none

  refusal_none : (header : Header) (s : List ℕ) → IsRight header (length s) (object_ids header s) → refusal header s ≡ None
  unfolding refusal
  refusal_none header s r = none_from header (length s) (object_ids header s) r

  alone_again : (s : List ℕ) (o : Record X) (rest : List ℕ) (h : IsObject P s o) → HasNoFields (length s) o → object_at R (s ++ rest) ≡ Ok (o, rest)
  alone_again s o rest h none =
      let size = spelled_size s o h in
      let right = spelled_right s o rest h (object_ids h.header (s ++ rest)) (λ lt. absurd (omega (arith, lt, size, none.alone))) in
      let is = read_right s o rest h (refusal_none h.header (s ++ rest) right) in
      let same : alone h.header ≡ o = same_object o (kept_flags h.header.flags) h.header.type_id (Named []) [] h.says.bits h.says.type none.shape none.none in
      is ∙ rw (le-ltb 24 (size_of h.header.length) (omega (arith, size, none.alone)), drop_at s rest 24 none.alone, same) refl

  fields_again : (s : List ℕ) (o : Record X) (rest : List ℕ) (h : IsObject P s o) → HasFields P h.header s o → object_at R (s ++ rest) ≡ Ok (o, rest)
  fields_again s o rest h f =
      let header = h.header in
      let w = offset_type header.flags in
      let L = size_of header.length in
      let A = size_of header.schema_at in
      let n = length o.fields in
      let e = entry_len header.flags in
      let footer = footer_bytes w o.shape f.offsets in
      let size = spelled_size s o h in
      let at : A ≡ 24 + length f.fields = ap size_of f.schema_at in
      let len-s : length s ≡ 24 + (length f.fields + length footer) = omega (arith, ap length f.whole, length-append f.head (f.fields ++ footer), length-append f.fields footer, f.head_len) in
      let len-offsets : length f.offsets ≡ n = laid_len 24 f.offsets f.fields o.fields f.laid in
      let a = footer_again header o.shape f.offsets n len-offsets f.shape f.in_width in
      let whole-is : s ++ rest ≡ f.head ++ (f.fields ++ (footer ++ rest)) =
      ap (λ (l : List ℕ). l ++ rest) f.whole ∙ append_assoc f.head (f.fields ++ footer) rest ∙ ap (λ (l : List ℕ). f.head ++ l) (append_assoc f.fields footer rest) in
      let fields-are : fields_of header (s ++ rest) ≡ f.fields = ap (fields_of header) whole-is ∙ second_part f.head f.fields (footer ++ rest) 24 (A - 24) f.head_len (omega (arith, at)) in
      let footer-is : footer_of header (s ++ rest) ≡ footer = ap (footer_of header) whole-is ∙ third_part f.head f.fields footer rest A (L - A) (omega (arith, at, f.head_len)) (omega (arith, at, size, len-s)) in
      let size-is : L - A ≡ n * e = omega (arith, at, size, len-s, a.len) in
      let count : entry_count header ≡ n = ap (λ (m : ℕ). m / e) size-is ∙ div_entries n e (entry_some header.flags) in
      let ids-are : object_ids header (s ++ rest) ≡ ids_of e n footer = ap (λ (m : ℕ). ids_of e m (footer_of header (s ++ rest))) count ∙ ap (ids_of e n) footer-is in
      let offsets-are : object_offsets header (s ++ rest) ≡ f.offsets =
      ap (λ (m : ℕ). offsets_of w (key_len header.flags) m (footer_of header (s ++ rest))) count ∙ ap (offsets_of w (key_len header.flags) n) footer-is ∙ a.offsets_are in
      let shape-is : object_shape header (s ++ rest) ≡ o.shape =
      ap (λ (m : ℕ). footer_shape header m (footer_of header (s ++ rest))) count ∙ ap (footer_shape header n) footer-is ∙ a.shape_is in
      let entries : 0 < n * e = some_entries n e (some_items o.fields f.some) (entry_some header.flags) in
      let some-fields = laid_some 24 f.offsets f.fields o.fields f.some f.laid in
      let lt : 24 < L = omega (arith, size, len-s, some-fields) in
      let full : IsFullRight header (object_ids header (s ++ rest)) = record {
        has_schema = f.has_schema;
        after = omega (arith, at, some-fields);
        before = omega (arith, size-is, entries);
        even = ap (λ (m : ℕ). m % e) size-is ∙ mul-mod_left n e;
        schema = λ named. a.schema named ∙ ap schema_of (sym ids-are);
      } in
      let right = spelled_right s o rest h (object_ids header (s ++ rest)) (λ more. full) in
      let is = read_right s o rest h (refusal_none header (s ++ rest) right) in
      let laid : laid_at R e (first_offset header) A f.offsets f.fields ≡ Ok o.fields = laid_again P W R p f.offsets e (first_offset header) A 24 f.fields o.fields f.laid (sym at) in
      let read : laid_at R e (first_offset header) A (object_offsets header (s ++ rest)) (fields_of header (s ++ rest)) ≡ Ok o.fields =
      ap (λ (l : List ℕ). laid_at R e (first_offset header) A l (fields_of header (s ++ rest))) offsets-are ∙ ap (laid_at R e (first_offset header) A f.offsets) fields-are ∙ laid in
      let made : fields_at R header (s ++ rest) ≡ Ok (object_with header (s ++ rest) o.fields, drop L (s ++ rest)) =
      ap (λ (r : Result (List X) Fault). turned (length (s ++ rest)) r >>= λ xs. Ok (object_with header (s ++ rest) xs, drop L (s ++ rest))) read in
      let same : object_with header (s ++ rest) o.fields ≡ o = same_object o (kept_flags header.flags) header.type_id (object_shape header (s ++ rest)) o.fields h.says.bits h.says.type (sym shape-is) refl in
      let rest-is : drop L (s ++ rest) ≡ rest = drop_at s rest L (sym size) in
      is ∙ ap (λ (b : Bool). cond b (fields_at R header (s ++ rest)) (Ok (alone header, drop 24 (s ++ rest)))) (lt-ltb 24 L lt) ∙ made
      ∙ ap (λ (x : Record X). Ok (x, drop L (s ++ rest))) same ∙ ap (λ (l : List ℕ). Ok (o, l)) rest-is

  object_again : (s : List ℕ) (o : Record X) (rest : List ℕ) → IsObject P s o → object_at R (s ++ rest) ≡ Ok (o, rest)
  object_again s o rest h =
      elim h.fields [
        | inl none ↦ alone_again s o rest h none
        | inr f ↦ fields_again s o rest h f
      ]

  -- ---- where reading stops, the bytes stop

  -- the end of the footer's entries, for the place of each
  entries_end : (header : Header) (s : List ℕ) → IsRight header (length s) (object_ids header s) → 24 < size_of header.length →
      first_offset header + length (object_offsets header s) * entry_len header.flags ≤ length s + entry_len header.flags
  entries_end header s r lt =
      let full = r.full lt in
      let L = size_of header.length in
      let A = size_of header.schema_at in
      let count : entry_count header * entry_len header.flags ≡ L - A = omega (arith, div-add-mod' (L - A) (entry_len header.flags), full.even) in
      let n = offsets_len (offset_type header.flags) (key_len header.flags) (entry_count header) (footer_of header s) in
      let same : length (object_offsets header s) * entry_len header.flags ≡ L - A = ap (λ (m : ℕ). m * entry_len header.flags) n ∙ count in
      omega (arith, same, full.before, r.inside)

  -- what is read of fields that stop
  fields_stop : (header : Header) (s : List ℕ) (at : ℕ) (c : Cause) → IsRight header (length s) (object_ids header s) → 24 < size_of header.length →
      StopsLaid P W (entry_len header.flags) (first_offset header) 24 (object_offsets header s) (fields_of header s) at c →
      (laid_at R (entry_len header.flags) (first_offset header) (size_of header.schema_at) (object_offsets header s) (fields_of header s) ≡ Err (at, c)) × (at ≤ length s)
  fields_stop header s at c r lt w =
      let full = r.full lt in
      let L = size_of header.length in
      let A = size_of header.schema_at in
      let len-fields : length (fields_of header s) ≡ A - 24 = omega (arith, length-take (A - 24) (drop 24 s), length-drop 24 s, r.inside, full.before, full.after) in
      laid_halted P W R p (object_offsets header s) (entry_len header.flags) (first_offset header) A (length s) 24 (fields_of header s) at c
      (omega (arith, len-fields, full.after)) (omega (arith, full.before, r.inside)) (omega (arith, r.long, r.inside)) (entries_end header s r lt) w

  fields_halts : (header : Header) (s : List ℕ) (left : ℕ) (c : Cause) → AreBytes s → refusal header s ≡ None → IsRight header (length s) (object_ids header s) → 24 < size_of header.length → fields_at R header s ≡ Err (left, c) →
      Halts (λ l at why. StopsHeaded P W (Some header) l at why) s left c
  fields_halts header s left c bytes none r lt e =
      let full = r.full lt in
      let A = size_of header.schema_at in
      let read = laid_at R (entry_len header.flags) (first_offset header) A (object_offsets header s) (fields_of header s) in
      elim (bind_err (turned (length s) read) (λ xs. Ok (object_with header s xs, drop (size_of header.length) s)) (left, c) e) [
        | inl first ↦
            let t = turned_err (length s) read (left, c) first in
            let len-fields : length (fields_of header s) ≡ A - 24 = omega (arith, length-take (A - 24) (drop 24 s), length-drop 24 s, r.inside, full.before, full.after) in
            let w = laid_halts P W R p (object_offsets header s) (entry_len header.flags) (first_offset header) A 24 (fields_of header s) t.0 c (AreBytes-take (A - 24) (drop 24 s) (AreBytes-drop 24 s bytes)) (omega (arith, len-fields, full.after)) t.1 in
            let le = (fields_stop header s t.0 c r lt w).1 in
            record { at = t.0; there = omega (arith, t.2, le); wrong = inr (record { right = none; full = lt; wrong = w }) }
        | inr a ↦ absurd (let no = a.2 in cc)
      ]

  right_halts : (header : Header) (s : List ℕ) (left : ℕ) (c : Cause) (full : Bool) → ltb 24 (size_of header.length) ≡ full → AreBytes s → refusal header s ≡ None → IsRight header (length s) (object_ids header s) →
      cond full (fields_at R header s) (Ok (alone header, drop 24 s)) ≡ Err (left, c) → Halts (λ l at why. StopsHeaded P W (Some header) l at why) s left c
  right_halts header s left c true lt bytes none r e = fields_halts header s left c bytes none r (ltb-true 24 (size_of header.length) lt) e
  right_halts header s left c false lt bytes none r e = absurd cc

  refused_le : (header : Header) (s : List ℕ) (at : ℕ) (c : Cause) → header_of s ≡ Some header → refusal header s ≡ Some (at, c) → at ≤ length s
  unfolding refusal
  refused_le header s at c e is = omega (arith, refused_within header (length s) (object_ids header s) at c is, header_there s header e)

  checked_halts : (header : Header) (s : List ℕ) (left : ℕ) (c : Cause) (wrong : Option Fault) → refusal header s ≡ wrong → AreBytes s → header_of s ≡ Some header → checked_at R header s wrong ≡ Err (left, c) →
      Halts (λ l at why. StopsHeaded P W (Some header) l at why) s left c
  unfolding refusal
  checked_halts header s left c (Some fault) is bytes e er =
      let f = err_is {A = Record X × List ℕ} (length s - fault.0, fault.1) (left, c) er in
      let le = refused_le header s fault.0 fault.1 e is in
      record { at = fault.0; there = omega (arith, ap (λ (z : Fault). z.0) f, le); wrong = inl (is ∙ ap (λ (z : Fault). Some (fault.0, z.1)) f) }
  checked_halts header s left c None is bytes e er =
      right_halts header s left c (ltb 24 (size_of header.length)) refl bytes is (right_from header (length s) (object_ids header s) is) er

  headed_halts : (s : List ℕ) (left : ℕ) (c : Cause) (header : Option Header) → header_of s ≡ header → AreBytes s → headed_at R s header ≡ Err (left, c) → Halts (λ l at why. StopsHeaded P W header l at why) s left c
  headed_halts s left c None e bytes er =
      let f = err_is {A = Record X × List ℕ} (length s, cause.Short) (left, c) er in
      record { at = 0; there = omega (arith, ap (λ (z : Fault). z.0) f); wrong = (refl, sym (ap (λ (z : Fault). z.1) f)) }
  headed_halts s left c (Some header) e bytes er = checked_halts header s left c (refusal header s) refl bytes e er

  -- ---- and the other way round

  headed_halted : (s : List ℕ) (at : ℕ) (c : Cause) (header : Option Header) → header_of s ≡ header → StopsHeaded P W header s at c → Halted (λ l. headed_at R l header) s at c
  unfolding refusal
  headed_halted s at c None e w = record { left = length s; there = omega (arith, w.0); is = rw w.1 refl }
  headed_halted s at c (Some header) e (inl w) =
      let le = refused_le header s at c e w in
      record { left = length s - at; there = omega (arith, le); is = ap (checked_at R header s) w }
  headed_halted s at c (Some header) e (inr w) =
      let r = right_from header (length s) (object_ids header s) w.right in
      let f = fields_stop header s at c r w.full w.wrong in
      let read : fields_at R header s ≡ Err (length s - at, c) =
      ap (λ (x : Result (List X) Fault). turned (length s) x >>= λ xs. Ok (object_with header s xs, drop (size_of header.length) s)) f.0 in
      record {
        left = length s - at;
        there = omega (arith, f.1);
        is = ap (checked_at R header s) w.right ∙ ap (λ (b : Bool). cond b (fields_at R header s) (Ok (alone header, drop 24 s))) (lt-ltb 24 (size_of header.length) w.full) ∙ read;
      }

  pub object_agrees : Agrees (IsObject P) Wrong (object_at R)
  unfolding object_at
  object_agrees = record {
    takes = λ s o rest bytes e. headed_takes s o rest (header_of s) refl bytes e;
    again = object_again;
    halts = λ s left c bytes e. let h = headed_halts s left c (header_of s) refl bytes e in record { at = h.at; there = h.there; wrong = h.wrong };
    halted = λ s at c w. let h = headed_halted s at c (header_of s) refl w in record { left = h.left; there = h.there; is = h.is };
  }
