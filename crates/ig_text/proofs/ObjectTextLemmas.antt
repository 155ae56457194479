-- Lists, and objects, are read as they are written, where what is inside them is.
use Rattle.std.proofs.Common.{◌≡◌, ℕ, zero, suc, ◌+◌, ◌<◌, ◌^◌, ℤ, pos, negsuc, Bool, true, false, cond, ◌&&◌, List, [], ◌∷◌, ◌++◌, length, map, codes, Option, Some, None, Ok, Err, eqb, ltb, eq-eqb, refl, sym, ap, subst, ◌∙◌, append_assoc, arith, inl, inr, get_or, drop}
use Rattle.std.specs.Fmt.{decimal as decimal_digits}
use Rattle.std.specs.Int.{w32}
use Rattle.std.specs.List.{AllByRecursion}
use Rattle.std.proofs.lemmas.Bool.{cases_Bool, and_parts, and_from, ltb-true, lt-ltb, eqb-true, cond-true, cond-false, false_from_ne_true}
use Rattle.std.proofs.lemmas.List.{length-map}
use Rattle.ig_value.specs.declared.object.Record.{Record}
use Rattle.ig_value.specs.declared.object.Shape.{Shape}
use Rattle.ig_value.specs.declared.object.Shape.TheVariants.{Named, Compact}
use Rattle.ig_value.specs.Limits.{IfThere, IsLimitedShape, IsLimitedHead, IsLimitedObject}
use Rattle.ig_value.specs.Objects.{kept_flags}
use Rattle.ig_value.specs.Part.{i32, u16}
use Rattle.ig_value.specs.Spells.{IsInRange}
use Rattle.ig_text.specs.Tokens.{colon, comma, equals, close_bracket, open_brace, close_brace, scalar_text, until_text, items_text}
use Rattle.ig_text.specs.TextOf.{head_text, entries, entry_text, shape_text, object_text, optional_text}
use Rattle.ig_text.specs.TextLaws.{Ends, AreItems}
use Rattle.ig_text.specs.ReadText.{Read, ◌>>=◌, mapped_read, checked_read, begins_with, joined_at, natural_at, scalar_at, is_countable, items_at, any_at, optional_at, bits_at, is_type, type_at, head_at, entry_at, named_object, named_at, compact_object, fields_at, compact_at}
use Rattle.ig_text.proofs.ReadsLemmas.{Takes, Reads, Refuses, RefusesNone, Anything, Closes, bind_ok, done, ok_is, with_end, viewed_reads, checked_reads, joined_reads, any_reads}
use Rattle.ig_text.proofs.NumberLemmas.{natural_reads}
use Rattle.ig_text.proofs.TokenLemmas.{begun, begins, scalar_reads}
use Rattle.ig_text.proofs.RefusalLemmas.{Begins, letter_n, brace, scalar_begins, joined_begins}

-- ---- lists that an Int32 counts

pub items_reads : {A : Type 0} (Fits : A → Type 0) (T : A → List ℕ) (R : List ℕ → Read A) (close : ℕ) → Closes close → Reads Fits T Ends R → Refuses R close → RefusesNone R → Reads (AreItems Fits) (items_text close T) Ends (items_at R close)
items_reads Fits T R close c p refuses none =
    with_end (AreItems Fits) (items_text close T) (items_at R close)
    (checked_reads is_countable length (AllByRecursion Fits) (AreItems Fits) (items_text close T) Anything (any_at R close)
    (λ xs test fits. (ltb-true (length xs) (2 ^ 31) test, fits)) (λ xs fits. (lt-ltb (length xs) (2 ^ 31) fits.0, fits.1)) (any_reads Fits T R close c p refuses none))

pub closes_bracket : Closes close_bracket
closes_bracket = record { ends = refl; apart = λ e. absurd (omega (arith, e)) }

pub closes_brace : Closes close_brace
closes_brace = record { ends = refl; apart = λ e. absurd (omega (arith, e)) }

-- ---- null, or a part

optional_case : {A : Type 0} (Fits : A → Type 0) (T : A → List ℕ) (R : List ℕ → Read A) → Reads Fits T Ends R → (s : List ℕ) (o : Option A) (rest : List ℕ) (b : Bool) → begins_with (codes "null") s ≡ b →
    optional_at R s ≡ Ok (o, rest) → Takes (IfThere Fits) (optional_text T) s o rest
optional_case {A} Fits T R p s o rest true is e =
    let made : Option A × List ℕ = (None, drop 4 s) in
    let read : optional_at R s ≡ done made = cond-true (begins_with (codes "null") s) (done made) (mapped_read Some (R s)) is in
    let all : Takes (IfThere Fits) (optional_text T) s made.0 made.1 = record { fits = tt; whole = begun (codes "null") s is } in
    subst (λ (z : Option A × List ℕ). Takes (IfThere Fits) (optional_text T) s z.0 z.1) (ok_is made (o, rest) (sym read ∙ e)) all
optional_case {A} Fits T R p s o rest false is e =
    let none : Option A × List ℕ = (None, drop 4 s) in
    let read : optional_at R s ≡ mapped_read Some (R s) = cond-false (begins_with (codes "null") s) (done none) (mapped_read Some (R s)) is in
    let a = bind_ok (R s) (λ x. Ok (Some x.0, x.1)) (o, rest) (sym read ∙ e) in
    let t = p.takes s a.0.0 a.0.1 a.1 in
    let made : Option A × List ℕ = (Some a.0.0, a.0.1) in
    let all : Takes (IfThere Fits) (optional_text T) s made.0 made.1 = record { fits = t.fits; whole = t.whole } in
    subst (λ (z : Option A × List ℕ). Takes (IfThere Fits) (optional_text T) s z.0 z.1) (ok_is made (o, rest) a.2) all

optional_again : {A : Type 0} (Fits : A → Type 0) (T : A → List ℕ) (R : List ℕ → Read A) → Reads Fits T Ends R → Begins R → (o : Option A) (rest : List ℕ) → IfThere Fits o → Ends rest →
    optional_at R (optional_text T o ++ rest) ≡ Ok (o, rest)
optional_again Fits T R p q None rest fits ends = refl
optional_again {A} Fits T R p q (Some x) rest fits ends =
    let s : List ℕ = T x ++ rest in
    let one : R s ≡ Ok (x, rest) = p.again x rest fits ends in
    let no_null : begins_with (codes "null") s ≡ false =
    false_from_ne_true (begins_with (codes "null") s) (λ e.
    let whole : s ≡ 110 ∷ drop 1 (codes "null" ++ drop 4 s) = begun (codes "null") s e in
    q.refuses letter_n (drop 1 (codes "null" ++ drop 4 s)) (x, rest) (subst (λ (l : List ℕ). R l ≡ Ok (x, rest)) whole one)) in
    let none : Option A × List ℕ = (None, drop 4 s) in
    cond-false (begins_with (codes "null") s) (done none) (mapped_read Some (R s)) no_null ∙ ap (mapped_read Some) one

pub optional_reads : {A : Type 0} (Fits : A → Type 0) (T : A → List ℕ) (R : List ℕ → Read A) → Reads Fits T Ends R → Begins R → Reads (IfThere Fits) (optional_text T) Ends (optional_at R)
optional_reads Fits T R p q = record {
  takes = λ s o rest e. optional_case Fits T R p s o rest (begins_with (codes "null") s) refl e;
  again = optional_again Fits T R p q;
}

-- ---- the head of an object

abbrev AreBits : ℕ → Type 0
AreBits n = IsInRange u16 n × (kept_flags n ≡ n)

abbrev IsTypeId : ℤ → Type 0
IsTypeId z = IsInRange i32 z × (z ≡ pos 0 → ⊥)

bits_reads : Reads AreBits decimal_digits Ends bits_at
bits_reads =
    checked_reads (λ n. ltb n (2 ^ 16) && eqb (kept_flags n) n) length (λ n. n < 10 ^ 19) AreBits decimal_digits Ends natural_at
    (λ n test fits. let p = and_parts (ltb n (2 ^ 16)) (eqb (kept_flags n) n) test in (ltb-true n (2 ^ 16) p.0, eqb-true (kept_flags n) n p.1))
    (λ n fits. (and_from (ltb n (2 ^ 16)) (eqb (kept_flags n) n) (lt-ltb n (2 ^ 16) fits.0) (eq-eqb (kept_flags n) n fits.1), omega (arith, fits.0))) natural_reads

abbrev is_zero : ℤ → Bool
is_zero (pos zero) = true
is_zero (pos (suc n)) = false
is_zero (negsuc n) = false

type_no_zero : (z : ℤ) → is_type z ≡ true → z ≡ pos 0 → ⊥
type_no_zero z test e = let one : is_type (pos 0) ≡ true = subst (λ (y : ℤ). is_type y ≡ true) e test in cc

type_tests : (z : ℤ) → (z ≡ pos 0 → ⊥) → is_type z ≡ true
type_tests (pos zero) ne = absurd (ne refl)
type_tests (pos (suc n)) ne = lt-ltb 0 (suc n) (omega arith)
type_tests (negsuc n) ne = refl

type_reads : Reads IsTypeId (scalar_text i32) Ends type_at
type_reads = checked_reads is_type length (IsInRange i32) IsTypeId (scalar_text i32) Ends (scalar_at i32) (λ z test fits. (fits, type_no_zero z test)) (λ z fits. (type_tests z fits.1, fits.0)) (scalar_reads i32)

abbrev IsHead : ℕ × ℤ → Type 0
IsHead x = AreBits x.0 × IsTypeId x.1

head_reads : Reads IsHead (λ x. head_text x.0 x.1) Ends head_at
head_reads = joined_reads AreBits decimal_digits bits_at colon IsTypeId (scalar_text i32) Ends type_at refl bits_reads type_reads

-- ---- objects whose fields have identifiers

abbrev IsEntry : {X : Type 0} → (X → Type 0) → ℤ × X → Type 0
IsEntry inner e = IsInRange i32 e.0 × inner e.1

entry_reads : {X : Type 0} (Fits : X → Type 0) (T : X → List ℕ) (R : List ℕ → Read X) → Reads Fits T Ends R → Reads (IsEntry Fits) (entry_text T) Ends (entry_at R)
entry_reads Fits T R p = joined_reads (IsInRange i32) (scalar_text i32) (scalar_at i32) equals Fits T Ends R refl (scalar_reads i32) p

abbrev NamedParts : Type 0 → Type 0
NamedParts X = (ℕ × ℤ) × List (ℤ × X)

abbrev AreNamedParts : {X : Type 0} → (X → Type 0) → NamedParts X → Type 0
AreNamedParts Fits x = IsHead x.0 × AreItems (IsEntry Fits) x.1

abbrev named_text : {X : Type 0} → (X → List ℕ) → NamedParts X → List ℕ
named_text T x = head_text x.0.0 x.0.1 ++ open_brace ∷ items_text close_brace (entry_text T) x.1

entries_read : {X : Type 0} (Fits : X → Type 0) (T : X → List ℕ) (R : List ℕ → Read X) → Reads Fits T Ends R → Reads (AreItems (IsEntry Fits)) (items_text close_brace (entry_text T)) Ends (items_at (entry_at R) close_brace)
entries_read Fits T R p =
    let q = joined_begins (scalar_at i32) equals R (scalar_begins i32) in
    items_reads (IsEntry Fits) (entry_text T) (entry_at R) close_brace closes_brace (entry_reads Fits T R p) (q.refuses brace) q.none

parts_read : {X : Type 0} (Fits : X → Type 0) (T : X → List ℕ) (R : List ℕ → Read X) → Reads Fits T Ends R → Reads (AreNamedParts Fits) (named_text T) Ends (joined_at head_at open_brace (items_at (entry_at R) close_brace))
parts_read Fits T R p =
    joined_reads IsHead (λ x. head_text x.0 x.1) head_at open_brace (AreItems (IsEntry Fits)) (items_text close_brace (entry_text T)) Ends (items_at (entry_at R) close_brace) refl head_reads (entries_read Fits T R p)

abbrev pub IsNamed : Shape → Type 0
IsNamed (Named ids) = Unit {0}
IsNamed (Compact schema) = ⊥

abbrev pub IsNamedObject : {X : Type 0} → (X → Type 0) → Record X → Type 0
IsNamedObject Fits o = IsLimitedObject Fits o × IsNamed o.shape

abbrev ids_of : Shape → List ℤ
ids_of (Named ids) = ids
ids_of (Compact schema) = []

abbrev named_parts : {X : Type 0} → Record X → NamedParts X
named_parts o = ((o.bits, o.type_id), entries (ids_of o.shape) o.fields)

abbrev id_of : {X : Type 0} → ℤ × X → ℤ
id_of e = e.0

abbrev field_of : {X : Type 0} → ℤ × X → X
field_of e = e.1

entries_back : {X : Type 0} (es : List (ℤ × X)) → entries (map id_of es) (map field_of es) ≡ es
entries_back [] = refl
entries_back (e ∷ es) = ap (λ (l : List _). e ∷ l) (entries_back es)

all_ids : {X : Type 0} (Fits : X → Type 0) (es : List (ℤ × X)) → AllByRecursion (IsEntry Fits) es → AllByRecursion (IsInRange i32) (map id_of es)
all_ids Fits [] h = tt
all_ids Fits (e ∷ es) h = (h.0.0, all_ids Fits es h.1)

all_fields : {X : Type 0} (Fits : X → Type 0) (es : List (ℤ × X)) → AllByRecursion (IsEntry Fits) es → AllByRecursion Fits (map field_of es)
all_fields Fits [] h = tt
all_fields Fits (e ∷ es) h = (h.0.1, all_fields Fits es h.1)

all_entries : {X : Type 0} (Fits : X → Type 0) (ids : List ℤ) (xs : List X) → length ids ≡ length xs → AllByRecursion (IsInRange i32) ids → AllByRecursion Fits xs → AllByRecursion (IsEntry Fits) (entries ids xs)
all_entries Fits [] xs e h k = tt
all_entries Fits (id ∷ ids) [] e h k = tt
all_entries Fits (id ∷ ids) (x ∷ xs) e h k = ((h.0, k.0), all_entries Fits ids xs (omega (arith, e)) h.1 k.1)

pub length_entries : {X : Type 0} (ids : List ℤ) (xs : List X) → length ids ≡ length xs → length (entries ids xs) ≡ length xs
length_entries [] [] e = refl
length_entries [] (x ∷ xs) e = absurd (omega (arith, e))
length_entries (id ∷ ids) [] e = absurd (omega (arith, e))
length_entries (id ∷ ids) (x ∷ xs) e = ap suc (length_entries ids xs (omega (arith, e)))

pub ids_entries : {X : Type 0} (ids : List ℤ) (xs : List X) → length ids ≡ length xs → map id_of (entries ids xs) ≡ ids
ids_entries [] [] e = refl
ids_entries [] (x ∷ xs) e = absurd (omega (arith, e))
ids_entries (id ∷ ids) [] e = absurd (omega (arith, e))
ids_entries (id ∷ ids) (x ∷ xs) e = ap (λ (l : List ℤ). id ∷ l) (ids_entries ids xs (omega (arith, e)))

pub fields_entries : {X : Type 0} (ids : List ℤ) (xs : List X) → length ids ≡ length xs → map field_of (entries ids xs) ≡ xs
fields_entries [] [] e = refl
fields_entries [] (x ∷ xs) e = absurd (omega (arith, e))
fields_entries (id ∷ ids) [] e = absurd (omega (arith, e))
fields_entries {X} (id ∷ ids) (x ∷ xs) e = ap (λ (l : List X). x ∷ l) (fields_entries ids xs (omega (arith, e)))

named_there : {X : Type 0} (Fits : X → Type 0) (x : NamedParts X) → AreNamedParts Fits x → IsNamedObject Fits (named_object x) × (named_parts (named_object x) ≡ x)
named_there {X} Fits x f =
    let es : List (ℤ × X) = x.1 in
    let n : length (map field_of es) ≡ length es = length-map es field_of in
    let m : length (map id_of es) ≡ length es = length-map es id_of in (
      (
        record {
          head = record { bits = f.0.0.0; kept = f.0.0.1; type = f.0.1.0; registered = f.0.1.1; shape = (all_ids Fits es f.1.1, m ∙ sym n) };
          few = omega (arith, n, f.1.0);
          fields = all_fields Fits es f.1.1;
        },
        tt,
      ),
      ap (λ (l : List (ℤ × X)). ((x.0.0, x.0.1), l)) (entries_back es),
    )

named_case : {X : Type 0} (Fits : X → Type 0) (T : X → List ℕ) (bits : ℕ) (type : ℤ) (shape : Shape) (xs : List X) →
    let o : Record X = record { bits = bits; type_id = type; shape = shape; fields = xs } in
    IsNamedObject Fits o → AreNamedParts Fits (named_parts o) × (named_object (named_parts o) ≡ o) × (named_text T (named_parts o) ≡ object_text T o)
named_case Fits T bits type (Compact schema) xs f = absurd f.1
named_case {X} Fits T bits type (Named ids) xs f =
    let h = f.0.head in
    let same : length ids ≡ length xs = h.shape.1 in (
      (((h.bits, h.kept), (h.type, h.registered)), (omega (arith, length_entries ids xs same, f.0.few), all_entries Fits ids xs same h.shape.0 f.0.fields)),
      ap (λ (l : List ℤ). record { bits = bits; type_id = type; shape = Named l; fields = map field_of (entries ids xs) }) (ids_entries ids xs same)
          ∙ ap (λ (l : List X). record { bits = bits; type_id = type; shape = Named ids; fields = l }) (fields_entries ids xs same),
      refl,
    )

pub named_reads : {X : Type 0} (Fits : X → Type 0) (T : X → List ℕ) (R : List ℕ → Read X) → Reads Fits T Ends R → Reads (IsNamedObject Fits) (object_text T) Ends (named_at R)
named_reads Fits T R p =
    viewed_reads named_object named_parts (AreNamedParts Fits) (named_text T) Ends (joined_at head_at open_brace (items_at (entry_at R) close_brace)) (IsNamedObject Fits) (object_text T)
    (named_there Fits) (λ o f. named_case Fits T o.bits o.type_id o.shape o.fields f) (parts_read Fits T R p)

-- ---- objects whose fields are those of a schema

abbrev CompactParts : Type 0 → Type 0
CompactParts X = (ℕ × ℤ) × (ℤ × List X)

abbrev AreFields : {X : Type 0} → (X → Type 0) → List X → Type 0
AreFields Fits xs = AreItems Fits xs × (0 < length xs)

abbrev AreCompactParts : {X : Type 0} → (X → Type 0) → CompactParts X → Type 0
AreCompactParts Fits x = IsHead x.0 × (IsInRange i32 x.1.0 × AreFields Fits x.1.1)

abbrev compact_text : {X : Type 0} → (X → List ℕ) → CompactParts X → List ℕ
compact_text T x = head_text x.0.0 x.0.1 ++ colon ∷ (scalar_text i32 x.1.0 ++ open_brace ∷ items_text close_brace T x.1.1)

fields_read : {X : Type 0} (Fits : X → Type 0) (T : X → List ℕ) (R : List ℕ → Read X) → Reads Fits T Ends R → Refuses R close_brace → RefusesNone R → Reads (AreFields Fits) (items_text close_brace T) Ends (fields_at R)
fields_read Fits T R p refuses none =
    checked_reads (λ xs. ltb 0 (length xs)) length (AreItems Fits) (AreFields Fits) (items_text close_brace T) Ends (items_at R close_brace)
    (λ xs test fits. (fits, ltb-true 0 (length xs) test)) (λ xs fits. (lt-ltb 0 (length xs) fits.1, fits.0)) (items_reads Fits T R close_brace closes_brace p refuses none)

compact_parts_read : {X : Type 0} (Fits : X → Type 0) (T : X → List ℕ) (R : List ℕ → Read X) → Reads Fits T Ends R → Refuses R close_brace → RefusesNone R →
    Reads (AreCompactParts Fits) (compact_text T) Ends (joined_at head_at colon (joined_at (scalar_at i32) open_brace (fields_at R)))
compact_parts_read {X} Fits T R p refuses none =
    joined_reads IsHead (λ x. head_text x.0 x.1) head_at colon (λ (x : ℤ × List X). IsInRange i32 x.0 × AreFields Fits x.1) (λ x. scalar_text i32 x.0 ++ open_brace ∷ items_text close_brace T x.1) Ends
    (joined_at (scalar_at i32) open_brace (fields_at R)) refl head_reads
    (joined_reads (IsInRange i32) (scalar_text i32) (scalar_at i32) open_brace (AreFields Fits) (items_text close_brace T) Ends (fields_at R) refl (scalar_reads i32) (fields_read Fits T R p refuses none))

abbrev pub IsCompact : Shape → Type 0
IsCompact (Named ids) = ⊥
IsCompact (Compact schema) = Unit {0}

abbrev pub IsCompactObject : {X : Type 0} → (X → Type 0) → Record X → Type 0
IsCompactObject Fits o = IsLimitedObject Fits o × IsCompact o.shape

abbrev schema_of : Shape → ℤ
schema_of (Named ids) = pos 0
schema_of (Compact schema) = schema

abbrev compact_parts : {X : Type 0} → Record X → CompactParts X
compact_parts o = ((o.bits, o.type_id), (schema_of o.shape, o.fields))

compact_there : {X : Type 0} (Fits : X → Type 0) (x : CompactParts X) → AreCompactParts Fits x → IsCompactObject Fits (compact_object x) × (compact_parts (compact_object x) ≡ x)
compact_there Fits x f = (
  (
    record {
      head = record { bits = f.0.0.0; kept = f.0.0.1; type = f.0.1.0; registered = f.0.1.1; shape = (f.1.0, f.1.1.1) };
      few = f.1.1.0.0;
      fields = f.1.1.0.1;
    },
    tt,
  ),
  refl,
)

compact_case : {X : Type 0} (Fits : X → Type 0) (T : X → List ℕ) (bits : ℕ) (type : ℤ) (shape : Shape) (xs : List X) →
    let o : Record X = record { bits = bits; type_id = type; shape = shape; fields = xs } in
    IsCompactObject Fits o → AreCompactParts Fits (compact_parts o) × (compact_object (compact_parts o) ≡ o) × (compact_text T (compact_parts o) ≡ object_text T o)
compact_case Fits T bits type (Named ids) xs f = absurd f.1
compact_case Fits T bits type (Compact schema) xs f =
    let h = f.0.head in
    ((((h.bits, h.kept), (h.type, h.registered)), (h.shape.0, ((f.0.few, f.0.fields), h.shape.1))), refl, refl)

pub compact_reads : {X : Type 0} (Fits : X → Type 0) (T : X → List ℕ) (R : List ℕ → Read X) → Reads Fits T Ends R → Refuses R close_brace → RefusesNone R → Reads (IsCompactObject Fits) (object_text T) Ends (compact_at R)
compact_reads Fits T R p refuses none =
    viewed_reads compact_object compact_parts (AreCompactParts Fits) (compact_text T) Ends (joined_at head_at colon (joined_at (scalar_at i32) open_brace (fields_at R))) (IsCompactObject Fits) (object_text T)
    (compact_there Fits) (λ o f. compact_case Fits T o.bits o.type_id o.shape o.fields f) (compact_parts_read Fits T R p refuses none)
