-- Descriptions of types are read as they are written.
use Rattle.std.proofs.Common.{◌≡◌, ℕ, ℤ, Bool, true, false, cond, List, [], ◌∷◌, ◌++◌, length, drop, codes, Option, Ok, Err, refl, sym, ap, subst, ◌∙◌, append_assoc}
use Rattle.std.proofs.lemmas.List.{drop_at}
use Rattle.ig_value.specs.Limits.{IsLimitedText, IfThere}
use Rattle.ig_value.specs.Part.{i32}
use Rattle.ig_value.specs.Spells.{IsInRange}
use Rattle.ig_types.specs.declared.meta.FieldMeta.{FieldMeta}
use Rattle.ig_types.specs.declared.meta.Literal.{Literal}
use Rattle.ig_types.specs.declared.meta.SchemaMeta.{SchemaMeta}
use Rattle.ig_types.specs.declared.meta.TypeMeta.{TypeMeta}
use Rattle.ig_text.specs.ReadText.{Read, ◌>>=◌, mapped_read, checked_read, mark_at, begins_with, joined_at, scalar_at, quoted_at, optional_at, items_at}
use Rattle.ig_text.specs.TextLaws.{Ends, AreItems}
use Rattle.ig_text.specs.TextOf.{optional_text}
use Rattle.ig_text.specs.Tokens.{colon, equals, open_bracket, close_bracket, open_brace, close_brace, scalar_text, quoted, items_text}
use Rattle.ig_text.proofs.ReadsLemmas.{Takes, Reads, Refuses, RefusesNone, bind_ok, done, ok_is, mapped_reads, viewed_reads, checked_reads, marked_reads, joined_reads}
use Rattle.ig_text.proofs.TokenLemmas.{begun, begins, scalar_reads, quoted_reads}
use Rattle.ig_text.proofs.RefusalLemmas.{Begins, bracket, brace, scalar_begins, quoted_begins, joined_begins, mapped_begins}
use Rattle.ig_text.proofs.ObjectTextLemmas.{items_reads, closes_bracket, closes_brace, optional_reads}
use Rattle.ig_text.specs.DescriptionText.{slash, field_text, literal_text, schema_text, enum_text, braced, description_text, field_at, literal_at, ids_at, schema_at, enum_at, braced_at, adjacent_at, Lists, lists_at, Head, head_at, description_of, after_word, whole_at, is_in_order, description_at}
use Rattle.ig_text.specs.FitsDescription.{FitsField, FitsLiteral, FitsSchema, FitsDescription}
use Rattle.ig_text.specs.DescriptionLaws.{DescriptionTextTellsApart}

-- ---- one after the other

-- the first is read whatever the second begins with
pub adjacent_reads : {A B : Type 0} (FA : A → Type 0) (TA : A → List ℕ) (F : List ℕ → Type 0) (RA : List ℕ → Read A) (FB : B → Type 0) (TB : B → List ℕ) (G : List ℕ → Type 0) (RB : List ℕ → Read B) →
    ((y : B) (rest : List ℕ) → FB y → G rest → F (TB y ++ rest)) → Reads FA TA F RA → Reads FB TB G RB →
    Reads (λ (z : A × B). FA z.0 × FB z.1) (λ z. TA z.0 ++ TB z.1) G (adjacent_at RA RB)
adjacent_reads {A} {B} FA TA F RA FB TB G RB follows p q = record {
  takes = λ s z rest e.
      let a = bind_ok (RA s) (λ x. RB x.1 >>= λ y. Ok ((x.0, y.0), y.1)) (z, rest) e in
      let c = bind_ok (RB a.0.1) (λ y. Ok ((a.0.0, y.0), y.1)) (z, rest) a.2 in
      let t = p.takes s a.0.0 a.0.1 a.1 in
      let u = q.takes a.0.1 c.0.0 c.0.1 c.1 in
      let made : (A × B) × List ℕ = ((a.0.0, c.0.0), c.0.1) in
      let all : Takes (λ (z : A × B). FA z.0 × FB z.1) (λ z. TA z.0 ++ TB z.1) s made.0 made.1 = record {
        fits = (t.fits, u.fits);
        whole = t.whole ∙ ap (λ (l : List ℕ). TA a.0.0 ++ l) u.whole ∙ sym (append_assoc (TA a.0.0) (TB c.0.0) c.0.1);
      } in
      subst (λ (y : (A × B) × List ℕ). Takes (λ (z : A × B). FA z.0 × FB z.1) (λ z. TA z.0 ++ TB z.1) s y.0 y.1) (ok_is made (z, rest) c.2) all;
  again = λ z rest fits g.
      let e : (TA z.0 ++ TB z.1) ++ rest ≡ TA z.0 ++ (TB z.1 ++ rest) = append_assoc (TA z.0) (TB z.1) rest in
      rw (e, p.again z.0 (TB z.1 ++ rest) fits.0 (follows z.1 rest fits.1 g), q.again z.1 rest fits.1 g) refl;
}

-- ---- fields, literals and schemas

field_reads : Reads FitsField field_text Ends field_at
field_reads =
    mapped_reads {A = List ℕ × (ℤ × ℤ)} {B = FieldMeta} (λ x. record { name = x.0; kind = x.1.0; id = x.1.1 }) (λ f. (f.name, (f.kind, f.id)))
    (λ z. IsLimitedText z.0 × (IsInRange i32 z.1.0 × IsInRange i32 z.1.1)) (λ z. quoted z.0 ++ equals ∷ (scalar_text i32 z.1.0 ++ slash ∷ scalar_text i32 z.1.1)) Ends
    (joined_at quoted_at equals (joined_at (scalar_at i32) slash (scalar_at i32))) (λ x. refl) (λ y. refl)
    (joined_reads IsLimitedText quoted quoted_at equals (λ (z : ℤ × ℤ). IsInRange i32 z.0 × IsInRange i32 z.1) (λ z. scalar_text i32 z.0 ++ slash ∷ scalar_text i32 z.1) Ends (joined_at (scalar_at i32) slash (scalar_at i32)) refl quoted_reads
    (joined_reads (IsInRange i32) (scalar_text i32) (scalar_at i32) slash (IsInRange i32) (scalar_text i32) Ends (scalar_at i32) refl (scalar_reads i32) (scalar_reads i32)))

literal_reads : Reads FitsLiteral literal_text Ends literal_at
literal_reads =
    mapped_reads {A = List ℕ × ℤ} {B = Literal} (λ x. record { name = x.0; ordinal = x.1 }) (λ l. (l.name, l.ordinal)) (λ z. IsLimitedText z.0 × IsInRange i32 z.1) (λ z. quoted z.0 ++ equals ∷ scalar_text i32 z.1) Ends
    (joined_at quoted_at equals (scalar_at i32)) (λ x. refl) (λ y. refl)
    (joined_reads IsLimitedText quoted quoted_at equals (IsInRange i32) (scalar_text i32) Ends (scalar_at i32) refl quoted_reads (scalar_reads i32))

ids_reads : Reads (AreItems (IsInRange i32)) (λ ids. open_bracket ∷ items_text close_bracket (scalar_text i32) ids) Ends ids_at
ids_reads =
    marked_reads open_bracket (AreItems (IsInRange i32)) (items_text close_bracket (scalar_text i32)) Ends (items_at (scalar_at i32) close_bracket)
    (items_reads (IsInRange i32) (scalar_text i32) (scalar_at i32) close_bracket closes_bracket (scalar_reads i32) ((scalar_begins i32).refuses bracket) (scalar_begins i32).none)

schema_reads : Reads FitsSchema schema_text Ends schema_at
schema_reads =
    mapped_reads {A = ℤ × List ℤ} {B = SchemaMeta} (λ x. record { id = x.0; ids = x.1 }) (λ s. (s.id, s.ids)) (λ z. IsInRange i32 z.0 × AreItems (IsInRange i32) z.1)
    (λ z. scalar_text i32 z.0 ++ equals ∷ open_bracket ∷ items_text close_bracket (scalar_text i32) z.1) Ends (joined_at (scalar_at i32) equals ids_at) (λ x. refl) (λ y. refl)
    (joined_reads (IsInRange i32) (scalar_text i32) (scalar_at i32) equals (AreItems (IsInRange i32)) (λ ids. open_bracket ∷ items_text close_bracket (scalar_text i32) ids) Ends ids_at refl (scalar_reads i32) ids_reads)

-- ---- the lists

braced_reads : {A : Type 0} (Fits : A → Type 0) (T : A → List ℕ) (R : List ℕ → Read A) → Begins R → Reads Fits T Ends R → Reads (AreItems Fits) (braced T) Ends (braced_at R)
braced_reads Fits T R b p =
    marked_reads open_brace (AreItems Fits) (items_text close_brace T) Ends (items_at R close_brace) (items_reads Fits T R close_brace closes_brace p (b.refuses brace) b.none)

field_begins : Begins field_at
field_begins = mapped_begins _ (joined_at quoted_at equals (joined_at (scalar_at i32) slash (scalar_at i32))) (joined_begins quoted_at equals (joined_at (scalar_at i32) slash (scalar_at i32)) quoted_begins)

literal_begins : Begins literal_at
literal_begins = mapped_begins _ (joined_at quoted_at equals (scalar_at i32)) (joined_begins quoted_at equals (scalar_at i32) quoted_begins)

schema_begins : Begins schema_at
schema_begins = mapped_begins _ (joined_at (scalar_at i32) equals ids_at) (joined_begins (scalar_at i32) equals ids_at (scalar_begins i32))

abbrev TwoLists : Type 0
TwoLists = List Literal × List SchemaMeta

abbrev FitTwo : TwoLists → Type 0
FitTwo x = AreItems FitsLiteral x.0 × AreItems FitsSchema x.1

abbrev two_text : TwoLists → List ℕ
two_text x = braced literal_text x.0 ++ braced schema_text x.1

abbrev two_at : List ℕ → Read TwoLists
two_at s = adjacent_at (braced_at literal_at) (braced_at schema_at) s

two_reads : Reads FitTwo two_text Ends two_at
two_reads =
    adjacent_reads (AreItems FitsLiteral) (braced literal_text) Ends (braced_at literal_at) (AreItems FitsSchema) (braced schema_text) Ends (braced_at schema_at) (λ y rest fits g. refl)
    (braced_reads FitsLiteral literal_text literal_at literal_begins literal_reads) (braced_reads FitsSchema schema_text schema_at schema_begins schema_reads)

abbrev FitLists : Lists → Type 0
FitLists x = AreItems FitsField x.0 × FitTwo x.1

abbrev all_text : Lists → List ℕ
all_text x = braced field_text x.0 ++ two_text x.1

lists_read : Reads FitLists all_text Ends lists_at
lists_read =
    adjacent_reads (AreItems FitsField) (braced field_text) Ends (braced_at field_at) FitTwo two_text Ends two_at (λ y rest fits g. refl)
    (braced_reads FitsField field_text field_at field_begins field_reads) two_reads

-- ---- the head

enum_case : (s : List ℕ) (f t : Bool) (b : Bool) (rest : List ℕ) → begins_with (codes "0") s ≡ f → begins_with (codes "1") s ≡ t →
    cond f (done {A = Bool × List ℕ} (false, drop 1 s)) (cond t (done {A = Bool × List ℕ} (true, drop 1 s)) (Err (length s))) ≡ Ok (b, rest) → Takes (λ b. Unit {0}) enum_text s b rest
enum_case s true t b rest is-no is-yes e =
    let all : Takes (λ b. Unit {0}) enum_text s false (drop 1 s) = record { fits = tt; whole = begun (codes "0") s is-no } in
    subst (λ (z : Bool × List ℕ). Takes (λ b. Unit {0}) enum_text s z.0 z.1) (ok_is (false, drop 1 s) (b, rest) e) all
enum_case s false true b rest is-no is-yes e =
    let all : Takes (λ b. Unit {0}) enum_text s true (drop 1 s) = record { fits = tt; whole = begun (codes "1") s is-yes } in
    subst (λ (z : Bool × List ℕ). Takes (λ b. Unit {0}) enum_text s z.0 z.1) (ok_is (true, drop 1 s) (b, rest) e) all
enum_case s false false b rest is-no is-yes e = absurd cc

enum_again : (b : Bool) (rest : List ℕ) → enum_at (enum_text b ++ rest) ≡ Ok (b, rest)
enum_again false rest = refl
enum_again true rest = refl

abbrev AnyTruth : Bool → Type 0
AnyTruth b = Unit {0}

enum_reads : Reads AnyTruth enum_text Ends enum_at
enum_reads = record {
  takes = λ s b rest e. enum_case s (begins_with (codes "0") s) (begins_with (codes "1") s) b rest refl refl e;
  again = λ b rest fits f. enum_again b rest;
}

abbrev FitAffinity : Option (List ℕ) × Bool → Type 0
FitAffinity x = IfThere IsLimitedText x.0 × AnyTruth x.1

abbrev affinity_text : Option (List ℕ) × Bool → List ℕ
affinity_text x = optional_text quoted x.0 ++ colon ∷ enum_text x.1

affinity_reads : Reads FitAffinity affinity_text Ends (joined_at (optional_at quoted_at) colon enum_at)
affinity_reads = joined_reads (IfThere IsLimitedText) (optional_text quoted) (optional_at quoted_at) colon AnyTruth enum_text Ends enum_at refl (optional_reads IsLimitedText quoted quoted_at quoted_reads quoted_begins) enum_reads

abbrev FitName : List ℕ × (Option (List ℕ) × Bool) → Type 0
FitName x = IsLimitedText x.0 × FitAffinity x.1

abbrev name_text : List ℕ × (Option (List ℕ) × Bool) → List ℕ
name_text x = quoted x.0 ++ colon ∷ affinity_text x.1

abbrev name_at : List ℕ → Read (List ℕ × (Option (List ℕ) × Bool))
name_at s = joined_at quoted_at colon (joined_at (optional_at quoted_at) colon enum_at) s

name_reads : Reads FitName name_text Ends name_at
name_reads = joined_reads IsLimitedText quoted quoted_at colon FitAffinity affinity_text Ends (joined_at (optional_at quoted_at) colon enum_at) refl quoted_reads affinity_reads

abbrev FitHead : Head → Type 0
FitHead x = IsInRange i32 x.0 × FitName x.1

abbrev head_parts : Head → List ℕ
head_parts x = scalar_text i32 x.0 ++ colon ∷ name_text x.1

head_reads : Reads FitHead head_parts Ends head_at
head_reads = joined_reads (IsInRange i32) (scalar_text i32) (scalar_at i32) colon FitName name_text Ends name_at refl (scalar_reads i32) name_reads

-- ---- the word in front

after_case : {A : Type 0} (word : List ℕ) (Fits : A → Type 0) (T : A → List ℕ) (F : List ℕ → Type 0) (R : List ℕ → Read A) → Reads Fits T F R → (s : List ℕ) (x : A) (rest : List ℕ) (b : Bool) → begins_with word s ≡ b →
    cond b (R (drop (length word) s)) (Err (length s)) ≡ Ok (x, rest) → Takes Fits (λ x. word ++ T x) s x rest
after_case word Fits T F R p s x rest true is e =
    let t = p.takes (drop (length word) s) x rest e in
    record { fits = t.fits; whole = begun word s is ∙ ap (λ (l : List ℕ). word ++ l) t.whole ∙ sym (append_assoc word (T x) rest) }
after_case word Fits T F R p s x rest false is e = absurd cc

after_reads : {A : Type 0} (word : List ℕ) (Fits : A → Type 0) (T : A → List ℕ) (F : List ℕ → Type 0) (R : List ℕ → Read A) → Reads Fits T F R → Reads Fits (λ x. word ++ T x) F (after_word word R)
after_reads word Fits T F R p = record {
  takes = λ s x rest e. after_case word Fits T F R p s x rest (begins_with word s) refl e;
  again = λ x rest fits f.
      let whole : (word ++ T x) ++ rest ≡ word ++ (T x ++ rest) = append_assoc word (T x) rest in
      rw (whole, begins word (T x ++ rest), drop_at word (T x ++ rest) (length word) refl, p.again x rest fits f) refl;
}

-- ---- descriptions

abbrev FitParts : Head × Lists → Type 0
FitParts x = FitHead x.0 × FitLists x.1

abbrev parts_text : Head × Lists → List ℕ
parts_text x = head_parts x.0 ++ all_text x.1

parts_reads : Reads FitParts parts_text Ends (adjacent_at head_at lists_at)
parts_reads = adjacent_reads FitHead head_parts Ends head_at FitLists all_text Ends lists_at (λ y rest fits g. refl) head_reads lists_read

abbrev parts_of : TypeMeta → Head × Lists
parts_of m = ((m.type_id, (m.name, (m.affinity, m.is_enum))), (m.fields, (m.literals, m.schemas)))

whole_reads : Reads (λ m. FitParts (parts_of m)) description_text Ends whole_at
whole_reads =
    mapped_reads {A = Head × Lists} {B = TypeMeta} description_of parts_of FitParts (λ x. codes "type:" ++ parts_text x) Ends (after_word (codes "type:") (adjacent_at head_at lists_at)) (λ x. refl) (λ y. refl)
    (after_reads (codes "type:") FitParts parts_text Ends (adjacent_at head_at lists_at) parts_reads)

pub description_reads : Reads FitsDescription description_text Ends description_at
description_reads =
    checked_reads is_in_order length (λ m. FitParts (parts_of m)) FitsDescription description_text Ends whole_at
    (λ m test fits. record { type = fits.0.0; name = fits.0.1.0; affinity = fits.0.1.1.0; fields = fits.1.0; literals = fits.1.1.0; schemas = fits.1.1.1; ordered = test })
    (λ m fits. (fits.ordered, ((fits.type, (fits.name, (fits.affinity, tt))), (fits.fields, (fits.literals, fits.schemas))))) whole_reads

pub description_tells_apart : DescriptionTextTellsApart
description_tells_apart m n fits also same =
    let first = description_reads.again m [] fits tt in
    let second = description_reads.again n [] also tt in
    let both : done (m, []) ≡ done (n, []) = sym first ∙ ap (λ (l : List ℕ). description_at (l ++ [])) same ∙ second in
    ap (λ (z : TypeMeta × List ℕ). z.0) (ok_is (m, []) (n, []) both)
