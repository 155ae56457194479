-- Values are read as they are written, at every depth.
use Rattle.std.proofs.Common.{◌≡◌, ℕ, ℤ, zero, suc, ◌<◌, ◌^◌, Bool, true, false, cond, List, [], ◌∷◌, ◌++◌, length, map, drop, Option, Some, None, Ok, Err, eqb, refl, sym, ap, subst, ◌∙◌, append_assoc, arith}
use Rattle.std.specs.List.{AllByRecursion, find}
use Rattle.std.proofs.lemmas.List.{drop_at, map-id}
use Rattle.ig_value.specs.declared.code.Code.{Code}
use Rattle.ig_value.specs.declared.code.Code.TheVariants as code
use Rattle.ig_value.specs.declared.object.Record.{Record}
use Rattle.ig_value.specs.declared.object.Shape.{Shape}
use Rattle.ig_value.specs.declared.object.Shape.TheVariants.{Named, Compact}
use Rattle.ig_value.specs.declared.value.Value.{Value, out-Value}
use Rattle.ig_value.specs.declared.value.Value.TheOpen.{Value-F}
use Rattle.ig_value.specs.declared.value.Value.TheFolds.{map-Value, fold_out-Value}
use Rattle.ig_value.specs.Limits.{AreCountable, FitsPart, FitsTo, Fits, IsLimitedObject}
use Rattle.ig_value.specs.Part.{Part, nothing, scalar, i8, i32, i64, text, octets, uuid, stamp, decimal, value, object, both, counted, optional, Content}
use Rattle.ig_value.specs.Table.{content, parts, value_with}
use Rattle.ig_value.proofs.RowLemmas.{Row as ValueRow, built, rebuilt}
use Rattle.ig_value.proofs.PartLemmas.{IsPlain}
use Rattle.ig_text.specs.declared.row.Row.{Row}
use Rattle.ig_text.specs.declared.row.Row.TheVariants.{Kind, CompactObject}
use Rattle.ig_text.specs.Tokens.{colon, comma, equals, open_bracket, close_bracket, open_brace, close_brace, hex, scalar_text, until_text, items_text}
use Rattle.ig_text.specs.Words.{word, rows, row_at, object_row}
use Rattle.ig_text.specs.TextOf.{mark, head_text, entries, entry_text, shape_text, object_text, part_text, row_of, row_text, layer_text, TextOf}
use Rattle.ig_text.specs.TextLaws.{Ends, AreItems, IsReadAs, ReadIsText, TextIsRead, TextTellsApart}
use Rattle.ig_text.specs.ReadText.{Read, ◌>>=◌, mapped_read, is_hex, mark_at, begins_with, joined_at, items_at, octets_at, scalar_at, named_at, compact_at, swapped, alone, part_at, content_at, known_at, value_at, text_at}
use Rattle.ig_text.proofs.ReadsLemmas.{Takes, Reads, Refuses, RefusesNone, bind_ok, done, ok_is, with_end, mapped_reads, viewed_reads, joined_reads}
use Rattle.ig_text.proofs.HexLemmas.{octets_reads}
use Rattle.ig_text.proofs.TokenLemmas.{begun, scalar_reads, stamp_reads, decimal_reads, uuid_reads, quoted_reads}
use Rattle.ig_text.proofs.RefusalLemmas.{Begins, bracket, scalar_begins, quoted_begins, uuid_begins, stamp_begins, decimal_begins, optional_refuses, optional_none, value_refuses_bracket, value_refuses_brace, value_none}
use Rattle.ig_text.proofs.ObjectTextLemmas.{items_reads, closes_bracket, optional_reads, IsNamed, IsNamedObject, named_reads, IsCompact, IsCompactObject, compact_reads}

-- ---- the text of a value, by those of the values inside

until_mapped : {A B : Type 0} (T : B → List ℕ) (close : ℕ) (h : A → B) (xs : List A) → until_text close T (map h xs) ≡ until_text close (λ x. T (h x)) xs
until_mapped T close h [] = refl
until_mapped T close h (x ∷ xs) = ap (λ (l : List ℕ). T (h x) ++ l) (until_mapped T close h xs)

items_mapped : {A B : Type 0} (T : B → List ℕ) (close : ℕ) (h : A → B) (xs : List A) → items_text close T (map h xs) ≡ items_text close (λ x. T (h x)) xs
items_mapped T close h [] = refl
items_mapped T close h (x ∷ xs) = ap (λ (l : List ℕ). T (h x) ++ l) (until_mapped (λ y. comma ∷ T y) close h xs)

abbrev seen_entry : {X Y : Type 0} → (X → Y) → ℤ × X → ℤ × Y
seen_entry h e = (e.0, h e.1)

entries_mapped : {X Y : Type 0} (h : X → Y) (ids : List ℤ) (xs : List X) → entries ids (map h xs) ≡ map (seen_entry h) (entries ids xs)
entries_mapped h [] xs = refl
entries_mapped h (id ∷ ids) [] = refl
entries_mapped {X} {Y} h (id ∷ ids) (x ∷ xs) = ap (λ (l : List (ℤ × Y)). (id, h x) ∷ l) (entries_mapped h ids xs)

abbrev itself : List ℕ → List ℕ
itself t = t

shape_mapped : {X : Type 0} (h : X → List ℕ) (shape : Shape) (xs : List X) → shape_text itself shape (map h xs) ≡ shape_text h shape xs
shape_mapped h (Named ids) xs =
    ap (λ (l : List ℕ). open_brace ∷ l) (ap (items_text close_brace (entry_text itself)) (entries_mapped h ids xs) ∙ items_mapped (entry_text itself) close_brace (seen_entry h) (entries ids xs))
shape_mapped h (Compact schema) xs = ap (λ (l : List ℕ). colon ∷ (scalar_text i32 schema ++ open_brace ∷ l)) (items_mapped itself close_brace h xs)

abbrev each_of : {X Y : Type 0} → (X → Y) → X × X → Y × Y
each_of h p = (h p.0, h p.1)

layer_mapped : {X : Type 0} (h : X → List ℕ) (x : Value-F X) → layer_text itself (map-Value X (List ℕ) h x) ≡ layer_text h x
layer_mapped h (Value-F.Objects type xs) = ap (λ (l : List ℕ). word (Kind code.Objects) ++ (scalar_text i32 type ++ open_bracket ∷ l)) (items_mapped itself close_bracket h xs)
layer_mapped h (Value-F.Collection kind xs) = ap (λ (l : List ℕ). word (Kind code.Collection) ++ (scalar_text i8 kind ++ open_bracket ∷ l)) (items_mapped itself close_bracket h xs)
layer_mapped {X} h (Value-F.Map kind ps) =
    ap (λ (l : List ℕ). word (Kind code.Map) ++ (scalar_text i8 kind ++ open_bracket ∷ l)) (items_mapped (λ (p : List ℕ × List ℕ). p.0 ++ equals ∷ p.1) close_bracket (each_of h) ps)
layer_mapped h (Value-F.Enums type xs) = ap (λ (l : List ℕ). word (Kind code.Enums) ++ (scalar_text i32 type ++ open_bracket ∷ l)) (items_mapped itself close_bracket h xs)
layer_mapped {X} h (Value-F.Object o) = ap (λ (l : List ℕ). word (row_of X code.Object o) ++ (head_text o.bits o.type_id ++ l)) (shape_mapped h o.shape o.fields)
layer_mapped h _ = refl

pub TextOf_out : (v : Value) → TextOf v ≡ layer_text TextOf (out-Value v)
unfolding TextOf
TextOf_out v = fold_out-Value (List ℕ) (layer_text itself) v ∙ layer_mapped TextOf (out-Value v)

abbrev text_of_row : ValueRow → List ℕ
text_of_row r = row_text TextOf r.0 r.1

pub text_row : (v : Value) (c : Code) (x : Content Value (content c)) → v ≡ value_with c x → TextOf v ≡ row_text TextOf c x
text_row v c x e = TextOf_out v ∙ ap (λ (w : Value). text_of_row (parts (out-Value w))) e ∙ ap text_of_row (built c x)

-- ---- the table of words

found_first : (test : Row → Bool) (d r : Row) (rs : List Row) (b : Bool) → test d ≡ b → cond b (Some d) (find test rs) ≡ Some r → (find test rs ≡ Some r → test r ≡ true) → test r ≡ true
found_first test d r rs true is e later = let same : d ≡ r = cc in ap test (sym same) ∙ is
found_first test d r rs false is e later = later e

found_passes : (test : Row → Bool) (rs : List Row) (r : Row) → find test rs ≡ Some r → test r ≡ true
found_passes test [] r e = absurd cc
found_passes test (d ∷ rs) r e = found_first test d r rs (test d) refl e (found_passes test rs r)

-- a text begins with the word of its row
pub row_begins : (s : List ℕ) (r : Row) → row_at s ≡ Some r → s ≡ word r ++ drop (length (word r)) s
row_begins s r e = begun (word r) s (found_passes (λ q. begins_with (word q) s) rows r e)

-- the row of a word is found, whatever follows it
pub row_again : (r : Row) (rest : List ℕ) → row_at (word r ++ rest) ≡ Some r
row_again (Kind code.Byte) rest = refl
row_again (Kind code.Short) rest = refl
row_again (Kind code.Int) rest = refl
row_again (Kind code.Long) rest = refl
row_again (Kind code.Float) rest = refl
row_again (Kind code.Double) rest = refl
row_again (Kind code.Char) rest = refl
row_again (Kind code.Bool) rest = refl
row_again (Kind code.Str) rest = refl
row_again (Kind code.Uuid) rest = refl
row_again (Kind code.Date) rest = refl
row_again (Kind code.Bytes) rest = refl
row_again (Kind code.Shorts) rest = refl
row_again (Kind code.Ints) rest = refl
row_again (Kind code.Longs) rest = refl
row_again (Kind code.Floats) rest = refl
row_again (Kind code.Doubles) rest = refl
row_again (Kind code.Chars) rest = refl
row_again (Kind code.Bools) rest = refl
row_again (Kind code.Strs) rest = refl
row_again (Kind code.Uuids) rest = refl
row_again (Kind code.Dates) rest = refl
row_again (Kind code.Objects) rest = refl
row_again (Kind code.Collection) rest = refl
row_again (Kind code.Map) rest = refl
row_again (Kind code.Wrapped) rest = refl
row_again (Kind code.Enum) rest = refl
row_again (Kind code.Enums) rest = refl
row_again (Kind code.Decimal) rest = refl
row_again (Kind code.Decimals) rest = refl
row_again (Kind code.Timestamp) rest = refl
row_again (Kind code.Timestamps) rest = refl
row_again (Kind code.Time) rest = refl
row_again (Kind code.Times) rest = refl
row_again (Kind code.BinaryEnum) rest = refl
row_again (Kind code.Null) rest = refl
row_again (Kind code.Object) rest = refl
row_again CompactObject rest = refl

-- ---- the contents

nothing_takes : (s : List ℕ) (x : Unit {0}) (rest : List ℕ) → done {A = Unit {0} × List ℕ} (tt, s) ≡ Ok (x, rest) → Takes (λ (x : Unit {0}). Unit {0}) (λ x. []) s x rest
nothing_takes s x rest e =
    let none : Unit {0} × List ℕ = (tt, s) in
    record { fits = tt; whole = ap (λ (z : Unit {0} × List ℕ). z.1) (ok_is none (x, rest) e) }

nothing_reads : Reads (λ (x : Unit {0}). Unit {0}) (λ x. []) Ends (λ s. Ok (tt, s))
nothing_reads = record { takes = nothing_takes; again = λ x rest fits f. refl }

refit_reads : {A : Type 0} (Fits Other : A → Type 0) (T : A → List ℕ) (R : List ℕ → Read A) → ((x : A) → Fits x → Other x) → ((x : A) → Other x → Fits x) → Reads Fits T Ends R → Reads Other T Ends R
refit_reads Fits Other T R to from p = record {
  takes = λ s x rest e. let t = p.takes s x rest e in record { fits = to x t.fits; whole = t.whole };
  again = λ x rest fits f. p.again x rest (from x fits) f;
}

-- a part that may stand in a list beside nulls
abbrev pub IsLeaf : Part → Type 0
IsLeaf (scalar k) = Unit {0}
IsLeaf text = Unit {0}
IsLeaf uuid = Unit {0}
IsLeaf stamp = Unit {0}
IsLeaf decimal = Unit {0}
IsLeaf _ = ⊥

-- an item of a list
abbrev pub IsListed : Part → Type 0
IsListed (scalar k) = Unit {0}
IsListed value = Unit {0}
IsListed (both value q) = Unit {0}
IsListed (optional c p) = IsLeaf p
IsListed _ = ⊥

abbrev pub IsTextual : Part → Type 0
IsTextual object = ⊥
IsTextual (both octets q) = IsTextual q
IsTextual (both p q) = IsTextual p × IsTextual q
IsTextual (counted nothing q) = IsListed q × IsTextual q
IsTextual (counted p q) = IsTextual p × (IsListed q × IsTextual q)
IsTextual (optional c p) = IsLeaf p × IsTextual p
IsTextual _ = Unit {0}

leaf_begins : {X : Type 0} (R : List ℕ → Read X) (p : Part) → IsLeaf p → Begins (part_at R p)
leaf_begins R (scalar k) is = scalar_begins k
leaf_begins R text is = quoted_begins
leaf_begins R uuid is = uuid_begins
leaf_begins R stamp is = stamp_begins
leaf_begins R decimal is = decimal_begins
leaf_begins R _ is = absurd is

listed_refuses : {X : Type 0} (R : List ℕ → Read X) → Refuses R close_bracket → (q : Part) → IsListed q → Refuses (part_at R q) close_bracket
listed_refuses R refuses (scalar k) is = (scalar_begins k).refuses bracket
listed_refuses R refuses value is = refuses
listed_refuses R refuses (both value q) is = λ s z e.
    let a = bind_ok (R (close_bracket ∷ s)) (λ x. mark_at (mark q) x.1 >>= λ m. part_at R q m.1 >>= λ y. done ((x.0, y.0), y.1)) z e in
    refuses s a.0 a.1
listed_refuses R refuses (optional c p) is = optional_refuses (part_at R p) (leaf_begins R p is)
listed_refuses R refuses _ is = absurd is

listed_none : {X : Type 0} (R : List ℕ → Read X) → RefusesNone R → (q : Part) → IsListed q → RefusesNone (part_at R q)
listed_none R none (scalar k) is = (scalar_begins k).none
listed_none R none value is = none
listed_none R none (both value q) is = λ z e.
    let a = bind_ok (R []) (λ x. mark_at (mark q) x.1 >>= λ m. part_at R q m.1 >>= λ y. done ((x.0, y.0), y.1)) z e in
    none a.0 a.1
listed_none R none (optional c p) is = optional_none (part_at R p) (leaf_begins R p is)
listed_none R none _ is = absurd is

mark_ends : (q : Part) → is_hex true (mark q) ≡ false
mark_ends (counted p q) = refl
mark_ends value = refl
mark_ends _ = refl

-- what a value inside is read as
record Inner {X : Type 0} (Fits : X → Type 0) (T : X → List ℕ) (R : List ℕ → Read X) : Type 0 where
  reads : Reads Fits T Ends R
  refuses : Refuses R close_bracket
  none : RefusesNone R

listed_reads : {X : Type 0} (Fits : X → Type 0) (T : X → List ℕ) (R : List ℕ → Read X) → Inner Fits T R → (q : Part) → IsListed q → Reads (FitsPart Fits q) (part_text T q) Ends (part_at R q) →
    Reads (AreItems (FitsPart Fits q)) (items_text close_bracket (part_text T q)) Ends (items_at (part_at R q) close_bracket)
listed_reads Fits T R inner q is p =
    items_reads (FitsPart Fits q) (part_text T q) (part_at R q) close_bracket closes_bracket p (listed_refuses R inner.refuses q is) (listed_none R inner.none q is)

array_reads : {X : Type 0} (Fits : X → Type 0) (T : X → List ℕ) (R : List ℕ → Read X) (q : Part) → Reads (AreItems (FitsPart Fits q)) (items_text close_bracket (part_text T q)) Ends (items_at (part_at R q) close_bracket) →
    Reads (FitsPart Fits (counted nothing q)) (part_text T (counted nothing q)) Ends (part_at R (counted nothing q))
array_reads {X} Fits T R q p =
    viewed_reads {A = List (Content X q)} {B = Unit {0} × List (Content X q)} alone (λ x. x.1) (AreItems (FitsPart Fits q)) (items_text close_bracket (part_text T q)) Ends (items_at (part_at R q) close_bracket)
    (FitsPart Fits (counted nothing q)) (part_text T (counted nothing q)) (λ xs f. ((f.0, (tt, f.1)), refl)) (λ y f. ((f.0, f.1.1), refl, refl)) p

part_reads : {X : Type 0} (Fits : X → Type 0) (T : X → List ℕ) (R : List ℕ → Read X) → Inner Fits T R → (p : Part) → IsTextual p → Reads (FitsPart Fits p) (part_text T p) Ends (part_at R p)
part_reads Fits T R inner nothing is = nothing_reads
part_reads Fits T R inner (scalar k) is = scalar_reads k
part_reads Fits T R inner text is = quoted_reads
part_reads Fits T R inner octets is = octets_reads
part_reads Fits T R inner uuid is = uuid_reads
part_reads Fits T R inner stamp is = stamp_reads
part_reads Fits T R inner decimal is = decimal_reads
part_reads Fits T R inner value is = inner.reads
part_reads Fits T R inner object is = absurd is
part_reads {X} Fits T R inner (both octets q) is =
    viewed_reads {A = Content X q × List ℕ} {B = List ℕ × Content X q} swapped (λ y. (y.1, y.0)) (λ z. FitsPart Fits q z.0 × AreCountable z.1) (λ z. part_text T q z.0 ++ colon ∷ hex true z.1) Ends (joined_at (part_at R q) colon octets_at)
    (FitsPart Fits (both octets q)) (part_text T (both octets q)) (λ z f. ((f.1, f.0), refl)) (λ y f. ((f.1, f.0), refl, refl))
    (joined_reads (FitsPart Fits q) (part_text T q) (part_at R q) colon AreCountable (hex true) Ends octets_at refl (part_reads Fits T R inner q is) octets_reads)
part_reads Fits T R inner (both p q) is =
    joined_reads (FitsPart Fits p) (part_text T p) (part_at R p) (mark q) (FitsPart Fits q) (part_text T q) Ends (part_at R q) (mark_ends q) (part_reads Fits T R inner p is.0) (part_reads Fits T R inner q is.1)
part_reads Fits T R inner (counted nothing q) is = array_reads Fits T R q (listed_reads Fits T R inner q is.0 (part_reads Fits T R inner q is.1))
part_reads {X} Fits T R inner (counted p q) is =
    refit_reads (λ (z : Content X p × List (Content X q)). FitsPart Fits p z.0 × AreItems (FitsPart Fits q) z.1) (FitsPart Fits (counted p q)) (part_text T (counted p q)) (part_at R (counted p q))
    (λ z f. (f.1.0, (f.0, f.1.1))) (λ z f. (f.1.0, (f.0, f.1.1)))
    (joined_reads (FitsPart Fits p) (part_text T p) (part_at R p) open_bracket (AreItems (FitsPart Fits q)) (items_text close_bracket (part_text T q)) Ends (items_at (part_at R q) close_bracket) refl
    (part_reads Fits T R inner p is.0) (listed_reads Fits T R inner q is.1.0 (part_reads Fits T R inner q is.1.1)))
part_reads Fits T R inner (optional c p) is = optional_reads (FitsPart Fits p) (part_text T p) (part_at R p) (part_reads Fits T R inner p is.1) (leaf_begins R p is.0)

pub content_textual : (c : Code) → IsPlain c → IsTextual (content c)
content_textual code.Object plain = absurd plain
content_textual code.Bytes plain = (tt, tt)
content_textual code.Shorts plain = (tt, tt)
content_textual code.Ints plain = (tt, tt)
content_textual code.Longs plain = (tt, tt)
content_textual code.Floats plain = (tt, tt)
content_textual code.Doubles plain = (tt, tt)
content_textual code.Chars plain = (tt, tt)
content_textual code.Bools plain = (tt, tt)
content_textual code.Strs plain = (tt, (tt, tt))
content_textual code.Uuids plain = (tt, (tt, tt))
content_textual code.Dates plain = (tt, (tt, tt))
content_textual code.Decimals plain = (tt, (tt, tt))
content_textual code.Timestamps plain = (tt, (tt, tt))
content_textual code.Times plain = (tt, (tt, tt))
content_textual code.Objects plain = (tt, (tt, tt))
content_textual code.Enums plain = (tt, (tt, tt))
content_textual code.Collection plain = (tt, (tt, tt))
content_textual code.Map plain = (tt, (tt, (tt, tt)))
content_textual code.Enum plain = (tt, tt)
content_textual code.BinaryEnum plain = (tt, tt)
content_textual _ plain = tt

-- ---- one level

abbrev IsRight : ℕ → Type 0
IsRight levels = Reads (FitsTo levels) TextOf Ends (value_at levels)

content_reads : (levels : ℕ) → IsRight levels → (c : Code) → IsPlain c → Reads (FitsPart (FitsTo levels) (content c)) (part_text TextOf (content c)) Ends (part_at (value_at levels) (content c))
content_reads levels p c plain =
    part_reads (FitsTo levels) TextOf (value_at levels) (record { reads = p; refuses = value_refuses_bracket levels; none = value_none levels }) (content c) (content_textual c plain)

-- the value of a row, after its word
row_made : (levels : ℕ) (c : Code) (x : Content Value (content c)) (r : Row) (t rest : List ℕ) → row_of Value c x ≡ r → FitsPart (FitsTo levels) (content c) x → t ≡ part_text TextOf (content c) x ++ rest →
    Takes (FitsTo (suc levels)) TextOf (word r ++ t) (value_with c x) rest
row_made levels c x r t rest is fits whole = record {
  fits = subst (λ (q : ValueRow). FitsPart (FitsTo levels) (content q.0) q.1) (sym (built c x)) fits;
  whole =
      ap (λ (l : List ℕ). word r ++ l) whole ∙ ap (λ (q : Row). word q ++ (part_text TextOf (content c) x ++ rest)) (sym is) ∙ sym (append_assoc (word (row_of Value c x)) (part_text TextOf (content c) x) rest)
      ∙ ap (λ (l : List ℕ). l ++ rest) (sym (text_row (value_with c x) c x refl));
}

named_row : (shape : Shape) → IsNamed shape → object_row shape ≡ Kind code.Object
named_row (Named ids) is = refl
named_row (Compact schema) is = absurd is

compact_row : (shape : Shape) → IsCompact shape → object_row shape ≡ CompactObject
compact_row (Named ids) is = absurd is
compact_row (Compact schema) is = refl

plain_row : (c : Code) (x : Content Value (content c)) → IsPlain c → row_of Value c x ≡ Kind c
plain_row code.Object x plain = absurd plain
plain_row _ x plain = refl

named_in : (levels : ℕ) → IsRight levels → Reads (IsNamedObject (FitsTo levels)) (object_text TextOf) Ends (named_at (value_at levels))
named_in levels p = named_reads (FitsTo levels) TextOf (value_at levels) p

compact_in : (levels : ℕ) → IsRight levels → Reads (IsCompactObject (FitsTo levels)) (object_text TextOf) Ends (compact_at (value_at levels))
compact_in levels p = compact_reads (FitsTo levels) TextOf (value_at levels) p (value_refuses_brace levels) (value_none levels)

kind_takes : (levels : ℕ) → IsRight levels → (c : Code) (t : List ℕ) (x : Content Value (content c)) (rest : List ℕ) → part_at (value_at levels) (content c) t ≡ Ok (x, rest) →
    Takes (FitsTo (suc levels)) TextOf (word (Kind c) ++ t) (value_with c x) rest
kind_takes levels p code.Object t x rest e =
    let k = (named_in levels p).takes t x rest e in
    row_made levels code.Object x (Kind code.Object) t rest (named_row x.shape k.fits.1) k.fits.0 k.whole
kind_takes levels p c t x rest e =
    let k = (content_reads levels p c tt).takes t x rest e in
    row_made levels c x (Kind c) t rest (plain_row c x tt) k.fits k.whole

content_takes : (levels : ℕ) → IsRight levels → (r : Row) (t : List ℕ) (v : Value) (rest : List ℕ) → content_at (value_at levels) r t ≡ Ok (v, rest) → Takes (FitsTo (suc levels)) TextOf (word r ++ t) v rest
content_takes levels p (Kind c) t v rest e =
    let a = bind_ok (part_at (value_at levels) (content c) t) (λ x. Ok (value_with c x.0, x.1)) (v, rest) e in
    let made : Value × List ℕ = (value_with c a.0.0, a.0.1) in
    let all : Takes (FitsTo (suc levels)) TextOf (word (Kind c) ++ t) made.0 made.1 = kind_takes levels p c t a.0.0 a.0.1 a.1 in
    subst (λ (z : Value × List ℕ). Takes (FitsTo (suc levels)) TextOf (word (Kind c) ++ t) z.0 z.1) (ok_is made (v, rest) a.2) all
content_takes levels p CompactObject t v rest e =
    let a = bind_ok (compact_at (value_at levels) t) (λ x. Ok (value_with code.Object x.0, x.1)) (v, rest) e in
    let k = (compact_in levels p).takes t a.0.0 a.0.1 a.1 in
    let made : Value × List ℕ = (value_with code.Object a.0.0, a.0.1) in
    let all : Takes (FitsTo (suc levels)) TextOf (word CompactObject ++ t) made.0 made.1 = row_made levels code.Object a.0.0 CompactObject t a.0.1 (compact_row a.0.0.shape k.fits.1) k.fits.0 k.whole in
    subst (λ (z : Value × List ℕ). Takes (FitsTo (suc levels)) TextOf (word CompactObject ++ t) z.0 z.1) (ok_is made (v, rest) a.2) all

known_takes : (levels : ℕ) → IsRight levels → (s : List ℕ) (o : Option Row) → row_at s ≡ o → (v : Value) (rest : List ℕ) → known_at (value_at levels) s o ≡ Ok (v, rest) → Takes (FitsTo (suc levels)) TextOf s v rest
known_takes levels p s None is v rest e = absurd cc
known_takes levels p s (Some r) is v rest e =
    let t : List ℕ = drop (length (word r)) s in
    subst (λ (l : List ℕ). Takes (FitsTo (suc levels)) TextOf l v rest) (sym (row_begins s r is)) (content_takes levels p r t v rest e)

-- ---- what is written is read

after_word : (levels : ℕ) (r : Row) (t : List ℕ) → value_at (suc levels) (word r ++ t) ≡ content_at (value_at levels) r t
after_word levels r t = ap (known_at (value_at levels) (word r ++ t)) (row_again r t) ∙ ap (content_at (value_at levels) r) (drop_at (word r) t (length (word r)) refl)

row_gives : (levels : ℕ) (c : Code) (x : Content Value (content c)) (r : Row) (rest : List ℕ) → row_of Value c x ≡ r → content_at (value_at levels) r (part_text TextOf (content c) x ++ rest) ≡ Ok (value_with c x, rest) →
    value_at (suc levels) (row_text TextOf c x ++ rest) ≡ Ok (value_with c x, rest)
row_gives levels c x r rest is e =
    ap (value_at (suc levels)) (append_assoc (word (row_of Value c x)) (part_text TextOf (content c) x) rest ∙ ap (λ (q : Row). word q ++ (part_text TextOf (content c) x ++ rest)) is)
    ∙ after_word levels r (part_text TextOf (content c) x ++ rest) ∙ e

object_gives : (levels : ℕ) → IsRight levels → (o : Record Value) (rest : List ℕ) (shape : Shape) → o.shape ≡ shape → IsLimitedObject (FitsTo levels) o → Ends rest →
    value_at (suc levels) (row_text TextOf code.Object o ++ rest) ≡ Ok (value_with code.Object o, rest)
object_gives levels p o rest (Named ids) is fits ends =
    let named : IsNamed o.shape = subst IsNamed (sym is) tt in
    row_gives levels code.Object o (Kind code.Object) rest (named_row o.shape named) (ap (mapped_read (value_with code.Object)) ((named_in levels p).again o rest (fits, named) ends))
object_gives levels p o rest (Compact schema) is fits ends =
    let compact : IsCompact o.shape = subst IsCompact (sym is) tt in
    row_gives levels code.Object o CompactObject rest (compact_row o.shape compact) (ap (mapped_read (value_with code.Object)) ((compact_in levels p).again o rest (fits, compact) ends))

kind_gives : (levels : ℕ) → IsRight levels → (c : Code) (x : Content Value (content c)) (rest : List ℕ) → FitsPart (FitsTo levels) (content c) x → Ends rest →
    value_at (suc levels) (row_text TextOf c x ++ rest) ≡ Ok (value_with c x, rest)
kind_gives levels p code.Object x rest fits ends = object_gives levels p x rest x.shape refl fits ends
kind_gives levels p c x rest fits ends = row_gives levels c x (Kind c) rest (plain_row c x tt) (ap (mapped_read (value_with c)) ((content_reads levels p c tt).again x rest fits ends))

value_again : (levels : ℕ) → IsRight levels → (v : Value) (rest : List ℕ) → FitsTo (suc levels) v → Ends rest → value_at (suc levels) (TextOf v ++ rest) ≡ Ok (v, rest)
value_again levels p v rest fits ends =
    let r : ValueRow = parts (out-Value v) in
    ap (λ (l : List ℕ). value_at (suc levels) (l ++ rest)) (text_row v r.0 r.1 (sym (rebuilt v))) ∙ kind_gives levels p r.0 r.1 rest fits ends ∙ ap (λ (w : Value). done (w, rest)) (rebuilt v)

pub value_reads : (levels : ℕ) → Reads (FitsTo levels) TextOf Ends (value_at levels)
value_reads zero = record { takes = λ s v rest e. absurd cc; again = λ v rest fits ends. absurd fits }
value_reads (suc levels) =
    let p = value_reads levels in
    record { takes = λ s v rest e. known_takes levels p s (row_at s) refl v rest e; again = value_again levels p }

-- ---- the laws

pub read_is_text : ReadIsText
unfolding Fits text_at
read_is_text s rest v e = let t = (value_reads 32).takes s v rest e in record { fits = t.fits; whole = t.whole }

pub text_is_read : TextIsRead
unfolding Fits text_at
text_is_read v rest fits ends = (value_reads 32).again v rest fits ends

pub text_tells_apart : TextTellsApart
text_tells_apart v w fv fw e =
    let first : Value × List ℕ = (v, []) in
    let second : Value × List ℕ = (w, []) in
    let same : done first ≡ done second = sym (text_is_read v [] fv tt) ∙ ap (λ (l : List ℕ). text_at (l ++ [])) e ∙ text_is_read w [] fw tt in
    ap (λ (z : Value × List ℕ). z.0) (ok_is first second same)
