-- Truth values, scalars, UUIDs, points in time, decimals and quoted texts are read as they are
-- written.
use Rattle.std.proofs.Common.{◌≡◌, ℕ, zero, suc, ◌+◌, ◌<◌, ◌≤◌, ◌^◌, ℤ, Bool, true, false, cond, not, ◌&&◌, List, [], ◌∷◌, ◌++◌, length, take, drop, get_or, codes, Option, Some, None, Result, Ok, Err, eqb, ltb, leb, eq-eqb, refl, sym, ap, subst, ◌∙◌, append_assoc, arith, inl, inr, length-append}
use Rattle.std.specs.Int.{w8, w16, w32, w64, to_be_bytes, from_be_bytes, is_in_range}
use Rattle.std.specs.List.{AllByRecursion, starts_with}
use Rattle.std.specs.Str.{IsUtf8, is_utf8}
use Rattle.std.proofs.lemmas.Bool.{cases_eq, cases_Bool, ne_eqb, and_parts, and_from, both_ways, not-true, not_from_false, ltb-true, leb-true, lt-ltb, cond-true, cond-false, cond_both}
use Rattle.std.proofs.lemmas.Bool.Decides.{Decides-eqb}
use Rattle.std.proofs.lemmas.List.{take_at, drop_at, take-append-drop}
use Rattle.std.proofs.lemmas.Slice.Eq.{starts_is}
use Rattle.std.proofs.lemmas.Str.{IsUtf8-from_is_utf8, is_utf8-from_IsUtf8}
use Rattle.ig_base.specs.Numbers.{AreBytes}
use Rattle.ig_base.specs.declared.NodeId.{NodeId}
use Rattle.ig_value.specs.declared.value.Dec.{Dec}
use Rattle.ig_value.specs.declared.value.Stamp.{Stamp}
use Rattle.ig_value.specs.Limits.{AreCountable, IsLimitedText, IsLimitedUuid, IsLimitedStamp, IsLimitedDecimal}
use Rattle.ig_value.specs.Part.{Scalar, i8, i16, i32, i64, u16, u32, u64, truth, ScalarValue}
use Rattle.ig_value.specs.Spells.{IsInRange}
use Rattle.ig_value.proofs.AgreesLemmas.{AreBytes-take, AreBytes-drop}
use Rattle.ig_text.specs.Tokens.{colon, minus, quote, backslash, letter_x, hex_byte, hex, truth_text, scalar_text, stamp_text, decimal_text, uuid_text, until_text, is_bare, quoted_byte, quoted}
use Rattle.ig_text.specs.TextLaws.{Ends}
use Rattle.ig_text.specs.ReadText.{Read, ◌>>=◌, mapped_read, checked_read, mark_at, begins_with, joined_at, pair_at, run_at, is_countable, octets_at, truth_at, scalar_at, stamp_at, decimal_at, uuid_at, until_at, escape_at, char_at, is_text, quoted_at}
use Rattle.ig_text.proofs.ReadsLemmas.{Takes, Reads, Refuses, RefusesNone, Anything, Follows, bind_ok, done, ok_is, passed, with_end, mapped_reads, viewed_reads, checked_reads, marked_reads, mark_taken, mark_again, joined_reads, until_reads}
use Rattle.ig_text.proofs.NumberLemmas.{signed_reads}
use Rattle.ig_text.proofs.HexLemmas.{pair_reads, run_reads, IsRunOf, IsWidth, width16, width32, width64, unsigned_reads, octets_reads, bytes_cons, no_bytes}

-- ---- words

-- bytes that begin with a word
pub begun : (word s : List ℕ) → begins_with word s ≡ true → s ≡ word ++ drop (length word) s
begun word s e = (starts_is Decides-eqb s word (begins_with word s) refl).0 e

pub begins : (word rest : List ℕ) → begins_with word (word ++ rest) ≡ true
begins word rest = (starts_is Decides-eqb (word ++ rest) word (begins_with word (word ++ rest)) refl).1 rest refl

truth_case : (s : List ℕ) (t f : Bool) (b : Bool) (rest : List ℕ) → begins_with (codes "true") s ≡ t → begins_with (codes "false") s ≡ f →
    cond t (done {A = Bool × List ℕ} (true, drop 4 s)) (cond f (done {A = Bool × List ℕ} (false, drop 5 s)) (Err (length s))) ≡ Ok (b, rest) → Takes (λ b. Unit {0}) truth_text s b rest
truth_case s true f b rest yes-true yes-false e =
    let all : Takes (λ b. Unit {0}) truth_text s true (drop 4 s) = record { fits = tt; whole = begun (codes "true") s yes-true } in
    subst (λ (z : Bool × List ℕ). Takes (λ b. Unit {0}) truth_text s z.0 z.1) (ok_is (true, drop 4 s) (b, rest) e) all
truth_case s false true b rest yes-true yes-false e =
    let all : Takes (λ b. Unit {0}) truth_text s false (drop 5 s) = record { fits = tt; whole = begun (codes "false") s yes-false } in
    subst (λ (z : Bool × List ℕ). Takes (λ b. Unit {0}) truth_text s z.0 z.1) (ok_is (false, drop 5 s) (b, rest) e) all
truth_case s false false b rest yes-true yes-false e = absurd cc

truth_again : (b : Bool) (rest : List ℕ) → truth_at (truth_text b ++ rest) ≡ Ok (b, rest)
truth_again false rest = refl
truth_again true rest = refl

truth_reads : Reads (λ b. Unit {0}) truth_text Anything truth_at
truth_reads = record {
  takes = λ s b rest e. truth_case s (begins_with (codes "true") s) (begins_with (codes "false") s) b rest refl refl e;
  again = λ b rest fits f. truth_again b rest;
}

-- ---- scalars

pub scalar_reads : (k : Scalar) → Reads (IsInRange k) (scalar_text k) Ends (scalar_at k)
scalar_reads i8 = signed_reads w8 (2 ^ 7) refl (omega arith)
scalar_reads i16 = signed_reads w16 (2 ^ 15) refl (omega arith)
scalar_reads i32 = signed_reads w32 (2 ^ 31) refl (omega arith)
scalar_reads i64 = signed_reads w64 (2 ^ 63) refl (omega arith)
scalar_reads u16 = with_end (IsInRange u16) (scalar_text u16) (scalar_at u16) (unsigned_reads w16 width16)
scalar_reads u32 = with_end (IsInRange u32) (scalar_text u32) (scalar_at u32) (unsigned_reads w32 width32)
scalar_reads u64 = with_end (IsInRange u64) (scalar_text u64) (scalar_at u64) (unsigned_reads w64 width64)
scalar_reads truth = with_end (IsInRange truth) truth_text truth_at truth_reads

pub stamp_reads : Reads IsLimitedStamp stamp_text Ends stamp_at
stamp_reads =
    mapped_reads {A = ℤ × ℤ} {B = Stamp} (λ x. record { millis = x.0; nanos = x.1 }) (λ x. (x.millis, x.nanos)) (λ z. IsInRange i64 z.0 × IsInRange i32 z.1) (λ z. scalar_text i64 z.0 ++ colon ∷ scalar_text i32 z.1) Ends
    (joined_at (scalar_at i64) colon (scalar_at i32)) (λ x. refl) (λ y. refl)
    (joined_reads (IsInRange i64) (scalar_text i64) (scalar_at i64) colon (IsInRange i32) (scalar_text i32) Ends (scalar_at i32) refl (scalar_reads i64) (scalar_reads i32))

pub decimal_reads : Reads IsLimitedDecimal decimal_text Ends decimal_at
decimal_reads =
    mapped_reads {A = ℤ × List ℕ} {B = Dec} (λ x. record { scale = x.0; bytes = x.1 }) (λ x. (x.scale, x.bytes)) (λ z. IsInRange i32 z.0 × AreCountable z.1) (λ z. scalar_text i32 z.0 ++ colon ∷ hex true z.1) Ends
    (joined_at (scalar_at i32) colon octets_at) (λ x. refl) (λ y. refl)
    (joined_reads (IsInRange i32) (scalar_text i32) (scalar_at i32) colon AreCountable (hex true) Ends octets_at refl (scalar_reads i32) octets_reads)

-- ---- UUIDs

bytes_append : (xs ys : List ℕ) → AreBytes xs → AreBytes ys → AreBytes (xs ++ ys)
bytes_append [] ys hx hy = hy
bytes_append (x ∷ xs) ys hx hy = bytes_cons x (xs ++ ys) (hx 0) (bytes_append xs ys (λ i. hx (suc i)) hy)

abbrev Fields : Type 0
Fields = List ℕ × (List ℕ × (List ℕ × (List ℕ × List ℕ)))

abbrev AreFields : Fields → Type 0
AreFields x = IsRunOf 4 x.0 × (IsRunOf 2 x.1.0 × (IsRunOf 2 x.1.1.0 × (IsRunOf 2 x.1.1.1.0 × IsRunOf 6 x.1.1.1.1)))

abbrev fields_text : Fields → List ℕ
fields_text x = hex false x.0 ++ minus ∷ (hex false x.1.0 ++ minus ∷ (hex false x.1.1.0 ++ minus ∷ (hex false x.1.1.1.0 ++ minus ∷ hex false x.1.1.1.1)))

abbrev fields_at : List ℕ → Read Fields
fields_at s = joined_at (run_at false 4) minus (joined_at (run_at false 2) minus (joined_at (run_at false 2) minus (joined_at (run_at false 2) minus (run_at false 6)))) s

part : (n : ℕ) → Reads (IsRunOf n) (hex false) Ends (run_at false n)
part n = with_end (IsRunOf n) (hex false) (run_at false n) (run_reads false n)

after3 : Reads (λ (x : List ℕ × List ℕ). IsRunOf 2 x.0 × IsRunOf 6 x.1) (λ x. hex false x.0 ++ minus ∷ hex false x.1) Ends (joined_at (run_at false 2) minus (run_at false 6))
after3 = joined_reads (IsRunOf 2) (hex false) (run_at false 2) minus (IsRunOf 6) (hex false) Ends (run_at false 6) refl (part 2) (part 6)

after2 : Reads (λ (x : List ℕ × (List ℕ × List ℕ)). IsRunOf 2 x.0 × (IsRunOf 2 x.1.0 × IsRunOf 6 x.1.1)) (λ x. hex false x.0 ++ minus ∷ (hex false x.1.0 ++ minus ∷ hex false x.1.1)) Ends (joined_at (run_at false 2) minus (joined_at (run_at false 2) minus (run_at false 6)))
after2 = joined_reads (IsRunOf 2) (hex false) (run_at false 2) minus (λ (x : List ℕ × List ℕ). IsRunOf 2 x.0 × IsRunOf 6 x.1) (λ x. hex false x.0 ++ minus ∷ hex false x.1) Ends (joined_at (run_at false 2) minus (run_at false 6)) refl (part 2) after3

after1 : Reads (λ (x : List ℕ × (List ℕ × (List ℕ × List ℕ))). IsRunOf 2 x.0 × (IsRunOf 2 x.1.0 × (IsRunOf 2 x.1.1.0 × IsRunOf 6 x.1.1.1))) (λ x. hex false x.0 ++ minus ∷ (hex false x.1.0 ++ minus ∷ (hex false x.1.1.0 ++ minus ∷ hex false x.1.1.1))) Ends
    (joined_at (run_at false 2) minus (joined_at (run_at false 2) minus (joined_at (run_at false 2) minus (run_at false 6))))
after1 =
    joined_reads (IsRunOf 2) (hex false) (run_at false 2) minus (λ (x : List ℕ × (List ℕ × List ℕ)). IsRunOf 2 x.0 × (IsRunOf 2 x.1.0 × IsRunOf 6 x.1.1)) (λ x. hex false x.0 ++ minus ∷ (hex false x.1.0 ++ minus ∷ hex false x.1.1)) Ends
    (joined_at (run_at false 2) minus (joined_at (run_at false 2) minus (run_at false 6))) refl (part 2) after2

fields_reads : Reads AreFields fields_text Ends fields_at
fields_reads =
    joined_reads (IsRunOf 4) (hex false) (run_at false 4) minus (λ (x : List ℕ × (List ℕ × (List ℕ × List ℕ))). IsRunOf 2 x.0 × (IsRunOf 2 x.1.0 × (IsRunOf 2 x.1.1.0 × IsRunOf 6 x.1.1.1)))
    (λ x. hex false x.0 ++ minus ∷ (hex false x.1.0 ++ minus ∷ (hex false x.1.1.0 ++ minus ∷ hex false x.1.1.1))) Ends
    (joined_at (run_at false 2) minus (joined_at (run_at false 2) minus (joined_at (run_at false 2) minus (run_at false 6)))) refl (part 4) after1

abbrev uuid_with : Fields → NodeId
uuid_with x = record { most = from_be_bytes w64 (x.0 ++ (x.1.0 ++ x.1.1.0)); least = from_be_bytes w64 (x.1.1.1.0 ++ x.1.1.1.1) }

-- the fields of the bytes of both halves
abbrev fields_from : List ℕ → List ℕ → Fields
fields_from most least = (take 4 most, (take 2 (drop 4 most), (drop 6 most, (take 2 least, drop 2 least))))

abbrev fields_of : NodeId → Fields
fields_of x = fields_from (to_be_bytes w64 x.most) (to_be_bytes w64 x.least)

cut_fields : (a b c d e : List ℕ) → length a ≡ 4 → length b ≡ 2 → length d ≡ 2 → fields_from (a ++ (b ++ c)) (d ++ e) ≡ (a, (b, (c, (d, e))))
cut_fields a b c d e la lb ld =
    let last : drop 6 (a ++ (b ++ c)) ≡ c = ap (λ (l : List ℕ). drop 6 l) (sym (append_assoc a b c)) ∙ drop_at (a ++ b) c 6 (omega (arith, length-append a b, la, lb)) in
    rw (take_at a (b ++ c) 4 la, drop_at a (b ++ c) 4 la, take_at b c 2 lb, last, take_at d e 2 ld, drop_at d e 2 ld) refl

uuid_there : (x : Fields) → AreFields x → IsLimitedUuid (uuid_with x) × (fields_of (uuid_with x) ≡ x)
uuid_there x f =
    let m : List ℕ = x.0 ++ (x.1.0 ++ x.1.1.0) in
    let l : List ℕ = x.1.1.1.0 ++ x.1.1.1.1 in
    let bm : AreBytes m = bytes_append x.0 (x.1.0 ++ x.1.1.0) f.0.0 (bytes_append x.1.0 x.1.1.0 f.1.0.0 f.1.1.0.0) in
    let bl : AreBytes l = bytes_append x.1.1.1.0 x.1.1.1.1 f.1.1.1.0.0 f.1.1.1.1.0 in
    let lm : length m ≡ 8 = omega (arith, length-append x.0 (x.1.0 ++ x.1.1.0), length-append x.1.0 x.1.1.0, f.0.1, f.1.0.1, f.1.1.0.1) in
    let ll : length l ≡ 8 = omega (arith, length-append x.1.1.1.0 x.1.1.1.1, f.1.1.1.0.1, f.1.1.1.1.1) in (
      (width64.below m bm, width64.below l bl),
      ap (λ (s : List ℕ). fields_from s (to_be_bytes w64 (from_be_bytes w64 l))) (width64.there m lm bm)
          ∙ ap (λ (s : List ℕ). fields_from m s) (width64.there l ll bl)
          ∙ cut_fields x.0 x.1.0 x.1.1.0 x.1.1.1.0 x.1.1.1.1 f.0.1 f.1.0.1 f.1.1.1.0.1,
    )

uuid_back : (y : NodeId) → IsLimitedUuid y → AreFields (fields_of y) × (uuid_with (fields_of y) ≡ y) × (fields_text (fields_of y) ≡ uuid_text y)
uuid_back y fits =
    let m : List ℕ = to_be_bytes w64 y.most in
    let l : List ℕ = to_be_bytes w64 y.least in
    let bm : AreBytes m = width64.bytes y.most in
    let bl : AreBytes l = width64.bytes y.least in (
      ((AreBytes-take 4 m bm, refl), ((AreBytes-take 2 (drop 4 m) (AreBytes-drop 4 m bm), refl), ((AreBytes-drop 6 m bm, refl), ((AreBytes-take 2 l bl, refl), (AreBytes-drop 2 l bl, refl))))),
      ap (λ (n : ℕ). record { most = n; least = from_be_bytes w64 l }) (width64.again y.most fits.0) ∙ ap (λ (n : ℕ). record { most = y.most; least = n }) (width64.again y.least fits.1),
      refl,
    )

pub uuid_reads : Reads IsLimitedUuid uuid_text Ends uuid_at
uuid_reads = viewed_reads uuid_with fields_of AreFields fields_text Ends fields_at IsLimitedUuid uuid_text uuid_there uuid_back fields_reads

-- ---- quoted texts

abbrev IsByte : ℕ → Type 0
IsByte b = b < 256

abbrev got : ℕ → List ℕ → Read ℕ
got b s = Ok (b, s)

abbrev escaped_or_fails : ℕ → List ℕ → Read ℕ
escaped_or_fails b s = cond (eqb b backslash) (escape_at s) (Err (suc (length s)))

bare_small : (b : ℕ) → is_bare b ≡ true → b < 256
bare_small b bare =
    let p = and_parts (is_in_range 33 126 b) (not (eqb b quote) && not (eqb b backslash)) bare in
    omega (arith, leb-true b 126 (and_parts (leb 33 b) (leb b 126) p.0).1)

escape_takes : (s : List ℕ) (x : ℕ) (rest : List ℕ) → escape_at s ≡ Ok (x, rest) → Takes IsByte quoted_byte (backslash ∷ s) x rest
escape_takes s x rest e =
    let a = bind_ok (mark_at letter_x s >>= λ m. pair_at true m.1) (λ x. cond (not (is_bare x.0)) (done x) (Err (length s))) (x, rest) e in
    let m = bind_ok (mark_at letter_x s) (λ m. pair_at true m.1) a.0 a.1 in
    let d = passed (not (is_bare a.0.0)) a.0 (length s) (x, rest) a.2 in
    let t = (pair_reads true).takes m.0.1 a.0.0 a.0.1 m.2 in
    let text : backslash ∷ letter_x ∷ hex_byte true a.0.0 ≡ quoted_byte a.0.0 = sym (cond-false (is_bare a.0.0) (a.0.0 ∷ []) (backslash ∷ letter_x ∷ hex_byte true a.0.0) (not-true (is_bare a.0.0) d.0)) in
    let all : Takes IsByte quoted_byte (backslash ∷ s) a.0.0 a.0.1 = record {
      fits = t.fits;
      whole = ap (λ (l : List ℕ). backslash ∷ l) (mark_taken letter_x s m.0 m.1 ∙ ap (λ (l : List ℕ). letter_x ∷ l) t.whole) ∙ ap (λ (l : List ℕ). l ++ a.0.1) text;
    } in
    subst (λ (z : ℕ × List ℕ). Takes IsByte quoted_byte (backslash ∷ s) z.0 z.1) d.1 all

char_takes : (s : List ℕ) (x : ℕ) (rest : List ℕ) → char_at s ≡ Ok (x, rest) → Takes IsByte quoted_byte s x rest
char_takes [] x rest e = absurd cc
char_takes (b ∷ s) x rest e =
    elim (cases_Bool (is_bare b)) [
      | inl bare ↦
          let is : char_at (b ∷ s) ≡ got b s = cond-true (is_bare b) (got b s) (escaped_or_fails b s) bare in
          let text : b ∷ [] ≡ quoted_byte b = sym (cond-true (is_bare b) (b ∷ []) (backslash ∷ letter_x ∷ hex_byte true b) bare) in
          let all : Takes IsByte quoted_byte (b ∷ s) b s = record { fits = bare_small b bare; whole = ap (λ (l : List ℕ). l ++ s) text } in
          subst (λ (z : ℕ × List ℕ). Takes IsByte quoted_byte (b ∷ s) z.0 z.1) (ok_is (b, s) (x, rest) (sym is ∙ e)) all
      | inr other ↦
          let is : char_at (b ∷ s) ≡ escaped_or_fails b s = cond-false (is_bare b) (got b s) (escaped_or_fails b s) other in
          elim (cases_eq b backslash) [
            | inl same ↦
                let read : escaped_or_fails b s ≡ escape_at s = cond-true (eqb b backslash) (escape_at s) (Err (suc (length s))) (eq-eqb b backslash same) in
                subst (λ (c : ℕ). Takes IsByte quoted_byte (c ∷ s) x rest) (sym same) (escape_takes s x rest (sym (is ∙ read) ∙ e))
            | inr ne ↦
                let read : escaped_or_fails b s ≡ Err (suc (length s)) = cond-false (eqb b backslash) (escape_at s) (Err (suc (length s))) (ne_eqb b backslash ne) in
                absurd (let both = sym (is ∙ read) ∙ e in cc)
          ]
    ]

char_again : (x : ℕ) (rest : List ℕ) → x < 256 → char_at (quoted_byte x ++ rest) ≡ Ok (x, rest)
char_again x rest lt =
    elim (cases_Bool (is_bare x)) [
      | inl bare ↦
          ap (λ (l : List ℕ). char_at (l ++ rest)) (cond-true (is_bare x) (x ∷ []) (backslash ∷ letter_x ∷ hex_byte true x) bare)
          ∙ cond-true (is_bare x) (got x rest) (escaped_or_fails x rest) bare
      | inr other ↦
          let n : ℕ = suc (length (hex_byte true x ++ rest)) in
          ap (λ (l : List ℕ). char_at (l ++ rest)) (cond-false (is_bare x) (x ∷ []) (backslash ∷ letter_x ∷ hex_byte true x) other)
          ∙ ap (checked_read (λ b. not (is_bare b)) n) ((pair_reads true).again x rest lt tt)
          ∙ cond-true (not (is_bare x)) (got x rest) (Err n) (not_from_false (is_bare x) other)
    ]

char_reads : Reads IsByte quoted_byte Anything char_at
char_reads = record { takes = char_takes; again = λ x rest lt f. char_again x rest lt }

char_some : (x : ℕ) → 0 < length (quoted_byte x)
char_some x = cond_both (is_bare x) (x ∷ []) (backslash ∷ letter_x ∷ hex_byte true x) (λ l. 0 < length l) (λ e. omega arith) (λ e. omega arith)

all_bytes : (xs : List ℕ) → AllByRecursion IsByte xs → AreBytes xs
all_bytes [] h = no_bytes
all_bytes (x ∷ xs) h = bytes_cons x xs h.0 (all_bytes xs h.1)

bytes_all : (xs : List ℕ) → AreBytes xs → AllByRecursion IsByte xs
bytes_all [] h = tt
bytes_all (x ∷ xs) h = (h 0, bytes_all xs (λ i. h (suc i)))

until_quote : Reads (AllByRecursion IsByte) (until_text quote quoted_byte) Anything (λ s. until_at char_at quote (length s) s)
until_quote = until_reads IsByte quoted_byte Anything char_at quote char_reads (λ s z e. cc) (λ z e. cc) (λ xs rest. tt) char_some

quoted_any : Reads IsLimitedText quoted Anything quoted_at
quoted_any =
    checked_reads is_text length (AllByRecursion IsByte) IsLimitedText quoted Anything (λ s. mark_at quote s >>= λ m. until_at char_at quote (length m.1) m.1)
    (λ x test fits. let p = and_parts (is_countable x) (is_utf8 x) test in ((all_bytes x fits, ltb-true (length x) (2 ^ 31) p.0), IsUtf8-from_is_utf8 x p.1))
    (λ x fits. (and_from (is_countable x) (is_utf8 x) (lt-ltb (length x) (2 ^ 31) fits.0.1) (is_utf8-from_IsUtf8 x fits.1), bytes_all x fits.0.0))
    (marked_reads quote (AllByRecursion IsByte) (until_text quote quoted_byte) Anything (λ s. until_at char_at quote (length s) s) until_quote)

pub quoted_reads : Reads IsLimitedText quoted Ends quoted_at
quoted_reads = with_end IsLimitedText quoted quoted_at quoted_any
