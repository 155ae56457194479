-- Bytes in hex, and numbers in hex of their width, are read as they are written.
use Rattle.std.proofs.Common.{◌≡◌, ℕ, zero, suc, ◌+◌, ◌*◌, ◌/◌, ◌%◌, ◌<◌, ◌≤◌, ◌^◌, Bool, true, false, cond, not, ◌&&◌, ◌||◌, List, [], ◌∷◌, ◌++◌, length, take, drop, get_or, Result, Ok, Err, eqb, ltb, leb, eq-eqb, refl, sym, ap, subst, ◌∙◌, append_assoc, arith, inl, inr}
use Rattle.std.specs.Fmt.{digit_glyph}
use Rattle.std.specs.Int.{Width, w16, w32, w64, byte_len, is_in_range, to_be_bytes, from_be_bytes, bytes_high_first, byte_at}
use Rattle.std.specs.List.{prefix_len}
use Rattle.std.proofs.lemmas.Bool.{or_cases, and_parts, and_from, both_ways, not-true, ltb-true, leb-true, eqb-true, lt-ltb, cond-true, cond-false, agree_below_at}
use Rattle.std.proofs.lemmas.List.{get_or_past}
use Rattle.std.proofs.lemmas.Nat.{be_bytes_2, be_bytes_4, be_bytes_8, from_be_bytes-to_be_bytes_2, from_be_bytes-to_be_bytes_4, from_be_bytes-to_be_bytes_8}
use mir.Val.{bits}
use Rattle.ig_base.specs.Numbers.{AreBytes}
use Rattle.ig_value.specs.Limits.{AreCountable}
use Rattle.ig_text.specs.Tokens.{hex_byte, hex}
use Rattle.ig_text.specs.TextLaws.{Ends}
use Rattle.ig_text.specs.ReadText.{Read, ◌>>=◌, mapped_read, checked_read, is_hex, hex_value, pair_at, run_at, is_countable, octets_of, octets_at}
use Rattle.ig_text.proofs.ReadsLemmas.{Takes, Reads, Anything, bind_ok, done, ok_is, passed, checked_reads}

-- ---- one digit: each of the 16, and each byte below 128

glyph_is_hex : (upper : Bool) (d : ℕ) → d < 16 → is_hex upper (digit_glyph upper d) ≡ true
glyph_is_hex true d lt = agree_below_at (λ d. is_hex true (digit_glyph true d)) (λ d. true) 16 d refl lt
glyph_is_hex false d lt = agree_below_at (λ d. is_hex false (digit_glyph false d)) (λ d. true) 16 d refl lt

glyph_value : (upper : Bool) (d : ℕ) → d < 16 → hex_value upper (digit_glyph upper d) ≡ d
glyph_value true d lt = eqb-true (hex_value true (digit_glyph true d)) d (agree_below_at (λ d. eqb (hex_value true (digit_glyph true d)) d) (λ d. true) 16 d refl lt)
glyph_value false d lt = eqb-true (hex_value false (digit_glyph false d)) d (agree_below_at (λ d. eqb (hex_value false (digit_glyph false d)) d) (λ d. true) 16 d refl lt)

hex_small : (upper : Bool) (a : ℕ) → is_hex upper a ≡ true → a < 128
hex_small true a is =
    elim (or_cases (is_in_range 48 57 a) (is_in_range 65 70 a) is) [
      | inl h ↦ omega (arith, leb-true a 57 (and_parts (leb 48 a) (leb a 57) h).1)
      | inr h ↦ omega (arith, leb-true a 70 (and_parts (leb 65 a) (leb a 70) h).1)
    ]
hex_small false a is =
    elim (or_cases (is_in_range 48 57 a) (is_in_range 97 102 a) is) [
      | inl h ↦ omega (arith, leb-true a 57 (and_parts (leb 48 a) (leb a 57) h).1)
      | inr h ↦ omega (arith, leb-true a 102 (and_parts (leb 97 a) (leb a 102) h).1)
    ]

abbrev is_written : Bool → ℕ → Bool
is_written upper a = not (is_hex upper a) || (ltb (hex_value upper a) 16 && eqb (digit_glyph upper (hex_value upper a)) a)

written : (upper : Bool) (a : ℕ) → a < 128 → is_written upper a ≡ true
written true a lt = agree_below_at (is_written true) (λ a. true) 128 a refl lt
written false a lt = agree_below_at (is_written false) (λ a. true) 128 a refl lt

digit_of : (upper : Bool) (a : ℕ) → is_hex upper a ≡ true → (hex_value upper a < 16) × (digit_glyph upper (hex_value upper a) ≡ a)
digit_of upper a is =
    elim (or_cases (not (is_hex upper a)) (ltb (hex_value upper a) 16 && eqb (digit_glyph upper (hex_value upper a)) a) (written upper a (hex_small upper a is))) [
      | inl h ↦ absurd (both_ways (is_hex upper a) (not-true (is_hex upper a) h) is)
      | inr h ↦
          let p = and_parts (ltb (hex_value upper a) 16) (eqb (digit_glyph upper (hex_value upper a)) a) h in
          (ltb-true (hex_value upper a) 16 p.0, eqb-true (digit_glyph upper (hex_value upper a)) a p.1)
    ]

-- ---- two digits

halves : (h l : ℕ) → h < 16 → l < 16 → ((h * 16 + l) / 16 ≡ h) × ((h * 16 + l) % 16 ≡ l) × (h * 16 + l < 256)
halves h l high low = (omega (arith, high, low), omega (arith, high, low), omega (arith, high, low))

rejoined : (b h l : ℕ) → h ≡ b / 16 → l ≡ b % 16 → h * 16 + l ≡ b
rejoined b h l high low = omega (arith, high, low)

abbrev IsByte : ℕ → Type 0
IsByte b = b < 256

pair_takes : (upper : Bool) (s : List ℕ) (x : ℕ) (rest : List ℕ) → pair_at upper s ≡ Ok (x, rest) → Takes IsByte (hex_byte upper) s x rest
pair_takes upper [] x rest e = absurd cc
pair_takes upper (a ∷ []) x rest e = absurd cc
pair_takes upper (a ∷ b ∷ s) x rest e =
    let v : ℕ = hex_value upper a * 16 + hex_value upper b in
    let p = passed (is_hex upper a && is_hex upper b) (v, s) (suc (suc (length s))) (x, rest) e in
    let q = and_parts (is_hex upper a) (is_hex upper b) p.0 in
    let h = digit_of upper a q.0 in
    let l = digit_of upper b q.1 in
    let m = halves (hex_value upper a) (hex_value upper b) h.0 l.0 in
    let first : a ≡ digit_glyph upper (v / 16) = sym (ap (digit_glyph upper) m.0 ∙ h.1) in
    let second : b ≡ digit_glyph upper (v % 16) = sym (ap (digit_glyph upper) m.1 ∙ l.1) in
    let all : Takes IsByte (hex_byte upper) (a ∷ b ∷ s) v s = record {
      fits = m.2;
      whole = ap (λ (n : ℕ). n ∷ b ∷ s) first ∙ ap (λ (n : ℕ). digit_glyph upper (v / 16) ∷ n ∷ s) second;
    } in
    subst (λ (z : ℕ × List ℕ). Takes IsByte (hex_byte upper) (a ∷ b ∷ s) z.0 z.1) p.1 all

pair_again : (upper : Bool) (x : ℕ) (rest : List ℕ) → x < 256 → pair_at upper (hex_byte upper x ++ rest) ≡ Ok (x, rest)
pair_again upper x rest lt =
    let high : x / 16 < 16 = omega (arith, lt) in
    let low : x % 16 < 16 = omega arith in
    let a : ℕ = digit_glyph upper (x / 16) in
    let b : ℕ = digit_glyph upper (x % 16) in
    let both = and_from (is_hex upper a) (is_hex upper b) (glyph_is_hex upper (x / 16) high) (glyph_is_hex upper (x % 16) low) in
    cond-true (is_hex upper a && is_hex upper b) (done (hex_value upper a * 16 + hex_value upper b, rest)) (Err (suc (suc (length rest)))) both
    ∙ ap (λ (n : ℕ). done (n, rest)) (rejoined x (hex_value upper a) (hex_value upper b) (glyph_value upper (x / 16) high) (glyph_value upper (x % 16) low))

pub pair_reads : (upper : Bool) → Reads IsByte (hex_byte upper) Anything (pair_at upper)
pair_reads upper = record { takes = pair_takes upper; again = λ x rest lt f. pair_again upper x rest lt }

-- ---- runs

abbrev pub IsRunOf : ℕ → List ℕ → Type 0
IsRunOf n xs = AreBytes xs × (length xs ≡ n)

pub no_bytes : AreBytes []
no_bytes zero = omega arith
no_bytes (suc i) = omega arith

pub bytes_cons : (x : ℕ) (xs : List ℕ) → x < 256 → AreBytes xs → AreBytes (x ∷ xs)
bytes_cons x xs lt h zero = lt
bytes_cons x xs lt h (suc i) = h i

run_takes : (upper : Bool) (n : ℕ) (s xs rest : List ℕ) → run_at upper n s ≡ Ok (xs, rest) → Takes (IsRunOf n) (hex upper) s xs rest
run_takes upper zero s xs rest e =
    let made : List ℕ × List ℕ = ([], s) in
    let all : Takes (IsRunOf zero) (hex upper) s made.0 made.1 = record { fits = (no_bytes, refl); whole = refl } in
    subst (λ (z : List ℕ × List ℕ). Takes (IsRunOf zero) (hex upper) s z.0 z.1) (ok_is made (xs, rest) e) all
run_takes upper (suc n) s xs rest e =
    let a = bind_ok (pair_at upper s) (λ x. run_at upper n x.1 >>= λ xs. done (x.0 ∷ xs.0, xs.1)) (xs, rest) e in
    let c = bind_ok (run_at upper n a.0.1) (λ xs. done (a.0.0 ∷ xs.0, xs.1)) (xs, rest) a.2 in
    let t = pair_takes upper s a.0.0 a.0.1 a.1 in
    let u = run_takes upper n a.0.1 c.0.0 c.0.1 c.1 in
    let made : List ℕ × List ℕ = (a.0.0 ∷ c.0.0, c.0.1) in
    let all : Takes (IsRunOf (suc n)) (hex upper) s made.0 made.1 = record {
      fits = (bytes_cons a.0.0 c.0.0 t.fits u.fits.0, ap suc u.fits.1);
      whole = t.whole ∙ ap (λ (l : List ℕ). hex_byte upper a.0.0 ++ l) u.whole;
    } in
    subst (λ (z : List ℕ × List ℕ). Takes (IsRunOf (suc n)) (hex upper) s z.0 z.1) (ok_is made (xs, rest) c.2) all

run_again : (upper : Bool) (n : ℕ) (xs rest : List ℕ) → AreBytes xs → length xs ≡ n → run_at upper n (hex upper xs ++ rest) ≡ Ok (xs, rest)
run_again upper zero [] rest bytes len = refl
run_again upper zero (x ∷ xs) rest bytes len = absurd (omega (arith, len))
run_again upper (suc n) [] rest bytes len = absurd (omega (arith, len))
run_again upper (suc n) (x ∷ xs) rest bytes len =
    rw (pair_again upper x (hex upper xs ++ rest) (bytes 0), run_again upper n xs rest (λ i. bytes (suc i)) (omega (arith, len))) refl

pub run_reads : (upper : Bool) (n : ℕ) → Reads (IsRunOf n) (hex upper) Anything (run_at upper n)
run_reads upper n = record { takes = run_takes upper n; again = λ xs rest fits f. run_again upper n xs rest fits.0 fits.1 }

-- ---- numbers of a width

byte_small : (k n : ℕ) → byte_at k n < 256
byte_small zero n = omega arith
byte_small (suc k) n = omega arith

high_first : (k n : ℕ) → AreBytes (bytes_high_first k n)
high_first zero n i = no_bytes i
high_first (suc k) n i = bytes_cons (byte_at k n) (bytes_high_first k n) (byte_small k n) (high_first k n) i

pub record IsWidth (w : Width) : Type 0 where
  pub len : (n : ℕ) → length (to_be_bytes w n) ≡ byte_len w
  pub bytes : (n : ℕ) → AreBytes (to_be_bytes w n)
  pub there : (s : List ℕ) → length s ≡ byte_len w → AreBytes s → to_be_bytes w (from_be_bytes w s) ≡ s
  pub again : (n : ℕ) → n < 2 ^ bits w → from_be_bytes w (to_be_bytes w n) ≡ n
  pub below : (s : List ℕ) → AreBytes s → from_be_bytes w s < 2 ^ bits w

pub width16 : IsWidth w16
width16 = record {
  len = λ n. refl;
  bytes = λ n. high_first 2 n;
  there = λ s len bytes. be_bytes_2 s (from_be_bytes w16 s) len bytes refl;
  again = λ n lt. from_be_bytes-to_be_bytes_2 n lt;
  below = λ s bytes. omega (arith, bytes 0, bytes 1);
}

pub width32 : IsWidth w32
width32 = record {
  len = λ n. refl;
  bytes = λ n. high_first 4 n;
  there = λ s len bytes. be_bytes_4 s (from_be_bytes w32 s) len bytes refl;
  again = λ n lt. from_be_bytes-to_be_bytes_4 n lt;
  below = λ s bytes. omega (arith, bytes 0, bytes 1, bytes 2, bytes 3);
}

pub width64 : IsWidth w64
width64 = record {
  len = λ n. refl;
  bytes = λ n. high_first 8 n;
  there = λ s len bytes. be_bytes_8 s (from_be_bytes w64 s) len bytes refl;
  again = λ n lt. from_be_bytes-to_be_bytes_8 n lt;
  below = λ s bytes. omega (arith, bytes 0, bytes 1, bytes 2, bytes 3, bytes 4, bytes 5, bytes 6, bytes 7);
}

pub unsigned_reads : (w : Width) → IsWidth w → Reads (λ n. n < 2 ^ bits w) (λ n. hex true (to_be_bytes w n)) Anything (λ s. mapped_read (from_be_bytes w) (run_at true (byte_len w) s))
unsigned_reads w width = record {
  takes = λ s n rest e.
      let a = bind_ok (run_at true (byte_len w) s) (λ x. Ok (from_be_bytes w x.0, x.1)) (n, rest) e in
      let t = run_takes true (byte_len w) s a.0.0 a.0.1 a.1 in
      let made : ℕ × List ℕ = (from_be_bytes w a.0.0, a.0.1) in
      let all : Takes (λ n. n < 2 ^ bits w) (λ n. hex true (to_be_bytes w n)) s made.0 made.1 = record {
        fits = width.below a.0.0 t.fits.0;
        whole = t.whole ∙ ap (λ (l : List ℕ). hex true l ++ a.0.1) (sym (width.there a.0.0 t.fits.1 t.fits.0));
      } in
      subst (λ (z : ℕ × List ℕ). Takes (λ n. n < 2 ^ bits w) (λ n. hex true (to_be_bytes w n)) s z.0 z.1) (ok_is made (n, rest) a.2) all;
  again = λ n rest lt f.
      ap (mapped_read (from_be_bytes w)) (run_again true (byte_len w) (to_be_bytes w n) rest (width.bytes n) (width.len n))
      ∙ ap (λ (m : ℕ). done (m, rest)) (width.again n lt);
}

-- ---- as many bytes as there are digits for

hex_len : (xs rest : List ℕ) → AreBytes xs → Ends rest → prefix_len (is_hex true) (hex true xs ++ rest) ≡ length xs + length xs
hex_len [] [] bytes ends = refl
hex_len [] (b ∷ rest) bytes ends = cond-false (is_hex true b) (1 + prefix_len (is_hex true) rest) 0 ends
hex_len (x ∷ xs) rest bytes ends =
    let lt : x < 256 = bytes 0 in
    let n : ℕ = prefix_len (is_hex true) (hex true xs ++ rest) in
    let a : ℕ = digit_glyph true (x / 16) in
    let b : ℕ = digit_glyph true (x % 16) in
    let high = glyph_is_hex true (x / 16) (omega (arith, lt)) in
    let low = glyph_is_hex true (x % 16) (omega arith) in
    let more : n ≡ length xs + length xs = hex_len xs rest (λ i. bytes (suc i)) ends in
    let one : cond (is_hex true b) (1 + n) 0 ≡ 1 + n = cond-true (is_hex true b) (1 + n) 0 low in
    cond-true (is_hex true a) (1 + cond (is_hex true b) (1 + n) 0) 0 high ∙ ap (λ (m : ℕ). 1 + m) one ∙ omega (arith, more)

abbrev IsCountedRun : ℕ → List ℕ → Type 0
IsCountedRun n xs = AreCountable xs × (length xs ≡ n)

counted_run : (n : ℕ) → Reads (IsCountedRun n) (hex true) Anything (λ s. checked_read is_countable (length s) (run_at true n s))
counted_run n =
    checked_reads is_countable length (IsRunOf n) (IsCountedRun n) (hex true) Anything (run_at true n)
    (λ xs test fits. ((fits.0, ltb-true (length xs) (2 ^ 31) test), fits.1)) (λ xs fits. (lt-ltb (length xs) (2 ^ 31) fits.0.1, (fits.0.0, fits.1))) (run_reads true n)

passed_on : {A : Type 0} (b : Bool) (r : Result A ℕ) (left : ℕ) (z : A) → cond b r (Err left) ≡ Ok z → (b ≡ true) × (r ≡ Ok z)
passed_on true r left z e = (refl, e)
passed_on false r left z e = absurd cc

octets_takes : (s xs rest : List ℕ) → octets_at s ≡ Ok (xs, rest) → Takes AreCountable (hex true) s xs rest
octets_takes s xs rest e =
    let k : ℕ = prefix_len (is_hex true) s in
    let p = passed_on (eqb (k % 2) 0) (checked_read is_countable (length s) (run_at true (k / 2) s)) (length s) (xs, rest) e in
    let t = (counted_run (k / 2)).takes s xs rest p.1 in
    record { fits = t.fits.0; whole = t.whole }

octets_again : (xs rest : List ℕ) → AreCountable xs → Ends rest → octets_at (hex true xs ++ rest) ≡ Ok (xs, rest)
octets_again xs rest fits ends =
    let s : List ℕ = hex true xs ++ rest in
    let n : ℕ = length xs in
    let half : (n + n) / 2 ≡ n = omega arith in
    let even : eqb ((n + n) % 2) 0 ≡ true = eq-eqb ((n + n) % 2) 0 (omega arith) in
    let one : checked_read is_countable (length s) (run_at true n s) ≡ Ok (xs, rest) = (counted_run n).again xs rest (fits, refl) tt in
    ap (λ (k : ℕ). octets_of k s) (hex_len xs rest fits.0 ends)
    ∙ cond-true (eqb ((n + n) % 2) 0) (checked_read is_countable (length s) (run_at true ((n + n) / 2) s)) (Err (length s)) even
    ∙ ap (λ (k : ℕ). checked_read is_countable (length s) (run_at true k s)) half ∙ one

pub octets_reads : Reads AreCountable (hex true) Ends octets_at
octets_reads = record { takes = octets_takes; again = octets_again }
